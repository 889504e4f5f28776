use Rattle.std.proofs.Common.{◌≡◌, ◌∙◌, ◌++◌, ◌∷◌, [], Ok, Err, refl, sym, ap}
use Rattle.std.proofs.lemmas.Result.{on_ok_weaker}
use Rattle.csv.specs.Records.{fields_of}
use Rattle.wsm_program.specs.Program.{Program}
use Rattle.wsm_csv.specs.Cells.{event_of_cells}
use Rattle.wsm_key_names.specs.Reading.{by_names, names_after, numbered}
use Rattle.wsm_keyed_run.specs.Keyed.{names_of}
use Rattle.wsm_keyed_run.specs.Turns.{HasName, Reads}
use Rattle.wsm_keyed_run.proofs.Coming.{names_more}
use Rattle.wsm_keyed_run.proofs.Turn.{named, ready, turned}
use Rattle.wsm_keyed_run.proofs.turns.KeyedTurns.take.Goals as goal

pub returns-in-Ok-clause-turned : goal.returns-in-Ok-clause-turned
returns-in-Ok-clause-turned c = λ k cells fits.
    let row = fields_of c.args.row.now in
    let mid = record c.args.self.now { lines = c.clear.new.self; events = c.read.new.self } in
    let schema : c.schema.result.now ≡ k.program.header.schema = c.schema.ensures ∙ ap (λ (p : Program). p.header.schema) fits.counts.parts.program in
    let names : c.read.new.self.names ≡ names_of k (cells ++ row ∷ []) =
    c.in-Ok.ensures.names (λ h. absurd (cc)) ∙ (λ i. names_after (fits.reads.most i) (schema i) (fits.reads.names i) row) ∙ sym (names_more k cells row) in
    let reads : Reads k mid.events (cells ++ row ∷ []) = record { names = names; most = c.in-Ok.ensures.kept.0 ∙ fits.reads.most; block = c.in-Ok.ensures.kept.1 ∙ fits.reads.block } in
    let said : event_of_cells (by_names (names_of k (cells ++ row ∷ [])) k.program.header.schema) row ≡ Ok (numbered c.read.new.self) =
    (λ i. event_of_cells (by_names (sym names i) (sym schema i)) row) ∙ c.in-Ok.ensures.event in
    let has : HasName c.read.new.self.names (Ok (numbered c.read.new.self)) = (named c.read.new.self.names (numbered c.read.new.self) c.in-Ok.ensures.named, tt) in
    let before = ready k cells row c.args.self.now mid (Ok (numbered c.read.new.self)) fits reads refl refl has in
    on_ok_weaker c.feed.result (λ adds. turned k cells row mid c.feed.new.self (Ok (numbered c.read.new.self)) reads said c.clear.ensures.items adds) (c.feed.ensures.adds k.program _ before)

pub returns-in-Err-Fault-clause-turned : goal.returns-in-Err-Fault-clause-turned
returns-in-Err-Fault-clause-turned c = λ k cells fits.
    let row = fields_of c.args.row.now in
    let why = c.in-Err-Fault.why in
    let mid = record c.args.self.now { lines = c.clear.new.self; events = c.read.new.self } in
    let schema : c.schema.result.now ≡ k.program.header.schema = c.schema.ensures ∙ ap (λ (p : Program). p.header.schema) fits.counts.parts.program in
    let names : c.read.new.self.names ≡ names_of k (cells ++ row ∷ []) =
    (rw c.in-Err-Fault.field-0-is at c.in-Err-Fault.ensures.names) (λ h. absurd (cc)) ∙ (λ i. names_after (fits.reads.most i) (schema i) (fits.reads.names i) row) ∙ sym (names_more k cells row) in
    let reads : Reads k mid.events (cells ++ row ∷ []) = record { names = names; most = c.in-Err-Fault.ensures.kept.0 ∙ fits.reads.most; block = c.in-Err-Fault.ensures.kept.1 ∙ fits.reads.block } in
    let said : event_of_cells (by_names (names_of k (cells ++ row ∷ [])) k.program.header.schema) row ≡ Err why =
    (λ i. event_of_cells (by_names (sym names i) (sym schema i)) row) ∙ (rw c.in-Err-Fault.field-0-is at c.in-Err-Fault.ensures.fault) in
    let before = ready k cells row c.args.self.now mid (Err why) fits reads refl refl tt in
    on_ok_weaker c.refuse.result (λ adds. turned k cells row mid c.refuse.new.self (Err why) reads said c.clear.ensures.items adds) (c.refuse.ensures.adds k.program _ before)
