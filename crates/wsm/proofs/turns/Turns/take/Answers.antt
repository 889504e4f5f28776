use Rattle.std.proofs.Common.{◌≡◌, ◌∙◌, Ok, Err, sym, ap, subst}
use Rattle.std.proofs.lemmas.Result.{on_ok_weaker}
use Rattle.csv.specs.Records.{fields_of}
use Rattle.wsm_record.specs.Schema.{Declared}
use Rattle.wsm_admission.specs.Clock.{fits_declared}
use Rattle.wsm_program.specs.Program.{Program}
use Rattle.wsm_csv.specs.Cells.{event_of_cells}
use Rattle.wsm_csv.specs.EventReader.{event_read}
use Rattle.wsm.specs.Turns.{Fits, Turned}
use Rattle.wsm.proofs.RowTurns.{turned}
use Rattle.wsm.proofs.turns.Turns.take.Goals as goal

pub feed-requires : goal.feed-requires
feed-requires c = c.in-Ok.ensures.fits ∙ ap (λ (d : Declared). fits_declared d (event_read c.read.new.self)) c.schema.ensures

pub returns-in-Ok : goal.returns-in-Ok
returns-in-Ok c = λ p before fits.
    let mid = record c.args.self.now { lines = c.clear.new.self; events = c.read.new.self } in
    let cells = fields_of c.args.row.now in
    let same : Fits p mid before = record { engine = fits.engine; faults = fits.faults } in
    let schema : c.schema.result.now ≡ p.header.schema = c.schema.ensures ∙ ap (λ (p : Program). p.header.schema) fits.engine.program in
    let is : event_of_cells p.header.schema cells ≡ Ok (event_read c.read.new.self) = ap (λ (d : Declared). event_of_cells d cells) (sym schema) ∙ c.in-Ok.ensures.event in
    on_ok_weaker c.feed.result (λ adds. subst (Turned p c.feed.new.self before) (sym is) (turned p mid c.feed.new.self before (Ok (event_read c.read.new.self)) c.clear.ensures.items adds)) (c.feed.ensures p before same)

pub returns-in-Err-Fault : goal.returns-in-Err-Fault
returns-in-Err-Fault c = λ p before fits.
    let mid = record c.args.self.now { lines = c.clear.new.self; events = c.read.new.self } in
    let cells = fields_of c.args.row.now in
    let same : Fits p mid before = record { engine = fits.engine; faults = fits.faults } in
    let schema : c.schema.result.now ≡ p.header.schema = c.schema.ensures ∙ ap (λ (p : Program). p.header.schema) fits.engine.program in
    let is : event_of_cells p.header.schema cells ≡ Err c.in-Err-Fault.why = ap (λ (d : Declared). event_of_cells d cells) (sym schema) ∙ rw c.in-Err-Fault.field-0-is at c.in-Err-Fault.ensures.fault in
    on_ok_weaker c.refuse.result (λ adds. subst (Turned p c.refuse.new.self before) (sym is) (turned p mid c.refuse.new.self before (Err c.in-Err-Fault.why) c.clear.ensures.items adds)) (c.refuse.ensures p before same)
