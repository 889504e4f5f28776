use Rattle.std.proofs.Common.{rules, ◌≡◌, ◌∙◌, ◌++◌, ◌+◌, ◌<◌, ◌≤◌, ◌∷◌, ℕ, suc, List, Ok, Err, Result, length, ap, sym, subst, arith}
use Rattle.std.proofs.lemmas.Result.{on_ok_weaker}
use Rattle.wsm_record.specs.Event.{Event}
use Rattle.wsm_record.specs.Schema.{Declared}
use Rattle.wsm_admission.specs.Admission.{counter}
use Rattle.wsm_program.specs.Program.{Program}
use Rattle.wsm_machine.specs.Meaning.{query_of}
use Rattle.wsm_lines.specs.declared.fault.LineFault.{LineFault}
use Rattle.wsm_lines.specs.Reader.{Follows, clock_read, event_read}
use Rattle.wsm_lines.specs.Said.{clock_of, identifier_of, said_of}
use Rattle.wsm_intake.specs.declared.intake.Intake.{Intake}
use Rattle.wsm_turns.specs.Clocks.{named_in}
use Rattle.wsm_turns.specs.Heard.{left_count, silent_count}
use Rattle.wsm_turns.specs.Named.{Knows}
use Rattle.wsm_turns.specs.Turns.{kept, spoken_by, stamp_of}
use Rattle.wsm_turns.specs.Voices.{Voiced}
use Rattle.wsm_log_text.specs.LogText.{Said, fault_count, fault_text, left_at, names_of, said, said_at, text_of_turn, turn_at, turn_text, voiced_in, voiced_line}
use Rattle.wsm_intake.specs.Tells.{Serves}
use Rattle.wsm_intake.specs.Turns.{FitsBehind, Goes, setting_by, spoken_read}
use Rattle.wsm_log_text.proofs.Counts.{one_more}
use Rattle.wsm_turns.proofs.Stamps.{few_by, few_stamps}
use Rattle.wsm_log_text.proofs.FirstLines.{fault_alone, first_next}
use Rattle.wsm_intake.proofs.intake.Intake.take_line.Goals as goal

pub returns-in-Ok-clause-turned : goal.returns-in-Ok-clause-turned
returns-in-Ok-clause-turned c = λ s clocks p before fits.
    let old = c.args.self.now in
    let line = c.args.line.now in
    let d = p.header.schema in
    let w = setting_by clocks p in
    let all = said s clocks d before in
    let names = names_of s clocks d before in
    let k = kept w all in
    let r = c.read.new.self in
    let v = voiced_in clocks d names (clock_read r) (Ok (event_read r)) in
    let x = spoken_read r v.voice in
    let schema : c.schema.result.now ≡ d = c.schema.ensures ∙ ap (λ (m : Program). m.header.schema) fits.holds.told.program in
    let event : said_of s d before line ≡ Ok x.event = ap (λ (y : Declared). said_of s y before line) (sym schema) ∙ c.in-Ok.ensures.event s before fits.reader in
    let identifier : identifier_of s before line ≡ x.identifier = c.in-Ok.ensures.identifier s before fits.reader in
    let clock : clock_of s before line ≡ clock_read r = c.in-Ok.ensures.clock s before fits.reader in
    let heard : voiced_line s clocks d before line ≡ v = λ i. voiced_in clocks d names (clock i) (event i) in
    let is : said_at s clocks d before line ≡ Ok x = λ i. spoken_by (identifier i) (heard i).voice (event i) in
    let sum : c.in-Some.taken ≡ old.taken + 1 = search rules in
    let number : c.in-Some.taken ≡ length all + 1 = sum ∙ ap (λ (n : ℕ). n + 1) fits.taken in
    let stamps = few_stamps w all in
    let few : length k.stamps < c.in-Some.taken = omega (arith, stamps, number) in
    let mid : Intake = record old { told = record old.told { lines = c.clear.new.self }; first = c.note_first.new.first; reader = r; taken = c.in-Some.taken } in
    on_ok_weaker c.serve.result (λ speaks.
    let new = c.serve.new.self in
    let heard_by : Intake = record mid { names = new.names; silent = new.silent } in
    let there : Goes clocks p heard_by new k (turn_at w k (length all + 1) (Ok x)) (left_at w k (Ok x)) = subst (λ (n : ℕ). Goes clocks p heard_by new k (turn_at w k n (Ok x)) (left_at w k (Ok x))) number speaks.goes in
    let at : Goes clocks p heard_by new k (turn_at w k (length all + 1) (said_at s clocks d before line)) (left_at w k (said_at s clocks d before line)) = subst (λ (y : Said). Goes clocks p heard_by new k (turn_at w k (length all + 1) y) (left_at w k y)) (sym is) there in
    record {
      fits = record {
        holds = record { told = at.holds.told; waiting = at.holds.waiting; remembers = at.holds.remembers };
        reader = subst (λ (t : Intake). Follows s (line ∷ before) t.reader) (sym at.others) (c.in-Ok.ensures.follows s before fits.reader (λ h. cc));
        names = subst (λ (u : Voiced). Knows (named_in clocks) new.names u.names) (sym heard) speaks.names;
        taken = ap (λ (t : Intake). t.taken) at.others ∙ number ∙ one_more (length all);
        faults = ap (λ (t : Intake). t.faults) at.others ∙ fits.faults ∙ ap (λ (y : Said). counter (fault_count (y ∷ all))) (sym is);
        doubles = at.doubles (left_count w all) fits.doubles;
        silent = speaks.silent (silent_count all) fits.silent ∙ ap (λ (y : Said). counter (silent_count (y ∷ all))) (sym is);
      };
      text = there.text ∙ ap (λ (l : List ℕ). l ++ turn_text (query_of p) clocks all (Ok x)) c.clear.ensures.items ∙ ap (turn_text (query_of p) clocks all) (sym is);
    }) (c.serve.ensures clocks p k names (record { told = record { program = fits.holds.told.program; fits = fits.holds.told.fits; staying = fits.holds.told.staying }; waiting = fits.holds.waiting; remembers = fits.holds.remembers }) fits.names few)

pub returns-in-Ok-clause-behind : goal.returns-in-Ok-clause-behind
returns-in-Ok-clause-behind c = λ s clocks p records k before fits.
    let old = c.args.self.now in
    let line = c.args.line.now in
    let d = p.header.schema in
    let w = setting_by clocks p in
    let all = said s clocks d before in
    let names = names_of s clocks d before in
    let r = c.read.new.self in
    let v = voiced_in clocks d names (clock_read r) (Ok (event_read r)) in
    let x = spoken_read r v.voice in
    let schema : c.schema.result.now ≡ d = c.schema.ensures ∙ ap (λ (m : Program). m.header.schema) fits.holds.told.program in
    let event : said_of s d before line ≡ Ok x.event = ap (λ (y : Declared). said_of s y before line) (sym schema) ∙ c.in-Ok.ensures.event s before fits.reader in
    let identifier : identifier_of s before line ≡ x.identifier = c.in-Ok.ensures.identifier s before fits.reader in
    let clock : clock_of s before line ≡ clock_read r = c.in-Ok.ensures.clock s before fits.reader in
    let heard : voiced_line s clocks d before line ≡ v = λ i. voiced_in clocks d names (clock i) (event i) in
    let is : said_at s clocks d before line ≡ Ok x = λ i. spoken_by (identifier i) (heard i).voice (event i) in
    let sum : c.in-Some.taken ≡ old.taken + 1 = search rules in
    let number : c.in-Some.taken ≡ length all + 1 = sum ∙ ap (λ (n : ℕ). n + 1) fits.taken in
    let few : length k.stamps < c.in-Some.taken = omega (arith, fits.few, number) in
    let mid : Intake = record old { told = record old.told { lines = c.clear.new.self }; first = c.note_first.new.first; reader = r; taken = c.in-Some.taken } in
    on_ok_weaker c.serve.result (λ speaks.
    let new = c.serve.new.self in
    let heard_by : Intake = record mid { names = new.names; silent = new.silent } in
    let there : Goes clocks p heard_by new k (turn_at w k (length all + 1) (Ok x)) (left_at w k (Ok x)) = subst (λ (n : ℕ). Goes clocks p heard_by new k (turn_at w k n (Ok x)) (left_at w k (Ok x))) number speaks.goes in
    let at : Goes clocks p heard_by new k (turn_at w k (length all + 1) (said_at s clocks d before line)) (left_at w k (said_at s clocks d before line)) = subst (λ (y : Said). Goes clocks p heard_by new k (turn_at w k (length all + 1) y) (left_at w k y)) (sym is) there in
    record {
      fits = record {
        holds = record { told = at.holds.told; waiting = at.holds.waiting; remembers = at.holds.remembers };
        records = ap (λ (t : Intake). t.records) at.others ∙ fits.records;
        first = ap (λ (t : Intake). t.first.items) at.others ∙ c.in_ok-note_first.ensures ∙ first_next s clocks d before line old.first.items old.taken fits.taken fits.first;
        few =
            let n = few_by w k (length all + 1) (stamp_of d x.event) x (length all) fits.few in
            subst (λ (y : Said). length (turn_at w k (length all + 1) y).kept.stamps ≤ suc (length all)) (sym is) n;
        reader = subst (λ (t : Intake). Follows s (line ∷ before) t.reader) (sym at.others) (c.in-Ok.ensures.follows s before fits.reader (λ h. cc));
        names = subst (λ (u : Voiced). Knows (named_in clocks) new.names u.names) (sym heard) speaks.names;
        taken = ap (λ (t : Intake). t.taken) at.others ∙ number ∙ one_more (length all);
      };
      text = there.text ∙ ap (λ (l : List ℕ). l ++ text_of_turn (query_of p) clocks k (length all + 1) (Ok x)) c.clear.ensures.items ∙ ap (text_of_turn (query_of p) clocks k (length all + 1)) (sym is);
    }) (c.serve.ensures clocks p k names (record { told = record { program = fits.holds.told.program; fits = fits.holds.told.fits; staying = fits.holds.told.staying }; waiting = fits.holds.waiting; remembers = fits.holds.remembers }) fits.names few)

pub returns-in-Err-Fault-clause-behind : goal.returns-in-Err-Fault-clause-behind
returns-in-Err-Fault-clause-behind c = λ s clocks p records k before fits.
    let old = c.args.self.now in
    let line = c.args.line.now in
    let d = p.header.schema in
    let w = setting_by clocks p in
    let all = said s clocks d before in
    let names = names_of s clocks d before in
    let number = length all + 1 in
    let why = c.in-Err-Fault.why in
    let new = c.refuse.new.self in
    let schema : c.schema.result.now ≡ d = c.schema.ensures ∙ ap (λ (m : Program). m.header.schema) fits.holds.told.program in
    let fault : said_of s d before line ≡ Err why = ap (λ (y : Declared). said_of s y before line) (sym schema) ∙ (rw c.in-Err-Fault.field-0-is at c.in-Err-Fault.ensures.fault s before fits.reader) in
    let is : said_at s clocks d before line ≡ Err why = λ i. spoken_by (identifier_of s before line) (voiced_line s clocks d before line).voice (fault i) in
    let named : names_of s clocks d (line ∷ before) ≡ names = ap (λ (r : Result Event LineFault). (voiced_in clocks d names (clock_of s before line) r).names) fault in
    let sum : c.in-Some.taken ≡ old.taken + 1 = search rules in
    on_ok_weaker c.refuse.result (λ text.
    let others = c.refuse.ensures.others in
    let mid : Intake = record old { told = record old.told { lines = new.told.lines }; first = c.note_first.new.first; reader = c.read.new.self; taken = c.in-Some.taken; faults = new.faults } in
    let held : Serves p mid.told k.fed = record { program = fits.holds.told.program; fits = fits.holds.told.fits; staying = fits.holds.told.staying } in
    let now : new ≡ mid = others in
    let kept : FitsBehind s clocks p records mid k (line ∷ before) = record {
      holds = record { told = held; waiting = fits.holds.waiting; remembers = fits.holds.remembers };
      records = fits.records;
      first = c.in_ok-note_first.ensures ∙ first_next s clocks d before line old.first.items old.taken fits.taken fits.first;
      few = let n = fits.few in omega (arith, n);
      reader = (rw c.in-Err-Fault.field-0-is at c.in-Err-Fault.ensures.follows s before fits.reader) (λ h. fault_alone why h);
      names = subst (λ (l : List (List ℕ)). Knows (named_in clocks) old.names l) (sym named) fits.names;
      taken = sum ∙ ap (λ (n : ℕ). n + 1) fits.taken ∙ one_more (length all);
    } in
    record {
      fits = subst (λ (y : Said). FitsBehind s clocks p records new (turn_at w k number y).kept (line ∷ before)) (sym is) (subst (λ (t : Intake). FitsBehind s clocks p records t k (line ∷ before)) (sym now) kept);
      text = text ∙ ap (λ (l : List ℕ). l ++ fault_text c.in-Some.taken why) c.clear.ensures.items ∙ ap (λ (n : ℕ). fault_text n why) (sum ∙ ap (λ (n : ℕ). n + 1) fits.taken) ∙ ap (text_of_turn (query_of p) clocks k number) (sym is);
    }) c.refuse.ensures.text
