-- An intake that goes on from what another has come to.
use Rattle.std.proofs.Common.{◌≡◌, ◌∙◌, ◌++◌, ◌≤◌, ◌+◌, ℕ, ℤ, List, [], ◌∷◌, length, map, Option, Ok, Err, inr, refl, sym, ap, arith}
use Rattle.std.specs.Prelude.{IsTrue, unsigned_abs}
use Rattle.std.proofs.lemmas.List.Concat.{flat_map-append}
use Rattle.wsm_record.specs.Event.{Event}
use Rattle.wsm_semantics.specs.Query.{Query, verdict_on}
use Rattle.wsm_semantics.specs.Relation.{turn_rows}
use Rattle.wsm_semantics.specs.Lines.{Out, refusal_lines}
use Rattle.wsm_semantics.specs.Text.{line_text, lines_text}
use Rattle.wsm_semantics.specs.Summaries.{Plan}
use Rattle.wsm_semantics.specs.ByKey.{with_records}
use Rattle.wsm_program.specs.Program.{Program, is_program}
use Rattle.wsm_rules.proofs.Lawful.{lawful}
use Rattle.wsm_machine.specs.Meaning.{plan_of, query_of}
use Rattle.wsm_machine.proofs.QueryFolds.{plan_lawful, plan_runs}
use Rattle.wsm_machine.proofs.CountedSessions.{sessions_by_event}
use Rattle.wsm_lines.specs.declared.source.Source.{Source}
use Rattle.wsm_turns.specs.declared.clocks.Clocks.{Clocks}
use Rattle.wsm_turns.specs.Numbered.{Numbered}
use Rattle.wsm_turns.specs.Turns.{Kept}
use Rattle.wsm_head.specs.StandsFor.{StandsFor, program_with}
use Rattle.wsm_head.specs.Behind.{events_lines, turn_lines}
use Rattle.wsm_head.proofs.Turning.{turns_alike}
use Rattle.wsm_intake.specs.declared.intake.Intake.{Intake}
use Rattle.wsm_intake.specs.declared.told.Told.{Told}
use Rattle.wsm_intake.specs.Tells.{Serves}
use Rattle.wsm_log_text.specs.LogText.{Said, event_text, events_text, said, said_at, text_of_turn, turn_at}
use Rattle.wsm_intake.specs.Turns.{Fits, TurnedBehind, setting_by}
use Rattle.wsm_intake.specs.GoesOn.{GoesOn, GoneOn, kept_of}

-- ---- what is written

by_lines : (q : Query) (past : List Event) (gs : List Numbered) → events_text q past gs ≡ lines_text q.declared (events_lines q past gs)
by_lines q past [] = refl
by_lines q past (g ∷ gs) =
    ap (λ (l : List ℕ). event_text q g.number past g.event ++ l) (by_lines q (g.event ∷ past) gs)
    ∙ sym (flat_map-append (line_text q.declared) (refusal_lines g.number (verdict_on q past g.event) ++ map Out (turn_rows q past g.event)) (events_lines q (g.event ∷ past) gs))

text_alike : (q : Query) (clocks : Option Clocks) (records : ℤ) (k other : Kept) (number : ℕ) (x : Said) → turn_lines (with_records records q) clocks other number x ≡ turn_lines q clocks k number x →
    text_of_turn (with_records records q) clocks other number x ≡ text_of_turn q clocks k number x
text_alike q clocks records k other number (Err why) h = refl
text_alike q clocks records k other number (Ok x) h =
    by_lines (with_records records q) other.fed _ ∙ ap (lines_text q.declared) h ∙ sym (by_lines q k.fed _)

-- ---- one line more

pub gone_on : (s : Source) (clocks : Option Clocks) (p : Program) (old new : Intake) (before : List (List ℕ)) (line : List ℕ) (on : GoesOn s clocks p old before) →
    TurnedBehind s clocks (program_with on.records p) p.header.clock.records new on.other before line → GoneOn s clocks p new before line
gone_on s clocks p old new before line on turned =
    let d = p.header.schema in
    let x = said_at s clocks d before line in
    let number = length (said s clocks d before) + 1 in
    let k = kept_of s clocks p before in
    let ok = lawful p on.lawful in
    let alike = turns_alike (plan_of p) (plan_lawful p) (query_of p) (plan_runs p) ok.shape (sessions_by_event p on.lawful) ok.lateness.low on.records clocks k on.other number x on.stands in
    record {
      goes_on = record {
        records = on.records;
        other = (turn_at (setting_by clocks (program_with on.records p)) on.other number x).kept;
        lawful = on.lawful;
        fewer = on.fewer;
        fits = turned.fits;
        stands = alike.kept;
      };
      text = turned.text ∙ text_alike (query_of p) clocks on.records k on.other number x alike.lines;
    }

-- ---- before the first line

stands_itself : {X : Type 0} (plan : Plan X) (q : Query) (past : List Event) → StandsFor plan q q.clock.records past past
stands_itself plan q past = record { kept = record { marks = refl; panes = refl }; relation = inr refl; left = refl }

at_most : (a : ℕ) → a ≤ a
at_most a = omega arith

no_less : (n : ℕ) → 0 ≤ n
no_less n = omega arith

pub begins : (s : Source) (clocks : Option Clocks) (p : Program) (t : Intake) → IsTrue (is_program p) → t.records ≡ p.header.clock.records → t.first.items ≡ [] → Fits s clocks p t [] → GoesOn s clocks p t []
begins s clocks p t whole records first fits = record {
  records = p.header.clock.records;
  other = kept_of s clocks p [];
  lawful = whole;
  fewer = at_most (unsigned_abs p.header.clock.records);
  fits = record {
    holds = record { told = record { program = fits.holds.told.program; fits = fits.holds.told.fits; staying = fits.holds.told.staying }; waiting = fits.holds.waiting; remembers = fits.holds.remembers };
    records = records;
    first = first;
    few = no_less 0;
    reader = fits.reader;
    names = fits.names;
    taken = fits.taken;
  };
  stands = record { others = refl; stands = stands_itself (plan_of p) (query_of p) [] };
}

-- the same with another that was told, which serves as well
pub keeping : (s : Source) (clocks : Option Clocks) (p : Program) (t : Intake) (told : Told) → Fits s clocks p t [] → (Serves p t.told [] → Serves p told []) → Fits s clocks p (record t { told = told }) []
keeping s clocks p t told fits serves =
    let now = serves (record { program = fits.holds.told.program; fits = fits.holds.told.fits; staying = fits.holds.told.staying }) in
    record {
      holds = record { told = record { program = now.program; fits = now.fits; staying = now.staying }; waiting = fits.holds.waiting; remembers = fits.holds.remembers };
      reader = fits.reader;
      names = fits.names;
      taken = fits.taken;
      faults = fits.faults;
      doubles = fits.doubles;
      silent = fits.silent;
    }
