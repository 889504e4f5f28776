-- A keyed intake that goes on from what another has come to.
use Rattle.std.proofs.Common.{◌≡◌, ◌∙◌, ◌++◌, ◌≤◌, ◌+◌, ℕ, ℤ, List, [], ◌∷◌, length, map, Option, Ok, Err, inr, refl, sym, ap, subst, arith}
use Rattle.std.specs.Prelude.{IsTrue, unsigned_abs}
use Rattle.wsm_record.specs.Event.{Event}
use Rattle.wsm_semantics.specs.Query.{Query, verdict_on}
use Rattle.wsm_semantics.specs.Relation.{turn_rows}
use Rattle.wsm_semantics.specs.Lines.{Out, refusal_lines}
use Rattle.wsm_semantics.specs.Summaries.{Plan, Runs}
use Rattle.wsm_semantics.specs.ByKey.{with_records}
use Rattle.wsm_program.specs.Program.{Program, is_program}
use Rattle.wsm_rules.proofs.Lawful.{lawful}
use Rattle.wsm_machine.specs.Meaning.{plan_of}
use Rattle.wsm_machine.proofs.QueryFolds.{plan_lawful, plan_runs}
use Rattle.wsm_machine.proofs.CountedSessions.{sessions_by_event}
use Rattle.wsm_turns.specs.declared.clocks.Clocks.{Clocks}
use Rattle.wsm_turns.specs.Numbered.{Numbered}
use Rattle.wsm_turns.specs.Turns.{Kept}
use Rattle.wsm_head.specs.StandsFor.{StandsFor, program_with}
use Rattle.wsm_head.specs.Behind.{KeptFor, TurnsAlike, events_lines, turn_lines}
use Rattle.wsm_head.proofs.Turning.{turns_alike}
use Rattle.wsm_part_programs.specs.Names.{of_names}
use Rattle.wsm_keyed_told.specs.declared.told.KeyedTold.{KeyedTold}
use Rattle.wsm_keyed_told.specs.KeyedLines.{event_text, events_text, keyed_lines}
use Rattle.wsm_keyed_told.specs.Tells.{Serves}
use Rattle.wsm_keyed_told.proofs.KeyedLines.{keyed_both}
use Rattle.wsm_keyed_told.proofs.More.{fits_more}
use Rattle.wsm_part_engines.specs.Fits as parts
use Rattle.wsm_log_text.specs.LogText.{Said}
use Rattle.wsm_keyed_intake.specs.declared.intake.KeyedIntake.{KeyedIntake}
use Rattle.wsm_keyed_intake.specs.KeyedLog.{KeyedLog, kept_by, names_of, said_by, text_of_turn}
use Rattle.wsm_keyed_intake.specs.Turns.{Fits, Grows}
use Rattle.wsm_keyed_intake.specs.GoesOn.{GoesOn}

-- the plan of a program runs its query over any names
pub runs_names : (p : Program) (all : List (List ℕ)) → Runs (plan_of p) (of_names p all)
runs_names p all = let runs = plan_runs p in record { selects = runs.selects; row = runs.row }

-- ---- what is written

by_lines : (p : Program) (all : List (List ℕ)) (past : List Event) (gs : List Numbered) → events_text p all past gs ≡ keyed_lines p.header.schema all (events_lines (of_names p all) past gs)
by_lines p all past [] = refl
by_lines p all past (g ∷ gs) =
    ap (λ (l : List ℕ). event_text p all g.number past g.event ++ l) (by_lines p all (g.event ∷ past) gs)
    ∙ sym (keyed_both p.header.schema all (refusal_lines g.number (verdict_on (of_names p all) past g.event) ++ map Out (turn_rows (of_names p all) past g.event)) (events_lines (of_names p all) (g.event ∷ past) gs))

text_alike : (p : Program) (all : List (List ℕ)) (clocks : Option Clocks) (records : ℤ) (k other : Kept) (number : ℕ) (x : Said) →
    turn_lines (with_records records (of_names p all)) clocks other number x ≡ turn_lines (of_names p all) clocks k number x →
    text_of_turn (program_with records p) all clocks other number x ≡ text_of_turn p all clocks k number x
text_alike p all clocks records k other number (Err why) h = refl
text_alike p all clocks records k other number (Ok x) h =
    by_lines (program_with records p) all other.fed _ ∙ ap (keyed_lines p.header.schema all) h ∙ sym (by_lines p all k.fed _)

-- ---- one line more

module _ (g : KeyedLog) (whole : IsTrue (is_program g.program)) (records : ℤ) (all before : List (List ℕ)) (other : Kept)
    (stands : KeptFor (plan_of g.program) (of_names g.program all) records (kept_by g all before) other) (x : Said) where
  abbrev number : ℕ
  number = length (said_by g all before) + 1

  pub alike : TurnsAlike (plan_of g.program) (of_names g.program all) records g.clocks (kept_by g all before) other number x
  alike =
      let p = g.program in
      let ok = lawful p whole in
      turns_alike (plan_of p) (plan_lawful p) (of_names p all) (runs_names p all) ok.shape (sessions_by_event p whole) ok.lateness.low records g.clocks (kept_by g all before) other number x stands

  pub text_there : text_of_turn (program_with records g.program) all g.clocks other number x ≡ text_of_turn g.program all g.clocks (kept_by g all before) number x
  text_there = text_alike g.program all g.clocks records (kept_by g all before) other number x alike.lines

-- ---- before the first line

stands_itself : {X : Type 0} (plan : Plan X) (q : Query) (past : List Event) → StandsFor plan q q.clock.records past past
stands_itself plan q past = record { kept = record { marks = refl; panes = refl }; relation = inr refl; left = refl }

at_most : (a : ℕ) → a ≤ a
at_most a = omega arith

no_less : (n : ℕ) → 0 ≤ n
no_less n = omega arith

pub begins : (g : KeyedLog) (t : KeyedIntake) → t.records ≡ g.program.header.clock.records → t.first.items ≡ [] → Fits g t [] → GoesOn g t []
begins g t records first fits =
    let p = g.program in
    record {
      records = p.header.clock.records;
      lawful = (fits.by []).holds.told.lawful;
      fewer = at_most (unsigned_abs p.header.clock.records);
      whole = records;
      first = first;
      reads = record { reader = fits.reads.reader; most = fits.reads.most; known = fits.reads.known };
      by = λ later.
          let all = names_of g (later ++ []) in
          let by = fits.by later in
          let told = by.holds.told in
          record {
            other = kept_by g all [];
            holds = record {
              told = record { lawful = told.lawful; panes = told.panes; parts = told.parts; staying = told.staying };
              grows = by.holds.grows;
              waiting = by.holds.waiting;
              remembers = by.holds.remembers;
            };
            stands = record { others = refl; stands = stands_itself (plan_of p) (of_names p all) [] };
            few = no_less 0;
            voices = by.voices;
            taken = by.taken;
          };
    }

-- another that was told, which serves as well and has the same names
pub served_on : (g : KeyedLog) (t : KeyedIntake) (told : KeyedTold) (before : List (List ℕ)) (on : GoesOn g t before) → told.names ≡ t.told.names →
    ((past : List Event) → Serves (program_with on.records g.program) t.told past → Serves (program_with on.records g.program) told past) → GoesOn g (record t { told = told }) before
served_on g t told before on names serves = record {
  records = on.records;
  lawful = on.lawful;
  fewer = on.fewer;
  whole = on.whole;
  first = on.first;
  reads = record { reader = on.reads.reader; most = on.reads.most; known = names ∙ on.reads.known };
  by = λ later.
      let by = on.by later in
      let there = by.holds.told in
      let now = serves by.other.fed (record { lawful = there.lawful; panes = there.panes; parts = there.parts; staying = there.staying }) in
      record {
        other = by.other;
        holds = record {
          told = record { lawful = now.lawful; panes = now.panes; parts = now.parts; staying = now.staying };
          grows = (by.holds.grows.0, by.holds.grows.1 ∙ ap (λ (ns : List (List ℕ)). ns ++ by.holds.grows.0) (sym names));
          waiting = by.holds.waiting;
          remembers = by.holds.remembers;
        };
        stands = by.stands;
        few = by.few;
        voices = by.voices;
        taken = by.taken;
      };
}

-- names have all events that those of some have
pub named_by : (p : Program) (t : KeyedTold) (past : List Event) → Serves p t past → (all : List (List ℕ)) → Grows t.names all → parts.AreNamed all past
named_by p t past serves all grows =
    subst (λ (ns : List (List ℕ)). parts.AreNamed ns past) (sym grows.1) (fits_more t.names grows.0 p t.parts past serves.parts).named

-- the same before the first line, where another that was told serves as well
pub kept_on : (g : KeyedLog) (t : KeyedIntake) (told : KeyedTold) → Fits g t [] → GoesOn g t [] → told.names ≡ t.told.names → (Serves g.program t.told [] → Serves g.program told []) → GoesOn g (record t { told = told }) []
kept_on g t told fits on names serves =
    begins g (record t { told = told }) on.whole on.first (record {
      reads = record { reader = fits.reads.reader; most = fits.reads.most; known = names ∙ fits.reads.known };
      by = λ later.
          let by = fits.by later in
          let there = by.holds.told in
          let now = serves (record { lawful = there.lawful; panes = there.panes; parts = there.parts; staying = there.staying }) in
          record {
            holds = record {
              told = record { lawful = now.lawful; panes = now.panes; parts = now.parts; staying = now.staying };
              grows = (by.holds.grows.0, by.holds.grows.1 ∙ ap (λ (ns : List (List ℕ)). ns ++ by.holds.grows.0) (sym names));
              waiting = by.holds.waiting;
              remembers = by.holds.remembers;
            };
            voices = by.voices;
            taken = by.taken;
            faults = by.faults;
            doubles = by.doubles;
            silent = by.silent;
          };
    })
