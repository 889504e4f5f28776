-- What an intake has come to, as a text.
use Rattle.std.proofs.Common.{◌≡◌, ◌∙◌, ◌++◌, ◌+◌, ◌<◌, ◌^◌, ℕ, List, length, Option, subst}
use Rattle.std.specs.Prelude.{IsTrue, unsigned_abs}
use Rattle.wsm_record.specs.Event.{Event}
use Rattle.wsm_program.specs.Program.{Program, is_program}
use Rattle.wsm_machine.specs.Meaning.{query_of}
use Rattle.wsm_lines.specs.declared.source.Source.{Source}
use Rattle.wsm_turns.specs.declared.clocks.Clocks.{Clocks}
use Rattle.wsm_turns.specs.Clocks.{named_in}
use Rattle.wsm_head.specs.StandsFor.{program_with, taken}
use Rattle.wsm_saved.specs.Events.{EventFits, event_text}
use Rattle.wsm_saved.specs.Lists.{BytesFit, ListFits, bytes_text, list_text}
use Rattle.wsm_saved.specs.Numbers.{number_text}
use Rattle.wsm_saved_turns.specs.Turns.{ClocksFit, DoublesFit, NamesFit, clocks_text, doubles_text, names_text}
use Rattle.wsm_intake.specs.declared.intake.Intake.{Intake}
use Rattle.wsm_intake.specs.declared.told.Told.{Told}
use Rattle.wsm_log_text.specs.LogText.{names_of, said}
use Rattle.wsm_intake.specs.Tells.{Serves}
use Rattle.wsm_intake.specs.GoesOn.{GoesOn}
use Rattle.wsm_log_text.specs.Needed.{left_behind, needed_in_order}
use Rattle.wsm_intake.specs.Saved.{Saved}
use Rattle.wsm_log_text.proofs.SavedFacts.{no_names, some_left}

-- ---- another that was told, which serves as well

pub served_on : (s : Source) (clocks : Option Clocks) (p : Program) (t : Intake) (told : Told) (before : List (List ℕ)) (on : GoesOn s clocks p t before) →
    (Serves (program_with on.records p) t.told on.other.fed → Serves (program_with on.records p) told on.other.fed) → GoesOn s clocks p (record t { told = told }) before
served_on s clocks p t told before on serves =
    let fits = on.fits in
    let now = serves (record { program = fits.holds.told.program; fits = fits.holds.told.fits; staying = fits.holds.told.staying }) in
    record {
      records = on.records;
      other = on.other;
      lawful = on.lawful;
      fewer = on.fewer;
      fits = record {
        holds = record { told = record { program = now.program; fits = now.fits; staying = now.staying }; waiting = fits.holds.waiting; remembers = fits.holds.remembers };
        records = fits.records;
        first = fits.first;
        few = fits.few;
        reader = fits.reader;
        names = fits.names;
        taken = fits.taken;
      };
      stands = on.stands;
    }

-- ---- what it has come to

module _ (s : Source) (clocks : Option Clocks) (p : Program) (t : Intake) (before : List (List ℕ)) (on : GoesOn s clocks p t before) where
  abbrev mid : Program
  mid = program_with on.records p

  abbrev needed_now : List Event
  needed_now = needed_in_order (query_of mid) on.other.fed

  abbrev names : List (List ℕ)
  names = names_of s clocks p.header.schema before

  pub is_saved : (left : ℕ) (text : List ℕ) → IsTrue (is_program t.told.engine.program) → left ≡ left_behind (query_of mid) on.other.fed → t.taken < 2 ^ 64 → left < 2 ^ 64 → 0 < t.taken → 0 < left →
      BytesFit t.first.items → ClocksFit t.waiting → NamesFit names → DoublesFit t.identifiers.doubles.entries → ListFits EventFits needed_now →
      text ≡ number_text t.taken ++ (bytes_text t.first.items ++ (number_text left ++ (clocks_text t.waiting ++ (names_text (named_in clocks) names ++ (doubles_text t.identifiers.doubles.entries ++ list_text event_text needed_now))))) →
      Saved s clocks p before text
  is_saved left text whole is small few some more first waiting named known events written =
      let fits = on.fits in
      let recalls = fits.holds.remembers.recalls in
      let all = length (said s clocks p.header.schema before) in
      record {
        records = on.records;
        other = on.other;
        lesser = subst (λ (m : Program). IsTrue (is_program m)) fits.holds.told.program whole;
        fewer = on.fewer;
        room = some_left left (unsigned_abs on.records) (taken (query_of mid) on.other.fed) is more;
        stands = on.stands;
        some = subst (λ (n : ℕ). 0 < n) fits.taken some;
        few = fits.few;
        waiting = t.waiting;
        known = t.identifiers.doubles.entries;
        facts = record {
          small = subst (λ (n : ℕ). n < 2 ^ 64) fits.taken small;
          first = subst BytesFit fits.first first;
          left = subst (λ (n : ℕ). n < 2 ^ 64) is few;
          hears = fits.holds.waiting;
          waiting = waiting;
          names = named;
          unnamed = no_names (named_in clocks) t.names names fits.names;
          known = known;
          recalls = record { alike = recalls.alike; prompt = recalls.prompt };
        };
        events = events;
        is = written
            ∙ (λ i. number_text (fits.taken i) ++ (bytes_text (fits.first i) ++ (number_text (is i) ++ (clocks_text t.waiting ++ (names_text (named_in clocks) names ++ (doubles_text t.identifiers.doubles.entries ++ list_text event_text needed_now))))));
      }
