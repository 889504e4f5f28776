-- What a keyed intake has come to, as a text.
use Rattle.std.proofs.Common.{◌≡◌, ◌∙◌, ◌++◌, ◌<◌, ◌^◌, ℕ, ℤ, List, Option, subst}
use Rattle.std.specs.Prelude.{unsigned_abs}
use Rattle.wsm_record.specs.Event.{Event}
use Rattle.wsm_turns.specs.declared.clocks.Clocks.{Clocks}
use Rattle.wsm_turns.specs.Clocks.{count_in, named_in}
use Rattle.wsm_turns.specs.Turns.{Setting}
use Rattle.wsm_head.specs.StandsFor.{taken}
use Rattle.wsm_saved.specs.Events.{EventFits, event_text}
use Rattle.wsm_saved.specs.Lists.{BytesFit, ListFits, bytes_text, list_text}
use Rattle.wsm_saved.specs.Numbers.{number_text}
use Rattle.wsm_saved_turns.specs.Turns.{ClocksFit, DoublesFit, NamesFit, clocks_text, doubles_text, names_text}
use Rattle.wsm_log_text.specs.LogText as texts
use Rattle.wsm_log_text.specs.Needed.{left_behind, needed_in_order}
use Rattle.wsm_log_text.specs.Standing.{AreFacts, Facts, Says}
use Rattle.wsm_log_text.specs.declared.standing.Standing.{Standing}
use Rattle.wsm_log_text.proofs.SavedFacts.{no_names, some_left}
use Rattle.wsm_keyed_intake.specs.declared.intake.KeyedIntake.{KeyedIntake}
use Rattle.wsm_keyed_intake.specs.KeyedLog.{KeyedLog, declared_by, names_of}
use Rattle.wsm_keyed_intake.specs.Turns.{AreNamed}
use Rattle.wsm_keyed_intake.specs.GoesOn.{GoesOn, GoesOnBy}
use Rattle.wsm_keyed_intake.specs.Saved.{SavedBy, query_with}
use Rattle.wsm_keyed_intake.proofs.Stamps.{count_same}

module _ (g : KeyedLog) (t : KeyedIntake) (before : List (List ℕ)) (on : GoesOn g t before) (later : List (List ℕ)) where
  abbrev all : List (List ℕ)
  all = names_of g (later ++ before)

  abbrev by : GoesOnBy g on.records all t before
  by = on.by later

  abbrev needed_now : List Event
  needed_now = needed_in_order (query_with g on.records all) by.other.fed

  abbrev voices : List (List ℕ)
  voices = texts.names_of g.source g.clocks (declared_by g all) before

  -- what is written, by these names
  abbrev pub all_text : ℕ → List ℕ
  all_text left =
      number_text t.taken ++ (bytes_text t.first.items ++ (number_text left ++ (clocks_text t.waiting ++ (names_text (named_in g.clocks) voices ++ (doubles_text t.identifiers.doubles.entries ++ (list_text bytes_text t.told.names ++ list_text event_text needed_now))))))

  pub is_saved : (left : ℕ) (text : List ℕ) → left ≡ left_behind (query_with g on.records all) by.other.fed → t.taken < 2 ^ 64 → left < 2 ^ 64 → 0 < t.taken → 0 < left →
      BytesFit t.first.items → ClocksFit t.waiting → NamesFit voices → DoublesFit t.identifiers.doubles.entries → ListFits EventFits needed_now → text ≡ all_text left → SavedBy g on.records all before text
  is_saved left text is small few some more first waiting named known events written =
      let recalls = by.holds.remembers.recalls in
      record {
        other = by.other;
        room = some_left left (unsigned_abs on.records) (taken (query_with g on.records all) by.other.fed) is more;
        stands = by.stands;
        some = subst (λ (n : ℕ). 0 < n) by.taken some;
        few = by.few;
        waiting = t.waiting;
        known = t.identifiers.doubles.entries;
        facts = record {
          small = subst (λ (n : ℕ). n < 2 ^ 64) by.taken small;
          first = subst BytesFit on.first first;
          left = subst (λ (n : ℕ). n < 2 ^ 64) is few;
          hears = by.holds.waiting;
          waiting = waiting;
          names = named;
          unnamed = no_names (named_in g.clocks) t.voices voices by.voices;
          known = known;
          recalls = record { alike = recalls.alike; prompt = recalls.prompt };
        };
        events = events;
        is = written
            ∙ (λ i. number_text (by.taken i) ++ (bytes_text (on.first i) ++ (number_text (is i) ++ (clocks_text t.waiting ++ (names_text (named_in g.clocks) voices ++ (doubles_text t.identifiers.doubles.entries ++ (list_text bytes_text (on.reads.known i) ++ list_text event_text needed_now)))))));
      }

-- ---- clocks that aren't those of keys are as many, whichever names there are

pub facts_of_count : (clocks : Option Clocks) (a b : ℕ) (w : Setting) (mark : ℤ) (f : Facts) → AreNamed clocks → AreFacts clocks (count_in clocks a) w mark f → AreFacts clocks (count_in clocks b) w mark f
facts_of_count clocks a b w mark f named facts = record {
  small = facts.small;
  first = facts.first;
  left = facts.left;
  hears = count_same clocks a b f.waiting f.stamps f.told f.waits named facts.hears;
  waiting = facts.waiting;
  names = facts.names;
  unnamed = facts.unnamed;
  known = facts.known;
  recalls = record { alike = facts.recalls.alike; prompt = facts.recalls.prompt };
}

pub says_of_count : (clocks : Option Clocks) (a b : ℕ) (t : Standing) (f : Facts) → AreNamed clocks → Says clocks (count_in clocks a) t f → Says clocks (count_in clocks b) t f
says_of_count clocks a b t f named says = record {
  lines = says.lines;
  first = says.first;
  left = says.left;
  hears = count_same clocks a b t.waiting f.stamps f.told f.waits named says.hears;
  names = says.names;
  known = says.known;
}
