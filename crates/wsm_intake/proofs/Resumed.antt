-- An intake that goes on from a text.
use Rattle.std.proofs.Common.{◌≡◌, ◌∙◌, ◌≤◌, ◌<◌, ◌+◌, ℕ, ℤ, pos, List, [], ◌∷◌, length, Option, sym, ap, subst, arith}
use Rattle.std.specs.Prelude.{IsTrue, unsigned_abs}
use Rattle.wsm_record.specs.Event.{Event}
use Rattle.wsm_semantics.specs.Query.{Query}
use Rattle.wsm_semantics.specs.Needed.{needed}
use Rattle.wsm_semantics.proofs.LaterMarks.{mark_alike}
use Rattle.wsm_program.specs.Program.{Program, is_program}
use Rattle.wsm_rules.proofs.Lawful.{lawful}
use Rattle.wsm_machine.specs.Meaning.{plan_of, query_of}
use Rattle.wsm_machine.proofs.QueryFolds.{plan_lawful, plan_runs}
use Rattle.wsm_machine.proofs.CountedSessions.{sessions_by_event}
use Rattle.wsm_lines.specs.declared.source.Source.{Source}
use Rattle.wsm_lines.specs.declared.reader.LineReader.{LineReader}
use Rattle.wsm_lines.specs.Reader.{Follows}
use Rattle.wsm_doubles.specs.Memory as doubles
use Rattle.wsm_doubles.specs.Memory.{Memory, Recalls}
use Rattle.wsm_turns.specs.declared.clocks.Clocks.{Clocks}
use Rattle.wsm_turns.specs.declared.waiting.Waiting.{Waiting}
use Rattle.wsm_turns.specs.Clocks.{count_in, named_in}
use Rattle.wsm_turns.specs.Named.{Knows, Named}
use Rattle.wsm_turns.specs.Waits.{Hear}
use Rattle.wsm_turns.specs.Known.{Remembers}
use Rattle.wsm_turns.specs.Turns.{Kept, watermark}
use Rattle.wsm_head.specs.StandsFor.{program_with, records_left, taken}
use Rattle.wsm_head.specs.Behind.{KeptFor}
use Rattle.wsm_head.proofs.NeededStand.{has_room, needed_stand, stand_through, taken_alike}
use Rattle.wsm_intake.specs.declared.intake.Intake.{Intake}
use Rattle.wsm_log_text.specs.declared.standing.Standing.{Standing}
use Rattle.wsm_intake.specs.declared.told.Told.{Told}
use Rattle.wsm_log_text.specs.LogText.{names_of, said}
use Rattle.wsm_intake.specs.Tells.{Serves}
use Rattle.wsm_log_text.specs.FirstLine.{first_of}
use Rattle.wsm_intake.specs.Turns.{setting_by}
use Rattle.wsm_intake.specs.GoesOn.{GoesOn, kept_of}
use Rattle.wsm_log_text.specs.Standing.{Says}
use Rattle.wsm_intake.specs.Saved.{Saved, facts_of}
use Rattle.wsm_log_text.specs.Needed.{needed_in_order, fed_all, left_behind}
use Rattle.wsm_intake.specs.Resuming.{GoesOnFrom}
use Rattle.wsm_log_text.proofs.Headings.{first_alone}
use Rattle.wsm_log_text.proofs.NeededEvents.{needed_fed}

-- ---- the first line alone makes the heading

pub reads_on : (s : Source) (clocks : Option Clocks) (p : Program) (before : List (List ℕ)) (r : LineReader) → 0 < length (said s clocks p.header.schema before) → Follows s (first_of before ∷ []) r → Follows s before r
reads_on s clocks p [] r some h = absurd (omega (arith, some))
reads_on s clocks p (line ∷ before) r some h = record { source = h.source; heading = h.heading ∙ sym (first_alone s.format s.longest line before) }

-- ---- the events that the engine was fed

module _ (s : Source) (clocks : Option Clocks) (p : Program) (whole : IsTrue (is_program p)) (before : List (List ℕ)) (text : List ℕ) (saved : Saved s clocks p before text) where
  abbrev mid : Program
  mid = program_with saved.records p

  abbrev q : Query
  q = query_of mid

  abbrev fed : List Event
  fed = saved.other.fed

  abbrev fewer : ℤ
  fewer = records_left q fed

  abbrev other : Kept
  other = record saved.other { fed = needed q fed }

  abbrev k : Kept
  k = kept_of s clocks p before

  fed_again : fed_all [] (needed_in_order q fed) ≡ needed q fed
  fed_again = needed_fed q fed

  as_many : taken (query_of p) (needed q fed) ≡ taken q (needed q fed)
  as_many = taken_alike q p.header.clock.records fed saved.room saved.fewer

  is_fewer : left_behind q fed + taken (query_of p) (fed_all [] (needed_in_order q fed)) ≡ unsigned_abs fewer
  is_fewer = ap (λ (es : List Event). left_behind q fed + taken (query_of p) es) fed_again ∙ ap (λ (n : ℕ). left_behind q fed + n) as_many

  stands : KeptFor (plan_of p) (query_of p) fewer k other
  stands =
      let first = saved.stands in
      record {
        others = ap (λ (o : Kept). record o { fed = needed q fed }) first.others;
        stands = stand_through (plan_of p) (query_of p) saved.records fewer k.fed fed (needed q fed) first.stands
            (needed_stand (plan_of mid) (plan_lawful mid) q (plan_runs mid) (lawful mid saved.lesser).shape (sessions_by_event mid saved.lesser) (lawful mid saved.lesser).lateness.low fed (has_room q fed saved.room));
      }

  pub same_mark : watermark (setting_by clocks (program_with fewer p)) (needed q fed) ≡ watermark (setting_by clocks mid) fed
  same_mark =
      mark_alike (query_of p) p.header.clock.start fewer k.fed (needed q fed) stands.stands.kept.marks
      ∙ sym (mark_alike (query_of p) p.header.clock.start saved.records k.fed fed saved.stands.stands.kept.marks)

  pub few_records : (told : Told) → GoesOnFrom p (left_behind q fed) (needed_in_order q fed) told → unsigned_abs fewer ≤ unsigned_abs p.header.clock.records
  few_records told from = subst (λ (n : ℕ). n ≤ unsigned_abs p.header.clock.records) is_fewer from.fewer

  pub serves_again : (told : Told) → GoesOnFrom p (left_behind q fed) (needed_in_order q fed) told → Serves (program_with fewer p) told (needed q fed)
  serves_again told from = subst (λ (es : List Event). Serves (program_with fewer p) told es) fed_again
      (subst (λ (n : ℕ). Serves (program_with (pos n) p) told (fed_all [] (needed_in_order q fed))) is_fewer from.serves)

  -- what is kept then, where the engine has taken the events that are needed and all else is as it was
  pub goes_on : (t : Intake) (f : Standing) → let wide = setting_by clocks (program_with fewer p) in
      unsigned_abs fewer ≤ unsigned_abs p.header.clock.records → Serves (program_with fewer p) t.told (needed q fed) → Says clocks (count_in clocks (length p.header.schema.keys)) f (facts_of s clocks p before q saved.other saved.waiting saved.known) →
      Follows s before t.reader → t.waiting ≡ f.waiting → t.names ≡ f.names → t.first.items ≡ f.first.items → t.taken ≡ f.taken → t.records ≡ p.header.clock.records →
      Remembers wide (watermark wide (needed q fed)) t.identifiers saved.other.memory → GoesOn s clocks p t before
  goes_on t f less serves says reads waiting names first taken records remembers = record {
    records = fewer;
    other = other;
    lawful = whole;
    fewer = less;
    fits = record {
      holds = record {
        told = record { program = serves.program; fits = serves.fits; staying = serves.staying };
        waiting = subst (λ (o : Option Waiting). Hear clocks (count_in clocks (length p.header.schema.keys)) o saved.other.stamps saved.other.told saved.other.waits) (sym waiting) says.hears;
        remembers = remembers;
      };
      records = records;
      first = first ∙ says.first;
      few = saved.few;
      reader = reads;
      names = subst (λ (o : Option Named). Knows (named_in clocks) o (names_of s clocks p.header.schema before)) (sym names) says.names;
      taken = taken ∙ says.lines;
    };
    stands = stands;
  }

  -- what is kept of identifiers recalls the same
  pub recalls_on : (kept : doubles.Kept) → kept.entries ≡ saved.known → let wide = setting_by clocks (program_with fewer p) in Recalls wide.clock wide.shape (watermark wide (needed q fed)) kept saved.other.memory
  recalls_on kept is =
      let wide = setting_by clocks (program_with fewer p) in
      let recalls = saved.facts.recalls in
      let at = subst (λ (m : ℤ). Recalls wide.clock wide.shape m (record { entries = saved.known; room = kept.room }) saved.other.memory) (sym same_mark) (record { alike = recalls.alike; prompt = recalls.prompt }) in
      subst (λ (known : Memory). Recalls wide.clock wide.shape (watermark wide (needed q fed)) (record { entries = known; room = kept.room }) saved.other.memory) (sym is) at
