-- A keyed intake that goes on from a text.
use Rattle.std.proofs.Common.{◌≡◌, ◌∙◌, ◌≤◌, ◌<◌, ◌+◌, ℕ, ℤ, pos, List, [], ◌∷◌, length, Option, sym, ap, subst, arith}
use Rattle.std.specs.Prelude.{IsTrue, unsigned_abs}
use Rattle.wsm_record.specs.Event.{Event}
use Rattle.wsm_semantics.specs.Query.{Query}
use Rattle.wsm_semantics.specs.Needed.{needed}
use Rattle.wsm_semantics.proofs.LaterMarks.{mark_alike}
use Rattle.wsm_program.specs.Program.{Program, is_program}
use Rattle.wsm_rules.proofs.Lawful.{lawful}
use Rattle.wsm_machine.specs.Meaning.{plan_of}
use Rattle.wsm_machine.proofs.QueryFolds.{plan_lawful}
use Rattle.wsm_machine.proofs.CountedSessions.{sessions_by_event}
use Rattle.wsm_lines.specs.declared.reader.LineReader.{LineReader}
use Rattle.wsm_lines.specs.Reader.{Follows}
use Rattle.wsm_doubles.specs.Memory as doubles
use Rattle.wsm_doubles.specs.Memory.{Memory, Recalls}
use Rattle.wsm_turns.specs.declared.waiting.Waiting.{Waiting}
use Rattle.wsm_turns.specs.Clocks.{count_in, named_in}
use Rattle.wsm_turns.specs.Named.{Knows, Named}
use Rattle.wsm_turns.specs.Waits.{Hear}
use Rattle.wsm_turns.specs.Known.{Remembers}
use Rattle.wsm_turns.specs.Turns.{Kept, watermark}
use Rattle.wsm_head.specs.StandsFor.{program_with, records_left, taken}
use Rattle.wsm_head.specs.Behind.{KeptFor}
use Rattle.wsm_head.proofs.NeededStand.{has_room, needed_stand, stand_through, taken_alike}
use Rattle.wsm_part_programs.specs.Names.{of_names}
use Rattle.wsm_keyed_told.specs.Tells.{Serves}
use Rattle.wsm_log_text.specs.declared.standing.Standing.{Standing}
use Rattle.wsm_log_text.specs.FirstLine.{first_of}
use Rattle.wsm_log_text.specs.LogText as texts
use Rattle.wsm_log_text.specs.Needed.{left_behind}
use Rattle.wsm_log_text.specs.Standing.{Says}
use Rattle.wsm_log_text.proofs.Headings.{first_alone}
use Rattle.wsm_keyed_intake.specs.declared.intake.KeyedIntake.{KeyedIntake}
use Rattle.wsm_keyed_intake.specs.KeyedLog.{KeyedLog, declared_by, kept_by, said_by, setting_by}
use Rattle.wsm_keyed_intake.specs.Turns.{Grows}
use Rattle.wsm_keyed_intake.specs.GoesOn.{GoesOnBy}
use Rattle.wsm_keyed_intake.specs.Saved.{SavedBy, facts_by}
use Rattle.wsm_keyed_intake.proofs.GoingOn.{runs_names}

-- ---- the first line alone makes the heading

pub reads_on : (g : KeyedLog) (all before : List (List ℕ)) (r : LineReader) → 0 < length (said_by g all before) → Follows g.source (first_of before ∷ []) r → Follows g.source before r
reads_on g all [] r some h = absurd (omega (arith, some))
reads_on g all (line ∷ before) r some h = record { source = h.source; heading = h.heading ∙ sym (first_alone g.source.format g.source.longest line before) }

-- ---- the events that the parts were fed

module _ (g : KeyedLog) (records : ℤ) (lesser : IsTrue (is_program (program_with records g.program))) (least : unsigned_abs records ≤ unsigned_abs g.program.header.clock.records)
    (all before : List (List ℕ)) (text : List ℕ) (saved : SavedBy g records all before text) where
  abbrev p : Program
  p = g.program

  abbrev mid : Program
  mid = program_with records p

  abbrev q : Query
  q = of_names mid all

  abbrev fed : List Event
  fed = saved.other.fed

  abbrev other : Kept
  other = record saved.other { fed = needed q fed }

  abbrev k : Kept
  k = kept_by g all before

  stands : KeptFor (plan_of p) (of_names p all) (records_left q fed) k other
  stands =
      let first = saved.stands in
      record {
        others = ap (λ (o : Kept). record o { fed = needed q fed }) first.others;
        stands = stand_through (plan_of p) (of_names p all) records (records_left q fed) k.fed fed (needed q fed) first.stands
            (needed_stand (plan_of mid) (plan_lawful mid) q (runs_names mid all) (lawful mid lesser).shape (sessions_by_event mid lesser) (lawful mid lesser).lateness.low fed (has_room q fed saved.room));
      }

  -- so many RECORDS are left
  pub is_fewer : (left admitted : ℕ) → left ≡ left_behind q fed → admitted ≡ taken (of_names p all) (needed q fed) → pos (left + admitted) ≡ records_left q fed
  is_fewer left admitted is many =
      let as_many : taken (of_names p all) (needed q fed) ≡ taken q (needed q fed) = taken_alike q p.header.clock.records fed saved.room least in
      λ i. pos (is i + (many ∙ as_many) i)

  module _ (fewer : ℤ) (is : fewer ≡ records_left q fed) where
    stand : KeptFor (plan_of p) (of_names p all) fewer k other
    stand = subst (λ (n : ℤ). KeptFor (plan_of p) (of_names p all) n k other) (sym is) stands

    same_mark : watermark (setting_by g.clocks (program_with fewer p) all) (needed q fed) ≡ watermark (setting_by g.clocks mid all) fed
    same_mark =
        mark_alike (of_names p all) p.header.clock.start fewer k.fed (needed q fed) stand.stands.kept.marks
        ∙ sym (mark_alike (of_names p all) p.header.clock.start records k.fed fed saved.stands.stands.kept.marks)

    -- what is kept then, where the parts have taken the events that are needed and all else is as it was
    pub goes_on : (t : KeyedIntake) (f : Standing) → let wide = setting_by g.clocks (program_with fewer p) all in
        Serves (program_with fewer p) t.told (needed q fed) → Grows t.told.names all → Says g.clocks (count_in g.clocks (length all)) f (facts_by g all before q saved.other saved.waiting saved.known) →
        t.waiting ≡ f.waiting → t.voices ≡ f.names → t.taken ≡ f.taken → Remembers wide (watermark wide (needed q fed)) t.identifiers saved.other.memory → GoesOnBy g fewer all t before
    goes_on t f serves grows says waiting voices taken remembers = record {
      other = other;
      holds = record {
        told = record { lawful = serves.lawful; panes = serves.panes; parts = serves.parts; staying = serves.staying };
        grows = grows;
        waiting = subst (λ (o : Option Waiting). Hear g.clocks (count_in g.clocks (length all)) o saved.other.stamps saved.other.told saved.other.waits) (sym waiting) says.hears;
        remembers = remembers;
      };
      stands = stand;
      few = saved.few;
      voices = subst (λ (o : Option Named). Knows (named_in g.clocks) o (texts.names_of g.source g.clocks (declared_by g all) before)) (sym voices) says.names;
      taken = taken ∙ says.lines;
    }

    -- what is kept of identifiers recalls the same
    pub recalls_on : (kept : doubles.Kept) → kept.entries ≡ saved.known → let wide = setting_by g.clocks (program_with fewer p) all in Recalls wide.clock wide.shape (watermark wide (needed q fed)) kept saved.other.memory
    recalls_on kept same =
        let wide = setting_by g.clocks (program_with fewer p) all in
        let recalls = saved.facts.recalls in
        let at = subst (λ (m : ℤ). Recalls wide.clock wide.shape m (record { entries = saved.known; room = kept.room }) saved.other.memory) (sym same_mark) (record { alike = recalls.alike; prompt = recalls.prompt }) in
        subst (λ (known : Memory). Recalls wide.clock wide.shape (watermark wide (needed q fed)) (record { entries = known; room = kept.room }) saved.other.memory) (sym same) at
