-- What an admission keeps of a history, and how an event changes it.
use Rattle.std.specs.Prelude.{◌≡◌, ℕ, ◌+◌, ◌<◌, ◌≤◌, min, List, ◌∷◌, All, length, replicate, ℤ, pos, ◌≤ℤ◌, Option, Some, None, Result, Ok, Err, unsigned_abs, slice_set}
use Rattle.wsm_record.specs.declared.limits.TheConstants.{LATEST_TIME}
use Rattle.wsm_record.specs.Event.{Event, Record, Watermark}
use Rattle.wsm_record.specs.Schema.{Declared, source_count}
use Rattle.wsm_windows.specs.declared.window.Shape.{Shape}
use Rattle.wsm_windows.specs.Windows.{IsTime}
use Rattle.wsm_admission.specs.declared.clock.Clock.{Clock}
use Rattle.wsm_admission.specs.declared.verdict.Admitted.{Admitted}
use Rattle.wsm_admission.specs.declared.verdict.Admitted.TheVariants as admitted
use Rattle.wsm_admission.specs.declared.verdict.Refusal.{Refusal}
use Rattle.wsm_admission.specs.declared.verdict.Refusal.TheVariants as refusal
use Rattle.wsm_admission.specs.Clock.{IsWithinLimits, verdict, verdict_at, marks_of, least, watermark_of, admitted_count, late_count, refused_count}

-- a counter of 64 bits, which stays at its greatest value
abbrev pub counter : ℕ → ℕ
counter n = min n 18446744073709551615

-- what is kept
pub record State : Type 0 where
  pub clock : Clock
  pub marks : List ℤ  -- of the sources
  pub mark : ℤ  -- the least of them
  pub admitted : ℕ
  pub late : ℕ
  pub refused : ℕ

-- before the first event
abbrev pub opened : Clock → Declared → State
opened c declared = record { clock = c; marks = replicate (source_count declared) c.start; mark = c.start; admitted = 0; late = 0; refused = 0 }

-- what is kept lies in its ranges
pub record IsInRange (s : State) : Type 0 where
  pub limits : IsWithinLimits s.clock
  pub some : 1 ≤ length s.marks
  pub marks : All IsTime s.marks
  pub least : s.mark ≡ least s.marks
  pub mark_from : pos 0 ≤ℤ s.mark
  pub mark_to : s.mark ≤ℤ LATEST_TIME
  pub admitted_to : s.admitted ≤ unsigned_abs s.clock.records

-- the answer to an event that takes the watermark from old to new, where a rule refuses it or none
abbrev pub answer : ℤ → ℤ → Event → Option Refusal → Result Admitted Refusal
answer old new e (Some r) = Err r
answer old new (Record key time values) None = Ok admitted.Record
answer old new (Watermark source time) None = Ok (admitted.Watermark old new)

-- the answer to an event after a history
abbrev pub answer_after : Clock → Shape → Declared → List Event → Event → Result Admitted Refusal
answer_after c shape declared past e = answer (watermark_of c declared past) (watermark_of c declared (e ∷ past)) e (verdict c shape declared past e)

-- the marks after an event that is taken
abbrev pub marks_with : List ℤ → Event → List ℤ
marks_with marks (Record key time values) = marks
marks_with marks (Watermark None time) = marks
marks_with marks (Watermark (Some s) time) = slice_set marks s time

-- a record has room under the limit; a watermark is of a source that has a mark, and in range
abbrev pub MayTake : State → Event → Type 0
MayTake s (Record key time values) = s.admitted < unsigned_abs s.clock.records
MayTake s (Watermark None time) = ⊥
MayTake s (Watermark (Some n) time) = (n < length s.marks) × IsTime time

-- the answer to an event, by what is kept
abbrev pub decision : Shape → Declared → State → Event → Result Admitted Refusal
decision shape declared s e = answer s.mark (least (marks_with s.marks e)) e (verdict_at s.clock shape declared s.marks s.admitted e)

-- what is kept after an answer to an event
abbrev pub after : Result Admitted Refusal → Event → State → State
after (Ok admitted.Record) e s = record s { admitted = s.admitted + 1 }
after (Ok (admitted.Watermark old new)) e s = record s { marks = marks_with s.marks e; mark = new }
after (Err refusal.Late) e s = record s { late = counter (s.late + 1) }
after (Err _) e s = record s { refused = counter (s.refused + 1) }

-- what is kept is the history's
pub record Fits (shape : Shape) (declared : Declared) (s : State) (past : List Event) : Type 0 where
  pub marks : s.marks ≡ marks_of s.clock declared past
  pub mark : s.mark ≡ watermark_of s.clock declared past
  pub admitted : s.admitted ≡ admitted_count s.clock shape declared past
  pub late : s.late ≡ counter (late_count s.clock shape declared past)
  pub refused : s.refused ≡ counter (refused_count s.clock shape declared past)

-- an event is decided on: the first rule that refuses it, or what it does to the clock. It is the
-- definition's decision, and what is kept then fits the history with the event in front
pub record Decides (shape : Shape) (declared : Declared) (old new : State) (e : Event) (result : Result Admitted Refusal) : Type 0 where
  pub decision : result ≡ decision shape declared old e
  pub state : new ≡ after result e old
  pub range : IsInRange new
  pub verdict : (past : List Event) → Fits shape declared old past → result ≡ answer_after old.clock shape declared past e
  pub fits : (past : List Event) → Fits shape declared old past → Fits shape declared new (e ∷ past)
