-- The watermark after a history, and the verdict on an event. A history is a list of events, the
-- newest first. The watermark, a claim of the sources on what is still to come, is the Dataflow
-- Model's (Akidau et al. 2015): the least of those of the sources. The verdicts, their order and the
-- counts are this project's own.
use Rattle.std.specs.Prelude.{◌≡◌, ℕ, ◌+◌, ◌≤◌, Bool, true, false, ◌&&◌, not, if◌then◌else◌, List, [], ◌∷◌, length, map, ℤ, pos, ◌+ℤ◌, ◌≤ℤ◌, int_lt, int_le, unsigned_abs, nat_eq, nat_lt, nat_le, Option, Some, None, slice_get}
use Rattle.std.specs.List.{fold, list_any, range_with_len}
use Rattle.std.specs.Int.{int_max, int_min}
use Rattle.wsm_record.specs.declared.event.Value.{Value}
use Rattle.wsm_record.specs.declared.limits.TheConstants.{LATEST_TIME, LONGEST_SPAN}
use Rattle.wsm_record.specs.Event.{Event, Record, Watermark}
use Rattle.wsm_record.specs.Schema.{Declared, fit_fields, source_count}
use Rattle.wsm_windows.specs.declared.window.Shape.{Shape}
use Rattle.wsm_windows.specs.declared.window.Shape.TheVariants.{Fixed, Sliding, Session}
use Rattle.wsm_windows.specs.Windows.{IsShape, windows_of_shape}
use Rattle.wsm_windows.specs.Life.{is_live}
use Rattle.wsm_windows.specs.Limits.{is_size, is_span}
pub use Rattle.wsm_windows.specs.Limits.{is_time}
use Rattle.wsm_admission.specs.declared.clock.Clock.{Clock}
use Rattle.wsm_admission.specs.declared.verdict.Refusal.{Refusal}
use Rattle.wsm_admission.specs.declared.verdict.Refusal.TheVariants as refusal

-- lateness is counted from a record's own time, or from the ends of windows that don't move, as those of sessions do
abbrev pub is_timely : Bool → Shape → Bool
is_timely from_window (Fixed size) = true
is_timely from_window (Sliding size period) = true
is_timely from_window (Session gap) = not from_window

-- a shape whose windows are those that lateness is counted from, where it is
pub record IsTimely (from_window : Bool) (shape : Shape) : Type 0 where
  pub windows : IsShape shape
  pub stays : is_timely from_window shape ≡ true

-- a clock whose numbers lie in the limits
pub record IsWithinLimits (c : Clock) : Type 0 where
  pub start_from : pos 0 ≤ℤ c.start
  pub start_to : c.start ≤ℤ LATEST_TIME
  pub skew_from : pos 0 ≤ℤ c.skew
  pub skew_to : c.skew ≤ℤ LONGEST_SPAN
  pub lateness_from : pos 0 ≤ℤ c.lateness
  pub lateness_to : c.lateness ≤ℤ LONGEST_SPAN
  pub records_from : pos 1 ≤ℤ c.records
  pub records_to : c.records ≤ℤ LONGEST_SPAN

-- the numbers that a program states for it lie in the limits
abbrev pub is_limited : Clock → Bool
is_limited c = is_time c.start && (is_span c.skew && (is_span c.lateness && is_size c.records))

-- the number is that of a source
abbrev pub is_source : ℕ → Option ℕ → Bool
is_source s None = false
is_source s (Some n) = nat_eq n s

-- the mark of a source: the greatest among the start and all its watermarks in range
abbrev pub source_mark : Clock → ℕ → List Event → ℤ
source_mark c s [] = c.start
source_mark c s (Record key time values ∷ past) = source_mark c s past
source_mark c s (Watermark source time ∷ past) = let mark = source_mark c s past in if is_source s source && is_time time then int_max mark time else mark

-- the marks of all sources
abbrev pub marks_of : Clock → Declared → List Event → List ℤ
marks_of c declared past = map (λ s. source_mark c s past) (range_with_len 0 (source_count declared))

-- the least of some marks
abbrev pub least : List ℤ → ℤ
least [] = pos 0
least (m ∷ ms) = fold int_min m ms

-- the watermark: the least of the marks
abbrev pub watermark_of : Clock → Declared → List Event → ℤ
watermark_of c declared past = least (marks_of c declared past)

-- an event raises the watermark
abbrev pub rises : Clock → Declared → List Event → Event → Bool
rises c declared past e = int_lt (watermark_of c declared past) (watermark_of c declared (e ∷ past))

-- further ahead of the watermark than the skew
abbrev pub is_too_far_ahead : Clock → ℤ → ℤ → Bool
is_too_far_ahead c mark time = int_lt (mark +ℤ c.skew) time

-- the time is further behind a mark than the lateness; or, counted from windows, none of its own is live
abbrev pub is_late_by : Bool → Shape → ℤ → ℤ → ℤ → Bool
is_late_by false shape lateness mark time = int_lt (time +ℤ lateness) mark
is_late_by true shape lateness mark time = not (list_any (λ w. is_live w lateness mark) (windows_of_shape shape time))

-- late, at the watermark
abbrev pub is_late : Clock → Shape → ℤ → ℤ → Bool
is_late c shape mark time = is_late_by c.from_window shape c.lateness mark time

-- the number of a declared key
abbrev pub is_key : Declared → Option ℕ → Bool
is_key declared None = false
is_key declared (Some key) = nat_lt key (length declared.keys)

-- the values of an event are one of each declared field; a watermark has none
abbrev pub fits_declared : Declared → Event → Bool
fits_declared declared (Record key time values) = fit_fields declared.fields values
fits_declared declared (Watermark source time) = true

-- the first rule that refuses a record, at a watermark and after a number of admitted records
abbrev pub record_refusal : Clock → Shape → Declared → ℤ → ℕ → Option ℕ → ℤ → List Value → Option Refusal
record_refusal c shape declared mark admitted key time values =
    if not (is_key declared key) then Some refusal.UnknownKey
    else if not (fit_fields declared.fields values) then Some refusal.FieldRange
    else if not (is_time time) then Some refusal.TimeRange
    else if is_too_far_ahead c mark time then Some refusal.TooFarAhead
    else if is_late c shape mark time then Some refusal.Late
    else if nat_le (unsigned_abs c.records) admitted then Some refusal.RecordLimit
    else None

-- the mark of a source, if it is one
abbrev pub mark_at : List ℤ → Option ℕ → Option ℤ
mark_at marks None = None
mark_at marks (Some s) = slice_get marks s

-- the first rule that refuses a watermark, where its source has a mark, or none
abbrev pub watermark_refusal : Option ℤ → ℤ → Option Refusal
watermark_refusal None time = Some refusal.UnknownSource
watermark_refusal (Some mark) time =
    if not (is_time time) then Some refusal.TimeRange
    else if int_le time mark then Some refusal.NotRising
    else None

-- the first rule that refuses an event, or none, at the marks of the sources and after a number of
-- admitted records
abbrev pub verdict_at : Clock → Shape → Declared → List ℤ → ℕ → Event → Option Refusal
verdict_at c shape declared marks admitted (Record key time values) = record_refusal c shape declared (least marks) admitted key time values
verdict_at c shape declared marks admitted (Watermark source time) = watermark_refusal (mark_at marks source) time

abbrev pub admitted_with : ℕ → Event → Option Refusal → ℕ
admitted_with before (Record key time values) None = before + 1
admitted_with before e refused = before

-- the number of records admitted in a history
abbrev pub admitted_count : Clock → Shape → Declared → List Event → ℕ
admitted_count c shape declared [] = 0
admitted_count c shape declared (e ∷ past) = let before = admitted_count c shape declared past in
    admitted_with before e (verdict_at c shape declared (marks_of c declared past) before e)

-- the verdict on an event after a history
abbrev pub verdict : Clock → Shape → Declared → List Event → Event → Option Refusal
verdict c shape declared past e = verdict_at c shape declared (marks_of c declared past) (admitted_count c shape declared past) e

abbrev pub late_with : ℕ → Option Refusal → ℕ
late_with before (Some refusal.Late) = before + 1
late_with before _ = before

-- the number of late records in a history
abbrev pub late_count : Clock → Shape → Declared → List Event → ℕ
late_count c shape declared [] = 0
late_count c shape declared (e ∷ past) = late_with (late_count c shape declared past) (verdict c shape declared past e)

abbrev pub refused_with : ℕ → Option Refusal → ℕ
refused_with before None = before
refused_with before (Some refusal.Late) = before
refused_with before (Some r) = before + 1

-- the number of events refused in a history, without the late records
abbrev pub refused_count : Clock → Shape → Declared → List Event → ℕ
refused_count c shape declared [] = 0
refused_count c shape declared (e ∷ past) = refused_with (refused_count c shape declared past) (verdict c shape declared past e)
