-- Rows with watermarks among them, and what a query decides on the records. Each record has in front of it the watermark
-- that it raises.
use Rattle.std.specs.Prelude.{◌≡◌, ℕ, ◌+◌, ◌≤◌, Bool, true, List, [], ◌∷◌, ◌++◌, map, pos, ◌+ℤ◌, ◌≤ℤ◌, Option, Some, None}
use Rattle.wsm_record.specs.declared.event.Value.{Value}
use Rattle.wsm_record.specs.Event.{Event, Record, Watermark}
use Rattle.wsm_record.specs.Schema.{Declared}
use Rattle.wsm_windows.specs.declared.window.Shape.{Shape}
use Rattle.wsm_admission.specs.declared.clock.Clock.{Clock}
use Rattle.wsm_admission.specs.declared.verdict.Refusal.TheVariants.{Late, TooFarAhead}
use Rattle.wsm_admission.specs.Clock.{is_time, verdict, watermark_of}
use Rattle.wsm_watermarks.specs.declared.held.Timed.{Timed}
use Rattle.wsm_watermarks.specs.declared.rule.Rule.{Rule}
use Rattle.wsm_watermarks.specs.declared.stamp.Stamp.{Stamp}
use Rattle.wsm_watermarks.specs.Agreement.{raised_by}
use Rattle.wsm_watermarks.specs.Held.{AreInTime, Item, Mark, Passed}
use Rattle.wsm_watermarks.specs.Laws.{AreFewWrong, AreRightTo, Told}

-- a record, the clock that stamped it, and whether that was wrong, which nothing looks at
pub record Row : Type 0 where
  pub clock : ℕ
  pub wrong : Bool
  pub key : Option ℕ
  pub time : ℕ
  pub values : List Value

abbrev pub stamp_of : Row → Stamp
stamp_of row = record { clock = row.clock; time = row.time }

abbrev pub stamps_of : List Row → List Stamp
stamps_of rows = map stamp_of rows

abbrev pub record_of : Row → Event
record_of row = Record row.key (pos row.time) row.values

abbrev pub mark_row : Option ℕ → List Event
mark_row None = []
mark_row (Some m) = Watermark (Some 0) (pos m) ∷ []

-- the events of some rows, the newest first
abbrev pub served : Rule → List Row → List Event
served rule [] = []
served rule (row ∷ rows) = record_of row ∷ mark_row (raised_by rule (stamps_of rows) (stamp_of row)) ++ served rule rows

-- the events in front of the record of a row that comes next
abbrev pub in_front : Rule → List Row → Row → List Event
in_front rule rows row = mark_row (raised_by rule (stamps_of rows) (stamp_of row)) ++ served rule rows

-- the stamps of rows, each with whether it is wrong
abbrev pub told_by : List Row → List Told
told_by rows = map (λ row. record { stamp = stamp_of row; wrong = row.wrong }) rows

-- a record is never late, where it is at most the bound behind the right stamps so far, and not late by where watermarks begin
abbrev pub IsNeverLate : Rule → Clock → Shape → Declared → Type 0
IsNeverLate rule c shape declared =
    (rows : List Row) → AreFewWrong rule.agree rule.forget (told_by rows) → (time : ℕ) → AreRightTo time (told_by rows)
    → (row : Row) → time ≤ row.time + rule.bound → c.start ≤ℤ (pos row.time +ℤ c.lateness)
    → verdict c shape declared (in_front rule rows row) (record_of row) ≡ Some Late → ⊥

-- ---- rows that waited

-- the event of a row, by what it says
abbrev pub event_of_row : {T : Type 0} → (T → Option ℕ) → (T → List Value) → Timed T → Event
event_of_row key values r = Record (key r.row) (pos r.time) (values r.row)

-- a watermark is in range
abbrev pub AreInRange : {T : Type 0} → List (Item T) → Type 0
AreInRange [] = Unit {0}
AreInRange (Mark m ∷ is) = (is_time (pos m) ≡ true) × AreInRange is
AreInRange (Passed r ∷ is) = AreInRange is

-- behind a history each row that is handed on is neither late nor too far ahead
abbrev pub AreAllInTime : {T : Type 0} → Clock → Shape → Declared → (T → Option ℕ) → (T → List Value) → List Event → List (Item T) → Type 0
AreAllInTime c shape declared key values past [] = Unit {0}
AreAllInTime c shape declared key values past (Mark m ∷ is) = AreAllInTime c shape declared key values (Watermark (Some 0) (pos m) ∷ past) is
AreAllInTime c shape declared key values past (Passed r ∷ is) =
    (verdict c shape declared past (event_of_row key values r) ≡ Some Late → ⊥)
    × (verdict c shape declared past (event_of_row key values r) ≡ Some TooFarAhead → ⊥)
    × AreAllInTime c shape declared key values (event_of_row key values r ∷ past) is

-- rows that go in time, behind a history with the last watermark that was told, by a query whose SKEW is as much as they may be ahead
abbrev pub VerdictsInTime : {T : Type 0} → (T → Option ℕ) → (T → List Value) → Clock → Shape → Declared → Type 0
VerdictsInTime {T} key values c shape declared =
    (span : ℕ) → pos span ≤ℤ c.skew → (past : List Event) (mark : ℕ) → watermark_of c declared past ≡ pos mark
    → (items : List (Item T)) → AreInRange items → AreInTime span mark items → AreAllInTime c shape declared key values past items
