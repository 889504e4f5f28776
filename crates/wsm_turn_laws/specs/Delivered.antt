-- What a run over a log feeds a query with clocks, beside what passes of records that are delivered more than once.
use Rattle.std.specs.Prelude.{◌≡◌, ℕ, ◌+◌, false, List, [], ◌∷◌, ◌++◌, length, map, nat_eq, ℤ, pos, ◌≤ℤ◌, Option, Some, None, Ok, Err, All, Contains, IsPermutation, if◌then◌else◌, ⊤}
use Rattle.wsm_record.specs.Event.{Event, Record, Watermark}
use Rattle.wsm_record.specs.Schema.{Declared}
use Rattle.wsm_windows.specs.Windows.{IsShape}
use Rattle.wsm_admission.specs.Clock.{is_source}
use Rattle.wsm_watermarks.specs.declared.stamp.Stamp.{Stamp}
use Rattle.wsm_semantics.specs.Query.{Query}
use Rattle.wsm_semantics.specs.Deliveries.{AreTimed, PassesAlike, passing}
use Rattle.wsm_doubles.specs.Passing.{Comes, SentText, TextDelivery, Told, numbered_delivery, passing_texts}
use Rattle.wsm_turns.specs.declared.clocks.Clocks.{Clocks}
use Rattle.wsm_turns.specs.Turns.{Kept, Said, Spoken, at_end, fed_with, kept, setting_of, stamp_of}

-- ---- what lines deliver

-- the identifier of a delivery: that of its record, told apart from one of its own, by the number of its line, which a record has that
-- says nothing of time or that has none
abbrev pub identifier_by : ℕ → Option Stamp → Option (List ℕ) → List ℕ
identifier_by number (Some stamp) (Some i) = 0 ∷ i
identifier_by number (Some stamp) None = 1 ∷ number ∷ []
identifier_by number None identifier = 1 ∷ number ∷ []

abbrev pub identifier_of : Declared → ℕ → Spoken → List ℕ
identifier_of d number x = identifier_by number (stamp_of d x.event) x.identifier

-- a record with its identifier
abbrev pub sent_of : List ℕ → Event → List SentText
sent_of identifier (Record key time values) = record { identifier = identifier; key = key; time = time; values = values } ∷ []
sent_of identifier (Watermark source time) = []

-- the records that lines deliver, the newest first
abbrev pub delivered : {F : Type 0} → Declared → List (Said F) → List SentText
delivered d [] = []
delivered d (Err why ∷ before) = delivered d before
delivered d (Ok x ∷ before) = sent_of (identifier_of d (length before + 1) x) x.event ++ delivered d before

-- the identifier of the line of a number
abbrev pub identifier_at : {F : Type 0} → Declared → List (Said F) → ℕ → List ℕ
identifier_at d [] number = []
identifier_at d (Err why ∷ before) number = identifier_at d before number
identifier_at d (Ok x ∷ before) number = if nat_eq number (length before + 1) then identifier_of d (length before + 1) x else identifier_at d before number

-- those of the records that wait
abbrev pub waiting_identifiers : {F : Type 0} → Declared → List (Said F) → Kept → List (List ℕ)
waiting_identifiers d lines k = map (λ r. identifier_at d lines r.row.number) k.waits

-- ---- the premises

-- a record, or a watermark of another source than the first, which clocks tell
abbrev pub LeavesMark : Event → Type 0
LeavesMark (Record key time values) = ⊤
LeavesMark (Watermark source time) = is_source 0 source ≡ false

abbrev pub AllLeaveMark : {F : Type 0} → List (Said F) → Type 0
AllLeaveMark [] = ⊤
AllLeaveMark (Err why ∷ before) = AllLeaveMark before
AllLeaveMark (Ok x ∷ before) = LeavesMark x.event × AllLeaveMark before

-- clocks begin no sooner than the query, whose windows are some and whose lateness is a span
pub record Suits (c : Clocks) (q : Query) : Type 0 where
  pub shape : IsShape q.shape
  pub lateness : pos 0 ≤ℤ q.clock.lateness
  pub start : q.clock.start ≤ℤ pos c.rule.start

-- ---- the law

-- the records of deliveries
abbrev pub records_of : List TextDelivery → List SentText
records_of [] = []
records_of (Comes s ∷ ds) = s ∷ records_of ds
records_of (Told source time ∷ ds) = records_of ds

-- events are what passes of deliveries, by texts and by numbers
pub record IsPassed (q : Query) (fed : List Event) (ds : List TextDelivery) : Type 0 where
  pub texts : fed ≡ (passing_texts q ds).passed
  pub numbers : fed ≡ (passing q (map numbered_delivery ds)).passed

-- where identifiers come with times as the law of deliveries asks, in the order of the lines, they do so in that of these deliveries
abbrev pub ComesTimed : {F : Type 0} → Query → List (Said F) → List TextDelivery → Type 0
ComesTimed q lines ds = (time_of : ℕ → ℤ) → AreTimed time_of (map numbered_delivery (map Comes (delivered q.declared lines))) → AreTimed time_of (map numbered_delivery ds)

-- The query was fed what passes of some deliveries. They bring the records that the lines delivered, in another order, but for those that
-- wait and the doubles of these. Their watermarks are those that it was fed, since each passes
pub record FeedsDeliveries {F : Type 0} (q : Query) (c : Clocks) (lines : List (Said F)) : Type 0 where
  pub deliveries : List TextDelivery
  pub waiting : List SentText
  pub fed : IsPassed q (kept (setting_of (Some c) q) lines).fed deliveries
  pub records : IsPermutation (delivered q.declared lines) (records_of deliveries ++ waiting)
  pub timed : ComesTimed q lines deliveries
  pub waits : All (λ s. Contains (waiting_identifiers q.declared lines (kept (setting_of (Some c) q) lines)) s.identifier) waiting

-- at the end of the log it is fed what waits, and no record of the lines is left
pub record EndsDeliveries {F : Type 0} (q : Query) (c : Clocks) (lines : List (Said F)) : Type 0 where
  pub deliveries : List TextDelivery
  pub fed : let k = kept (setting_of (Some c) q) lines in IsPassed q (fed_with k.fed (at_end k)) deliveries
  pub records : IsPermutation (delivered q.declared lines) (records_of deliveries)
  pub timed : ComesTimed q lines deliveries

-- so each record counts as it does where it comes once
pub record CountsOnce {F : Type 0} (q : Query) (c : Clocks) (lines : List (Said F)) : Type 0 where
  pub ends : EndsDeliveries q c lines
  pub alike : PassesAlike q (map numbered_delivery ends.deliveries)

-- where identifiers come with such times
abbrev pub CountOnce : {F : Type 0} → Query → Clocks → List (Said F) → Type 0
CountOnce q c lines = (time_of : ℕ → ℤ) → AreTimed time_of (map numbered_delivery (map Comes (delivered q.declared lines))) → CountsOnce q c lines
