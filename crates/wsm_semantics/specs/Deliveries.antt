-- Deliveries that come at least once: a record with an identifier may come again. Each is to pass once. Whoever leaves out all
-- that came before keeps every identifier for ever; here is what passes where an identifier is forgotten as soon as a record of
-- its time would be late. Identifiers, and what is late, are this project's own rules.
use Rattle.std.specs.Prelude.{◌≡◌, ℕ, Bool, true, false, not, List, [], ◌∷◌, map, filter, ℤ, ◌≤ℤ◌, nat_eq, Option, if◌then◌else◌}
use Rattle.std.specs.List.{AllByRecursion, list_any}
use Rattle.wsm_record.specs.declared.event.Value.{Value}
use Rattle.wsm_record.specs.Event.{Event, Record, Watermark}
use Rattle.wsm_admission.specs.Clock.{is_late}
use Rattle.wsm_semantics.specs.Query.{Query, mark, verdict_on, selected}
use Rattle.wsm_semantics.specs.Firings.{firings_so_far}
use Rattle.wsm_semantics.specs.Summaries.{Plan, summary_fired}
use Rattle.wsm_semantics.specs.LastingRows.{rows_so_far}
use Rattle.wsm_semantics.specs.ByKey.{at_turn}

-- a record with its identifier
pub record Sent : Type 0 where
  pub identifier : ℕ
  pub key : Option ℕ
  pub time : ℤ
  pub values : List Value

pub data Delivery : Type 0 where
  Comes : (s : Sent) → Delivery
  Told : (source : Option ℕ) → (time : ℤ) → Delivery

abbrev pub event_of : Sent → Event
event_of s = Record s.key s.time s.values

-- ---- all that came before is left out

abbrev pub is_of : ℕ → Delivery → Bool
is_of i (Comes s) = nat_eq s.identifier i
is_of i (Told source time) = false

-- a delivery of the identifier came before
abbrev pub came : ℕ → List Delivery → Bool
came i ds = list_any (is_of i) ds

-- the first deliveries, the newest first
abbrev pub firsts : List Delivery → List Sent
firsts [] = []
firsts (Comes s ∷ ds) = if came s.identifier ds then firsts ds else s ∷ firsts ds
firsts (Told source time ∷ ds) = firsts ds

-- what passes, the newest first
abbrev pub once_all : List Delivery → List Event
once_all [] = []
once_all (Comes s ∷ ds) = if came s.identifier ds then once_all ds else event_of s ∷ once_all ds
once_all (Told source time ∷ ds) = Watermark source time ∷ once_all ds

-- ---- with a small memory

-- what passed, and the identifiers that are remembered, with their times
pub record Passing : Type 0 where
  pub passed : List Event
  pub memory : List (ℕ × ℤ)

abbrev pub knows : ℕ → List (ℕ × ℤ) → Bool
knows i memory = list_any (λ k. nat_eq k.0 i) memory

-- a record of its time isn't late yet
abbrev pub may_count : Query → ℤ → ℕ × ℤ → Bool
may_count q w k = not (is_late q.clock q.shape w k.1)

-- an event passes, and what can't count any more is forgotten
abbrev pub passes : Query → Event → List (ℕ × ℤ) → List Event → Passing
passes q e memory passed = record { passed = e ∷ passed; memory = filter (may_count q (mark q (e ∷ passed))) memory }

abbrev pub passing : Query → List Delivery → Passing
passing q [] = record { passed = []; memory = [] }
passing q (Comes s ∷ ds) = let before = passing q ds in
    if knows s.identifier before.memory then before else passes q (event_of s) ((s.identifier, s.time) ∷ before.memory) before.passed
passing q (Told source time ∷ ds) = let before = passing q ds in passes q (Watermark source time) before.memory before.passed

abbrev pub once_live : Query → List Delivery → List Event
once_live q ds = (passing q ds).passed

-- ---- the law

-- an identifier has the time of its first delivery, and none that comes again has a later one
abbrev pub AreTimed : (ℕ → ℤ) → List Delivery → Type 0
AreTimed time_of [] = Unit {0}
AreTimed time_of (Comes s ∷ ds) = (s.time ≤ℤ time_of s.identifier) × (came s.identifier ds ≡ false → s.time ≡ time_of s.identifier) × AreTimed time_of ds
AreTimed time_of (Told source time ∷ ds) = AreTimed time_of ds

-- what passes has the watermark of what passes without the doubles; each event has the verdict that it has there; the same
-- records are selected, at other turns; and what is remembered came, and a record of its time isn't late
pub record PassesAlike (q : Query) (ds : List Delivery) : Type 0 where
  pub watermark : mark q (once_live q ds) ≡ mark q (once_all ds)
  pub verdict : (e : Event) → verdict_on q (once_live q ds) e ≡ verdict_on q (once_all ds) e
  pub selected : map (at_turn (λ n. 0)) (selected q (once_live q ds)) ≡ map (at_turn (λ n. 0)) (selected q (once_all ds))
  pub told : AllByRecursion (λ k. came k.0 ds ≡ true) (passing q ds).memory
  pub prompt : AllByRecursion (λ k. is_late q.clock q.shape (mark q (once_live q ds)) k.1 ≡ false) (passing q ds).memory

-- and the same rows are written, by panes and by streams, of firings over as many records that are folded to the same
pub record WritesOnce {X : Type 0} (plan : Plan X) (q : Query) (ds : List Delivery) : Type 0 where
  pub rows : rows_so_far q (once_live q ds) ≡ rows_so_far q (once_all ds)
  pub fired : map (summary_fired plan) (firings_so_far q (once_live q ds)) ≡ map (summary_fired plan) (firings_so_far q (once_all ds))
