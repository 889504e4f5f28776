-- What passes of deliveries whose identifiers are texts: that of deliveries whose identifiers are numbers, once each text has a
-- number of its own.
use Rattle.std.specs.Prelude.{◌≡◌, ℕ, true, false, zero, suc, ◌*◌, List, [], ◌∷◌, map, ℤ, Option, if◌then◌else◌}
use Rattle.wsm_record.specs.declared.event.Value.{Value}
use Rattle.wsm_record.specs.Event.{Event, Record, Watermark}
use Rattle.wsm_semantics.specs.Query.{Query, mark}
use Rattle.wsm_semantics.specs.Deliveries.{Delivery, Passing, Sent}
use Rattle.wsm_semantics.specs.Deliveries as numbered
use Rattle.wsm_doubles.specs.Memory.{Kept, Memory, Recalls, knows, live, remembered}

-- a record with its identifier
pub record SentText : Type 0 where
  pub identifier : List ℕ
  pub key : Option ℕ
  pub time : ℤ
  pub values : List Value

pub data TextDelivery : Type 0 where
  Comes : (s : SentText) → TextDelivery
  Told : (source : Option ℕ) → (time : ℤ) → TextDelivery

abbrev pub event_of : SentText → Event
event_of s = Record s.key s.time s.values

-- ---- what passes

-- what passed, the newest first, and the identifiers that are remembered
pub record TextPassing : Type 0 where
  pub passed : List Event
  pub memory : Memory

-- an event passes, and what can't count any more is forgotten
abbrev pub passes : Query → Event → Memory → List Event → TextPassing
passes q e memory passed = record { passed = e ∷ passed; memory = live q.clock q.shape (mark q (e ∷ passed)) memory }

-- of deliveries, the newest first
abbrev pub passing_texts : Query → List TextDelivery → TextPassing
passing_texts q [] = record { passed = []; memory = [] }
passing_texts q (Comes s ∷ ds) = let before = passing_texts q ds in
    if knows s.identifier before.memory then before else passes q (event_of s) ((s.identifier, s.time) ∷ before.memory) before.passed
passing_texts q (Told source time ∷ ds) = let before = passing_texts q ds in passes q (Watermark source time) before.memory before.passed

-- ---- numbers of texts

-- an odd number, doubled some times
abbrev pub doubled_odd : ℕ → ℕ → ℕ
doubled_odd zero n = suc (2 * n)
doubled_odd (suc times) n = 2 * doubled_odd times n

-- no other text has its number
abbrev pub number_of : List ℕ → ℕ
number_of [] = 0
number_of (byte ∷ text) = doubled_odd byte (number_of text)

abbrev pub numbered_one : List ℕ × ℤ → ℕ × ℤ
numbered_one k = (number_of k.0, k.1)

abbrev pub sent : SentText → Sent
sent s = record { identifier = number_of s.identifier; key = s.key; time = s.time; values = s.values }

abbrev pub numbered_delivery : TextDelivery → Delivery
numbered_delivery (Comes s) = numbered.Comes (sent s)
numbered_delivery (Told source time) = numbered.Told source time

-- ---- the law

-- the same passed as by numbers, and the same identifiers are remembered
pub record IsNumbered (texts : TextPassing) (numbers : Passing) : Type 0 where
  pub passed : texts.passed ≡ numbers.passed
  pub memory : map numbered_one texts.memory ≡ numbers.memory

-- what is kept knows what is remembered of some deliveries, at the watermark behind what passed
abbrev pub RecallsDeliveries : Query → List TextDelivery → Kept → Type 0
RecallsDeliveries q ds kept = Recalls q.clock q.shape (mark q (passing_texts q ds).passed) kept (passing_texts q ds).memory

-- so it is behind one delivery more: of a watermark, of a double, and of a record that passes and is taken note of
pub record FollowsDeliveries (q : Query) (ds : List TextDelivery) : Type 0 where
  pub told : (source : Option ℕ) (time : ℤ) (kept : Kept) → RecallsDeliveries q ds kept → RecallsDeliveries q (Told source time ∷ ds) kept
  pub double : (s : SentText) (kept : Kept) → knows s.identifier (passing_texts q ds).memory ≡ true → RecallsDeliveries q ds kept → RecallsDeliveries q (Comes s ∷ ds) kept
  pub passed : (s : SentText) (noted : Kept) → knows s.identifier (passing_texts q ds).memory ≡ false
      → Recalls q.clock q.shape (mark q (passing_texts q ds).passed) noted (remembered q.clock q.shape (mark q (passing_texts q ds).passed) s.identifier s.time (passing_texts q ds).memory)
      → RecallsDeliveries q (Comes s ∷ ds) noted
