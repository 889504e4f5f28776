use Rattle.std.proofs.Common.{◌≡◌, ℕ, ◌<◌, ◌≤◌, List}
use Rattle.std.specs.List.{range_with_len, sum_by}
use Rattle.wsm_record.specs.Event.{Event, event_of}
use Rattle.wsm_admission.specs.Admission.{counter}
use Rattle.wsm_part_engines.specs.Fits.{engine_at}
use Rattle.wsm_part_engines.specs.Slots.{Feeds, Holds, fired_on}
use Rattle.wsm_part_engines.proofs.slots.feed_all.Given as goal

-- the engines that were gone over took the event, and the others didn't
abbrev pub invariant-loop-slot : goal.invariant-loop-slot
invariant-loop-slot l = record {
  each : (part : ℕ) → part < l.slot-index → (some : ℕ) × Feeds (engine_at l.fn.slots part) (engine_at l.slots part) (event_of l.event) some;
  others : (part : ℕ) → l.slot-index ≤ part → engine_at l.slots part ≡ engine_at l.fn.slots part;
  fired : (fed : ℕ → List Event) → ((part : ℕ) → Holds (engine_at l.fn.slots part) (fed part)) →
      l.fired ≡ counter (sum_by (λ part. fired_on (engine_at l.fn.slots part) (fed part) (event_of l.event)) (range_with_len 0 l.slot-index));
}
