-- What a trigger says of the queries that have it.
use Rattle.std.specs.Prelude.{◌≡◌, ℤ, pos, ◌+ℤ◌, ◌-ℤ◌, ◌≤ℤ◌}
use Rattle.wsm_record.specs.declared.words.Mode.{Mode}
use Rattle.wsm_windows.specs.Windows.{greatest_span, greatest_time}
use Rattle.wsm_windows.specs.declared.place.Place.{Place}
use Rattle.wsm_semantics.specs.Query.{Query}
use Rattle.wsm_triggers.specs.declared.firing.Trigger.{Trigger}

-- the end of a window that a time can stand in
pub record IsEnd (end : ℤ) : Type 0 where
  pub low : (pos 0 -ℤ greatest_span) ≤ℤ end
  pub high : end ≤ℤ (greatest_time +ℤ greatest_span)

-- the query has the trigger's counts
pub record IsTriggerOf (q : Query) (trigger : Trigger) : Type 0 where
  pub early : q.early ≡ trigger.early
  pub late : q.late ≡ trigger.late

-- a place with this end, in a query with this mode and lateness
pub record EndsIn (q : Query) (place : Place) (mode : Mode) (lateness end : ℤ) : Type 0 where
  pub ends : place.end ≡ end
  pub combines : q.mode ≡ mode
  pub waits : q.clock.lateness ≡ lateness
