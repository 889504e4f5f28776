-- How late the records are that a query's clock takes: a history has its newest event first.
use Rattle.std.specs.Prelude.{Bool, true, false, List, [], ◌∷◌, ℤ, Option, Some, None, is_some}
use Rattle.std.specs.Int.{int_max}
use Rattle.wsm_record.specs.Event.{Event, Record, Watermark}
use Rattle.wsm_record.specs.Schema.{Declared}
use Rattle.wsm_windows.specs.declared.window.Shape.{Shape}
use Rattle.wsm_admission.specs.declared.clock.Clock.{Clock}
use Rattle.wsm_admission.specs.Clock.{verdict}

-- the later of two times
abbrev pub later : Option ℤ → ℤ → Option ℤ
later None time = Some time
later (Some before) time = Some (int_max before time)

-- behind an event, which may be refused
abbrev pub latest_with : Option ℤ → Event → Bool → Option ℤ
latest_with latest (Record key time values) true = latest
latest_with latest (Record key time values) false = later latest time
latest_with latest (Watermark source time) is_refused = latest

-- the greatest time of the records that are admitted, if there are any
abbrev pub latest_time : Clock → Shape → Declared → List Event → Option ℤ
latest_time c shape declared [] = None
latest_time c shape declared (e ∷ past) = latest_with (latest_time c shape declared past) e (is_some (verdict c shape declared past e))
