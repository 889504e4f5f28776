-- A record that is late by its own time alone stands in each window of its time: each was live before its turn.
use Rattle.std.specs.Prelude.{◌≡◌, true, List}
use Rattle.std.specs.List.{AllByRecursion}
use Rattle.wsm_record.specs.Event.{Event}
use Rattle.wsm_windows.specs.declared.window.Window.{Window}
use Rattle.wsm_windows.specs.Windows.{has_inside}
use Rattle.wsm_windows.specs.Life.{is_live}
use Rattle.wsm_semantics.specs.Query.{Datum, Query, selected}

-- each window that has the record inside was live before its turn
abbrev pub IsLiveEverywhere : Query → Datum → Type 0
IsLiveEverywhere q d = (w : Window) → has_inside d.time w ≡ true → is_live w q.clock.lateness d.mark ≡ true

abbrev pub AllLive : Query → Type 0
AllLive q = (past : List Event) → AllByRecursion (IsLiveEverywhere q) (selected q past)
