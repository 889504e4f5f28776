-- A pane that is held at a spot.
use Rattle.std.specs.Prelude.{◌≡◌, List, Some}
use Rattle.std.specs.FinMap.Entries.{find}
use Rattle.wsm_record.specs.declared.event.Value.{Value}
use Rattle.wsm_windows.specs.Places.{place_cmp}
use Rattle.wsm_semantics.specs.Summaries.{Pane}
use Rattle.wsm_slots.specs.declared.spot.Spot.{Spot}
use Rattle.wsm_panes.specs.Held.{Held, entries_of}

-- the pane that is held at a spot
abbrev pub Holds : Held → Spot → Pane (List Value) → Type 0
Holds h spot pane = find place_cmp spot.place (entries_of h) ≡ Some pane
