-- Walks over panes in the order of their places.
use Rattle.std.specs.Prelude.{if◌then◌else◌, ℤ, List, [], ◌∷◌, Option, Some, None, option_map}
use Rattle.std.specs.Ordering.{is_lt}
use Rattle.wsm_windows.specs.declared.place.Place.{Place}
use Rattle.wsm_windows.specs.Places.{place_cmp}
use Rattle.wsm_slots.specs.declared.spot.Spot.{Spot}
use Rattle.wsm_slots.specs.Place.{is_kept}

-- the first entry behind a place
abbrev pub following : {P : Type 0} → Place → List (Place × P) → Option (Place × P)
following place [] = None
following place (e ∷ es) = if is_lt (place_cmp place e.0) then Some e else following place es

-- the first entry whose window ends past a time
abbrev pub first_past : {P : Type 0} → ℤ → List (Place × P) → Option (Place × P)
first_past after [] = None
first_past after (e ∷ es) = if is_kept after e.0 then Some e else first_past after es

-- the place of an entry, if there is one and its window ends by a limit
abbrev pub place_due : {P : Type 0} → ℤ → Option (Place × P) → Option Place
place_due limit None = None
place_due limit (Some e) = if is_kept limit e.0 then None else Some e.0

-- the place that was found, if one was
abbrev pub place_found : Option Spot → Option Place
place_found spot = option_map (λ (s : Spot). s.place) spot
