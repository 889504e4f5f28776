-- What spots tell of the panes that are held, from step to step of a walk.
use Rattle.std.proofs.Common.{◌≡◌, ◌≢◌, ◌≤◌, ◌*◌, ℕ, ℤ, Option, Some, sym, subst}
use Rattle.std.specs.Prelude.{IfSome}
use Rattle.wsm_windows.specs.declared.window.Shape.{Shape}
use Rattle.wsm_windows.specs.declared.window.Shape.TheVariants.{Session}
use Rattle.wsm_windows.specs.Windows.{period_of, size_of}
use Rattle.wsm_slots.specs.declared.spot.Spot.{Spot}
use Rattle.wsm_panes.specs.Held.{Held, IsKept, IsSpot}
use Rattle.wsm_ring.specs.Ring.{slot_of}

pub spot_in : (h : Held) (found : Option Spot) (spot : Spot) → IfSome found (IsSpot h) → found ≡ Some spot → IsSpot h spot
spot_in h found spot all is = subst (λ (x : Option Spot). IfSome x (IsSpot h)) is all

-- it stays one where keys, shape and room stay
pub spot_kept : (h g : Held) (spot : Spot) → IsKept h g → IsSpot h spot → IsSpot g spot
spot_kept h g spot keeps is =
    subst
    (λ (x : ℕ × Shape × ℕ). ((gap : ℤ) → x.1 ≢ Session gap) → 1 ≤ x.0 * x.2 → spot.at ≡ slot_of (record { size = size_of x.1; period = period_of x.1; keys = x.0; bound = x.2 }) spot.place)
    (λ i. (sym keeps.keys i, sym keeps.shape i, sym keeps.live i)) is
