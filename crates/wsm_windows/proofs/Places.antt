-- The order of places is total, and equal places alone tie.
use Rattle.std.proofs.Common.{◌≡◌, true, ap}
use Rattle.std.specs.Ordering.{eq_by_cmp, int_cmp, nat_cmp}
use Rattle.std.specs.Cmp.{Equal-is}
use Rattle.std.specs.FinMap.{IsAntisymmetric}
use Rattle.std.proofs.lemmas.Map.Lookups.{exact_pairs, exact_signed, exact_unsigned}
use Rattle.wsm_windows.specs.declared.place.Place.{Place}
use Rattle.wsm_windows.specs.Places.{place_cmp}
pub use Rattle.wsm_windows.specs.PlaceOrder.{places_total}

-- only equal places tie
pub places_exact : IsAntisymmetric place_cmp
places_exact a b h =
    ap (λ (p : _). let q : Place = record { end = p.0; start = p.1.0; key = p.1.1 } in q)
    (exact_pairs int_cmp _ exact_signed (exact_pairs int_cmp nat_cmp exact_signed exact_unsigned) (a.end, (a.start, a.key)) (b.end, (b.start, b.key)) h)

-- a place that ties is that place
pub tie_is : (p r : Place) → eq_by_cmp place_cmp p r ≡ true → p ≡ r
tie_is p r h = places_exact p r ((Equal-is _).0 h)
