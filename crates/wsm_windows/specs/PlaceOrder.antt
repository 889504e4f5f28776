-- The order of places is total.
use Rattle.std.specs.Cmp.{IsTotalOrder, int_cmp_total, nat_cmp_total, on_total, then_total}
use Rattle.wsm_windows.specs.declared.place.Place.{Place}
use Rattle.wsm_windows.specs.Places.{place_cmp}

pub places_total : IsTotalOrder place_cmp
places_total = then_total (on_total (λ (p : Place). p.end) int_cmp_total) (then_total (on_total (λ (p : Place). p.start) int_cmp_total) (on_total (λ (p : Place). p.key) nat_cmp_total))
