-- The windows of a time are at places in order.
use Rattle.std.proofs.Common.{◌≡◌, ℕ, ◌+◌, ◌-◌, ◌/◌, nat_cmp, zero, suc, false, ◌||◌, List, [], ◌∷◌, map, refl, sym, ap, subst, arith}
use Rattle.std.proofs.lemmas.Int.{ints}
use Rattle.std.proofs.lemmas.List.Elements.{All-head, All-tail}
use Rattle.std.specs.Prelude.{ℤ, ◌+ℤ◌, ◌-ℤ◌, ◌<ℤ◌, All, unsigned_abs}
use Rattle.std.specs.List.{AllByRecursion}
use Rattle.std.specs.Ordering.{int_cmp, is_eq, is_gt, ordering_then}
use Rattle.std.specs.declared.cmp.Ordering.{Ordering}
use Rattle.std.specs.declared.cmp.Ordering.TheVariants.{Less, Equal, Greater}
use Rattle.wsm_windows.specs.declared.window.Window.{Window}
use Rattle.wsm_windows.specs.declared.window.Shape.{Shape}
use Rattle.wsm_windows.specs.declared.window.Shape.TheVariants.{Fixed, Sliding, Session}
use Rattle.wsm_windows.specs.Windows.{window, has_inside, last_start, windows_up_to, windows_of, windows_of_shape, size_of, IsRising}
use Rattle.wsm_windows.specs.Life.{is_live, live_windows_of}
use Rattle.wsm_windows.specs.declared.place.Place.{Place}
use Rattle.wsm_windows.specs.Places.{place_cmp, at}
use Rattle.wsm_windows.proofs.Places.{places_total, places_exact}
use Rattle.wsm_semantics.proofs.Lists.{filter-all}
use Rattle.wsm_semantics.proofs.Each.{all-append}
use Rattle.wsm_ring.proofs.Rings.{int_less}
use Rattle.wsm_firing.specs.ByRecord.{is_among, AreInOrder}

-- places behind one are none of those up to it
pub later : (p : Place) (ps : List Place) → AllByRecursion (λ r. place_cmp p r ≡ Less) ps → (r : Place) → is_gt (place_cmp r p) ≡ false → is_among ps r ≡ false
later p [] h r up_to = refl
later p (x ∷ ps) h r up_to = λ i. ap is_eq before i || later p ps h.1 r up_to i
  where
    before : place_cmp r x ≡ Less
    before = elim (place_cmp r p) as (λ o. place_cmp r p ≡ o → is_gt o ≡ false → place_cmp r x ≡ Less) [
      | Less ↦ λ less g. places_total.trans r p x less h.0
      | Equal ↦ λ tie g. subst (λ (y : Place). place_cmp y x ≡ Less) (sym (places_exact r p tie)) h.0
      | Greater ↦ λ more g. absurd (cc)
    ] refl up_to

abbrev HasSize : ℤ → Window → Type 0
HasSize size w = w.end ≡ w.start +ℤ size

module _ (key : ℕ) (size : ℤ) where
  sooner : (w v : Window) → HasSize size w → HasSize size v → w.start <ℤ v.start → place_cmp (at key w) (at key v) ≡ Less
  sooner w v ends ends' less =
      let first : int_cmp w.end v.end ≡ Less = int_less w.end v.end (grind (arith, ints)) in
      ap (λ (o : Ordering). ordering_then o (ordering_then (int_cmp w.start v.start) (nat_cmp key key))) first

  all_later : (w : Window) (ws : List Window) → HasSize size w → AllByRecursion (HasSize size) ws → All (λ v. w.start <ℤ v.start) ws → AllByRecursion (λ r. place_cmp (at key w) r ≡ Less) (map (at key) ws)
  all_later w [] ends sized rising = tt
  all_later w (v ∷ vs) ends sized rising =
      (sooner w v ends sized.0 (All-head (λ v. w.start <ℤ v.start) v vs rising), all_later w vs ends sized.1 (All-tail (λ v. w.start <ℤ v.start) v vs rising))

  rising_in_order : (ws : List Window) → IsRising ws → AllByRecursion (HasSize size) ws → AreInOrder (map (at key) ws)
  rising_in_order [] rising sized = tt
  rising_in_order (w ∷ ws) rising sized = (all_later w ws sized.0 sized.1 rising.0, rising_in_order ws rising.1 sized.1)

all_sized : (n : ℕ) (size period s : ℤ) → AllByRecursion (HasSize size) (windows_up_to n size period s)
all_sized zero size period s = tt
all_sized (suc n) size period s = all-append (HasSize size) (windows_up_to n size period (s -ℤ period)) (window s (s +ℤ size) ∷ []) (all_sized n size period (s -ℤ period)) (refl, tt)

grid_sized : (size period t : ℤ) → AllByRecursion (HasSize size) (windows_of size period t)
grid_sized size period t =
    let n : ℕ = (unsigned_abs size + unsigned_abs period - 1) / unsigned_abs period in
    filter-all (HasSize size) (has_inside t) (windows_up_to n size period (last_start period t)) (all_sized n size period (last_start period t))

shape_sized : (shape : Shape) (t : ℤ) → AllByRecursion (HasSize (size_of shape)) (windows_of_shape shape t)
shape_sized (Fixed size) t = grid_sized size size t
shape_sized (Sliding size period) t = grid_sized size period t
shape_sized (Session gap) t = (refl, tt)

pub windows_in_order : (key : ℕ) (shape : Shape) (t l m : ℤ) (ws : List Window) → ws ≡ live_windows_of shape t l m → IsRising ws → AreInOrder (map (at key) ws)
windows_in_order key shape t l m ws is rising =
    rising_in_order key (size_of shape) ws rising (subst (AllByRecursion (HasSize (size_of shape))) (sym is) (filter-all (HasSize (size_of shape)) (λ w. is_live w l m) (windows_of_shape shape t) (shape_sized shape t)))
