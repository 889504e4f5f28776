-- A walk over a ring: the first entry from a window and a key on is the next of the map.
use Rattle.std.proofs.Common.{◌≡◌, ◌≢◌, ℕ, ◌+◌, true, false, Option, Some, None, List, ℤ, ◌+ℤ◌, ◌≤ℤ◌, refl, sym, ap, subst, ◌∙◌, inl, inr, arith}
use Rattle.std.specs.Prelude.{IfSome, option_map, slice_get}
use Rattle.std.proofs.lemmas.Bool.{cases_lt}
use Rattle.std.proofs.lemmas.Int.{ints, by_lt_z}
use Rattle.std.proofs.lemmas.Option.{none-some, same_Some}
use Rattle.std.specs.declared.cmp.Ordering.TheVariants.{Less, Greater}
use Rattle.std.specs.Ordering.{ordering_reverse}
use Rattle.std.specs.Option.{is_some}
use Rattle.std.specs.FinMap.{get, entries}
use Rattle.wsm_windows.specs.declared.place.Place.{Place}
use Rattle.wsm_windows.specs.Places.{place_cmp}
use Rattle.wsm_windows.proofs.Places.{places_total}
use Rattle.wsm_ring.specs.declared.ring.Ring.{Ring}
use Rattle.wsm_slots.specs.Place.{is_kept}
use Rattle.wsm_slots.specs.declared.spot.Spot.{Spot}
use Rattle.wsm_ring.specs.Ring.{HasSlot, IsOfRing, AreInPlace, AreBetween, IsFromOn, IsFirstFrom, IsFirstPast, at_slot, slot_of, window_number}
use Rattle.wsm_slots.specs.Walk.{first_past, following, place_found}
use Rattle.wsm_slots.specs.Slots.{slot_at, pane_of}
use Rattle.wsm_ring.proofs.Rings.{window_less, key_less}
use Rattle.wsm_ring.proofs.Clears.{is_past, past_is}
use Rattle.wsm_ring.proofs.Placed.{panes_in, get_in, pane_here}
use Rattle.wsm_slots.proofs.Entry.{entry_of}
use Rattle.wsm_ring.proofs.Least.{least_first, none_first, least_following, least_past, none_following}

pub same_start_key : (r : Ring) (p q : Place) → IsOfRing r p → IsOfRing r q → p.start ≡ q.start → p.key ≡ q.key → p ≡ q
same_start_key r p q a b start key =
    let end : p.end ≡ q.end = a.end ∙ ap (λ (s : ℤ). s +ℤ r.size) start ∙ sym b.end in
    λ i. record { end = end i; start = start i; key = key i }

never_less : (p q : Place) → place_cmp p q ≡ Less → place_cmp q p ≢ Less
never_less p q less back =
    let bad : Greater ≡ Less = sym (ap ordering_reverse less) ∙ sym (places_total.antisymm q p) ∙ back in
    cc

-- what is from a place on is not below it
not_below : (r : Ring) (p q : Place) → IsOfRing r p → IsOfRing r q → IsFromOn p.start p.key q → place_cmp q p ≢ Less
not_below r p q a b from back = elim from [
  | inl less ↦ never_less p q (window_less r p q a b less) back
  | inr row ↦ elim (cases_lt p.key q.key) [
    | inl less ↦ never_less p q (key_less r p q a b (sym row.0) less) back
    | inr more ↦
        let same : q ≡ p = same_start_key r q p b a row.0 (omega (arith, row.1)) in
        let tie : place_cmp p p ≡ Less = subst (λ x. place_cmp x p ≡ Less) same back in
        never_less p p tie tie
  ]
]

-- what is behind a place is from its next key on
pub from_behind : (r : Ring) (p q : Place) → IsOfRing r p → IsOfRing r q → place_cmp p q ≡ Less → IsFromOn p.start (p.key + 1) q
from_behind r p q a b less = by_lt_z {P = IsFromOn p.start (p.key + 1) q} p.start q.start
    (λ past. inl past)
    (λ more. by_lt_z {P = IsFromOn p.start (p.key + 1) q} q.start p.start
    (λ before. absurd (never_less p q less (window_less r q p b a before)))
    (λ same. let start : q.start ≡ p.start = omega (arith, ints, more, same) in
    elim (cases_lt p.key q.key) [
      | inl key ↦ inr (start, omega arith)
      | inr key ↦ elim (cases_lt q.key p.key) [
        | inl lower ↦ absurd (never_less p q less (key_less r q p b a start lower))
        | inr equal ↦
            let one : p ≡ q = same_start_key r p q a b (sym start) (omega arith) in
            let tie : place_cmp q q ≡ Less = subst (λ x. place_cmp x q ≡ Less) one less in
            absurd (never_less q q tie tie)
      ]
    ]))

behind_from : (r : Ring) (p q : Place) → IsOfRing r p → IsOfRing r q → IsFromOn p.start (p.key + 1) q → place_cmp p q ≡ Less
behind_from r p q a b from = elim from [
  | inl less ↦ window_less r p q a b less
  | inr row ↦ key_less r p q a b (sym row.0) (omega (arith, row.1))
]

module _ {P : Type 0} (r : Ring) (os : List (Option (Place × P))) (placed : AreInPlace r os) where
  -- a pane of the map stands in a slot
  pub entry_there : (q : Place) (o : Option P) → get (panes_in os) q ≡ o → o ≢ None → (v : P) × (slot_at os (slot_of r q) ≡ Some (q, v))
  entry_there q None at some = absurd (some refl)
  entry_there q (Some v) at some = (v, entry_of q (slot_at os (slot_of r q)) v (sym (get_in r os placed q) ∙ at))

  pane_there : (e : Place × P) → slot_at os (slot_of r e.0) ≡ Some e → get (panes_in os) e.0 ≡ Some e.1
  pane_there e at = get_in r os placed e.0 ∙ ap (pane_of e.0) at ∙ pane_here e.0 e.1

  pub first_walk : (first last : ℤ) (o : Option (Place × P)) → AreBetween first last os → IsFirstFrom r os first 0 o → o ≡ slice_get (entries (panes_in os)) 0
  first_walk first last None between none = sym (none_first (panes_in os) (λ q. no_pane q (get (panes_in os) q) refl)) where
    no_pane : (q : Place) (x : Option P) → get (panes_in os) q ≡ x → get (panes_in os) q ≡ None
    no_pane q None at = at
    no_pane q (Some v) at =
        let there = entry_there q (Some v) at (λ bad. none-some v (sym bad)) in
        let low : first ≤ℤ q.start = (between (slot_of r q) (q, there.0) there.1).0 in
        absurd (none (slot_of r q) (q, there.0) there.1 (by_lt_z {P = IsFromOn first 0 q} first q.start (λ less. inl less) (λ more. inr (omega (arith, ints, low, more), omega arith))))
  first_walk first last (Some e) between found = sym (least_first (panes_in os) e (pane_there e found.0) (λ q some.
      let there = entry_there q (get (panes_in os) q) refl some in
      let low : first ≤ℤ q.start = (between (slot_of r q) (q, there.0) there.1).0 in
      not_below r e.0 q (placed _ e found.0).0 (placed _ (q, there.0) there.1).0
      (found.2 (slot_of r q) (q, there.0) there.1 (by_lt_z {P = IsFromOn first 0 q} first q.start (λ less. inl less) (λ more. inr (omega (arith, ints, low, more), omega arith))))))

  pub next_walk : (p : Place) (o : Option (Place × P)) → IsOfRing r p → IsFirstFrom r os p.start (p.key + 1) o → o ≡ following p (entries (panes_in os))
  next_walk p None of none = sym (none_following (panes_in os) p (λ q some less.
      let there = entry_there q (get (panes_in os) q) refl some in
      none (slot_of r q) (q, there.0) there.1 (from_behind r p q of (placed _ (q, there.0) there.1).0 less)))
  next_walk p (Some e) of found = sym (least_following (panes_in os) p e (pane_there e found.0) (behind_from r p e.0 of (placed _ e found.0).0 found.1) (λ q some less.
      let there = entry_there q (get (panes_in os) q) refl some in
      not_below r e.0 q (placed _ e found.0).0 (placed _ (q, there.0) there.1).0
      (found.2 (slot_of r q) (q, there.0) there.1 (from_behind r p q of (placed _ (q, there.0) there.1).0 less))))

  -- a window that ends past a time starts from the first such start on
  pub from_past : (first last after start : ℤ) → AreBetween first last os → IsFirstPast r first after start → (i : ℕ) (e : Place × P) → slot_at os i ≡ Some e → is_kept after e.0 ≡ true → IsFromOn start 0 e.0
  from_past first last after start between past i e at kept =
      let of = (placed i e at).0 in
      let low : start ≤ℤ e.0.start = past.2 e.0.start (window_number r e.0.start, of.start) (between i e at).0 (omega (arith, ints, past_is after e.0 kept, of.end)) in
      by_lt_z {P = IsFromOn start 0 e.0} start e.0.start (λ less. inl less) (λ more. inr (omega (arith, ints, low, more), omega arith))

  pub past_walk : (first last after start : ℤ) (e : Place × P) → AreBetween first last os → IsFirstPast r first after start → IsFirstFrom r os start 0 (Some e) → first_past after (entries (panes_in os)) ≡ Some e
  past_walk first last after start e between past found =
      let of = (placed _ e found.0).0 in
      let low : start ≤ℤ e.0.start = elim found.1 [ inl less ↦ omega (arith, ints, less) | inr same ↦ omega (arith, ints, same.0) ] in
      least_past (panes_in os) after e (pane_there e found.0) (is_past after e.0 (omega (arith, ints, past.1, low, of.end))) (λ q some kept.
      let there = entry_there q (get (panes_in os) q) refl some in
      not_below r e.0 q of (placed _ (q, there.0) there.1).0
      (found.2 (slot_of r q) (q, there.0) there.1 (from_past first last after start between past (slot_of r q) (q, there.0) there.1 kept)))

  -- a place with a pane has it in its slot
  pub there_in : (p : Place) → is_some (get (panes_in os) p) ≡ true → (v : P) × (slot_at os (slot_of r p) ≡ Some (p, v))
  there_in p there = entry_there p (get (panes_in os) p) refl (λ none. let bad : false ≡ true = sym (ap is_some none) ∙ there in cc)

  pub of_ring : (p : Place) → is_some (get (panes_in os) p) ≡ true → IsOfRing r p
  of_ring p there = let at = there_in p there in (placed (slot_of r p) (p, at.0) at.1).0

  -- the spot of an entry tells its slot
  pub spot_has_slot : (found : Option ℕ) (spot : Option Spot) → place_found spot ≡ option_map (λ e. e.0) (at_slot os found) → IfSome spot (λ s. found ≡ Some s.at) → IfSome spot (HasSlot r)
  spot_has_slot found None place at = tt
  spot_has_slot None (Some s) place at = absurd (none-some s.at at)
  spot_has_slot (Some n) (Some s) place at = in_slot (slot_at os n) refl place where
    in_slot : (o : Option (Place × P)) → slot_at os n ≡ o → Some s.place ≡ option_map (λ e. e.0) o → HasSlot r s
    in_slot None is at_none = absurd (none-some s.place (sym at_none))
    in_slot (Some e) is at_entry = sym (same_Some n s.at at) ∙ sym (placed n e is).1 ∙ ap (slot_of r) (sym (same_Some s.place e.0 at_entry))
