-- The map that the entries in slots stand for, where each is in its own slot.
use Rattle.std.proofs.Common.{◌≡◌, ◌≢◌, ◌⊎◌, ℕ, zero, suc, ◌+◌, ◌<◌, ◌≤◌, Bool, true, false, cond, Option, Some, None, List, [], ◌∷◌, length, get_or, set, refl, sym, ap, subst, ◌∙◌, inl, inr, arith}
use Rattle.std.proofs.lemmas.Bool.{cases_Bool, cases_eq}
use Rattle.std.proofs.lemmas.List.{get_or-set_same, get_or-set_other, get_or_default}
use Rattle.std.specs.Option.{is_some, option_len}
use Rattle.std.proofs.lemmas.Option.{same_Some}
use Rattle.std.specs.Prelude.{ℤ, ◌≤ℤ◌, option_map}
use Rattle.std.proofs.lemmas.Int.{ints}
use Rattle.std.proofs.lemmas.Bool.Decides.{Decides-int_eq}
use Rattle.std.specs.Ordering.{eq_by_cmp}
use Rattle.std.specs.FinMap.{FinMap, empty, empty_of_len, find, get, insert, remove, retain_keys, len, from_entries, get-from_entries, get-insert, get-remove, get-retain_keys, len-insert, len-empty, same_map}
use Rattle.wsm_windows.specs.declared.place.Place.{Place}
use Rattle.wsm_windows.specs.Places.{place_cmp}
use Rattle.wsm_windows.proofs.Places.{places_total, places_exact, tie_is}
use Rattle.wsm_ring.specs.declared.ring.Ring.{Ring}
use Rattle.wsm_slots.specs.Place.{is_kept}
use Rattle.wsm_ring.specs.Ring.{IsOfRing, RingAdmits, AreInPlace, AreBetween, held, kept_slot, slot_of, starts_at}
use Rattle.wsm_slots.specs.Slots.{AreFree, slot_at, pane_of}
use Rattle.wsm_ring.proofs.Apart.{apart_place}
use Rattle.wsm_semantics.proofs.Assigned.{tied}

abbrev pub panes_in : {P : Type 0} → List (Option (Place × P)) → FinMap place_cmp P
panes_in os = from_entries (held os)

one_fewer : (i j : ℕ) → suc i ≡ suc j → i ≡ j
one_fewer i j e = omega arith

pub kept_from : {P : Type 0} (limit : ℤ) (o : Option (Place × P)) (e : Place × P) → kept_slot limit o ≡ Some e → o ≡ Some e
kept_from limit None e h = h
kept_from limit (Some x) e h = elim (cases_Bool (is_kept limit x.0)) [
  | inl past ↦ rw past at h
  | inr gone ↦ let bad : None ≡ Some e = rw gone at h in absurd (cc)
]

none_either : {X : Type 0} (b : Bool) (o : Option X) → o ≡ None → cond b o None ≡ None
none_either true o h = h
none_either false o h = refl

module _ {P : Type 0} where
  pub find_none : (os : List (Option (Place × P))) (q : Place) → ((i : ℕ) (e : Place × P) → slot_at os i ≡ Some e → e.0 ≢ q) → find place_cmp q (held os) ≡ None
  find_none [] q h = refl
  find_none (None ∷ os) q h = find_none os q (λ i. h (suc i))
  find_none (Some x ∷ os) q h = rw (apart_place q x.0 (λ same. h 0 x refl (sym same))) (find_none os q (λ i. h (suc i)))

  -- where only one slot can have an entry of a place, that slot tells the pane
  pub find_held : (os : List (Option (Place × P))) (q : Place) (i : ℕ) → ((j : ℕ) (e : Place × P) → slot_at os j ≡ Some e → e.0 ≡ q → j ≡ i) → find place_cmp q (held os) ≡ pane_of q (slot_at os i)
  find_held [] q i h = refl
  find_held (None ∷ os) q zero h = find_none os q (λ j e at same. absurd (omega (arith, h (suc j) e at same)))
  find_held (None ∷ os) q (suc i) h = find_held os q i (λ j e at same. one_fewer j i (h (suc j) e at same))
  find_held (Some x ∷ os) q zero h = ap (cond (eq_by_cmp place_cmp q x.0) (Some x.1)) (find_none os q (λ j e at same. absurd (omega (arith, h (suc j) e at same))))
  find_held (Some x ∷ os) q (suc i) h = rw (apart_place q x.0 (λ same. absurd (omega (arith, h 0 x refl (sym same))))) (find_held os q i (λ j e at same. one_fewer j i (h (suc j) e at same)))

  -- a look-up reads the slot of the place
  pub get_in : (r : Ring) (os : List (Option (Place × P))) → AreInPlace r os → (q : Place) → get (panes_in os) q ≡ pane_of q (slot_at os (slot_of r q))
  get_in r os placed q = get-from_entries places_total (held os) q ∙ find_held os q (slot_of r q) (λ j e at same. sym (placed j e at).1 ∙ ap (slot_of r) same)

  pub pane_here : (q : Place) (v : P) → pane_of q (Some (q, v)) ≡ Some v
  pane_here q v = rw (tied q q refl) refl

  pub placed_set : (r : Ring) (os : List (Option (Place × P))) (i : ℕ) (o : Option (Place × P)) → AreInPlace r os → i < length os → ((e : Place × P) → o ≡ Some e → IsOfRing r e.0 × (slot_of r e.0 ≡ i)) → AreInPlace r (set os i o)
  placed_set r os i o placed within new j e at = elim (cases_eq j i) [
    | inl same ↦
        let here : slot_at (set os i o) j ≡ o = rw same (get_or-set_same os i o None within) in
        let is = new e (sym here ∙ at) in (is.0, is.1 ∙ sym same)
    | inr other ↦ placed j e (sym (get_or-set_other os i j o None other) ∙ at)
  ]

  at_set : (r : Ring) (os : List (Option (Place × P))) (p q : Place) (o : Option (Place × P)) → slot_of r p < length os → ((slot_of r q ≡ slot_of r p) × (slot_at (set os (slot_of r p) o) (slot_of r q) ≡ o)) ⊎ ((slot_of r q ≢ slot_of r p) × (slot_at (set os (slot_of r p) o) (slot_of r q) ≡ slot_at os (slot_of r q)))
  at_set r os p q o within = elim (cases_eq (slot_of r q) (slot_of r p)) [
    | inl same ↦ inl (same, rw same (get_or-set_same os (slot_of r p) o None within))
    | inr other ↦ inr (other, get_or-set_other os (slot_of r p) (slot_of r q) o None other)
  ]

  put_step : (q p : Place) (v : P) (o : Option (Place × P)) → (o ≡ None) ⊎ ((w : P) × (o ≡ Some (p, w))) → pane_of q (Some (p, v)) ≡ cond (eq_by_cmp place_cmp q p) (Some v) (pane_of q o)
  put_step q p v o h = elim (cases_Bool (eq_by_cmp place_cmp q p)) [
    | inl tie ↦ rw tie refl
    | inr apart ↦ elim h [
      | inl none ↦ rw (none, apart) refl
      | inr same ↦ rw (same.1, apart) refl
    ]
  ]

  -- to fill the slot of a place, where it is free or the place's own, is to set its pane
  pub panes_put : (r : Ring) (os : List (Option (Place × P))) (p : Place) (v : P) → AreInPlace r os → IsOfRing r p → slot_of r p < length os → (slot_at os (slot_of r p) ≡ None) ⊎ ((w : P) × (slot_at os (slot_of r p) ≡ Some (p, w))) → panes_in (set os (slot_of r p) (Some (p, v))) ≡ insert (panes_in os) p v
  panes_put r os p v placed of within own =
      let new : AreInPlace r (set os (slot_of r p) (Some (p, v))) = placed_set r os (slot_of r p) (Some (p, v)) placed within (λ e is. subst (λ (x : Place). IsOfRing r x × (slot_of r x ≡ slot_of r p)) (ap (λ (y : Place × P). y.0) (same_Some _ _ is)) (of, refl)) in
      same_map places_total places_exact _ _ (λ q.
      get_in r _ new q
      ∙ elim (at_set r os p q (Some (p, v)) within) [
        | inl here ↦ ap (pane_of q) here.1 ∙ put_step q p v _ own ∙ ap (λ n. cond (eq_by_cmp place_cmp q p) (Some v) (pane_of q (slot_at os n))) (sym here.0)
        | inr there ↦ ap (pane_of q) there.1 ∙ sym (ap (λ b. cond b (Some v) (pane_of q (slot_at os (slot_of r q)))) (apart_place q p (λ same. there.0 (ap (slot_of r) same))))
      ]
      ∙ sym (get-insert places_total (panes_in os) p v q ∙ ap (cond (eq_by_cmp place_cmp q p) (Some v)) (get_in r os placed q)))

  clear_step : (q p : Place) (w : P) → None ≡ cond (eq_by_cmp place_cmp q p) None (pane_of q (Some (p, w)))
  clear_step q p w = elim (cases_Bool (eq_by_cmp place_cmp q p)) [ inl tie ↦ rw tie refl | inr apart ↦ rw apart refl ]

  -- to clear a place's own slot is to remove its pane
  pub panes_clear : (r : Ring) (os : List (Option (Place × P))) (p : Place) (w : P) → AreInPlace r os → slot_of r p < length os → slot_at os (slot_of r p) ≡ Some (p, w) → panes_in (set os (slot_of r p) None) ≡ remove (panes_in os) p
  panes_clear r os p w placed within own =
      let new : AreInPlace r (set os (slot_of r p) None) = placed_set r os (slot_of r p) None placed within (λ e is. absurd (cc)) in
      same_map places_total places_exact _ _ (λ q.
      get_in r _ new q
      ∙ elim (at_set r os p q None within) [
        | inl here ↦ ap (pane_of q) here.1 ∙ clear_step q p w ∙ ap (λ o. cond (eq_by_cmp place_cmp q p) None (pane_of q o)) (sym (ap (slot_at os) here.0 ∙ own))
        | inr there ↦ ap (pane_of q) there.1 ∙ sym (ap (λ b. cond b None (pane_of q (slot_at os (slot_of r q)))) (apart_place q p (λ same. there.0 (ap (slot_of r) same))))
      ]
      ∙ sym (get-remove places_total (panes_in os) p q ∙ ap (cond (eq_by_cmp place_cmp q p) None) (get_in r os placed q)))

  -- where no slot has the place, there is nothing to remove
  pub panes_without : (r : Ring) (os : List (Option (Place × P))) (p : Place) → AreInPlace r os → pane_of p (slot_at os (slot_of r p)) ≡ None → panes_in os ≡ remove (panes_in os) p
  panes_without r os p placed none =
      same_map places_total places_exact _ _ (λ q.
      elim (cases_Bool (eq_by_cmp place_cmp q p)) [
        | inl tie ↦ ap (get (panes_in os)) (tie_is q p tie) ∙ get_in r os placed p ∙ none ∙ sym (ap (λ b. cond b None (get (panes_in os) q)) tie)
        | inr apart ↦ sym (ap (λ b. cond b None (get (panes_in os) q)) apart)
      ]
      ∙ sym (get-remove places_total (panes_in os) p q))

  pane_apart : (q : Place) (b : Bool) (e : Place × P) → pane_of q (Some e) ≡ None → pane_of q (cond b (Some e) None) ≡ None
  pane_apart q true e none = none
  pane_apart q false e none = refl

  kept_step : (limit : ℤ) (q : Place) (o : Option (Place × P)) → pane_of q (kept_slot limit o) ≡ cond (is_kept limit q) (pane_of q o) None
  kept_step limit q None = sym (none_either (is_kept limit q) (pane_of q None) refl)
  kept_step limit q (Some e) = elim (cases_Bool (eq_by_cmp place_cmp q e.0)) [
    | inl tie ↦ rw (tie_is q e.0 tie) (elim (is_kept limit e.0) as (λ b. pane_of e.0 (cond b (Some e) None) ≡ cond b (pane_of e.0 (Some e)) None) [ true ↦ refl | false ↦ refl ])
    | inr apart ↦
        let no_pane : pane_of q (Some e) ≡ None = rw apart refl in
        pane_apart q (is_kept limit e.0) e no_pane ∙ sym (none_either (is_kept limit q) (pane_of q (Some e)) no_pane)
  ]

  pub placed_kept : (r : Ring) (limit : ℤ) (os ns : List (Option (Place × P))) → AreInPlace r os → ((i : ℕ) → slot_at ns i ≡ kept_slot limit (slot_at os i)) → AreInPlace r ns
  placed_kept r limit os ns placed each i e at = placed i e (kept_from limit (slot_at os i) e (sym (each i) ∙ at))

  -- to keep in each slot what is past the limit is to keep those panes
  pub panes_kept : (r : Ring) (limit : ℤ) (os ns : List (Option (Place × P))) → AreInPlace r os → ((i : ℕ) → slot_at ns i ≡ kept_slot limit (slot_at os i)) → panes_in ns ≡ retain_keys (panes_in os) (is_kept limit)
  panes_kept r limit os ns placed each = same_map places_total places_exact _ _ (λ q.
      get_in r ns (placed_kept r limit os ns placed each) q ∙ ap (pane_of q) (each (slot_of r q)) ∙ kept_step limit q (slot_at os (slot_of r q))
      ∙ ap (λ o. cond (is_kept limit q) o None) (sym (get_in r os placed q))
      ∙ sym (get-retain_keys (panes_in os) (is_kept limit) q (λ x tie. ap (is_kept limit) (sym (places_exact q x tie)))))

  -- how many entries there are
  pub held_set : (os : List (Option (Place × P))) (i : ℕ) (o : Option (Place × P)) → i < length os → length (held (set os i o)) + option_len (slot_at os i) ≡ length (held os) + option_len o
  held_set [] i o within = absurd (omega arith)
  held_set (None ∷ os) zero None within = refl
  held_set (None ∷ os) zero (Some x) within = omega arith
  held_set (Some y ∷ os) zero None within = omega arith
  held_set (Some y ∷ os) zero (Some x) within = refl
  held_set (None ∷ os) (suc i) o within = held_set os i o (omega arith)
  held_set (Some y ∷ os) (suc i) o within = let rest = held_set os i o (omega arith) in omega arith

  pub held_length : (os : List (Option (Place × P))) → length (held os) ≤ length os
  held_length [] = omega arith
  held_length (None ∷ os) = let rest = held_length os in omega arith
  held_length (Some x ∷ os) = let rest = held_length os in omega arith

  len_new : (es : List (Place × P)) (e : Place × P) → find place_cmp e.0 es ≡ None → len (from_entries {R = place_cmp} (e ∷ es)) ≡ suc (len (from_entries {R = place_cmp} es))
  len_new es e none = len-insert places_total (from_entries es) e.0 e.1 ∙ rw (get-from_entries places_total es e.0, none) (omega arith)

  len_from : (s : Place → ℕ) (n : ℕ) (os : List (Option (Place × P))) → ((i : ℕ) (e : Place × P) → slot_at os i ≡ Some e → s e.0 ≡ n + i) → len (panes_in os) ≡ length (held os)
  len_from s n [] h = len-empty place_cmp P
  len_from s n (None ∷ os) h = len_from s (suc n) os (λ i e at. omega (arith, h (suc i) e at))
  len_from s n (Some x ∷ os) h =
      len_new (held os) x (find_none os x.0 (λ i e at same. absurd (omega (arith, h (suc i) e at, h 0 x refl, ap s same))))
      ∙ ap suc (len_from s (suc n) os (λ i e at. omega (arith, h (suc i) e at)))

  pub len_in : (r : Ring) (os : List (Option (Place × P))) → AreInPlace r os → len (panes_in os) ≡ length (held os)
  len_in r os placed = len_from (slot_of r) 0 os (λ i e at. omega (arith, (placed i e at).1))

  own_of : (r : Ring) (os : List (Option (Place × P))) (p : Place) (o : Option (Place × P)) → slot_at os (slot_of r p) ≡ o → AreInPlace r os → RingAdmits r (panes_in os) p → (o ≡ None) ⊎ ((w : P) × (o ≡ Some (p, w)))
  own_of r os p None at placed admits = inl refl
  own_of r os p (Some e) at placed admits = elim admits.1 [
    | inl there ↦ elim (cases_Bool (eq_by_cmp place_cmp p e.0)) [
      | inl tie ↦ inr (e.1, ap (λ (x : Place). let f : Place × P = (x, e.1) in Some f) (sym (tie_is p e.0 tie)))
      | inr apart ↦
          let none : get (panes_in os) p ≡ None = get_in r os placed p ∙ ap (pane_of p) at ∙ rw apart refl in
          let bad : false ≡ true = sym (ap is_some none) ∙ there in
          absurd (cc)
    ]
    | inr free ↦
        let own : slot_of r e.0 ≡ slot_of r p = (placed (slot_of r p) e at).1 in
        let some : get (panes_in os) e.0 ≡ Some e.1 = get_in r os placed e.0 ∙ ap (λ n. pane_of e.0 (slot_at os n)) own ∙ ap (pane_of e.0) at ∙ pane_here e.0 e.1 in
        let bad : Some e.1 ≡ None = sym some ∙ free e.0 own in
        absurd (cc)
  ]

  -- an admitted place has a slot that is free or its own
  pub own_slot : (r : Ring) (os : List (Option (Place × P))) (p : Place) → AreInPlace r os → RingAdmits r (panes_in os) p → (slot_at os (slot_of r p) ≡ None) ⊎ ((w : P) × (slot_at os (slot_of r p) ≡ Some (p, w)))
  own_slot r os p placed admits = own_of r os p (slot_at os (slot_of r p)) refl placed admits

  -- and a place of the ring with such a slot is admitted
  pub admits_free : (r : Ring) (os : List (Option (Place × P))) (p : Place) → AreInPlace r os → IsOfRing r p → slot_at os (slot_of r p) ≡ None → RingAdmits r (panes_in os) p
  admits_free r os p placed of none = (of, inr (λ q same. get_in r os placed q ∙ ap (λ n. pane_of q (slot_at os n)) same ∙ ap (pane_of q) none))

  pub admits_own : (r : Ring) (os : List (Option (Place × P))) (p : Place) (w : P) → AreInPlace r os → IsOfRing r p → slot_at os (slot_of r p) ≡ Some (p, w) → RingAdmits r (panes_in os) p
  admits_own r os p w placed of own = (of, inl (ap is_some (get_in r os placed p ∙ ap (pane_of p) own ∙ pane_here p w)))

  some_held : (os : List (Option (Place × P))) (i : ℕ) (e : Place × P) → slot_at os i ≡ Some e → 0 < length (held os)
  some_held [] i e at = cc
  some_held (None ∷ os) zero e at = cc
  some_held (None ∷ os) (suc i) e at = some_held os i e at
  some_held (Some x ∷ os) i e at = omega arith

  pub between_put : (os : List (Option (Place × P))) (i : ℕ) (e : Place × P) (first last low high : ℤ) → i < length os → AreBetween first last os → (0 < length (held os) → (low ≤ℤ first) × (last ≤ℤ high)) → (low ≤ℤ e.0.start) × (e.0.start ≤ℤ high) → AreBetween low high (set os i (Some e))
  between_put os i e first last low high within between wider around j f at = elim (cases_eq j i) [
    | inl same ↦
        let here : Some e ≡ Some f = sym (get_or-set_same os i (Some e) None within) ∙ sym (ap (slot_at (set os i (Some e))) same) ∙ at in
        subst (λ (x : Place). (low ≤ℤ x.start) × (x.start ≤ℤ high)) (ap (λ (y : Place × P). y.0) (same_Some e f here)) around
    | inr other ↦
        let old : slot_at os j ≡ Some f = sym (get_or-set_other os i j (Some e) None other) ∙ at in
        let in_old = between j f old in
        let more = wider (some_held os j f old) in
        (omega (arith, ints, in_old.0, more.0), omega (arith, ints, in_old.1, more.1))
  ]

  -- where no entry is new, the place's own was there, and lies between the times
  pub held_between : (os : List (Option (Place × P))) (i : ℕ) (p : Place) (v : P) (first last : ℤ) → i < length os → AreBetween first last os → (slot_at os i ≡ None) ⊎ ((w : P) × (slot_at os i ≡ Some (p, w))) → length (held (set os i (Some (p, v)))) ≡ length (held os) → (first ≤ℤ p.start) × (p.start ≤ℤ last)
  held_between os i p v first last within between own same = elim own [
    | inl none ↦
        let count : length (held (set os i (Some (p, v)))) + option_len (slot_at os i) ≡ length (held os) + 1 = held_set os i (Some (p, v)) within in
        let zero_len : option_len (slot_at os i) ≡ 0 = ap (λ (o : Option (Place × P)). option_len o) none in
        absurd (omega (arith, count, zero_len, same))
    | inr there ↦ between i (p, there.0) there.1
  ]

  pub between_less : (os ns : List (Option (Place × P))) (first last : ℤ) → AreBetween first last os → ((i : ℕ) (e : Place × P) → slot_at ns i ≡ Some e → slot_at os i ≡ Some e) → AreBetween first last ns
  between_less os ns first last between less i e at = between i e (less i e at)

  pub cleared_less : (os : List (Option (Place × P))) (i : ℕ) → i < length os → (j : ℕ) (e : Place × P) → slot_at (set os i None) j ≡ Some e → slot_at os j ≡ Some e
  cleared_less os i within j e at = elim (cases_eq j i) [
    | inl same ↦
        let bad : None ≡ Some e = sym (get_or-set_same os i None None within) ∙ sym (ap (slot_at (set os i None)) same) ∙ at in
        absurd (cc)
    | inr other ↦ sym (get_or-set_other os i j None None other) ∙ at
  ]

  count_of : (o : Option (Place × P)) (more : ℕ) → ((is_some o ≡ false) × (more ≡ 1)) ⊎ ((is_some o ≡ true) × (more ≡ 0)) → option_len o + more ≡ 1
  count_of None more h = elim h [ inl none ↦ omega (arith, none.1) | inr some ↦ let bad : false ≡ true = some.0 in absurd (cc) ]
  count_of (Some x) more h = elim h [ inl none ↦ let bad : true ≡ false = none.0 in absurd (cc) | inr some ↦ omega (arith, some.1) ]

  pub fill_count : (os : List (Option (Place × P))) (i : ℕ) (e : Place × P) (o : Option (Place × P)) (more : ℕ) → i < length os → o ≡ get_or os i o → ((is_some o ≡ false) × (more ≡ 1)) ⊎ ((is_some o ≡ true) × (more ≡ 0)) → length (held (set os i (Some e))) ≡ length (held os) + more
  fill_count os i e o more within read h =
      let at : slot_at os i ≡ o = get_or_default os i None o within ∙ sym read in
      let whole : length (held (set os i (Some e))) + option_len (slot_at os i) ≡ length (held os) + 1 = held_set os i (Some e) within in
      let one : option_len (slot_at os i) + more ≡ 1 = ap (λ (x : Option (Place × P)). option_len x + more) at ∙ count_of o more h in
      omega (arith, whole, one)

  pub at_within : (os : List (Option (Place × P))) (i : ℕ) (e : Place × P) → slot_at os i ≡ Some e → i < length os
  at_within [] i e at = cc
  at_within (o ∷ os) zero e at = omega arith
  at_within (o ∷ os) (suc i) e at = let rest = at_within os i e at in omega arith

  pub out_count : (os : List (Option (Place × P))) (i : ℕ) (e : Place × P) → slot_at os i ≡ Some e → length (held (set os i None)) + 1 ≡ length (held os)
  out_count os i e at =
      let whole : length (held (set os i None)) + option_len (slot_at os i) ≡ length (held os) + 0 = held_set os i None (at_within os i e at) in
      let one : option_len (slot_at os i) ≡ 1 = ap (λ (x : Option (Place × P)). option_len x) at in
      omega (arith, whole, one)

  pub placed_less : (r : Ring) (os ns : List (Option (Place × P))) → AreInPlace r os → ((i : ℕ) (e : Place × P) → slot_at ns i ≡ Some e → slot_at os i ≡ Some e) → AreInPlace r ns
  placed_less r os ns placed less i e at = placed i e (less i e at)

  pub held_free : (os : List (Option (Place × P))) → AreFree os → held os ≡ []
  held_free [] free = refl
  held_free (None ∷ os) free = held_free os (λ i x. free (suc i) x)
  held_free (Some e ∷ os) free = absurd (free 0 e refl)

  pub panes_free : (os : List (Option (Place × P))) → AreFree os → panes_in os ≡ empty
  panes_free os free = empty_of_len (panes_in os) (ap (λ (es : List (Place × P)). len (from_entries {R = place_cmp} es)) (held_free os free) ∙ len-empty place_cmp P)

  pub not_started : (start : ℤ) (o : Option (Place × P)) (e : Place × P) → starts_at start o ≡ false → o ≡ Some e → e.0.start ≢ start
  not_started start o e h is same =
      let test : starts_at start o ≡ true = ap (starts_at start) is ∙ (Decides-int_eq e.0.start start).1 same in
      let bad : false ≡ true = sym h ∙ test in
      cc

-- ---- an entry, by its place

module _ {P : Type 0} where
  pub entry_placed : (o : Option (Place × P)) (p : Place) → option_map (λ e. e.0) o ≡ Some p → (v : P) × (o ≡ Some (p, v))
  entry_placed None p h = absurd (cc)
  entry_placed (Some e) p h = (e.1, let same : e.0 ≡ p = cc in λ i. Some (same i, e.1))

  pub none_placed : (o : Option (Place × P)) → option_map (λ e. e.0) o ≡ None → o ≡ None
  none_placed None h = refl
  none_placed (Some e) h = absurd (cc)

  -- an entry put into a slot that has one, or has none
  pub count_put : (os : List (Option (Place × P))) (i : ℕ) (e : Place × P) → i < length os → length (held (set os i (Some e))) + option_len (slot_at os i) ≡ length (held os) + 1
  count_put os i e within = held_set os i (Some e) within
