-- Slots that are cleared of what expires.
use Rattle.std.proofs.Common.{◌≡◌, ◌⊎◌, ℕ, ◌+◌, ◌<◌, ◌≤◌, true, Option, Some, None, List, length, set, ℤ, pos, ◌+ℤ◌, ◌-ℤ◌, ◌<ℤ◌, ◌≤ℤ◌, SFits, w64, refl, sym, ap, ◌∙◌, inl, inr, arith}
use Rattle.std.specs.Int.{int_min}
use Rattle.std.proofs.lemmas.Bool.{cases_Bool, cases_lt, cases_eq}
use Rattle.std.proofs.lemmas.Int.{ints, by_lt_z, int_min_is}
use Rattle.std.proofs.lemmas.List.{get_or-set_same, get_or-set_other}
use Rattle.std.proofs.lemmas.Option.{none-some, same_Some}
use Rattle.wsm_windows.specs.declared.place.Place.{Place}
use Rattle.wsm_ring.specs.declared.ring.Ring.{Ring}
use Rattle.wsm_slots.specs.Place.{is_kept}
use Rattle.wsm_ring.specs.Ring.{IsOnGrid, AreInPlace, kept_slot, row_of, window_number}
use Rattle.wsm_slots.specs.Slots.{slot_at}
use Rattle.wsm_ring.proofs.Rings.{between_fits, next_on_grid}
use Rattle.wsm_ring.proofs.Placed.{kept_from}

pub is_past : (limit : ℤ) (p : Place) → limit <ℤ p.end → is_kept limit p ≡ true
is_past limit p h = grind (arith, ints)

pub past_is : (limit : ℤ) (p : Place) → is_kept limit p ≡ true → limit <ℤ p.end
past_is limit p h = grind (arith, ints)

in_row : (row keys i : ℕ) → ((row ≤ i) × (i < row + keys)) ⊎ ((i < row) ⊎ (row + keys ≤ i))
in_row row keys i = elim (cases_lt i row) [
  | inl less ↦ inr (inl less)
  | inr from ↦ elim (cases_lt i (row + keys)) [ inl within ↦ inl (from, within) | inr past ↦ inr (inr past) ]
]

module _ {P : Type 0} where
  kept_is : (limit : ℤ) (e f : Place × P) → kept_slot limit (Some e) ≡ Some f → limit <ℤ f.0.end
  kept_is limit e f h = elim (cases_Bool (is_kept limit e.0)) [
    | inl past ↦
        let same : e ≡ f = same_Some e f (rw past at h) in
        past_is limit f.0 (ap (λ (x : Place × P). is_kept limit x.0) (sym same) ∙ past)
    | inr gone ↦ let bad : None ≡ Some f = rw gone at h in absurd (none-some f bad)
  ]

  kept_past : (limit : ℤ) (o : Option (Place × P)) (f : Place × P) → kept_slot limit o ≡ Some f → limit <ℤ f.0.end
  kept_past limit None f h = absurd (none-some f h)
  kept_past limit (Some e) f h = kept_is limit e f h

  kept_whole : (limit : ℤ) (e : Place × P) → limit <ℤ e.0.end → kept_slot limit (Some e) ≡ Some e
  kept_whole limit e h = rw (is_past limit e.0 h) refl

  kept_twice : (limit : ℤ) (o : Option (Place × P)) → kept_slot limit (kept_slot limit o) ≡ kept_slot limit o
  kept_twice limit None = refl
  kept_twice limit (Some e) = elim (cases_Bool (is_kept limit e.0)) [
    | inl past ↦ rw past (rw past refl)
    | inr gone ↦ rw gone refl
  ]

  -- one slot more of a row
  pub inside_more : (old os : List (Option (Place × P))) (limit : ℤ) (row i : ℕ) → i < length os → ((j : ℕ) → row ≤ j → j < i → slot_at os j ≡ kept_slot limit (slot_at old j)) → ((j : ℕ) → (j < row) ⊎ (i ≤ j) → slot_at os j ≡ slot_at old j) → (j : ℕ) → row ≤ j → j < i + 1 → slot_at (set os i (kept_slot limit (slot_at os i))) j ≡ kept_slot limit (slot_at old j)
  inside_more old os limit row i within inside outside j from below = elim (cases_eq j i) [
    | inl same ↦ rw same (get_or-set_same os i (kept_slot limit (slot_at os i)) None within ∙ ap (kept_slot limit) (outside i (inr (omega arith))))
    | inr other ↦ get_or-set_other os i j (kept_slot limit (slot_at os i)) None other ∙ inside j from (omega arith)
  ]

  pub outside_more : (old os : List (Option (Place × P))) (limit : ℤ) (row i : ℕ) → row ≤ i → ((j : ℕ) → (j < row) ⊎ (i ≤ j) → slot_at os j ≡ slot_at old j) → (j : ℕ) → (j < row) ⊎ (i + 1 ≤ j) → slot_at (set os i (kept_slot limit (slot_at os i))) j ≡ slot_at old j
  outside_more old os limit row i from outside j out = elim out [
    | inl less ↦ get_or-set_other os i j (kept_slot limit (slot_at os i)) None (λ same. absurd (omega arith)) ∙ outside j (inl less)
    | inr more ↦ get_or-set_other os i j (kept_slot limit (slot_at os i)) None (λ same. absurd (omega arith)) ∙ outside j (inr (omega arith))
  ]

  -- a slot is cleared of what expires, or as it was
  abbrev pub AreDone : ℤ → List (Option (Place × P)) → List (Option (Place × P)) → Type 0
  AreDone limit old os = (i : ℕ) → (slot_at os i ≡ kept_slot limit (slot_at old i)) ⊎ (slot_at os i ≡ slot_at old i)

  abbrev pub AreSince : ℤ → List (Option (Place × P)) → Type 0
  AreSince start os = (i : ℕ) (e : Place × P) → slot_at os i ≡ Some e → start ≤ℤ e.0.start

  pub done_old : (limit : ℤ) (old os : List (Option (Place × P))) → AreDone limit old os → (i : ℕ) (e : Place × P) → slot_at os i ≡ Some e → slot_at old i ≡ Some e
  done_old limit old os done i e at = elim (done i) [
    | inl kept ↦ kept_from limit (slot_at old i) e (sym kept ∙ at)
    | inr same ↦ sym same ∙ at
  ]

  done_kept : (limit : ℤ) (old os : List (Option (Place × P))) (i : ℕ) → (slot_at os i ≡ kept_slot limit (slot_at old i)) ⊎ (slot_at os i ≡ slot_at old i) → kept_slot limit (slot_at os i) ≡ kept_slot limit (slot_at old i)
  done_kept limit old os i h = elim h [
    | inl kept ↦ ap (kept_slot limit) kept ∙ kept_twice limit (slot_at old i)
    | inr same ↦ ap (kept_slot limit) same
  ]

  -- a row more is done
  pub done_more : (limit : ℤ) (old os ns : List (Option (Place × P))) (row keys : ℕ) → AreDone limit old os → ((i : ℕ) → row ≤ i → i < row + keys → slot_at ns i ≡ kept_slot limit (slot_at os i)) → ((i : ℕ) → (i < row) ⊎ (row + keys ≤ i) → slot_at ns i ≡ slot_at os i) → AreDone limit old ns
  done_more limit old os ns row keys done inside outside i = elim (in_row row keys i) [
    | inl row_in ↦ inl (inside i row_in.0 row_in.1 ∙ done_kept limit old os i (done i))
    | inr out ↦ elim (done i) [ inl kept ↦ inl (outside i out ∙ kept) | inr same ↦ inr (outside i out ∙ same) ]
  ]

  -- and what is left starts a period later
  pub since_more : (r : Ring) (limit start : ℤ) (os ns : List (Option (Place × P))) → pos 1 ≤ℤ r.period → AreInPlace r os → IsOnGrid r start → (start +ℤ r.size) ≤ℤ limit → AreSince start os → ((i : ℕ) → row_of r start ≤ i → i < row_of r start + r.keys → slot_at ns i ≡ kept_slot limit (slot_at os i)) → ((i : ℕ) → (i < row_of r start) ⊎ (row_of r start + r.keys ≤ i) → slot_at ns i ≡ slot_at os i) → AreSince (start +ℤ r.period) ns
  since_more r limit start os ns one placed grid expires since inside outside i e at =
      let old : slot_at os i ≡ Some e = elim (in_row (row_of r start) r.keys i) [
        | inl row_in ↦ kept_from limit (slot_at os i) e (sym (inside i row_in.0 row_in.1) ∙ at)
        | inr out ↦ sym (outside i out) ∙ at
      ] in
      let of = placed i e old in
      by_lt_z {P = (start +ℤ r.period) ≤ℤ e.0.start} start e.0.start
      (λ less. next_on_grid r.period grid.0 (window_number r e.0.start) start e.0.start one grid.1 of.0.start less)
      (λ more.
      let from = since i e old in
      let same : e.0.start ≡ start = omega (arith, ints, more, from) in
      let own : row_of r start + e.0.key ≡ i = ap (λ s. row_of r s + e.0.key) (sym same) ∙ of.1 in
      let kept : slot_at ns i ≡ kept_slot limit (slot_at os i) = inside i (omega (arith, own)) (omega (arith, own, of.0.key)) in
      let past : limit <ℤ e.0.end = kept_past limit (slot_at os i) e (sym kept ∙ at) in
      absurd (omega (arith, ints, past, of.0.end, same, expires)))

  all_kept_at : (limit : ℤ) (o x : Option (Place × P)) → x ≡ o → ((e : Place × P) → x ≡ Some e → limit <ℤ e.0.end) → x ≡ kept_slot limit o
  all_kept_at limit None x same past = same
  all_kept_at limit (Some e) x same past = same ∙ sym (kept_whole limit e (past e same))

  -- where all that is left is past the limit, all is done
  pub all_done : (limit : ℤ) (old os : List (Option (Place × P))) → AreDone limit old os → ((i : ℕ) (e : Place × P) → slot_at os i ≡ Some e → limit <ℤ e.0.end) → (i : ℕ) → slot_at os i ≡ kept_slot limit (slot_at old i)
  all_done limit old os done past i = elim (done i) [
    | inl kept ↦ kept
    | inr same ↦ all_kept_at limit (slot_at old i) (slot_at os i) same (past i)
  ]

-- what starts behind the least of two times starts behind one of them
pub past_either : (x y s : ℤ) → int_min x y <ℤ s → (x <ℤ s) ⊎ (y <ℤ s)
past_either x y s h = by_lt_z {P = (x <ℤ s) ⊎ (y <ℤ s)} x s (λ less. inl less) (λ more. inr (omega (arith, ints, int_min_is x y, more, h)))

pub min_within : (x y s : ℤ) → s ≤ℤ int_min x y → (s ≤ℤ x) × (s ≤ℤ y)
min_within x y s h = (omega (arith, ints, int_min_is x y, h), omega (arith, ints, int_min_is x y, h))

-- where the limit is too low for any window to have ended, none has
pub none_ended : (limit size first start end : ℤ) → ¬ (SFits w64 (limit -ℤ size)) → SFits w64 limit → SFits w64 first → pos 1 ≤ℤ size → first ≤ℤ start → end ≡ start +ℤ size → limit <ℤ end
none_ended limit size first start end unfit f g one from is = by_lt_z {P = limit <ℤ end} limit end (λ less. less)
    (λ more. absurd (unfit (between_fits first (limit -ℤ size) limit g f (omega (arith, ints, more, from, is)) (omega (arith, ints, one)))))
