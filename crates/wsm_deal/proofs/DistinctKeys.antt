-- The number of a key, where keys differ.
use Rattle.std.proofs.Common.{◌≡◌, ◌∙◌, ◌+◌, [], ◌∷◌, ℕ, zero, suc, List, Bool, Option, Some, None, true, false, not, inl, inr, refl, sym, ap, arith, length, map, position}
use Rattle.std.proofs.lemmas.Bool.{cases_Bool, lt-ltb}
use Rattle.std.proofs.lemmas.List.{length-map}
use Rattle.std.proofs.lemmas.Map.Keys.{IsDistinct-head, IsDistinct-tail}
use Rattle.std.proofs.lemmas.Option.{slice_get-map, slice_get_within}
use Rattle.std.proofs.lemmas.Slice.Eq.{bytes_eq-Decides}
use Rattle.std.specs.List.{AllByRecursion, IsDistinct, prefix_len}
use Rattle.std.specs.Prelude.{bytes_eq, option_map, slice_get}

some_same : {X : Type 0} (y x : X) → Some y ≡ Some x → y ≡ x
some_same y x e = cc e

module _ {V : Type 0} (items : V → List ℕ) where
  abbrev same : V → V → Bool
  same x y = bytes_eq (items x) (items y)

  -- a key that differs from each of some keys differs from one of them
  other : (k : V) (ks : List V) (i : ℕ) (v : V) → AllByRecursion (λ y. same k y ≡ false) ks → slice_get ks i ≡ Some v → same k v ≡ false
  other k [] i v all e = cc e
  other k (y ∷ ys) zero v all e = ap (same k) (sym (some_same y v e)) ∙ all.0
  other k (y ∷ ys) (suc i) v all e = other k ys i v all.1 e

  flipped : (k v : V) → same k v ≡ false → bytes_eq (items v) (items k) ≡ false
  flipped k v e = elim (cases_Bool (bytes_eq (items v) (items k))) [
    | inl is ↦ cc (sym e ∙ (bytes_eq-Decides (items k) (items v)).1 (sym ((bytes_eq-Decides (items v) (items k)).0 is)))
    | inr differs ↦ differs
  ]

  in_front : (ks : List V) (i : ℕ) (v : V) → IsDistinct same ks → slice_get ks i ≡ Some v → prefix_len (λ y. not (bytes_eq (items v) y)) (map items ks) ≡ i
  in_front [] i v distinct e = cc e
  in_front (k ∷ ks) zero v distinct e =
      let is : bytes_eq (items v) (items k) ≡ true = (bytes_eq-Decides (items v) (items k)).1 (ap items (sym (some_same k v e))) in
      rw is refl
  in_front (k ∷ ks) (suc i) v distinct e =
      let differs = flipped k v (other k ks i v (IsDistinct-head same k ks distinct) e) in
      let one_more : 1 + i ≡ suc i = omega arith in
      rw (differs, in_front ks i v (IsDistinct-tail same k ks distinct) e) one_more

  pub number_of_distinct : (ks : List V) (i : ℕ) (v : V) → IsDistinct same ks → slice_get ks i ≡ Some v → position (bytes_eq (items v)) (map items ks) ≡ Some i
  number_of_distinct ks i v distinct e =
      rw (in_front ks i v distinct e, length-map ks items, lt-ltb i (length ks) (slice_get_within ks i v e)) refl

  found : (ks : List V) (i : ℕ) (text : List ℕ) (at : Option V) → IsDistinct same ks → slice_get ks i ≡ at → option_map items at ≡ Some text → position (bytes_eq text) (map items ks) ≡ Some i
  found ks i text None distinct e h = cc h
  found ks i text (Some v) distinct e h =
      ap (λ (t : List ℕ). position (bytes_eq t) (map items ks)) (sym (some_same (items v) text h)) ∙ number_of_distinct ks i v distinct e

  -- the same by the text of the key
  pub number_of_text : (ks : List V) (i : ℕ) (text : List ℕ) → IsDistinct same ks → slice_get (map items ks) i ≡ Some text → position (bytes_eq text) (map items ks) ≡ Some i
  number_of_text ks i text distinct e = found ks i text (slice_get ks i) distinct refl (sym (slice_get-map items ks i) ∙ e)
