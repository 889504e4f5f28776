-- A key of a part has its place in the part's block, by which its number among all is told.
use Rattle.std.proofs.Common.{◌≡◌, ◌∷◌, ◌∙◌, ◌+◌, ◌*◌, ◌-◌, ◌<◌, ◌≤◌, [], ℕ, zero, suc, List, Bool, Some, refl, ap, sym, inl, inr, not, min, arith, position, length}
use Rattle.std.proofs.Math.Nat.{div-mul-le_self, lt-div-mul-add}
use Rattle.std.proofs.lemmas.Bool.{cases_Bool, cases_lt, le-ltb, lt-ltb}
use Rattle.std.proofs.lemmas.List.{length-drop, length-take}
use Rattle.std.specs.Prelude.{◌/◌, bytes_eq, drop, nat_lt, option_map, take}
use Rattle.std.specs.List.{prefix_len}
use Rattle.wsm_deal.specs.Deal.{Sharing, part_of}
use Rattle.wsm_deal.specs.Runs.{block_of, number_of}

-- how many elements pass in front, of what is left behind some that all pass
behind_some : {X : Type 0} (p : X → Bool) (m : ℕ) (xs : List X) → m ≤ prefix_len p xs → prefix_len p xs ≡ m + prefix_len p (drop m xs)
behind_some p zero [] h = refl
behind_some p zero (x ∷ xs) h = omega arith
behind_some p (suc m) [] h = omega (arith, h)
behind_some p (suc m) (x ∷ xs) h = elim (cases_Bool (p x)) [
  | inl is ↦ let few : suc m ≤ 1 + prefix_len p xs = (rw is at h) in let rest = behind_some p m xs (omega (arith, few)) in rw is (omega (arith, rest))
  | inr other ↦ let none : suc m ≤ 0 = (rw other at h) in omega (arith, none)
]

of_some : {X : Type 0} (p : X → Bool) (k : ℕ) (xs : List X) → prefix_len p (take k xs) ≡ min k (prefix_len p xs)
of_some p zero [] = omega arith
of_some p zero (x ∷ xs) = omega arith
of_some p (suc k) [] = omega arith
of_some p (suc k) (x ∷ xs) = elim (cases_Bool (p x)) [
  | inl is ↦ let rest = of_some p k xs in rw is (omega (arith, rest))
  | inr other ↦ rw other (omega arith)
]

module _ (s : Sharing) (part : ℕ) where
  abbrev all : ℕ
  all = length s.names

  abbrev own : ℕ
  own = length (block_of s part)

  block_size : own ≡ min s.block (all - part * s.block)
  block_size = length-take s.block (drop (part * s.block) s.names) ∙ ap (min s.block) (length-drop (part * s.block) s.names)

  -- ---- the numbers of a part's keys are in their order, and they alone are numbers among all

  number_within : (k : ℕ) → k < own → number_of s part k ≡ part * s.block + k
  number_within k h = rw (lt-ltb k own h) refl

  number_past : (k : ℕ) → own ≤ k → number_of s part k ≡ all + k
  number_past k h = rw (le-ltb k own h) refl

  pub numbers_rise : (j k : ℕ) → j < k → number_of s part j < number_of s part k
  numbers_rise j k less =
      let size = block_size in
      elim (cases_lt k own) [
        | inl in_block ↦ rw (number_within k in_block, number_within j (omega (arith, less, in_block))) (omega (arith, less))
        | inr past ↦ elim (cases_lt j own) [
          | inl in_block ↦ rw (number_past k past, number_within j in_block) (omega (arith, less, in_block, size))
          | inr both_past ↦ rw (number_past k past, number_past j both_past) (omega (arith, less))
        ]
      ]

  pub numbers_declared : (k : ℕ) → nat_lt k own ≡ nat_lt (number_of s part k) all
  numbers_declared k =
      let size = block_size in
      elim (cases_lt k own) [
        | inl in_block ↦ rw (number_within k in_block) (lt-ltb k own in_block ∙ sym (lt-ltb (part * s.block + k) all (omega (arith, in_block, size))))
        | inr past ↦ rw (number_past k past) (le-ltb k own past ∙ sym (le-ltb (all + k) all (omega arith)))
      ]

  -- ---- a key of the part

  module _ (key : List ℕ) where
    abbrev differs : List ℕ → Bool
    differs name = not (bytes_eq key name)

    abbrev among : ℕ
    among = prefix_len differs s.names

    abbrev here : ℕ
    here = prefix_len differs (block_of s part)

    here_is : here ≡ min s.block (prefix_len differs (drop (part * s.block) s.names))
    here_is = of_some differs s.block (drop (part * s.block) s.names)

    found : among < all → part * s.block ≤ among → among < part * s.block + s.block → (among ≡ part * s.block + here) × (here < own)
    found within low high =
        let size = block_size in
        let is = here_is in
        let behind = behind_some differs (part * s.block) s.names low in
        (omega (arith, is, behind, high), omega (arith, is, behind, high, size, within))

    not_found : all ≤ among → own ≤ here
    not_found none =
        let size = block_size in
        let is = here_is in
        elim (cases_lt among (part * s.block)) [
          | inl less ↦ omega (arith, is, size, less, none)
          | inr low ↦ let behind = behind_some differs (part * s.block) s.names low in omega (arith, is, size, behind, none)
        ]

    part_is : 0 < s.block → among < all → part_of s key ≡ part → among / s.block ≡ part
    part_is some within its = let is : part_of s key ≡ among / s.block = rw (lt-ltb among all within) refl in sym is ∙ its

    pub number_is : 0 < s.block → part_of s key ≡ part →
        position (bytes_eq key) s.names ≡ option_map (number_of s part) (position (bytes_eq key) (block_of s part))
    number_is some its = elim (cases_lt among all) [
      | inl within ↦
          let block = part_is some within its in
          let least : among / s.block * s.block ≤ among = div-mul-le_self among s.block in
          let most : among < among / s.block * s.block + s.block = lt-div-mul-add some in
          let low : part * s.block ≤ among = (rw block at least) in
          let high : among < part * s.block + s.block = (rw block at most) in
          let (is, in_block) = found within low high in
          rw (lt-ltb among all within, lt-ltb here own in_block, number_within here in_block) (ap Some is)
      | inr none ↦ rw (le-ltb among all none, le-ltb here own (not_found none)) refl
    ]
