-- An item that stands at another number of its list.
use Rattle.std.proofs.Common.{◌≡◌, ◌⊎◌, ◌<◌, ◌≤◌, ◌+◌, ◌-◌, ℕ, List, get_or, length, set, sym, ◌∙◌, inl, inr, arith}
use Rattle.std.proofs.lemmas.Bool.{cases_Bool, cases_eq}
use Rattle.std.proofs.lemmas.Bool.Decides.{nat_tests}
use Rattle.std.proofs.lemmas.List.{ext_get_or, get_or-set_other, get_or-set_same, length-set}
use Rattle.std.proofs.lemmas.List.Edits.{get_or-insert_above, get_or-insert_at, get_or-insert_below, get_or-remove_above, get_or-remove_below, length-insert, length-remove}
use Rattle.std.specs.Prelude.{insert, nat_lt}
use Rattle.std.specs.List.{remove}

module _ {T : Type 0} (items : List T) (from to : ℕ) (s : T) (inside : from < length items) (within : to < length items) where
  abbrev rest : List T
  rest = remove items from

  abbrev shifted : List T
  shifted = insert rest to s

  shorter : length rest + 1 ≡ length items
  shorter = length-remove items from inside

  fits : to ≤ length rest
  fits = omega (arith, shorter)

  pub same_length : length shifted ≡ length items
  same_length = omega (arith, shorter, length-insert rest to s fits)

  in_front : (k : ℕ) → k < to → k < from → get_or shifted k s ≡ get_or items k s
  in_front k first before = get_or-insert_below rest to s s k first fits ∙ get_or-remove_below items from s k before inside

  moved_down : (k : ℕ) → k < to → from ≤ k → get_or shifted k s ≡ get_or items (k + 1) s
  moved_down k first after = get_or-insert_below rest to s s k first fits ∙ get_or-remove_above items from s k after inside

  moved_up : (k : ℕ) → to ≤ k → k < from → get_or shifted (k + 1) s ≡ get_or items k s
  moved_up k past before = get_or-insert_above rest to s s k past fits ∙ get_or-remove_below items from s k before inside

  behind : (k : ℕ) → to ≤ k → from ≤ k → get_or shifted (k + 1) s ≡ get_or items (k + 1) s
  behind k past after = get_or-insert_above rest to s s k past fits ∙ get_or-remove_above items from s k after inside

  -- those between were moved by a place
  module _ (moved : List T) (long : length moved ≡ length items) (low high : ℕ) (first : low ≤ high)
      (below : (k : ℕ) → k < low → get_or moved k s ≡ get_or items k s) (above : (k : ℕ) → high ≤ k → k < length items → get_or moved k s ≡ get_or items k s) where
    written : ((k : ℕ) → k < length items → (k ≡ to → ⊥) → get_or moved k s ≡ get_or shifted k s) → set moved to s ≡ shifted
    written others = ext_get_or s (set moved to s) shifted (length-set moved to s ∙ long ∙ sym same_length) (λ k fit. each k (omega (arith, fit, length-set moved to s, long)) (cases_eq k to)) where
      each : (k : ℕ) → k < length items → (k ≡ to) ⊎ (k ≡ to → ⊥) → get_or (set moved to s) k s ≡ get_or shifted k s
      each k fit (inl here) = rw here (get_or-set_same moved to s s (omega (arith, within, long)) ∙ sym (get_or-insert_at rest to s s fits))
      each k fit (inr other) = get_or-set_other moved to k s s other ∙ others k fit other

    pub shifted_on : low ≡ from → high ≡ to → ((k : ℕ) → from ≤ k → k < to → get_or moved k s ≡ get_or items (k + 1) s) → set moved to s ≡ shifted
    shifted_on at_low at_high between = written each where
      back : (k j : ℕ) → k ≡ j + 1 → to ≤ j → k < length items → get_or moved k s ≡ get_or shifted k s
      back k j next past fit = rw next (above (j + 1) (omega (arith, at_high, past)) (omega (arith, next, fit)) ∙ sym (behind j past (omega (arith, at_low, at_high, first, past))))

      each : (k : ℕ) → k < length items → (k ≡ to → ⊥) → get_or moved k s ≡ get_or shifted k s
      each k fit other = elim (cases_Bool (nat_lt k to)) [
        | inl less ↦
            let before : k < to = grind (arith, nat_tests) in
            elim (cases_Bool (nat_lt k from)) [
              | inl front ↦ let ahead : k < from = grind (arith, nat_tests) in below k (omega (arith, at_low, ahead)) ∙ sym (in_front k before ahead)
              | inr rear ↦ let after : from ≤ k = grind (arith, nat_tests) in between k after before ∙ sym (moved_down k before after)
            ]
        | inr more ↦ let last : to ≤ k = grind (arith, nat_tests) in back k (k - 1) (omega (arith, last, other)) (omega (arith, last, other)) fit
      ]

    pub shifted_back : low ≡ to + 1 → high ≡ from + 1 → ((k : ℕ) → to ≤ k → k < from → get_or moved (k + 1) s ≡ get_or items k s) → set moved to s ≡ shifted
    shifted_back at_low at_high between = written each where
      back : (k j : ℕ) → k ≡ j + 1 → to ≤ j → k < length items → get_or moved k s ≡ get_or shifted k s
      back k j next past fit = elim (cases_Bool (nat_lt j from)) [
        | inl front ↦ let ahead : j < from = grind (arith, nat_tests) in rw next (between j past ahead ∙ sym (moved_up j past ahead))
        | inr rear ↦ let after : from ≤ j = grind (arith, nat_tests) in rw next (above (j + 1) (omega (arith, at_high, after)) (omega (arith, next, fit)) ∙ sym (behind j past after))
      ]

      each : (k : ℕ) → k < length items → (k ≡ to → ⊥) → get_or moved k s ≡ get_or shifted k s
      each k fit other = elim (cases_Bool (nat_lt k to)) [
        | inl less ↦ let before : k < to = grind (arith, nat_tests) in below k (omega (arith, at_low, before)) ∙ sym (in_front k before (omega (arith, at_low, at_high, first, before)))
        | inr more ↦ let last : to ≤ k = grind (arith, nat_tests) in back k (k - 1) (omega (arith, last, other)) (omega (arith, last, other)) fit
      ]
