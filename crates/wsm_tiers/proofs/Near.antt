-- The first items of a list, and those behind them.
use Rattle.std.proofs.Common.{◌≡◌, ◌+◌, ◌-◌, ◌<◌, ◌≤◌, ◌++◌, ℕ, List, ap, ◌∙◌, drop, length, length-append, length-drop, length-take, min, sym, take, inl, inr, arith}
use Rattle.std.proofs.lemmas.Bool.{cases_Bool}
use Rattle.std.proofs.lemmas.Bool.Decides.{nat_tests}
use Rattle.std.proofs.lemmas.List.{drop_at, take-append-drop}
use Rattle.std.specs.Prelude.{nat_lt}
use Rattle.wsm_tiers.specs.Listed.{Listed}
use Rattle.wsm_tiers.specs.Near.{IsNearFirst}
use Rattle.wsm_tiers.specs.declared.far.TheConstants.{TIER}

module _ {T : Type 0} (room count : ℕ) (near : List T) (capacity : ℕ) (far : Listed T) (h : IsNearFirst room count near capacity far) where
  -- where there are as many as a tier has, as many are the first
  pub near_full : TIER ≤ length (near ++ far.items) → length near ≡ TIER
  near_full many = elim (cases_Bool (nat_lt (length near) TIER)) [
    | inl less ↦
        let few : length near < TIER = grind (arith, nat_tests) in
        absurd (omega (arith, few, many, h.full few, length-append near far.items))
    | inr more ↦ let least : TIER ≤ length near = grind (arith, nat_tests) in omega (arith, least, h.few)
  ]

  -- one of so many is one of the first
  pub near_holds : (at : ℕ) → at < TIER → at < length (near ++ far.items) → at < length near
  near_holds at low within = elim (cases_Bool (nat_lt (length near) TIER)) [
    | inl less ↦
        let few : length near < TIER = grind (arith, nat_tests) in
        omega (arith, few, within, h.full few, length-append near far.items)
    | inr more ↦ let least : TIER ≤ length near = grind (arith, nat_tests) in omega (arith, least, low)
  ]

  -- the first items are those of a tier, and the others are behind them
  module _ (full : length near ≡ TIER) where
    poured_long : length (take TIER far.items) ≡ min TIER (length far.items)
    poured_long = length-take TIER far.items

    left_long : length (drop TIER far.items) ≡ length far.items - TIER
    left_long = length-drop TIER far.items

    pub poured : (next : List T) (wider : ℕ) (left : Listed T) → next ≡ take TIER far.items → wider ≡ capacity → left.items ≡ drop TIER far.items → left.room ≡ far.room
        → IsNearFirst room (count - TIER) next wider left
    poured next wider left is wide items same =
        let near_long = ap length is ∙ poured_long in
        let far_long = ap length items ∙ left_long in
        record {
          few = omega (arith, near_long);
          full = λ less. omega (arith, less, near_long, far_long);
          wide = omega (arith, h.wide, wide);
          rest = same ∙ h.rest;
          counted = omega (arith, h.counted, full, near_long, far_long);
          within = omega (arith, h.within);
        }

    pub poured_items : take TIER far.items ++ drop TIER far.items ≡ drop TIER (near ++ far.items)
    poured_items = take-append-drop TIER far.items ∙ sym (drop_at near far.items TIER full)

  -- some of the first are dropped, and as many come from behind
  module _ (gone : ℕ) (low : gone ≤ TIER) (few : gone ≤ length (near ++ far.items)) (next : List T) (left : Listed T)
      (all : next ++ left.items ≡ drop gone near ++ far.items) (less : length left.items ≡ length far.items - gone) (same : left.room ≡ far.room) where
    long : length next + length left.items ≡ length near - gone + length far.items
    long = omega (arith, length-append next left.items, ap length all, length-append (drop gone near) far.items, length-drop gone near)

    pub dropped : IsNearFirst room (count - gone) next capacity left
    dropped = elim (cases_Bool (nat_lt (length near) TIER)) [
      | inl lack ↦
          let some : length near < TIER = grind (arith, nat_tests) in
          let none = h.full some in
          record {
            few = omega (arith, long, less, none, some);
            full = λ _. omega (arith, less, none);
            wide = h.wide;
            rest = same ∙ h.rest;
            counted = omega (arith, h.counted, long, few, length-append near far.items, none);
            within = omega (arith, h.within);
          }
      | inr more ↦
          let least : TIER ≤ length near = grind (arith, nat_tests) in
          record {
            few = omega (arith, long, less, least, h.few, low);
            full = λ lack. omega (arith, long, less, least, h.few, low, lack);
            wide = h.wide;
            rest = same ∙ h.rest;
            counted = omega (arith, h.counted, long, least, low);
            within = omega (arith, h.within);
          }
    ]
