-- A key has a part and a place in it, by which its number among all is told; each declared key is of one part.
use Rattle.std.proofs.Common.{◌≡◌, ℕ, zero, suc, ◌+◌, ◌-◌, ◌*◌, ◌<◌, ◌≤◌, Bool, true, false, cond, List, [], ◌∷◌, length, replicate, ℤ, inl, inr, refl, sym, ap, ◌∙◌, arith}
use Rattle.std.proofs.Math.Nat.{div-mul-le_self, div-le_self, mod-eq-sub-div-mul, mod-lt}
use Rattle.std.proofs.lemmas.Bool.{true≢false, cases_lt, le-ltb, lt-ltb}
use Rattle.std.proofs.lemmas.Bool.Decides.{nat_tests}
use Rattle.std.proofs.lemmas.List.{length-replicate}
use Rattle.std.specs.Prelude.{◌/◌, ◌%◌, Some, None, filter, nat_eq, nat_lt}
use Rattle.std.specs.List.{range_with_len}
use Rattle.wsm_record.specs.Event.{Event, Record, Watermark}
use Rattle.wsm_semantics.specs.declared.out_row.OutRow.{OutRow}
use Rattle.wsm_semantics.specs.declared.out_row.OutRow.TheVariants.{Pane, Retract, Istream, Dstream, Rstream}
use Rattle.wsm_semantics.specs.Query.{Query}
use Rattle.wsm_semantics.specs.ByKey.{is_of, is_row_of}
use Rattle.wsm_semantics.specs.ByNumber.{AreNumbers, event_by}
use Rattle.wsm_semantics.proofs.Each.{same_key}
use Rattle.wsm_key_parts.specs.Parts.{keys_in, placed, number_in, over, declared_keys}
use Rattle.wsm_key_parts.proofs.Merged.{IsOfOne}

times_le : (a b m : ℕ) → a ≤ b → a * m ≤ b * m
times_le zero b m h = let z : zero * m ≡ 0 = omega arith in omega (arith, z)
times_le (suc a) zero m h = absurd (omega (arith, h))
times_le (suc a) (suc b) m h =
    let rest : a * m ≤ b * m = times_le a b m (omega (arith, h)) in
    let x : suc a * m ≡ a * m + m = omega arith in
    let y : suc b * m ≡ b * m + m = omega arith in
    omega (arith, rest, x, y)

times_more : (n m : ℕ) → 1 ≤ m → n ≤ n * m
times_more zero m h = omega arith
times_more (suc n) m h =
    let rest : n ≤ n * m = times_more n m h in
    let x : suc n * m ≡ n * m + m = omega arith in
    omega (arith, rest, x, h)

-- as many keys as fill the parts
abbrev pub filled : ℕ → ℕ → List (List ℕ)
filled all block = replicate (all * block) []

pub filled_more : (all block : ℕ) → 0 < block → all ≤ length (filled all block)
filled_more all block some =
    let more = times_more all block (omega (arith, some)) in
    let long = length-replicate {A = List ℕ} (all * block) [] in
    omega (arith, more, long)

module _ (block all part : ℕ) where
  abbrev number : ℕ → ℕ
  number = number_in block all part

  within : (k : ℕ) → k < block → number k ≡ part * block + k
  within k h = ap (λ (b : Bool). cond b (part * block + k) (all * block + k)) (lt-ltb k block h)

  past : (k : ℕ) → block ≤ k → number k ≡ all * block + k
  past k h = ap (λ (b : Bool). cond b (part * block + k) (all * block + k)) (le-ltb k block h)

  module _ (few : part < all) where
    fits : part * block + block ≤ all * block
    fits =
        let most : suc part * block ≤ all * block = times_le (suc part) all block (omega (arith, few)) in
        let x : suc part * block ≡ part * block + block = omega arith in
        omega (arith, most, x)

    rising : (j k : ℕ) → j < k → number j < number k
    rising j k less = elim (cases_lt k block) [
      | inl in_part ↦
          let a = within k in_part in
          let b = within j (omega (arith, less, in_part)) in
          omega (arith, a, b, less)
      | inr after ↦ elim (cases_lt j block) [
        | inl in_part ↦
            let a = past k after in
            let b = within j in_part in
            let c = fits in
            omega (arith, a, b, c, less, in_part)
        | inr both ↦
            let a = past k after in
            let b = past j both in
            omega (arith, a, b, less)
      ]
    ]

    declared : (k : ℕ) → nat_lt k block ≡ nat_lt (number k) (all * block)
    declared k = elim (cases_lt k block) [
      | inl in_part ↦
          let a = within k in_part in
          let c = fits in
          lt-ltb k block in_part ∙ sym (lt-ltb (number k) (all * block) (omega (arith, a, c, in_part)))
      | inr after ↦
          let a = past k after in
          le-ltb k block after ∙ sym (le-ltb (number k) (all * block) (omega (arith, a)))
    ]

-- the places of a part are numbers among the keys that fill the parts
pub are_numbers : (places : List (List ℕ)) (records : ℤ) (q : Query) (all part : ℕ) → part < all → AreNumbers (number_in (length places) all part) places (over (filled all (length places)) records q)
are_numbers places records q all part few = record {
  rising = rising (length places) all part few;
  declared = λ k. declared (length places) all part few k ∙ ap (nat_lt (number_in (length places) all part k)) (sym (length-replicate (all * length places) []));
}

-- ---- the number of a key of the part

module _ (block all part : ℕ) (some : 0 < block) where
  number_is : (n : ℕ) → nat_eq part (n / block) ≡ true → number_in block all part (n % block) ≡ n
  number_is n own =
      let less : n % block < block = mod-lt n some in
      let is = within block all part (n % block) less in
      let rest : n % block ≡ n - n / block * block = mod-eq-sub-div-mul n block in
      let low : n / block * block ≤ n = div-mul-le_self n block in
      let same : part * block ≡ n / block * block = ap (λ (p : ℕ). p * block) (same_key part (n / block) own) in
      omega (arith, is, rest, low, same)

  -- an event of the part by its place, and back
  pub placed_back : (e : Event) → is_of (keys_in block part) e ≡ true → event_by (number_in block all part) (placed block e) ≡ e
  placed_back (Record None t vs) own = absurd (true≢false (sym own))
  placed_back (Record (Some n) t vs) own = ap (λ (k : ℕ). Record (Some k) t vs) (number_is n own)
  placed_back (Watermark s t) own = refl

-- ---- each row is of one part

none_in_range : (m a n : ℕ) → m < a → length (filter (λ p. nat_eq p m) (range_with_len a n)) ≡ 0
none_in_range m a zero h = refl
none_in_range m a (suc n) h =
    let other : nat_eq a m ≡ false = grind (arith, nat_tests) in
    ap (λ (b : Bool). length (cond b (a ∷ filter (λ p. nat_eq p m) (range_with_len (a + 1) n)) (filter (λ p. nat_eq p m) (range_with_len (a + 1) n)))) other
    ∙ none_in_range m (a + 1) n (omega (arith, h))

one_in_range : (m a n : ℕ) → a ≤ m → m < a + n → length (filter (λ p. nat_eq p m) (range_with_len a n)) ≡ 1
one_in_range m a zero from until = absurd (omega (arith, from, until))
one_in_range m a (suc n) from until =
    let rest : List ℕ = filter (λ p. nat_eq p m) (range_with_len (a + 1) n) in
    elim (cases_lt a m) [
      | inl less ↦
          let other : nat_eq a m ≡ false = grind (arith, nat_tests) in
          ap (λ (b : Bool). length (cond b (a ∷ rest) rest)) other ∙ one_in_range m (a + 1) n (omega (arith, less)) (omega (arith, until))
      | inr least ↦
          let is : a ≡ m = omega (arith, from, least) in
          let same : nat_eq a m ≡ true = grind (arith, nat_tests) in
          let none : length rest ≡ 0 = none_in_range m (a + 1) n (omega (arith, is)) in
          ap (λ (b : Bool). length (cond b (a ∷ rest) rest)) same ∙ ap suc none
    ]

known : (n m : ℕ) → nat_lt n m ≡ true → n < m
known n m h = grind (arith, nat_tests)

of_one : (q : Query) (block key : ℕ) → nat_lt key (length q.declared.keys) ≡ true → length (filter (λ p. nat_eq p (key / block)) (range_with_len 0 (length q.declared.keys))) ≡ 1
of_one q block key h =
    let less = known key (length q.declared.keys) h in
    let low = div-le_self key block in
    one_in_range (key / block) 0 (length q.declared.keys) (omega arith) (omega (arith, less, low))

pub each_of_one : (q : Query) (block : ℕ) (r : OutRow) → is_row_of (declared_keys q) r ≡ true → IsOfOne (keys_in block) (range_with_len 0 (length q.declared.keys)) r
each_of_one q block (Pane kind key window columns) h = of_one q block key h
each_of_one q block (Retract key window columns) h = of_one q block key h
each_of_one q block (Istream mark columns) h = absurd (true≢false (sym h))
each_of_one q block (Dstream mark columns) h = absurd (true≢false (sym h))
each_of_one q block (Rstream mark columns) h = absurd (true≢false (sym h))
