-- Slots that go into a row and out of it: each is in the row or free, once.
use Rattle.std.proofs.Common.{◌≡◌, ◌≢◌, ◌<◌, ◌≤◌, ◌+◌, ℕ, zero, suc, Bool, true, false, cond, Some, List, [], ◌∷◌, ◌++◌, length, length-append, take, drop, refl, sym, ap, ◌∙◌, inl, inr, arith}
use Rattle.std.proofs.lemmas.Bool.{true≢false, cases_Bool}
use Rattle.std.proofs.lemmas.Bool.Decides.{nat_tests}
use Rattle.std.proofs.lemmas.List.{take-append-drop}
use Rattle.std.proofs.lemmas.List.Edits.{length-insert, length-remove}
use Rattle.std.specs.Prelude.{insert, nat_eq, nat_lt, slice_get}
use Rattle.std.specs.List.{remove}
use Rattle.std.specs.Option.{is_some}
use Rattle.wsm_list.specs.Stored.{AreApart, listed, same}

pub same_self : (s : ℕ) → same s s ≡ 1
same_self s = grind (arith, nat_tests)

pub apart_same : (r s : ℕ) → same r s ≡ 0 → r ≢ s
apart_same r s h is = let one : same r s ≡ 1 = rw is (same_self s) in omega (arith, h, one)

pub listed-append : (s : ℕ) (xs ys : List ℕ) → listed s (xs ++ ys) ≡ listed s xs + listed s ys
listed-append s [] ys = omega arith
listed-append s (x ∷ xs) ys = let rest = listed-append s xs ys in omega (arith, rest)

pub listed_more : (s i r : ℕ) (xs : List ℕ) → i ≤ length xs → listed s (insert xs i r) ≡ same r s + listed s xs
listed_more s zero r [] h = refl
listed_more s zero r (x ∷ xs) h = refl
listed_more s (suc i) r [] h = absurd (omega (arith, h))
listed_more s (suc i) r (x ∷ xs) h = let rest = listed_more s i r xs (omega (arith, h)) in omega (arith, rest)

pub listed_less : (s i r : ℕ) (xs : List ℕ) → slice_get xs i ≡ Some r → listed s (remove xs i) + same r s ≡ listed s xs
listed_less s i r [] at = absurd (true≢false (sym (ap is_some at)))
listed_less s zero r (x ∷ xs) at = let is : x ≡ r = cc in let one : same x s ≡ same r s = ap (λ n. same n s) is in omega (arith, one)
listed_less s (suc i) r (x ∷ xs) at = let rest = listed_less s i r xs at in omega (arith, rest)

pub listed_at : (i s : ℕ) (xs : List ℕ) → slice_get xs i ≡ Some s → 1 ≤ listed s xs
listed_at i s xs at = let less = listed_less s i s xs at in let one = same_self s in omega (arith, less, one)

pub listed_parts : (s n : ℕ) (xs : List ℕ) → listed s (take n xs) + listed s (drop n xs) ≡ listed s xs
listed_parts s n xs = sym (listed-append s (take n xs) (drop n xs)) ∙ ap (listed s) (take-append-drop n xs)

-- the numbers below the next one
pub next_number : (s n : ℕ) → cond {A = ℕ} (nat_lt s (n + 1)) 1 0 ≡ cond (nat_lt s n) 1 0 + same n s
next_number s n = elim (cases_Bool (nat_lt s n)) [
  | inl less ↦
      let next : nat_lt s (n + 1) ≡ true = grind (arith, nat_tests) in
      let apart : nat_eq n s ≡ false = grind (arith, nat_tests) in
      rw (less, next, apart) refl
  | inr more ↦ elim (cases_Bool (nat_eq n s)) [
    | inl is ↦ let next : nat_lt s (n + 1) ≡ true = grind (arith, nat_tests) in rw (more, is, next) refl
    | inr other ↦ let next : nat_lt s (n + 1) ≡ false = grind (arith, nat_tests) in rw (more, other, next) refl
  ]
]

at_most : (b : Bool) → cond {A = ℕ} b 1 0 ≤ 1
at_most true = omega arith
at_most false = omega arith

module _ (room : ℕ) (row free : List ℕ) (h : AreApart room row free) where
  -- a slot in the row is there once
  pub once_at : (i s : ℕ) → slice_get row i ≡ Some s → listed s row ≡ 1
  once_at i s at = let some = listed_at i s row at in let sum = h.once s in let few = at_most (nat_lt s room) in omega (arith, some, sum, few)

  -- the last free slot comes into the row
  module _ (left : List ℕ) (slot : ℕ) (all : free ≡ left ++ slot ∷ []) where
    taken : (s : ℕ) → listed s free ≡ listed s left + same slot s
    taken s = let parts = ap (listed s) all ∙ listed-append s left (slot ∷ []) in omega (arith, parts)

    pub fresh : listed slot row ≡ 0
    fresh = let sum = h.once slot in let few = at_most (nat_lt slot room) in let one = same_self slot in omega (arith, sum, few, taken slot, one)

    pub below : slot < room
    below = elim (cases_Bool (nat_lt slot room)) [
      | inl less ↦ grind (arith, nat_tests)
      | inr more ↦ let sum : listed slot row + listed slot free ≡ 0 = rw more at (h.once slot) in let one = same_self slot in absurd (omega (arith, sum, taken slot, one))
    ]

    pub taken_apart : (i : ℕ) → i ≤ length row → AreApart room (insert row i slot) left
    taken_apart i fits = record {
      once = λ s. let sum = h.once s in let more = listed_more s i slot row fits in omega (arith, sum, more, taken s);
      count = let long = ap length all ∙ length-append left (slot ∷ []) in omega (arith, h.count, long, length-insert row i slot fits);
    }

-- a slot of the row stands at another number of it
module _ (row : List ℕ) (from to s : ℕ) (inside : from < length row) (within : to < length row) (at : slice_get row from ≡ Some s) where
  shorter : length (remove row from) + 1 ≡ length row
  shorter = length-remove row from inside

  listed_same : (r : ℕ) → listed r (insert (remove row from) to s) ≡ listed r row
  listed_same r = let less = listed_less r from s row at in let more = listed_more r to s (remove row from) (omega (arith, shorter, within)) in omega (arith, less, more)

  module _ (room : ℕ) (free : List ℕ) (h : AreApart room row free) where
    pub shifted_apart : AreApart room (insert (remove row from) to s) free
    shifted_apart = record {
      once = λ r. let sum = h.once r in let same = listed_same r in omega (arith, sum, same);
      count = let count = h.count in omega (arith, count, shorter, length-insert (remove row from) to s (omega (arith, shorter, within)));
    }

    pub gone : listed s (remove row from) ≡ 0
    gone = let once = once_at room row free h from s at in let less = listed_less s from s row at in let one = same_self s in omega (arith, once, less, one)
