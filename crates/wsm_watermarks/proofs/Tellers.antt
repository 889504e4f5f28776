-- Which clocks have told a time, and how many.
use Rattle.std.proofs.Common.{◌≡◌, ◌≤◌, ◌+◌, ◌⊎◌, ℕ, suc, Bool, true, false, ◌&&◌, ◌||◌, not, cond, List, [], ◌∷◌, length, inl, inr, refl, sym, ap, subst, ◌∙◌, arith}
use Rattle.std.proofs.lemmas.Bool.{and_parts, or_cases, leb-true}
use Rattle.std.proofs.lemmas.Bool.Decides.{nat_tests}
use Rattle.std.specs.Prelude.{nat_eq, nat_le}
use Rattle.wsm_watermarks.specs.declared.stamp.Stamp.{Stamp}
use Rattle.wsm_watermarks.specs.Agreement.{has_told, tellers, without}

-- ---- tests

same : (a : ℕ) → nat_eq a a ≡ true
same a = grind (arith, nat_tests)

pub at_most : (a b : ℕ) → a ≤ b → nat_le a b ≡ true
at_most a b h = grind (arith, nat_tests)

pub differs : (a b : ℕ) → (a ≡ b → ⊥) → nat_eq a b ≡ false
differs a b h = grind (arith, nat_tests)

equal : (a b : ℕ) → nat_eq a b ≡ true → a ≡ b
equal a b h = grind (arith, nat_tests)

other_than : (a b c : ℕ) → nat_eq a b ≡ true → nat_eq b c ≡ false → nat_eq a c ≡ false
other_than a b c h k = grind (arith, nat_tests)

or_true : (a b : Bool) → b ≡ true → (a || b) ≡ true
or_true true b h = refl
or_true false b h = h

-- ---- a clock and a time

-- what a stamp tells of its clock
pub tells : (s : Stamp) (past : List Stamp) (c t : ℕ) → s.clock ≡ c → t ≤ s.time → has_told c t (s ∷ past) ≡ true
tells s past c t is h = rw (is, same c, at_most t s.time h) refl

pub tells_on : (s : Stamp) (past : List Stamp) (c t : ℕ) → has_told c t past ≡ true → has_told c t (s ∷ past) ≡ true
tells_on s past c t h = or_true (nat_eq s.clock c && nat_le t s.time) (has_told c t past) h

-- a stamp tells it, or those before it
pub by_whom : (s : Stamp) (past : List Stamp) (c t : ℕ) → has_told c t (s ∷ past) ≡ true → ((s.clock ≡ c) × (t ≤ s.time)) ⊎ (has_told c t past ≡ true)
by_whom s past c t h = elim (or_cases (nat_eq s.clock c && nat_le t s.time) (has_told c t past) h) [
  | inl by_it ↦ let both = and_parts (nat_eq s.clock c) (nat_le t s.time) by_it in inl (equal s.clock c both.0, leb-true t s.time both.1)
  | inr before ↦ inr before
]

-- an earlier time has been told too
pub told_earlier : (c t u : ℕ) (past : List Stamp) → u ≤ t → has_told c t past ≡ true → has_told c u past ≡ true
told_earlier c t u [] le h = h
told_earlier c t u (s ∷ past) le h = elim (by_whom s past c t h) [
  | inl it ↦ tells s past c u it.0 (omega (arith, it.1))
  | inr before ↦ tells_on s past c u (told_earlier c t u past le before)
]

-- ---- without a clock

pub gone : (c t : ℕ) (ss : List Stamp) → has_told c t (without c ss) ≡ false
gone c t [] = refl
gone c t (s ∷ ss) = one (nat_eq s.clock c) refl (gone c t ss)
  where
    one : (b : Bool) → nat_eq s.clock c ≡ b → has_told c t (without c ss) ≡ false → has_told c t (cond (not b) (s ∷ without c ss) (without c ss)) ≡ false
    one true is rest = rest
    one false is rest = rw is rest

pub stays : (c d t : ℕ) (ss : List Stamp) → nat_eq c d ≡ false → has_told d t (without c ss) ≡ has_told d t ss
stays c d t [] h = refl
stays c d t (s ∷ ss) h = one (nat_eq s.clock c) refl (stays c d t ss h)
  where
    one : (b : Bool) → nat_eq s.clock c ≡ b → has_told d t (without c ss) ≡ has_told d t ss → has_told d t (cond (not b) (s ∷ without c ss) (without c ss)) ≡ has_told d t (s ∷ ss)
    one true is rest = let apart : nat_eq s.clock d ≡ false = other_than s.clock c d is h in rw apart rest
    one false is rest = ap (λ (b : Bool). (nat_eq s.clock d && nat_le t s.time) || b) rest

-- ---- how many

one_clock : (p q : Bool) (n m : ℕ) → n ≡ cond q 1 0 + m → cond (p && not q) (suc n) n ≡ cond (p || q) 1 0 + m
one_clock true true n m h = h
one_clock true false n m h = omega arith
one_clock false true n m h = h
one_clock false false n m h = h

another_clock : (p q : Bool) (n m : ℕ) → n ≡ cond q 1 0 + m → cond p (suc n) n ≡ cond q 1 0 + cond p (suc m) m
another_clock true q n m h = omega arith
another_clock false q n m h = h

-- a clock counts once, where it has told the time
pub tellers_parted : (c t : ℕ) (ss : List Stamp) → tellers t ss ≡ cond (has_told c t ss) 1 0 + tellers t (without c ss)
tellers_parted c t [] = refl
tellers_parted c t (s ∷ ss) = one (nat_eq s.clock c) refl (tellers_parted c t ss)
  where
    one : (b : Bool) → nat_eq s.clock c ≡ b → tellers t ss ≡ cond (has_told c t ss) 1 0 + tellers t (without c ss) → tellers t (s ∷ ss) ≡ cond (has_told c t (s ∷ ss)) 1 0 + tellers t (cond (not b) (s ∷ without c ss) (without c ss))
    one true is rest =
        let it : s.clock ≡ c = equal s.clock c is in
        rw is (subst (λ (d : ℕ). cond (nat_le t s.time && not (has_told d t ss)) (suc (tellers t ss)) (tellers t ss) ≡ cond (nat_le t s.time || has_told c t ss) 1 0 + tellers t (without c ss)) (sym it)
        (one_clock (nat_le t s.time) (has_told c t ss) (tellers t ss) (tellers t (without c ss)) rest))
    one false is rest =
        let apart : nat_eq c s.clock ≡ false = grind (arith, nat_tests) in
        rw (is, stays c s.clock t ss apart) (another_clock (nat_le t s.time && not (has_told s.clock t ss)) (has_told c t ss) (tellers t ss) (tellers t (without c ss)) rest)

-- no more clocks than those that have told the other time
pub tellers_within : (t u : ℕ) (xs ys : List Stamp) → ((c : ℕ) → has_told c t xs ≡ true → has_told c u ys ≡ true) → tellers t xs ≤ tellers u ys
tellers_within t u [] ys h = omega arith
tellers_within t u (s ∷ xs) ys h = one (nat_le t s.time && not (has_told s.clock t xs)) refl (λ zs k. tellers_within t u xs zs k)
  where
    one : (b : Bool) → (nat_le t s.time && not (has_told s.clock t xs)) ≡ b → ((zs : List Stamp) → ((c : ℕ) → has_told c t xs ≡ true → has_told c u zs ≡ true) → tellers t xs ≤ tellers u zs) → cond b (suc (tellers t xs)) (tellers t xs) ≤ tellers u ys
    one false is rest = rest ys (λ c told. h c (tells_on s xs c t told))
    one true is rest =
        let both = and_parts (nat_le t s.time) (not (has_told s.clock t xs)) is in
        let there = h s.clock (tells s xs s.clock t refl (leb-true t s.time both.0)) in
        let parted = tellers_parted s.clock u ys in
        let counted : tellers u ys ≡ 1 + tellers u (without s.clock ys) = subst (λ (b : Bool). tellers u ys ≡ cond b 1 0 + tellers u (without s.clock ys)) there parted in
        let fewer = rest (without s.clock ys) (λ c told.
        stays s.clock c u ys (apart c told both.1) ∙ h c (tells_on s xs c t told)) in
        omega (arith, counted, fewer)
      where
        unlike : (c : ℕ) (p q : Bool) → has_told s.clock t xs ≡ p → not p ≡ true → has_told c t xs ≡ true → s.clock ≡ c → ⊥
        unlike c true q e k told is = absurd cc
        unlike c false q e k told is = let clash : has_told c t xs ≡ false = subst (λ (d : ℕ). has_told d t xs ≡ false) is e in absurd cc

        apart : (c : ℕ) → has_told c t xs ≡ true → not (has_told s.clock t xs) ≡ true → nat_eq s.clock c ≡ false
        apart c told k = differs s.clock c (unlike c (has_told s.clock t xs) true refl k told)

-- no more clocks than stamps
pub tellers_few : (t : ℕ) (ss : List Stamp) → tellers t ss ≤ length ss
tellers_few t [] = omega arith
tellers_few t (s ∷ ss) = one (nat_le t s.time && not (has_told s.clock t ss)) (tellers_few t ss)
  where
    one : (b : Bool) → tellers t ss ≤ length ss → cond b (suc (tellers t ss)) (tellers t ss) ≤ suc (length ss)
    one true h = omega arith
    one false h = omega arith
