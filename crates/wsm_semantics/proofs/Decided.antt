-- What tests of numbers and of options tell, and when numbers pass them.
use Rattle.std.proofs.Common.{◌≡◌, ℕ, ◌+◌, ◌<◌, Bool, true, false, ◌&&◌, ℤ, ◌≤ℤ◌, ◌<ℤ◌, Option, Some, None, is_none, refl, sym, arith}
use Rattle.std.proofs.lemmas.Int.{ints}
use Rattle.std.proofs.lemmas.Bool.{true≢false}
use Rattle.std.proofs.lemmas.Bool.Decides.{nat_tests}
use Rattle.std.specs.Prelude.{int_le, int_lt, nat_lt, not}

-- ---- what a test tells

pub less_than : (a b : ℤ) → int_lt a b ≡ true → a <ℤ b
less_than a b h = grind (arith, ints)

pub no_less : (a b : ℤ) → int_lt a b ≡ false → b ≤ℤ a
no_less a b h = grind (arith, ints)

pub none_is : {A : Type 0} (v : Option A) → is_none v ≡ true → v ≡ None
none_is None h = refl
none_is (Some x) h = absurd (true≢false (sym h))

pub not_false : (b : Bool) → not b ≡ false → b ≡ true
not_false true h = refl
not_false false h = absurd (true≢false h)

-- ---- what passes one, and what fails it

pub not_less : (a b : ℤ) → b ≤ℤ a → int_lt a b ≡ false
not_less a b h = grind (arith, ints)

pub less_from : (a b c : ℤ) → a ≤ℤ b → int_lt b c ≡ true → int_lt a c ≡ true
less_from a b c h k = grind (arith, ints)

pub less_up_to : (a b c : ℤ) → int_lt a b ≡ true → b ≤ℤ c → int_lt a c ≡ true
less_up_to a b c h k = grind (arith, ints)

-- a window has its start inside
pub inside_itself : (start end : ℤ) → start <ℤ end → (int_le start start && int_lt start end) ≡ true
inside_itself start end h = grind (arith, ints)

pub fewer_than : (m n l : ℕ) → m < n → nat_lt n l ≡ true → nat_lt m l ≡ true
fewer_than m n l h k = grind (arith, nat_tests)

pub no_fewer_than : (l k : ℕ) → nat_lt (l + k) l ≡ false
no_fewer_than l k = grind (arith, nat_tests)
