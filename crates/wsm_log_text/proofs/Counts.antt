-- Numbers of lines.
use Rattle.std.proofs.Common.{◌≡◌, ◌+◌, ℕ, suc, arith}
use Rattle.wsm_admission.specs.Admission.{counter}

pub one_more_fault : (a n : ℕ) → a ≡ counter n → counter (a + 1) ≡ counter (n + 1)
one_more_fault a n h = omega arith

pub one_more : (n : ℕ) → n + 1 ≡ suc n
one_more n = omega arith

pub no_more : (a n : ℕ) → a ≡ counter n → a ≡ counter (n + 0)
no_more a n h = omega arith

pub some_more : (a n m : ℕ) → a ≡ counter n → counter (a + m) ≡ counter (n + m)
some_more a n m h = omega arith
