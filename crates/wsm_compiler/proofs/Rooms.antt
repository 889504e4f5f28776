-- Room on the stack: what has room for a part and for what is behind it has room for each of them.
use Rattle.std.proofs.Common.{ℕ, suc, ◌+◌, ◌≤◌, arith}
use Rattle.std.specs.Prelude.{max}

-- the part, on a stack of some values
pub first_room : (l n m : ℕ) → l + max n (m + 1) ≤ 32 → l + n ≤ 32
first_room l n m h = omega (arith, h)

-- what is behind it, on a stack of one value more
pub rest_room : (l n m : ℕ) → l + max n (m + 1) ≤ 32 → suc l + m ≤ 32
rest_room l n m h = omega (arith, h)

-- the part, on an empty stack
pub sole_room : (n m : ℕ) → max n m ≤ 32 → 0 + n ≤ 32
sole_room n m h = omega (arith, h)

-- what is behind it, where the part leaves nothing
pub next_room : (n m : ℕ) → max n m ≤ 32 → m ≤ 32
next_room n m h = omega (arith, h)
