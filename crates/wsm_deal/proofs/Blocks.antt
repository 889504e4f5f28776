-- How many blocks of keys there are, and how long they are.
use Rattle.std.proofs.Common.{◌≡◌, ◌+◌, ◌*◌, ◌<◌, ◌≤◌, ℕ, arith, inl, inr}
use Rattle.std.proofs.Math.Nat.{mul_comm, mul-le-mul_left}
use Rattle.std.proofs.lemmas.Bool.{cases_lt}
use Rattle.std.proofs.lemmas.Grind.{div_ceil_times}
use Rattle.std.specs.Int.{div_ceil}

-- no more than will do
ceil_least : (n block count : ℕ) → 0 < block → n ≤ block * count → div_ceil n block ≤ count
ceil_least n block count some enough =
    let times = div_ceil_times n block some in
    let parts = div_ceil n block in
    elim (cases_lt count parts) [
      | inl more ↦
          let longer : block * (count + 1) ≤ block * parts = mul-le-mul_left block (omega (arith, more)) in
          let turned : parts * block ≡ block * parts = mul_comm parts block in
          absurd (omega (arith, times.1, longer, turned, enough))
      | inr within ↦ within
    ]

-- keys in as many blocks as there are to be fill no more
pub no_more_filled : (keys parts : ℕ) → 0 < parts → 0 < div_ceil keys parts → div_ceil keys (div_ceil keys parts) ≤ parts
no_more_filled keys parts some block = ceil_least keys (div_ceil keys parts) parts block (div_ceil_times keys parts some).0

-- where there are as many blocks as are needed for blocks of a length, none is longer
pub none_longer : (keys parts most : ℕ) → 0 < parts → 0 < most → div_ceil keys most ≤ parts → div_ceil keys parts ≤ most
none_longer keys parts most some long enough =
    let times = div_ceil_times keys most long in
    let room : most * div_ceil keys most ≤ most * parts = mul-le-mul_left most enough in
    let turned : div_ceil keys most * most ≡ most * div_ceil keys most = mul_comm (div_ceil keys most) most in
    let other : parts * most ≡ most * parts = mul_comm parts most in
    ceil_least keys parts most some (omega (arith, times.0, room, turned, other))

-- some, where there is a key
pub some_filled : (keys block : ℕ) → 0 < keys → 0 < block → 0 < div_ceil keys block
some_filled keys block some long =
    let times = div_ceil_times keys block long in
    let parts = div_ceil keys block in
    elim (cases_lt 0 parts) [
      | inl more ↦ more
      | inr none ↦
          let few : block * parts ≤ block * 0 = mul-le-mul_left block none in
          let turned : parts * block ≡ block * parts = mul_comm parts block in
          absurd (omega (arith, times.0, few, turned, some))
    ]
