-- The number of a name by its part and its place has a word.
use Rattle.std.proofs.Common.{◌+◌, ◌*◌, ◌<◌, ◌≤◌, ◌^◌, ℕ, arith}
use Rattle.std.proofs.lemmas.Nat.{mul-le}
use Rattle.wsm_record.specs.declared.limits.TheConstants.{MAX_NAMES}

pub few_numbers : (part block place : ℕ) → part < 2 ^ 32 → block ≤ MAX_NAMES → place < 2 ^ 16 → part * block + place < 2 ^ 64
few_numbers part block place h k l = let product : part * block ≤ 4294967295 * 1000 = mul-le part block 4294967295 1000 (omega (arith, h)) k in omega (arith, product, l)
