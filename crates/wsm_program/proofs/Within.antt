-- Numbers that lie within bounds.
use Rattle.std.proofs.Common.{leb, ◌≡◌, ℕ, ◌≤◌, true, ℤ, pos, negsuc, arith}
use Rattle.std.specs.Prelude.{int_le}
use Rattle.std.proofs.lemmas.Int.{ints}
use Rattle.std.proofs.lemmas.Bool.{leb-true, and_parts, and_from}
use Rattle.wsm_record.specs.Name.{is_between}
use Rattle.wsm_record.specs.Schema.{is_i64, is_within}

pub le_through : (a b c : ℤ) → int_le a b ≡ true → int_le b c ≡ true → int_le a c ≡ true
le_through a b c p q = grind (arith, ints)

pub is_i64_within : (lo hi n : ℤ) → int_le (negsuc 9223372036854775807) lo ≡ true → int_le hi (pos 9223372036854775807) ≡ true → is_within lo hi n ≡ true → is_i64 n ≡ true
is_i64_within lo hi n p q h =
    let a = and_parts (int_le lo n) (int_le n hi) h in
    and_from _ _ (le_through (negsuc 9223372036854775807) lo n p a.0) (le_through n hi (pos 9223372036854775807) a.1 q)

pub at_most : (lo hi n : ℕ) → is_between lo hi n ≡ true → n ≤ hi
at_most lo hi n e = leb-true n hi (and_parts (leb lo n) (leb n hi) e).1
