use Rattle.std.proofs.Common.{◌≡◌, ◌≤◌, ◌/◌, ◌%◌, ℕ, zero, suc, ℤ, pos, negsuc, SFits, of_z, nat_eq, arith, refl, w64, to_z-of_z}
use Rattle.std.specs.Prelude.{unsigned_abs}
use Rattle.std.specs.Ordering.{int_eq}
use Rattle.wsm_record.specs.declared.cell.Cell.TheVariants as cells
use Rattle.wsm_slots.specs.RowWords.{cell_by}
use Rattle.wsm_slots.proofs.row_words.cell_of.Goals as goal

is_zero : (z : ℤ) → SFits w64 z → nat_eq (of_z w64 z) 0 ≡ int_eq z (pos 0)
is_zero (pos n) fits = grind arith
is_zero (negsuc n) fits = grind (arith, fits)

name_by : (kind : ℕ) (word : ℤ) → 2 ≤ kind → cell_by kind word ≡ cells.Enum (unsigned_abs word / 65536 % 256) (unsigned_abs word % 65536)
name_by zero word h = absurd (omega (arith, h))
name_by (suc zero) word h = absurd (omega (arith, h))
name_by (suc (suc kind)) word h = refl

pub returns-in-0 : goal.returns-in-0
returns-in-0 c =
    let word : SFits w64 c.args.word = c.ranges.word in
    rw (to_z-of_z, c.in-0.is) refl

pub returns-in-1 : goal.returns-in-1
returns-in-1 c = rw (c.in-1.is, is_zero c.args.word c.ranges.word) refl

pub returns-in_default : goal.returns-in_default
returns-in_default c =
    let more : 2 ≤ c.args.kind = omega arith in
    let word : SFits w64 c.args.word = c.ranges.word in
    rw (c.name_of.ensures, c.unsigned_abs.ensures.value, name_by c.args.kind c.args.word more, to_z-of_z) refl
