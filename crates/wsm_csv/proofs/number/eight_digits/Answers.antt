use Rattle.std.proofs.Common.{rules, arith}
use Rattle.wsm_csv.proofs.WordLemmas.{at_once}
use Rattle.wsm_csv.proofs.number.eight_digits.Goals as goal

pub overflow_add-word : goal.overflow_add-word
overflow_add-word c = omega (arith, (at_once c.args.bytes c.from_le_bytes-word.result (search rules) (search rules) c.from_le_bytes-word.ensures c.if-word-ne-ZEROS.false).0)

pub overflow_mul-pairs : goal.overflow_mul-pairs
overflow_mul-pairs c =
    let read = (at_once c.args.bytes c.from_le_bytes-word.result (search rules) (search rules) c.from_le_bytes-word.ensures c.if-word-ne-ZEROS.false).1 c.if-word-ne-ZEROS-2.false in
    omega (arith, read.few)

pub overflow_add-pairs : goal.overflow_add-pairs
overflow_add-pairs c =
    let read = (at_once c.args.bytes c.from_le_bytes-word.result (search rules) (search rules) c.from_le_bytes-word.ensures c.if-word-ne-ZEROS.false).1 c.if-word-ne-ZEROS-2.false in
    omega (arith, read.few)

pub returns-clause-value : goal.returns-clause-value
returns-clause-value c =
    let read = (at_once c.args.bytes c.from_le_bytes-word.result (search rules) (search rules) c.from_le_bytes-word.ensures c.if-word-ne-ZEROS.false).1 c.if-word-ne-ZEROS-2.false in
    record { digits = read.digits; value = read.value }

pub returns-clause-below : goal.returns-clause-below
returns-clause-below c =
    let read = (at_once c.args.bytes c.from_le_bytes-word.result (search rules) (search rules) c.from_le_bytes-word.ensures c.if-word-ne-ZEROS.false).1 c.if-word-ne-ZEROS-2.false in
    omega (arith, read.value, read.below)
