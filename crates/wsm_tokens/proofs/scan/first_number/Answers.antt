use Rattle.std.proofs.Common.{arith}
use Rattle.std.proofs.lemmas.List.Sums.{prefix_len-le-length}
use Rattle.wsm_record.specs.Name.{is_digit}
use Rattle.wsm_tokens.proofs.scan.first_number.Goals as goal

pub overflow_add-more : goal.overflow_add-more
overflow_add-more c = omega (arith, c.digits_len-more.ensures, prefix_len-le-length is_digit)
