use Rattle.std.proofs.Common.{◌∙◌, arith, sym}
use Rattle.wsm_live.proofs.cuts.is_head.Goals as goal

pub returns-then-are_rows-clause-is_record : goal.returns-then-are_rows-clause-is_record
returns-then-are_rows-clause-is_record c = λ yes. record {
  rows = sym c.are_rows.ensures ∙ c.if-are_rows.true;
  position = sym c.is_position.ensures ∙ yes;
  number = omega arith;
  lines = omega arith;
  size = omega arith;
  sum = c.in_ok-append_record.ensures.sum;
}
