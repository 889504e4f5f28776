use Rattle.std.proofs.Common.{◌∙◌, ap, sym}
use Rattle.csv.specs.Records.{fields_of}
use Rattle.wsm_kept.specs.Head.{head_text}
use Rattle.wsm_kept.proofs.Heads.{head_row, not_tagged}
use Rattle.wsm_kept.proofs.head.Head.of.Goals as goal

pub returns-then-not-begins_as_head-clause-read : goal.returns-then-not-begins_as_head-clause-read
returns-then-not-begins_as_head-clause-read c = λ h said text.
    absurd (not_tagged (fields_of c.args.row.now) h c.begins_as_head.result said text c.begins_as_head.ensures c.if-not-begins_as_head.true)

pub returns-then-branch-clause-read : goal.returns-then-branch-clause-read
returns-then-branch-clause-read c = λ h said text. c.numbers_of-head.ensures h said (head_row (fields_of c.args.row.now) h said text)

pub returns-else-branch-clause-ends : goal.returns-else-branch-clause-ends
returns-else-branch-clause-ends c = (
  sym c.begins_as_head.ensures ∙ c.if-not-begins_as_head.false,
  λ h said text. c.in_ok-is_written.ensures.other c.if-branch.false (text ∙ ap head_text (sym (c.numbers_of-head.ensures h said (head_row (fields_of c.args.row.now) h said text)))),
)
