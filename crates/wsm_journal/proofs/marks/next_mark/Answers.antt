use Rattle.std.proofs.Common.{◌≡◌, ◌∙◌, ◌+◌, suc, Some, None, ap, sym, arith}
use Rattle.wsm_journal.proofs.Searches.{mark_found_by}
use Rattle.wsm_journal.proofs.marks.next_mark.Goals as goal

pub returns-in-Some-clause-value : goal.returns-in-Some-clause-value
returns-in-Some-clause-value c =
    let end = c.in-Some.end in
    let behind : end + 1 ≡ 0 + suc end = omega arith in
    ap Some behind ∙ sym (mark_found_by 0 c.args.text.now (Some end) c.in-Some.ensures)

pub returns-in-None-clause-value : goal.returns-in-None-clause-value
returns-in-None-clause-value c = sym (mark_found_by 0 c.args.text.now None c.in-None.ensures)
