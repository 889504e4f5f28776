use Rattle.std.proofs.Common.{drop}
use Rattle.std.proofs.lemmas.List.{take_rest}
use Rattle.wsm_sums.proofs.Sums.{sum_behind-append}
use Rattle.wsm_journal.proofs.writing.sum_behind_place.Goals as goal

pub returns : goal.returns
returns c =
    let text = c.args.text.now in
    let left = take_rest text c.args.start in
    let whole = sum_behind-append 0 (drop c.args.start text) c.args.position.now in
    cc
