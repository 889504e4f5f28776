use Rattle.std.proofs.Common.{◌∙◌, Some}
use Rattle.wsm_kept.proofs.own.count_rows.Goals as goal

pub returns-in-Ok : goal.returns-in-Ok
returns-in-Ok c = λ p fits.
    let (cells, all, taken) = rw c.in-Ok.is at (c.take_all.ensures (Some c.args.text.now) p c.new-rows.ensures fits) in
    (cells, all, c.counts.ensures ∙ taken.counts)
