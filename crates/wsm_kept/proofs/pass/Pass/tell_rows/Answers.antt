use Rattle.std.proofs.Common.{◌∙◌}
use Rattle.wsm_kept.proofs.Counted.{keeps_told}
use Rattle.wsm_kept.proofs.pass.Pass.tell_rows.Goals as goal

pub returns-in_ok-write-clause-told : goal.returns-in_ok-write-clause-told
returns-in_ok-write-clause-told c = λ p before e are keeps.
    let old = c.args.self.now in
    keeps_told p old.is_counted old.cutter c.write.new.self before e c.rows.result.now keeps (c.write.ensures.fits p before keeps.fits) c.in_ok-write.ensures.begins (c.rows.ensures ∙ are)
