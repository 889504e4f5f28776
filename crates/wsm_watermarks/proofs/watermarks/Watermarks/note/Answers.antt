use Rattle.std.proofs.Common.{◌∙◌, ap, arith, subst, sym}
use Rattle.wsm_watermarks.specs.Agreement.{mark_after}
use Rattle.wsm_watermarks.specs.Table.{Sayings}
use Rattle.wsm_watermarks.specs.Watermarks.{FitsMarks, Marking}
use Rattle.wsm_watermarks.proofs.Marks.{mark_noted}
use Rattle.wsm_watermarks.proofs.Tables.{fits_alike, noted_over, noted_under}
use Rattle.wsm_watermarks.proofs.watermarks.Watermarks.note.Goals as goal

pub returns-then-self-mark-clause-fits : goal.returns-then-self-mark-clause-fits
returns-then-self-mark-clause-fits c past fits =
    let a = c.self.inside in
    let old : FitsMarks (record { table = a.table; rule = a.rule; mark = a.mark }) past = subst (λ (m : Marking). FitsMarks m past) (sym c.self.view_is) fits in
    let begun = ap (λ n. mark_after (record a.rule { start = n }) past) c.max-self-inside.ensures in
    record {
      table = fits_alike a.table c.count.new.self past (ap (λ (k : Sayings). k.said) c.count.ensures) (ap (λ (k : Sayings). k.heard) c.count.ensures) old.table;
      mark = noted_over a.mark (mark_after a.rule past) c.args.mark (mark_after (record a.rule { start = c.max-self-inside.result }) past) old.mark (omega (arith, c.if-self-mark.true)) (begun ∙ mark_noted a.rule c.args.mark past);
    }

pub returns-else-self-mark-clause-fits : goal.returns-else-self-mark-clause-fits
returns-else-self-mark-clause-fits c past fits =
    let a = c.self.inside in
    let old : FitsMarks (record { table = a.table; rule = a.rule; mark = a.mark }) past = subst (λ (m : Marking). FitsMarks m past) (sym c.self.view_is) fits in
    let begun = ap (λ n. mark_after (record a.rule { start = n }) past) c.max-self-inside.ensures in
    record {
      table = old.table;
      mark = noted_under a.mark (mark_after a.rule past) c.args.mark (mark_after (record a.rule { start = c.max-self-inside.result }) past) old.mark (omega (arith, c.if-self-mark.false)) (begun ∙ mark_noted a.rule c.args.mark past);
    }
