use Rattle.std.proofs.Common.{◌∙◌, ◌-◌, ℕ, ap, length, subst, sym}
use Rattle.wsm_watermarks.specs.Agreement.{tellers, voices}
use Rattle.wsm_watermarks.specs.Table.{counted}
use Rattle.wsm_watermarks.specs.Watermarks.{FitsMarks, Marking}
use Rattle.wsm_watermarks.proofs.Tables.{voices_counted}
use Rattle.wsm_watermarks.proofs.watermarks.Watermarks.voices.Goals as goal

pub returns : goal.returns
returns c past fits =
    let a = c.self.inside in
    let held : FitsMarks (record { table = a.table; rule = a.rule; mark = a.mark }) past = subst (λ (m : Marking). FitsMarks m past) (sym c.self.view_is) fits in
    let since = c.saturating_sub-since.ensures ∙ ap (λ (n : ℕ). n - a.rule.forget) c.heard.ensures in
    c.voices.ensures
    ∙ ap (λ (n : ℕ). counted n 0 a.table.said (length a.table.said)) since
    ∙ voices_counted a.table past a.rule.forget held.table
    ∙ ap (λ (m : Marking). tellers 0 (voices m.rule.forget past)) c.self.view_is
