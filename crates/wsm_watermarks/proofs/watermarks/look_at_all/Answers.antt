use Rattle.std.proofs.Common.{◌≡◌, ◌∙◌, ◌-◌, ℕ, ap, length, subst}
use Rattle.wsm_watermarks.specs.Agreement.{agreed, behind}
use Rattle.wsm_watermarks.specs.Clocks.{Fits}
use Rattle.wsm_watermarks.specs.Table.{speaking}
use Rattle.wsm_watermarks.proofs.watermarks.look_at_all.Goals as goal

pub returns-clause-mark : goal.returns-clause-mark
returns-clause-mark c =
    let table = c.args.table.now in
    let rule = c.args.rule in
    let since : c.saturating_sub-since.result ≡ table.heard - rule.forget = c.saturating_sub-since.ensures ∙ ap (λ (n : ℕ). n - rule.forget) c.heard.ensures in
    let ahead = speaking (table.heard - rule.forget) table.need table.said (length table.said) in
    let gathered : Fits c.gather.new.clocks ahead = subst (λ (n : ℕ). Fits c.gather.new.clocks (speaking n table.need table.said (length table.said))) since c.gather.ensures.fits in
    c.mark_behind-agreed.ensures ∙ ap (behind rule) (c.agreed.ensures ahead gathered ∙ ap (λ (n : ℕ). agreed n ahead) c.gather.ensures.most)
