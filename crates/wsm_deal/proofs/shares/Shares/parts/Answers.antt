use Rattle.std.proofs.Common.{◌∙◌, ℕ, ap, sym}
use Rattle.std.proofs.lemmas.List.{length-map}
use Rattle.std.specs.Int.{div_ceil}
use Rattle.wsm_deal.specs.PartCount.{part_count}
use Rattle.wsm_deal.proofs.shares.Shares.parts.Goals as goal

pub returns : goal.returns
returns c =
    let inside = c.self.inside in
    c.div_ceil.ensures
    ∙ ap (λ (n : ℕ). div_ceil n inside.block) (c.len.ensures.len ∙ sym (length-map inside.names.keys (λ v. v.items)))
    ∙ ap part_count c.self.view_is
