use Rattle.std.proofs.Common.{◌∙◌, ap}
use Rattle.wsm_lines.specs.Key.{are_same}
use Rattle.wsm_named_lines.proofs.lines.NamedLines.learn.Goals as goal

pub invariant_of-self : goal.invariant_of-self
invariant_of-self c = ap (λ s. are_same s.key.names) c.set_key.ensures.source ∙ c.self.invariant
