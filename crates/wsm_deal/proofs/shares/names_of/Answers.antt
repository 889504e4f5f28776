use Rattle.std.proofs.Common.{◌∙◌, length, map, sym}
use Rattle.std.proofs.lemmas.Bool.{eqb-true}
use Rattle.wsm_deal.proofs.KeyNames.{no_line_left}
use Rattle.wsm_deal.proofs.shares.names_of.Goals as goal

pub returns-clause-read : goal.returns-clause-read
returns-clause-read c =
    let rest = c.loop-rest.rest.now in
    sym c.loop-rest.invariant.0 ∙ no_line_left (map (λ v. v.items) c.loop-rest.names.keys) rest (eqb-true (length rest) 0 (sym c.loop-rest-test.ensures))
