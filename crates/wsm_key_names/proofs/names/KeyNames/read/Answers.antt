use Rattle.std.proofs.Common.{◌∙◌, length, sym}
use Rattle.std.proofs.lemmas.Bool.{eqb-true}
use Rattle.wsm_key_names.proofs.NameLists.{no_line_left}
use Rattle.wsm_key_names.proofs.names.KeyNames.read.Goals as goal

pub returns-clause-read : goal.returns-clause-read
returns-clause-read c =
    let rest = c.loop-rest.rest.now in
    sym c.loop-rest.invariant.0 ∙ no_line_left c.loop-rest.names rest (eqb-true (length rest) 0 (sym c.loop-rest-test.ensures))
