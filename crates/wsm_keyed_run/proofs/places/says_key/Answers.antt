use Rattle.std.proofs.Common.{◌∙◌, ap, codes, sym}
use Rattle.wsm_keyed_run.specs.Places.{says}
use Rattle.wsm_keyed_run.proofs.Words.{says_behind, says_begun}
use Rattle.wsm_keyed_run.proofs.places.says_key.Goals as goal

pub loop-turn-preserved : goal.loop-turn-preserved
loop-turn-preserved c = λ h. c.loop-turn.invariant (says_behind (codes "KEY") c.loop-turn.reader (ap (says (codes "KEY")) (sym c.advance.ensures.rest) ∙ h))

pub returns-then-begins : goal.returns-then-begins
returns-then-begins c = λ told. c.loop-turn.invariant (says_begun (codes "KEY") c.loop-turn.reader (sym c.begins.ensures.which ∙ c.if-begins.true))
