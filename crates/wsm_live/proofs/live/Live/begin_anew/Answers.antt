use Rattle.std.proofs.Common.{◌∙◌, ap, refl}
use Rattle.wsm_live.specs.Head.{name_in}
use Rattle.wsm_live.proofs.LiveLemmas.{gone_begun}
use Rattle.wsm_live.proofs.live.Live.begin_anew.Goals as goal

pub returns-clause-gone_on : goal.returns-clause-gone_on
returns-clause-gone_on g c = λ text.
    gone_begun refl (c.in_ok-put.ensures ∙ c.bytes-row.ensures.value) (c.in_ok-put-2.ensures ∙ c.name_in.ensures ∙ ap name_in c.bytes-row.ensures.value) c.in_ok-put-3.ensures
