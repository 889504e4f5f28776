use Rattle.std.proofs.Common.{sym, ◌∙◌, arith}
use Rattle.wsm_list.proofs.StoredEdits.{at_place}
use Rattle.wsm_list.proofs.search.number_of.Goals as goal

pub returns-in-Equal-clause-at : goal.returns-in-Equal-clause-at
returns-in-Equal-clause-at c = at_place _ _ c.requires.stored c.args.spot.at _ c.args.spot.place (omega (arith, c.if-spot-len.true, c.len.ensures)) c.place_at.ensures (sym c.cmp.ensures ∙ c.in-Equal.is)
