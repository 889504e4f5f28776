use Rattle.std.proofs.Common.{sym, ◌∙◌}
use Rattle.wsm_list.proofs.Guessed.{guessed}
use Rattle.wsm_list.proofs.search.number_at.Goals as goal

pub number_of_slot-requires-clause-there : goal.number_of_slot-requires-clause-there
number_of_slot-requires-clause-there c = guessed c.args.slots.now.slots c.args.row.now.row c.requires.stored c.requires.listed c.args.place c.args.guess (sym c.is_at.ensures ∙ c.if-is_at.true)
