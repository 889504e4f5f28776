use Rattle.std.proofs.Common.{◌++◌, length, take}
use Rattle.wsm_saved.specs.Numbers.{number_text}
use Rattle.wsm_saved.proofs.Listing.{WroteSome}
use Rattle.wsm_saved_turns.specs.Turns.{SaidFits, said_text}
use Rattle.wsm_saved_turns.proofs.clocks.save_stamps.Given as goal

-- those so far were written
abbrev pub invariant-loop-said : goal.invariant-loop-said
invariant-loop-said l = WroteSome said_text SaidFits (l.fn.out.items ++ number_text (length l.stamps)) l.out.items (take l.said-index l.stamps)
