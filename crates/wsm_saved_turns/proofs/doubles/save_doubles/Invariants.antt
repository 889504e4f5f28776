use Rattle.std.proofs.Common.{◌++◌, length, take}
use Rattle.wsm_saved.specs.Numbers.{number_text}
use Rattle.wsm_saved.proofs.Listing.{WroteSome}
use Rattle.wsm_saved_turns.specs.Turns.{EntryFits, entry_text}
use Rattle.wsm_saved_turns.proofs.doubles.save_doubles.Given as goal

-- those so far were written
abbrev pub invariant-loop-number : goal.invariant-loop-number
invariant-loop-number l = WroteSome entry_text EntryFits (l.fn.out.items ++ number_text (length l.doubles.entries)) l.out.items (take l.number l.doubles.entries)
