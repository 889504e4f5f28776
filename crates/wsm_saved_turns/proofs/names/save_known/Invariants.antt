use Rattle.std.proofs.Common.{◌++◌, length, take}
use Rattle.wsm_saved.specs.Numbers.{number_text}
use Rattle.wsm_saved.proofs.Listing.{WroteSome}
use Rattle.wsm_saved.specs.Lists.{BytesFit, bytes_text}
use Rattle.wsm_saved_turns.proofs.names.save_known.Given as goal

-- those so far were written
abbrev pub invariant-loop-number : goal.invariant-loop-number
invariant-loop-number l = WroteSome bytes_text BytesFit (l.fn.out.items ++ number_text (length l.names.names)) l.out.items (take l.number l.names.names)
