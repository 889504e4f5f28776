use Rattle.std.proofs.Common.{◌++◌, length, take}
use Rattle.wsm_saved.specs.Numbers.{number_text}
use Rattle.wsm_saved.proofs.Listing.{WroteSome}
use Rattle.wsm_saved.specs.Lists.{BytesFit, bytes_text}
use Rattle.wsm_keyed_intake.proofs.key_names.save_key_names.Given as goal

-- those so far were written
abbrev pub invariant-loop-number : goal.invariant-loop-number
invariant-loop-number l = WroteSome bytes_text BytesFit (l.fn.out.items ++ number_text (length l.names)) l.out.items (take l.number l.names)
