use Rattle.std.proofs.Common.{◌++◌, length, take}
use Rattle.wsm_saved.specs.Numbers.{number_text}
use Rattle.wsm_saved.proofs.Listing.{WroteSome}
use Rattle.wsm_saved_turns.specs.Turns.{RowFits, row_text}
use Rattle.wsm_saved_turns.proofs.clocks.save_rows.Given as goal

-- those so far were written
abbrev pub invariant-loop-row : goal.invariant-loop-row
invariant-loop-row l = WroteSome row_text RowFits (l.fn.out.items ++ number_text (length l.rows)) l.out.items (take l.row-index l.rows)
