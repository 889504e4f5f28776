use Rattle.std.proofs.Common.{◌++◌, length, map, take}
use Rattle.wsm_saved.specs.Numbers.{number_text}
use Rattle.wsm_saved.proofs.Listing.{WroteSome}
use Rattle.wsm_saved.proofs.saved.save_all.Given as goal

-- the values so far were written
abbrev pub invariant-loop-value : goal.invariant-loop-value
invariant-loop-value g l = WroteSome g.T.Saved.text g.T.Saved.Fits (l.fn.out.items ++ number_text (length l.values)) l.out.items (map g.T.Saved.shown (take l.value-index l.values))
