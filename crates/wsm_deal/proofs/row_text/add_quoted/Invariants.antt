use Rattle.std.proofs.Common.{◌≡◌, ◌++◌, ◌∷◌, take}
use Rattle.csv.specs.Writing.{default_writer, escaped}
use Rattle.wsm_deal.proofs.row_text.add_quoted.Given as goal

-- the bytes so far stand behind a quote
abbrev pub invariant-loop-byte : goal.invariant-loop-byte
invariant-loop-byte l = l.out.items ≡ l.fn.out.items ++ (34 ∷ escaped default_writer (take l.byte-index l.cell))
