use Rattle.std.proofs.Common.{◌≡◌, ◌+◌, ◌++◌, take, false, vec_capacity, vec_len}
use Rattle.std.specs.List.{list_any}
use Rattle.csv.specs.Writing.{default_writer, needs_byte}
use Rattle.wsm_deal.proofs.row_text.add_plain.Given as goal

-- the bytes so far stand, and none needs quotes
abbrev pub invariant-loop-place : goal.invariant-loop-place
invariant-loop-place l = (l.out.items ≡ l.fn.out.items ++ take l.place l.cell)
    × (vec_len l.out ≡ vec_len l.fn.out + l.place)
    × (vec_capacity l.out ≡ vec_capacity l.fn.out)
    × (list_any (needs_byte default_writer) (take l.place l.cell) ≡ false)
