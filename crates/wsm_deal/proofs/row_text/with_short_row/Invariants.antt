use Rattle.std.proofs.Common.{◌≡◌, ◌<◌, ◌+◌, ◌-◌, ◌*◌, ◌++◌, ◌∷◌, [], length, take, vec_capacity, vec_len}
use Rattle.csv.specs.Records.{fields_of}
use Rattle.csv.specs.Writing.{default_writer, row_body}
use Rattle.wsm_deal.proofs.row_text.with_short_row.Given as goal

-- the cells so far have their text and a comma behind it, and there is room for the others
abbrev pub invariant-loop-place : goal.invariant-loop-place
invariant-loop-place l = (l.text.items ≡ l.fn.text.items ++ (row_body default_writer (take l.place (fields_of l.row)) ++ 44 ∷ []))
    × (2 < l.place)
    × (vec_len l.text + 16 * (length (fields_of l.row) - l.place) < vec_capacity l.text)
