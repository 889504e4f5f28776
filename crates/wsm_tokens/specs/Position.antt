-- Where a byte of a text stands.
use Rattle.std.specs.Prelude.{ℕ, ◌+◌, ◌++◌, Bool, not, nat_eq, List, take, count_by, codes}
use Rattle.std.specs.Fmt.{decimal}
use Rattle.std.specs.List.{suffix_len}
use Rattle.wsm_tokens.specs.declared.position.Position.{Position}

abbrev pub is_line_feed : ℕ → Bool
is_line_feed c = nat_eq c 10

-- a line ends at a line feed; both numbers count from 1, the column in bytes
unfoldable pub position_of : List ℕ → ℕ → Position
position_of text offset =
    let before = take offset text in
    record { line = 1 + count_by is_line_feed before; column = 1 + suffix_len (λ c. not (is_line_feed c)) before }

-- LINE:COLUMN
abbrev pub position_text : Position → List ℕ
position_text p = decimal p.line ++ codes ":" ++ decimal p.column
