-- What is written for rows by any number of names: the lines of one query over all names that ever come, each key by its cell.
use Rattle.std.specs.Prelude.{ℕ, List}
use Rattle.wsm_semantics.specs.Lines.{Line, all_lines, end_line, lines_so_far}
use Rattle.wsm_semantics.specs.Query.{Query}
use Rattle.wsm_program.specs.Program.{Program}
use Rattle.wsm_part_programs.specs.Names.{of_names}
use Rattle.wsm_keyed_told.specs.KeyedLines.{keyed_lines}
use Rattle.wsm_key_names.specs.Reading.{names_after_rows}
use Rattle.wsm.specs.Written.{Cells, rows_of}

-- a program, the names that are there before the first row, and how many there may be: one that comes in a record is learned as long as
-- there are fewer
pub record Keyed : Type 0 where
  pub program : Program
  pub names : List (List ℕ)
  pub most : ℕ

-- the names once these rows came
abbrev pub names_of : Keyed → List Cells → List (List ℕ)
names_of k cells = names_after_rows k.most k.program.header.schema k.names cells

-- the query over them
abbrev pub query_behind : Keyed → List Cells → Query
query_behind k cells = of_names k.program (names_of k cells)

-- ---- bytes

-- the bytes of the turns of these rows, by these names
unfoldable pub turns_by : Program → List (List ℕ) → List Cells → List ℕ
turns_by p names cells = let q = of_names p names in keyed_lines p.header.schema names (lines_so_far q (rows_of q cells))

-- the bytes that are written for an input of these rows, by these names
unfoldable pub text_by : Program → List (List ℕ) → List Cells → List ℕ
text_by p names cells = let q = of_names p names in keyed_lines p.header.schema names (all_lines q (rows_of q cells))

-- the same by all names that ever come
abbrev pub turns_text : Keyed → List Cells → List ℕ
turns_text k cells = turns_by k.program (names_of k cells) cells

abbrev pub input_text : Keyed → List Cells → List ℕ
input_text k cells = text_by k.program (names_of k cells) cells

-- the last line
abbrev pub last_line : Keyed → List Cells → Line
last_line k cells = end_line (query_behind k cells) (rows_of (query_behind k cells) cells)
