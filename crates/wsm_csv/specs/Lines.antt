-- How lines are put together from cells.
use Rattle.std.specs.Prelude.{ℕ, Bool, true, false, ◌++◌, List, [], ◌∷◌}
use Rattle.std.specs.Fmt.{signed_decimal}
use Rattle.wsm_record.specs.declared.cell.Cell.{Cell}
use Rattle.wsm_record.specs.declared.cell.Cell.TheVariants.{Int}
use Rattle.wsm_windows.specs.declared.window.Window.{Window}

-- cells with a comma in front of each
abbrev pub cells_text : List (List ℕ) → List ℕ
cells_text [] = []
cells_text (cell ∷ cells) = 44 ∷ cell ++ cells_text cells

-- whether a column is a number
abbrev pub is_a_number : Cell → Bool
is_a_number (Int n) = true
is_a_number column = false

-- the text of a column that is a number
abbrev pub number_text : Cell → List ℕ
number_text (Int n) = signed_decimal n
number_text column = []

-- the cells of a window
abbrev pub window_cells : Window → List (List ℕ)
window_cells w = signed_decimal w.start ∷ signed_decimal w.end ∷ []
