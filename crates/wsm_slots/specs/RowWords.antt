-- The cells of a row, each as a word, and which kind of cell each is.
use Rattle.std.specs.Prelude.{ℕ, zero, suc, ℤ, pos, ◌/◌, ◌%◌, List, [], ◌∷◌, not, unsigned_abs}
use Rattle.std.specs.Ordering.{int_eq}
use Rattle.wsm_record.specs.declared.cell.Cell.{Cell}
use Rattle.wsm_record.specs.declared.cell.Cell.TheVariants as cells

-- the number of a cell's kind
abbrev pub kind_of : Cell → ℕ
kind_of (cells.Int n) = 0
kind_of (cells.Bool b) = 1
kind_of (cells.Enum e i) = 2

-- the cell of a kind that a word stands for
abbrev pub cell_by : ℕ → ℤ → Cell
cell_by zero word = cells.Int word
cell_by (suc zero) word = cells.Bool (not (int_eq word (pos 0)))
cell_by (suc (suc kind)) word = cells.Enum (unsigned_abs word / 65536 % 256) (unsigned_abs word % 65536)

-- the cells that words stand for. The kinds are the digits of a number in base 4, the first one's lowest
abbrev pub cells_by : ℕ → List ℤ → List Cell
cells_by kinds [] = []
cells_by kinds (word ∷ words) = cell_by (kinds % 4) word ∷ cells_by (kinds / 4) words
