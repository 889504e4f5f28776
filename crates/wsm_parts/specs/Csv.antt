-- Rows of CSV by RFC 4180, one in each line: cells with a separator between any two. A cell that begins
-- with a quote ends at the next quote that isn't doubled, and a doubled one in it is one quote.
use Rattle.std.specs.Prelude.{ℕ, ◌+◌, ◌==◌, List, [], ◌∷◌, ◌++◌, Bool, true, false, if◌then◌else◌, Option, Some, None, option_map, option_and_then, bytes_eq, slice_index_or, map}
use Rattle.wsm_parts.specs.declared.csv.Spot.{Spot}
use Rattle.wsm_parts.specs.declared.csv.Spot.TheVariants.{Begins, Plain, Quoted, Closed}
use Rattle.wsm_parts.specs.declared.csv.Move.{Move}
use Rattle.wsm_parts.specs.declared.csv.Move.TheVariants.{Opens, Ends, Adds}

-- a byte of a cell without quotes, or a separator: no quote, and no NUL
abbrev pub plain_move : ℕ → ℕ → Option Move
plain_move separator byte =
    if byte == 34 then None else (if byte == separator then Some Ends else (if byte == 0 then None else Some (Adds Plain)))

-- what a byte does where a cell begins, in one without quotes, in one with quotes, and behind a quote that
-- closes one or is doubled
abbrev pub move_of : ℕ → Spot → ℕ → Option Move
move_of separator Begins byte = if byte == 34 then Some Opens else plain_move separator byte
move_of separator Plain byte = plain_move separator byte
move_of separator Quoted byte = if byte == 34 then Some (Adds Closed) else (if byte == 0 then None else Some (Adds Quoted))
move_of separator Closed byte = if byte == 34 then Some (Adds Quoted) else (if byte == separator then Some Ends else None)

-- what stands between quotes, up to the closing one: a quote is left out, and what is behind it is kept
abbrev pub unquoted_from : Bool → List ℕ → List ℕ
unquoted_from quote [] = []
unquoted_from false (byte ∷ bytes) = if byte == 34 then unquoted_from true bytes else byte ∷ unquoted_from false bytes
unquoted_from true (byte ∷ bytes) = byte ∷ unquoted_from false bytes

-- the text of a cell
abbrev pub cell_text : Bool → List ℕ → List ℕ
cell_text false bytes = bytes
cell_text true bytes = unquoted_from false bytes

abbrev pub is_closed : Spot → Bool
is_closed Begins = false
is_closed Plain = false
is_closed Quoted = false
is_closed Closed = true

-- a row so far: where in a cell it is, the bytes of that cell, and the cells before it
pub record Row : Type 0 where
  pub spot : Spot
  pub bytes : List ℕ
  pub cells : List (List ℕ)

abbrev pub row_with : Spot → List ℕ → List (List ℕ) → Row
row_with spot bytes cells = record { spot = spot; bytes = bytes; cells = cells }

-- the cells with the one that ends here
abbrev pub all_cells : Row → List (List ℕ)
all_cells row = row.cells ++ cell_text (is_closed row.spot) row.bytes ∷ []

abbrev pub moved : Row → ℕ → Move → Row
moved row byte Opens = row_with Quoted [] row.cells
moved row byte Ends = row_with Begins [] (all_cells row)
moved row byte (Adds spot) = row_with spot (row.bytes ++ byte ∷ []) row.cells

-- the row with one byte more
abbrev pub advanced : ℕ → Row → ℕ → Option Row
advanced separator row byte = option_map (moved row byte) (move_of separator row.spot byte)

-- a row ends anywhere but between quotes
abbrev pub finished : Row → Spot → Option (List (List ℕ))
finished row Begins = Some (all_cells row)
finished row Plain = Some (all_cells row)
finished row Quoted = None
finished row Closed = Some (all_cells row)

-- what there is, if it is whole
abbrev pub only_if : {A : Type 0} → Bool → A → Option A
only_if true a = Some a
only_if false a = None

abbrev pub cells_from : ℕ → Row → List ℕ → Option (List (List ℕ))
cells_from separator row [] = finished row row.spot
cells_from separator row (byte ∷ bytes) = option_and_then (λ next. cells_from separator next bytes) (advanced separator row byte)

-- the cells of a line
abbrev pub cells_of : ℕ → List ℕ → Option (List (List ℕ))
cells_of separator line = cells_from separator (row_with Begins [] []) line

-- the place of the first cell with this text
abbrev pub place_from : ℕ → List ℕ → List (List ℕ) → Option ℕ
place_from i name [] = None
place_from i name (cell ∷ cells) = if bytes_eq name cell then Some i else place_from (i + 1) name cells

-- the columns so far, and those of the names that are left
abbrev pub columns_from : List ℕ → List (List ℕ) → List (List ℕ) → Option (List ℕ)
columns_from columns [] header = Some columns
columns_from columns (name ∷ names) header = option_and_then (λ i. columns_from (columns ++ i ∷ []) names header) (place_from 0 name header)

-- the columns that have these names in a header
abbrev pub columns_of : List (List ℕ) → List (List ℕ) → Option (List ℕ)
columns_of names header = columns_from [] names header

-- the cells of these columns
abbrev pub picked : List ℕ → List (List ℕ) → List (List ℕ)
picked columns cells = map (λ i. slice_index_or cells i []) columns
