-- Lines of rows whose key is written by a text that is handed in.
use Rattle.std.specs.Prelude.{◌≡◌, ⊤, ℕ, Bool, true, false, zero, suc, List, [], ◌∷◌, ◌++◌, map, codes}
use Rattle.std.specs.List.{list_all}
use Rattle.std.specs.Fmt.{signed_decimal}
use Rattle.wsm_record.specs.declared.cell.Cell.{Cell}
use Rattle.wsm_record.specs.declared.cell.Cell.TheVariants.{Int, Bool as Truth, Enum}
use Rattle.wsm_record.specs.Schema.{Declared}
use Rattle.wsm_semantics.specs.declared.out_row.OutRow.{OutRow}
use Rattle.wsm_semantics.specs.declared.out_row.OutRow.TheVariants.{Pane, Retract, Istream, Dstream, Rstream}
use Rattle.wsm_semantics.specs.Lines.{Out}
use Rattle.wsm_semantics.specs.Text.{cell_text, joined, kind_word, line_text, name_at, row_cells}
use Rattle.wsm_semantics.specs.ByNumber.{Numbers, row_by}

-- the cells of a row whose key is written so; a row of a stream has no key
abbrev pub keyed_cells : Declared → List ℕ → OutRow → List (List ℕ)
keyed_cells s key (Pane kind number window columns) =
    codes "pane" ∷ kind_word kind ∷ key ∷ signed_decimal window.start ∷ signed_decimal window.end ∷ map (cell_text s) columns
keyed_cells s key (Retract number window columns) = codes "retract" ∷ key ∷ signed_decimal window.start ∷ signed_decimal window.end ∷ map (cell_text s) columns
keyed_cells s key (Istream mark columns) = row_cells s (Istream mark columns)
keyed_cells s key (Dstream mark columns) = row_cells s (Dstream mark columns)
keyed_cells s key (Rstream mark columns) = row_cells s (Rstream mark columns)

-- its line
abbrev pub keyed_text : Declared → List ℕ → OutRow → List ℕ
keyed_text s key row = joined (keyed_cells s key row) ++ 10 ∷ []

-- the text that the key of a row has among these names; a row of a stream has none
abbrev pub key_text : List (List ℕ) → OutRow → List ℕ
key_text names (Pane kind number window columns) = name_at names number
key_text names (Retract number window columns) = name_at names number
key_text names (Istream mark columns) = []
key_text names (Dstream mark columns) = []
key_text names (Rstream mark columns) = []

-- the key of a row, if it has one, has this text among these names
abbrev pub HasKeyText : List (List ℕ) → List ℕ → OutRow → Type 0
HasKeyText names key (Pane kind number window columns) = name_at names number ≡ key
HasKeyText names key (Retract number window columns) = name_at names number ≡ key
HasKeyText names key (Istream mark columns) = ⊤
HasKeyText names key (Dstream mark columns) = ⊤
HasKeyText names key (Rstream mark columns) = ⊤

-- whether a column says no key
abbrev pub is_keyless : Cell → Bool
is_keyless (Int n) = true
is_keyless (Truth b) = true
is_keyless (Enum zero i) = false
is_keyless (Enum (suc f) i) = true

-- whether no column of a row says a key
abbrev pub is_keyless_row : OutRow → Bool
is_keyless_row (Pane kind number window columns) = list_all is_keyless columns
is_keyless_row (Retract number window columns) = list_all is_keyless columns
is_keyless_row (Istream mark columns) = list_all is_keyless columns
is_keyless_row (Dstream mark columns) = list_all is_keyless columns
is_keyless_row (Rstream mark columns) = list_all is_keyless columns

-- a text is the line of a row, each key by its number among these names, whichever names have the text at that number: where no column says a key
abbrev pub IsLineOf : Declared → List ℕ → OutRow → List ℕ → Type 0
IsLineOf s key row text =
    (names : List (List ℕ)) (number : Numbers) → HasKeyText names key (row_by number row) → is_keyless_row row ≡ true →
    text ≡ line_text (record s { keys = names }) (Out (row_by number row))
