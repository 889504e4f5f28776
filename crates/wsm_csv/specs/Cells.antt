-- Which event the cells of a row say, or why they say none.
use Rattle.std.specs.Prelude.{◌≡◌, slice_set, ℕ, Bool, true, false, ◌==◌, List, [], ◌∷◌, length, position, ℤ, Option, Some, None, option_map, ok_or, Result, Ok, Err, if◌then◌else◌, codes, bytes_eq}
use Rattle.wsm_record.specs.declared.event.Value.{Value}
use Rattle.wsm_record.specs.declared.event.Value.TheVariants as values
use Rattle.wsm_record.specs.declared.event.RowFault.{RowFault}
use Rattle.wsm_record.specs.declared.event.RowFault.TheVariants.{BadTag, CellCount, BadNumber, BadName}
use Rattle.wsm_record.specs.Event.{Event, Record, Watermark}
use Rattle.wsm_record.specs.Schema.{Declared, DeclaredField, FieldType, Int, Truth, Enum, fits_type}
use Rattle.wsm_csv.specs.Number.{number_of}

abbrev pub record_tag : List ℕ
record_tag = codes "r"

abbrev pub watermark_tag : List ℕ
watermark_tag = codes "w"

-- the number of a name, its place
abbrev pub place_of : List ℕ → List (List ℕ) → Option ℕ
place_of cell names = position (bytes_eq cell) names

abbrev pub truth_of : List ℕ → Option Bool
truth_of cell = if bytes_eq cell (codes "true") then Some true else if bytes_eq cell (codes "false") then Some false else None

-- a cell as a value of the type, or why it is none
abbrev pub value_of : FieldType → List ℕ → Result Value RowFault
value_of (Int lo hi) cell = ok_or (option_map values.Int (number_of cell)) BadNumber
value_of Truth cell = ok_or (option_map values.Bool (truth_of cell)) BadName
value_of (Enum names) cell = ok_or (option_map values.Enum (place_of cell names)) BadName

-- the value that was read stands at a place of those that were there
abbrev pub Puts : Result Value RowFault → ℕ → List Value → List Value → Type 0
Puts read i old new = (v : Value) × (read ≡ Ok v) × (new ≡ slice_set old i v)

-- whether the value that a cell says is one of the type
abbrev pub Fits : FieldType → List ℕ → Bool → Type 0
Fits type cell fits = (v : Value) → value_of type cell ≡ Ok v → fits ≡ fits_type type v

-- what a value that was read goes on as; a fault stays
abbrev pub then_read : {A B : Type 0} → Result A RowFault → (A → Result B RowFault) → Result B RowFault
then_read (Ok a) next = next a
then_read (Err f) next = Err f

-- a cell for each field, from the left, up to the first fault
abbrev pub values_of : List DeclaredField → List (List ℕ) → Result (List Value) RowFault
values_of (f ∷ fs) (c ∷ cs) = then_read (value_of f.type c) (λ v. then_read (values_of fs cs) (λ vs. Ok (v ∷ vs)))
values_of _ _ = Ok []

abbrev pub time_of : List ℕ → Result ℤ RowFault
time_of cell = ok_or (number_of cell) BadNumber

-- the cells of a record behind its tag: key, time, and one for each field
abbrev pub record_of : Declared → List (List ℕ) → Result Event RowFault
record_of d (key ∷ time ∷ cells) =
    if length cells == length d.fields
    then then_read (time_of time) (λ t. then_read (values_of d.fields cells) (λ vs. Ok (Record (place_of key d.keys) t vs)))
    else Err CellCount
record_of d _ = Err CellCount

-- the cells of a watermark behind its tag: its time alone where no sources are declared, and it is of
-- source 0; else its source and its time, and one that isn't declared has no number
abbrev pub mark_of : List (List ℕ) → List (List ℕ) → Result Event RowFault
mark_of [] (time ∷ []) = then_read (time_of time) (λ t. Ok (Watermark (Some 0) t))
mark_of (s ∷ ss) (source ∷ time ∷ []) = then_read (time_of time) (λ t. Ok (Watermark (place_of source (s ∷ ss)) t))
mark_of _ _ = Err CellCount

abbrev pub watermark_of : Declared → List (List ℕ) → Result Event RowFault
watermark_of d cells = mark_of d.sources cells

-- the event of a row, or the first fault
abbrev pub event_of_cells : Declared → List (List ℕ) → Result Event RowFault
event_of_cells d [] = Err BadTag
event_of_cells d (tag ∷ cells) = if bytes_eq tag record_tag then record_of d cells else if bytes_eq tag watermark_tag then watermark_of d cells else Err BadTag
