-- Rows whose key has a number that is handed in, whatever its cell says.
use Rattle.std.specs.Prelude.{◌≡◌, ℕ, List, [], ◌∷◌, Option, Some, None, pos, Result, Ok, Err, codes, refl}
use Rattle.wsm_record.specs.declared.event.RowFault.{RowFault}
use Rattle.wsm_record.specs.declared.event.RowFault.TheVariants.{BadNumber}
use Rattle.wsm_record.specs.declared.event.Value.TheVariants as values
use Rattle.wsm_record.specs.Event.{Event, Record, Watermark}
use Rattle.wsm_record.specs.Schema.{Declared, Int}
use Rattle.wsm_csv.specs.declared.event_reader.KeyFrom.{KeyFrom}
use Rattle.wsm_csv.specs.declared.event_reader.KeyFrom.TheVariants.{Cell, Number}
use Rattle.wsm_csv.specs.Cells.{event_of_cells, then_read}

-- an event with this key, where it is a record
abbrev pub with_key : Option ℕ → Event → Event
with_key key (Record old time values) = Record key time values
with_key key (Watermark source time) = Watermark source time

-- what a row says, with this key
abbrev pub said_as : Option ℕ → Result Event RowFault → Result Event RowFault
said_as key said = then_read said (λ e. Ok (with_key key e))

-- the event of a row with this key in the place of its cell's, or the first fault
abbrev pub event_as : Declared → Option ℕ → List (List ℕ) → Result Event RowFault
event_as d key cells = said_as key (event_of_cells d cells)

-- what a row says, with the key of its cell or with the one that is handed in
abbrev pub said_from : KeyFrom → Result Event RowFault → Result Event RowFault
said_from Cell said = said
said_from (Number key) said = said_as key said

-- the key a alone, and a number
abbrev one_key : Declared
one_key = record { keys = codes "a" ∷ []; fields = record { name = codes "n"; type = Int (pos 0) (pos 9) } ∷ []; sources = [] }

another_key : event_as one_key (Some 7) (codes "r" ∷ codes "z" ∷ codes "5" ∷ codes "1" ∷ []) ≡ Ok (Record (Some 7) (pos 5) (values.Int (pos 1) ∷ []))
another_key = refl

no_key : event_as one_key None (codes "r" ∷ codes "a" ∷ codes "5" ∷ codes "1" ∷ []) ≡ Ok (Record None (pos 5) (values.Int (pos 1) ∷ []))
no_key = refl

the_same_watermark : event_as one_key (Some 7) (codes "w" ∷ codes "60" ∷ []) ≡ Ok (Watermark (Some 0) (pos 60))
the_same_watermark = refl

the_same_fault : event_as one_key (Some 7) (codes "r" ∷ codes "z" ∷ codes "x" ∷ codes "1" ∷ []) ≡ Err BadNumber
the_same_fault = refl
