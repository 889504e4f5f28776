-- Rows read by any number of names, which rows may teach: an event has the part of its key and the key's place in it.
use Rattle.std.specs.Prelude.{◌≡◌, refl, ⊤, ℕ, ◌+◌, ◌*◌, ◌<◌, nat_lt, Bool, true, List, [], ◌∷◌, length, map, pos, Option, Some, None, Ok, Err, is_ok, if◌then◌else◌, bytes_eq, codes}
use Rattle.wsm_record.specs.declared.event.RowFault.TheVariants.{BadNumber}
use Rattle.wsm_record.specs.Event.{Event, Record, Watermark}
use Rattle.wsm_record.specs.Schema.{Declared}
use Rattle.wsm_semantics.specs.ByNumber.{event_by}
use Rattle.wsm_semantics.specs.Lines.{Row}
use Rattle.wsm_csv.specs.Cells.{event_of_cells, record_tag}
use Rattle.wsm_key_names.specs.Names.{learned}

-- what a reader by names stands for: the names so far and the most that there may be, how many of them are of a part, and the event
-- that was read last, whose key is a place in its part
pub record Reading : Type 0 where
  pub names : List (List ℕ)
  pub most : ℕ
  pub block : ℕ
  pub part : ℕ
  pub event : Event
  pub fits : Bool

-- the number among all names of a place in a part
abbrev pub number_of : ℕ → ℕ → ℕ → ℕ
number_of block part place = part * block + place

-- the event that was read last, its key by its number among all names
abbrev pub numbered : Reading → Event
numbered r = event_by (number_of r.block r.part) r.event

-- a key is a place of a part
abbrev pub IsInBlock : ℕ → Event → Type 0
IsInBlock block (Record (Some place) time values) = place < block
IsInBlock block (Record None time values) = ⊤
IsInBlock block (Watermark source time) = ⊤

-- the number of the key of a record, if it has one, is that of a name
abbrev pub is_named : List (List ℕ) → Event → Bool
is_named names (Record None time values) = true
is_named names (Record (Some n) time values) = nat_lt n (length names)
is_named names (Watermark source time) = true

-- what declares these names for its keys
abbrev pub by_names : List (List ℕ) → Declared → Declared
by_names names d = record d { keys = names }

-- the cell of a row where a record has the name of its key
abbrev pub key_cell : List (List ℕ) → Option (List ℕ)
key_cell (tag ∷ name ∷ cells) = if bytes_eq tag record_tag then Some name else None
key_cell cells = None

abbrev pub learned_of : ℕ → List (List ℕ) → Option (List ℕ) → List (List ℕ)
learned_of most names None = names
learned_of most names (Some text) = learned most names text

-- the names once a row came: a record teaches its name, whatever becomes of it, and a row that is no event none
abbrev pub names_after : ℕ → Declared → List (List ℕ) → List (List ℕ) → List (List ℕ)
names_after most d names cells = if is_ok (event_of_cells d cells) then learned_of most names (key_cell cells) else names

-- and once some came, the first of them first
abbrev pub names_after_rows : ℕ → Declared → List (List ℕ) → List (List (List ℕ)) → List (List ℕ)
names_after_rows most d names [] = names
names_after_rows most d names (cells ∷ rows) = names_after_rows most d (names_after most d names cells) rows

-- what each of some rows says, read by the names so far, its own among them
abbrev pub read_in_turn : ℕ → Declared → List (List ℕ) → List (List (List ℕ)) → List Row
read_in_turn most d names [] = []
read_in_turn most d names (cells ∷ rows) =
    event_of_cells (by_names (names_after most d names cells) d) cells ∷ read_in_turn most d (names_after most d names cells) rows

-- which is what they say by all names that ever come
abbrev pub ReadsByAll : Type 0
ReadsByAll = (most : ℕ) (d : Declared) (names : List (List ℕ)) (rows : List (List (List ℕ))) →
    read_in_turn most d names rows ≡ map (event_of_cells (by_names (names_after_rows most d names rows) d)) rows

-- a reading of one row, whatever comes later
abbrev pub StaysRead : Type 0
StaysRead = (most : ℕ) (d : Declared) (names : List (List ℕ)) (cells : List (List ℕ)) (later : List (List (List ℕ))) →
    event_of_cells (by_names (names_after_rows most d names (cells ∷ later)) d) cells ≡ event_of_cells (by_names (names_after most d names cells) d) cells

-- ---- worked rows

abbrev bare : Declared
bare = record { keys = codes "0" ∷ []; fields = []; sources = [] }

abbrev some_rows : List (List (List ℕ))
some_rows =
    (codes "r" ∷ codes "x,y" ∷ codes "1" ∷ []) ∷ (codes "r" ∷ codes "z" ∷ codes "no" ∷ []) ∷ (codes "w" ∷ codes "5" ∷ []) ∷ (codes "r" ∷ codes "b" ∷ codes "2" ∷ [])
    ∷ (codes "r" ∷ [] ∷ codes "3" ∷ []) ∷ (codes "r" ∷ codes "c" ∷ codes "4" ∷ []) ∷ []

-- two names of a file and one more that may come: a row that is no event teaches none, a watermark none, and what is no name, or comes where none is left, is of no key
they_are_read : read_in_turn 3 bare (codes "a" ∷ codes "b" ∷ []) some_rows
    ≡ Ok (Record (Some 2) (pos 1) []) ∷ Err BadNumber ∷ Ok (Watermark (Some 0) (pos 5)) ∷ Ok (Record (Some 1) (pos 2) []) ∷ Ok (Record None (pos 3) []) ∷ Ok (Record None (pos 4) []) ∷ []
they_are_read = refl

-- the number 7 is place 1 of part 2, where three names are of a part
by_parts : event_by (number_of 3 2) (Record (Some 1) (pos 5) []) ≡ Record (Some 7) (pos 5) []
by_parts = refl
