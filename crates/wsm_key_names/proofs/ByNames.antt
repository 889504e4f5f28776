-- What rows say by names.
use Rattle.std.proofs.Common.{◌≡◌, ◌==◌, ℕ, ℤ, Bool, true, false, List, [], ◌∷◌, length, position, bytes_eq, Option, Some, None, Result, Ok, Err, refl, inl, inr}
use Rattle.std.specs.Prelude.{slice_get}
use Rattle.std.proofs.lemmas.Bool.{cases_Bool}
use Rattle.wsm_record.specs.declared.event.Value.{Value}
use Rattle.wsm_record.specs.declared.event.RowFault.{RowFault}
use Rattle.wsm_record.specs.Event.{Record, Watermark}
use Rattle.wsm_record.specs.Schema.{Declared}
use Rattle.wsm_csv.specs.Cells.{event_of_cells, mark_of, place_of, record_of, record_tag, then_read, time_of, values_of, watermark_tag}
use Rattle.wsm_csv.specs.KeyedRows.{event_as, said_as}
use Rattle.wsm_key_names.specs.Reading.{by_names, key_cell}

-- the number of a text, if there is one
abbrev pub place_in : List (List ℕ) → Option (List ℕ) → Option ℕ
place_in names None = None
place_in names (Some text) = position (bytes_eq text) names

timed : (key old new : Option ℕ) (time : Result ℤ RowFault) (values : Result (List Value) RowFault) → new ≡ key
    → then_read time (λ t. then_read values (λ vs. Ok (Record new t vs))) ≡ said_as key (then_read time (λ t. then_read values (λ vs. Ok (Record old t vs))))
timed key old new (Ok t) (Ok vs) e = rw e refl
timed key old new (Ok t) (Err f) e = refl
timed key old new (Err f) values e = refl

marked : (key source : Option ℕ) (time : Result ℤ RowFault) → then_read time (λ t. Ok (Watermark source t)) ≡ said_as key (then_read time (λ t. Ok (Watermark source t)))
marked key source (Ok t) = refl
marked key source (Err f) = refl

mark_by : (key : Option ℕ) (sources cells : List (List ℕ)) → mark_of sources cells ≡ said_as key (mark_of sources cells)
mark_by key [] [] = refl
mark_by key [] (t ∷ []) = marked key (Some 0) (time_of t)
mark_by key [] (t ∷ u ∷ more) = refl
mark_by key (s ∷ ss) [] = refl
mark_by key (s ∷ ss) (source ∷ []) = refl
mark_by key (s ∷ ss) (source ∷ t ∷ []) = marked key _ (time_of t)
mark_by key (s ∷ ss) (source ∷ t ∷ u ∷ more) = refl

-- the cell of a key behind the tag of a record
abbrev first_of : List (List ℕ) → Option (List ℕ)
first_of [] = None
first_of (name ∷ cells) = Some name

record_by : (d : Declared) (names cells : List (List ℕ)) → record_of (by_names names d) cells ≡ said_as (place_in names (first_of cells)) (record_of d cells)
record_by d names [] = refl
record_by d names (k ∷ []) = refl
record_by d names (k ∷ time ∷ cells) = elim (cases_Bool (length cells == length d.fields)) [
  | inl as_many ↦ rw as_many (timed (position (bytes_eq k) names) (place_of k d.keys) (place_of k names) (time_of time) (values_of d.fields cells) refl)
  | inr others ↦ rw others refl
]

key_behind : (tag : List ℕ) (cells : List (List ℕ)) → bytes_eq tag record_tag ≡ true → key_cell (tag ∷ cells) ≡ first_of cells
key_behind tag [] e = refl
key_behind tag (k ∷ cells) e = rw e refl

by_tags : (d : Declared) (names : List (List ℕ)) (tag : List ℕ) (cells : List (List ℕ)) (r w : Bool) → bytes_eq tag record_tag ≡ r → bytes_eq tag watermark_tag ≡ w
    → event_of_cells (by_names names d) (tag ∷ cells) ≡ event_as d (place_in names (key_cell (tag ∷ cells))) (tag ∷ cells)
by_tags d names tag cells true w e h = rw (key_behind tag cells e) (rw e (record_by d names cells))
by_tags d names tag cells false true e h = rw (e, h) (mark_by _ d.sources cells)
by_tags d names tag cells false false e h = rw (e, h) refl

-- by names a row says what it says with the number of its key's cell among them
pub by_names_is : (d : Declared) (names cells : List (List ℕ)) → event_of_cells (by_names names d) cells ≡ event_as d (place_in names (key_cell cells)) cells
by_names_is d names [] = refl
by_names_is d names (tag ∷ cells) = by_tags d names tag cells (bytes_eq tag record_tag) (bytes_eq tag watermark_tag) refl refl

-- ---- the cell of a key by its row's tag

pub key_first : (tag : List ℕ) (cells : List (List ℕ)) → bytes_eq tag record_tag ≡ true → slice_get (tag ∷ cells) 1 ≡ key_cell (tag ∷ cells)
key_first tag [] e = refl
key_first tag (k ∷ cells) e = rw e refl

pub key_none : (tag : List ℕ) (cells : List (List ℕ)) → bytes_eq tag record_tag ≡ false → None ≡ key_cell (tag ∷ cells)
key_none tag [] e = refl
key_none tag (k ∷ cells) e = rw e refl
