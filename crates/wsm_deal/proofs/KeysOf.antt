-- The events of a part's rows are those of its keys.
use Rattle.std.proofs.Common.{◌≡◌, ◌==◌, ◌∷◌, [], ℕ, List, Bool, Option, Some, None, Result, Ok, Err, true, false, refl, ap, ◌∙◌, inl, inr, filter, map, position}
use Rattle.std.proofs.lemmas.Bool.{cases_Bool}
use Rattle.std.specs.Prelude.{if◌then◌else◌, bytes_eq, length, slice_get, unwrap_or, option_map, ◌/◌, ℤ}
use Rattle.wsm_record.specs.Event.{Event, Record, Watermark}
use Rattle.wsm_record.specs.Schema.{Declared}
use Rattle.wsm_record.specs.declared.event.RowFault.{RowFault}
use Rattle.wsm_record.specs.declared.event.RowFault.TheVariants.{CellCount}
use Rattle.wsm_record.specs.declared.event.Value.{Value}
use Rattle.wsm_semantics.specs.Lines.{Row, events}
use Rattle.wsm_semantics.specs.ByKey.{is_of, of_keys}
use Rattle.wsm_csv.specs.Cells.{event_of_cells, mark_of, record_of, record_tag, then_read, time_of, values_of, watermark_tag}
use Rattle.wsm_deal.specs.Deal.{Sharing, dealt_to, goal_of, is_for, keys_of, record_part}

-- whether an event that is read is of the part
abbrev pub read_of : (Event → Bool) → Row → Bool → Type 0
read_of t (Ok e) b = t e ≡ b
read_of t (Err fault) b = Unit {0}

-- the part of a record is that of its key
key_part : (s : Sharing) (part : ℕ) (key : Option ℕ) → keys_of s part key ≡ (part == unwrap_or (option_map (λ n. n / s.block) key) 0)
key_part s part None = refl
key_part s part (Some n) = refl

values_read : (s : Sharing) (part : ℕ) (key : Option ℕ) (b : Bool) (t : ℤ) (vs : Result (List Value) RowFault) → keys_of s part key ≡ b → read_of (is_of (keys_of s part)) (then_read vs (λ vs. Ok (Record key t vs))) b
values_read s part key b t (Ok vs) e = e
values_read s part key b t (Err f) e = tt

record_read : (s : Sharing) (part : ℕ) (key : Option ℕ) (b : Bool) (time : Result ℤ RowFault) (vs : Result (List Value) RowFault) → keys_of s part key ≡ b
    → read_of (is_of (keys_of s part)) (then_read time (λ t. then_read vs (λ vs. Ok (Record key t vs)))) b
record_read s part key b (Ok t) vs e = values_read s part key b t vs e
record_read s part key b (Err f) vs e = tt

counted_read : (s : Sharing) (part : ℕ) (b count : Bool) (row : Row) → read_of (is_of (keys_of s part)) row b → read_of (is_of (keys_of s part)) (if count then row else Err CellCount) b
counted_read s part b true row h = h
counted_read s part b false row h = tt

mark_read : (s : Sharing) (part : ℕ) (source : Option ℕ) (time : Result ℤ RowFault) → read_of (is_of (keys_of s part)) (then_read time (λ t. Ok (Watermark source t))) true
mark_read s part source (Ok t) = refl
mark_read s part source (Err f) = tt

watermark_read : (s : Sharing) (part : ℕ) (sources cells : List (List ℕ)) → read_of (is_of (keys_of s part)) (mark_of sources cells) true
watermark_read s part [] [] = tt
watermark_read s part [] (time ∷ []) = mark_read s part (Some 0) (time_of time)
watermark_read s part [] (a ∷ b ∷ cells) = tt
watermark_read s part (x ∷ xs) [] = tt
watermark_read s part (x ∷ xs) (a ∷ []) = tt
watermark_read s part (x ∷ xs) (source ∷ time ∷ []) = mark_read s part (position (bytes_eq source) (x ∷ xs)) (time_of time)
watermark_read s part (x ∷ xs) (a ∷ b ∷ c ∷ cells) = tt

tagged_read : (s : Sharing) (d : Declared) (part : ℕ) (cells : List (List ℕ)) → d.keys ≡ s.names
    → read_of (is_of (keys_of s part)) (record_of d cells) (part == record_part s (slice_get cells 0))
tagged_read s d part [] e = tt
tagged_read s d part (key ∷ []) e = tt
tagged_read s d part (key ∷ time ∷ cells) e =
    let number = position (bytes_eq key) d.keys in
    let values = values_of d.fields cells in
    let is_its : keys_of s part number ≡ (part == record_part s (Some key)) =
    key_part s part number ∙ ap (λ (names : List (List ℕ)). part == unwrap_or (option_map (λ n. n / s.block) (position (bytes_eq key) names)) 0) e in
    counted_read s part (part == record_part s (Some key)) (length cells == length d.fields) (then_read (time_of time) (λ t. then_read values (λ vs. Ok (Record number t vs))))
    (record_read s part number (part == record_part s (Some key)) (time_of time) values is_its)

-- what is read of a row is of the part where the row goes there
pub row_read : (s : Sharing) (d : Declared) (part : ℕ) (row : List (List ℕ)) → d.keys ≡ s.names → read_of (is_of (keys_of s part)) (event_of_cells d row) (is_for part (goal_of s row))
row_read s d part [] e = tt
row_read s d part (tag ∷ cells) e = elim (cases_Bool (bytes_eq tag record_tag)) [
  | inl is ↦ rw is (tagged_read s d part cells e)
  | inr other ↦ rw other (elim (cases_Bool (bytes_eq tag watermark_tag)) [
    | inl is ↦ rw is (watermark_read s part d.sources cells)
    | inr none ↦ rw none tt
  ])
]

-- one row more, which is dealt to the part
joined : (t : Event → Bool) (row : Row) (rest dealt : List Row) → read_of t row true → events dealt ≡ filter t (events rest) → events (row ∷ dealt) ≡ filter t (events (row ∷ rest))
joined t (Ok e) rest dealt h more = rw h (ap (λ (es : List Event). e ∷ es) more)
joined t (Err fault) rest dealt h more = more

-- and one that isn't
left_out : (t : Event → Bool) (row : Row) (rest dealt : List Row) → read_of t row false → events dealt ≡ filter t (events rest) → events dealt ≡ filter t (events (row ∷ rest))
left_out t (Ok e) rest dealt h more = rw h more
left_out t (Err fault) rest dealt h more = more

pub events_dealt : (s : Sharing) (d : Declared) (part : ℕ) (rows : List (List (List ℕ))) → d.keys ≡ s.names
    → events (map (event_of_cells d) (dealt_to s part rows)) ≡ of_keys (keys_of s part) (events (map (event_of_cells d) rows))
events_dealt s d part [] e = refl
events_dealt s d part (row ∷ rows) e =
    let more = events_dealt s d part rows e in
    let read = row_read s d part row e in
    elim (cases_Bool (is_for part (goal_of s row))) [
      | inl is ↦ rw is (joined (is_of (keys_of s part)) (event_of_cells d row) (map (event_of_cells d) rows) (map (event_of_cells d) (dealt_to s part rows)) (rw is at read) more)
      | inr not_is ↦ rw not_is (left_out (is_of (keys_of s part)) (event_of_cells d row) (map (event_of_cells d) rows) (map (event_of_cells d) (dealt_to s part rows)) (rw not_is at read) more)
    ]
