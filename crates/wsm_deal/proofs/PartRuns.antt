-- What a part's run reads of its rows is what one run over all rows reads of them, each key by its number
-- there; so it writes the same rows.
use Rattle.std.proofs.Common.{◌≡◌, ◌==◌, ◌∷◌, ◌∙◌, ◌<◌, [], ℕ, ℤ, List, Bool, Option, Some, Result, Ok, Err, true, false, cond, refl, ap, sym, inl, inr, filter, map, position, length, arith}
use Rattle.std.proofs.lemmas.Bool.{cases_Bool}
use Rattle.std.proofs.lemmas.Bool.Decides.{nat_tests}
use Rattle.std.specs.Prelude.{bytes_eq, nat_lt, option_map, slice_get}
use Rattle.wsm_record.specs.Event.{Event, Record, Watermark}
use Rattle.wsm_record.specs.Schema.{Declared}
use Rattle.wsm_record.specs.declared.event.RowFault.{RowFault}
use Rattle.wsm_record.specs.declared.event.RowFault.TheVariants.{CellCount}
use Rattle.wsm_record.specs.declared.event.Value.{Value}
use Rattle.wsm_record.specs.declared.words.Form.TheVariants.{Panes}
use Rattle.wsm_semantics.specs.Query.{Query}
use Rattle.wsm_semantics.specs.Lines.{Row, events}
use Rattle.wsm_semantics.specs.ByKey.{HasRoom, IgnoresTurns, is_of, is_row_of}
use Rattle.wsm_semantics.specs.ByNumber.{AreNumbers, Numbers, event_by, row_by}
use Rattle.wsm_semantics.specs.Relation.{turn_rows}
use Rattle.wsm_semantics.proofs.KeyLaw.{by_key}
use Rattle.wsm_semantics.proofs.KeyRows.{rows_by_key}
use Rattle.wsm_semantics.proofs.NumberRows.{same_by_numbers}
use Rattle.wsm_csv.specs.Cells.{event_of_cells, mark_of, record_of, record_tag, then_read, time_of, values_of, watermark_tag}
use Rattle.wsm_deal.specs.Deal.{Sharing, dealt_to, goal_of, is_for, keys_of, part_of, record_part}
use Rattle.wsm_deal.specs.Runs.{block_of, events_of, number_of, query_of_part, rows_of_turn, rows_on, said_of_turn, said_on}
use Rattle.wsm_deal.proofs.BlockNumbers.{number_is, numbers_declared, numbers_rise}
use Rattle.wsm_deal.proofs.KeysOf.{events_dealt, read_of, row_read}

-- what is read, with keys by other numbers
abbrev read_by : Numbers → Row → Row
read_by number (Ok e) = Ok (event_by number e)
read_by number (Err fault) = Err fault

-- what is read of a record of a key, and of a watermark of a source
abbrev as_record : Option ℕ → Result ℤ RowFault → Result (List Value) RowFault → Row
as_record key time vs = then_read time (λ t. then_read vs (λ vs. Ok (Record key t vs)))

abbrev as_watermark : Option ℕ → Result ℤ RowFault → Row
as_watermark source time = then_read time (λ t. Ok (Watermark source t))

-- ---- what is read

module _ (number : Numbers) where
  record_by : (count : Bool) (key : Option ℕ) (time : Result ℤ RowFault) (vs : Result (List Value) RowFault) →
      cond count (as_record (option_map number key) time vs) (Err CellCount) ≡ read_by number (cond count (as_record key time vs) (Err CellCount))
  record_by true key (Ok t) (Ok vs) = refl
  record_by true key (Ok t) (Err fault) = refl
  record_by true key (Err fault) vs = refl
  record_by false key time vs = refl

  mark_by : (source : Option ℕ) (time : Result ℤ RowFault) → as_watermark source time ≡ read_by number (as_watermark source time)
  mark_by source (Ok t) = refl
  mark_by source (Err fault) = refl

  watermark_by : (sources cells : List (List ℕ)) → mark_of sources cells ≡ read_by number (mark_of sources cells)
  watermark_by [] [] = refl
  watermark_by [] (time ∷ []) = mark_by (Some 0) (time_of time)
  watermark_by [] (a ∷ b ∷ cells) = refl
  watermark_by (x ∷ xs) [] = refl
  watermark_by (x ∷ xs) (a ∷ []) = refl
  watermark_by (x ∷ xs) (source ∷ time ∷ []) = mark_by (position (bytes_eq source) (x ∷ xs)) (time_of time)
  watermark_by (x ∷ xs) (a ∷ b ∷ c ∷ cells) = refl

  -- one event more
  one_more : (row : Row) (xs ys : List Row) → events xs ≡ map (event_by number) (events ys) →
      events (read_by number row ∷ xs) ≡ map (event_by number) (events (row ∷ ys))
  one_more (Ok e) xs ys h = ap (λ (es : List Event). event_by number e ∷ es) h
  one_more (Err fault) xs ys h = h

its_part : (n m : ℕ) → (n == m) ≡ true → m ≡ n
its_part n m h = grind (arith, nat_tests)

module _ (s : Sharing) (some : 0 < s.block) (d : Declared) (all : d.keys ≡ s.names) (part : ℕ) where
  abbrev number : Numbers
  number = number_of s part

  abbrev own : Declared
  own = record d { keys = block_of s part }

  abbrev read : List (List ℕ) → Row
  read row = event_of_cells d row

  abbrev own_read : List (List ℕ) → Row
  own_read row = event_of_cells own row

  record_alike : (cells : List (List ℕ)) → (part == record_part s (slice_get cells 0)) ≡ true → record_of d cells ≡ read_by number (record_of own cells)
  record_alike [] its = refl
  record_alike (key ∷ []) its = refl
  record_alike (key ∷ time ∷ cells) its =
      let count = length cells == length d.fields in
      let values = values_of d.fields cells in
      let place = position (bytes_eq key) (block_of s part) in
      let there : position (bytes_eq key) d.keys ≡ option_map number place =
      ap (position (bytes_eq key)) all ∙ number_is s part key some (its_part part (part_of s key) its) in
      ap (λ (n : Option ℕ). cond count (as_record n (time_of time) values) (Err CellCount)) there ∙ record_by number count place (time_of time) values

  -- a row of the part is the same event, or has the same fault
  row_alike : (row : List (List ℕ)) → is_for part (goal_of s row) ≡ true → read row ≡ read_by number (own_read row)
  row_alike [] its = refl
  row_alike (tag ∷ cells) its = elim (cases_Bool (bytes_eq tag record_tag)) [
    | inl is ↦ rw is (record_alike cells (rw is at its))
    | inr other ↦ rw other (elim (cases_Bool (bytes_eq tag watermark_tag)) [
      | inl is ↦ rw is (watermark_by number d.sources cells)
      | inr none ↦ rw none refl
    ])
  ]

  dealt_alike : (rows : List (List (List ℕ))) →
      events (map read (dealt_to s part rows)) ≡ map (event_by number) (events (map own_read (dealt_to s part rows)))
  dealt_alike [] = refl
  dealt_alike (row ∷ rows) =
      let more = dealt_alike rows in
      let dealt = dealt_to s part rows in
      elim (cases_Bool (is_for part (goal_of s row))) [
        | inl is ↦ rw is (ap (λ (r : Row). events (r ∷ map read dealt)) (row_alike row is)
            ∙ one_more number (own_read row) (map read dealt) (map own_read dealt) more)
        | inr not_is ↦ rw not_is more
      ]

-- ---- what is said and written

module _ (s : Sharing) (some : 0 < s.block) (q : Query) (all : q.declared.keys ≡ s.names) (part : ℕ) where
  abbrev among : Numbers
  among = number_of s part

  abbrev part_query : Query
  part_query = query_of_part s part q

  abbrev dealt : List (List (List ℕ)) → List (List (List ℕ))
  dealt rows = dealt_to s part rows

  -- no record is refused for RECORDS among some rows and one behind them
  abbrev HasRoomUpTo : List (List (List ℕ)) → Row → Type 0
  HasRoomUpTo before row = HasRoom q (events (row ∷ map (event_of_cells q.declared) before))

  are_numbers : AreNumbers among (block_of s part) q
  are_numbers = record {
    rising = numbers_rise s part;
    declared = λ k. numbers_declared s part k ∙ ap (λ (names : List (List ℕ)). nat_lt (among k) (length names)) (sym all);
  }

  -- of a part's rows alone the whole query says and writes what the part's query does
  same_said : (past : List Event) (row : Row) →
      said_of_turn q (map (event_by among) past) (read_by among row) ≡ said_of_turn part_query past row
  same_said past (Ok e) = ap Ok ((same_by_numbers q among (block_of s part) are_numbers).verdict past e)
  same_said past (Err fault) = refl

  same_rows : (past : List Event) (row : Row) →
      rows_of_turn q (map (event_by among) past) (read_by among row) ≡ map (row_by among) (rows_of_turn part_query past row)
  same_rows past (Ok e) = (same_by_numbers q among (block_of s part) are_numbers).rows past e
  same_rows past (Err fault) = refl

  module _ (before : List (List (List ℕ))) (row : List (List ℕ)) (its : is_for part (goal_of s row) ≡ true) where
    said_by_part : said_on q (dealt before) row ≡ said_on part_query (dealt before) row
    said_by_part =
        (λ i. said_of_turn q (dealt_alike s some q.declared all part before i) (row_alike s some q.declared all part row its i))
        ∙ same_said (events_of part_query (dealt before)) (event_of_cells part_query.declared row)

    rows_by_part : rows_on q (dealt before) row ≡ map (row_by among) (rows_on part_query (dealt before) row)
    rows_by_part =
        (λ i. rows_of_turn q (dealt_alike s some q.declared all part before i) (row_alike s some q.declared all part row its i))
        ∙ same_rows (events_of part_query (dealt before)) (event_of_cells part_query.declared row)

  -- and that is what it says of them among all rows
  said_alone : (before : List (List (List ℕ))) (row : Row) → HasRoomUpTo before row →
      said_of_turn q (events_of q (dealt before)) row ≡ said_of_turn q (events_of q before) row
  said_alone before (Ok e) room =
      ap (λ (past : List Event). said_of_turn q past (Ok e)) (events_dealt s q.declared part before all)
      ∙ ap Ok ((by_key q (keys_of s part)).verdict (events_of q before) e room)
  said_alone before (Err fault) room = refl

  pub verdicts_alike : (before : List (List (List ℕ))) (row : List (List ℕ)) → HasRoom q (events_of q (row ∷ before)) →
      is_for part (goal_of s row) ≡ true → said_on part_query (dealt before) row ≡ said_on q before row
  verdicts_alike before row room its = sym (said_by_part before row its) ∙ said_alone before (event_of_cells q.declared row) room

  module _ (ignores : IgnoresTurns q) (panes : q.form ≡ Panes) where
    -- and what it writes there for the keys of the part
    rows_alone : (before : List (List (List ℕ))) (row : Row) (its : Bool) → read_of (is_of (keys_of s part)) row its → HasRoomUpTo before row →
        filter (is_row_of (keys_of s part)) (rows_of_turn q (events_of q before) row) ≡ cond its (rows_of_turn q (events_of q (dealt before)) row) []
    rows_alone before (Ok e) its is room =
        rows_by_key q ignores panes (keys_of s part) (events_of q before) e room
        ∙ (λ i. cond (is i) (turn_rows q (sym (events_dealt s q.declared part before all) i) e) [])
    rows_alone before (Err fault) true is room = refl
    rows_alone before (Err fault) false is room = refl

    pub runs_alike : (before : List (List (List ℕ))) (row : List (List ℕ)) → HasRoom q (events_of q (row ∷ before)) →
        filter (is_row_of (keys_of s part)) (rows_on q before row)
        ≡ cond (is_for part (goal_of s row)) (map (row_by among) (rows_on part_query (dealt before) row)) []
    runs_alike before row room =
        rows_alone before (event_of_cells q.declared row) (is_for part (goal_of s row)) (row_read s q.declared part row all) room
        ∙ (elim (cases_Bool (is_for part (goal_of s row))) [
          | inl its ↦ rw its (rows_by_part before row its)
          | inr other ↦ rw other refl
        ])
