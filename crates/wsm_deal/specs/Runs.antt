-- The query that a part runs over its rows, and what a run says and writes of a row.
use Rattle.std.specs.Prelude.{◌≡◌, ◌+◌, ◌*◌, ℕ, true, List, [], ◌∷◌, length, take, drop, map, filter, nat_lt, Option, Result, Ok, Err, if◌then◌else◌, codes, refl}
use Rattle.wsm_record.specs.declared.event.RowFault.{RowFault}
use Rattle.wsm_record.specs.Event.{Event}
use Rattle.wsm_admission.specs.declared.verdict.Refusal.{Refusal}
use Rattle.wsm_semantics.specs.declared.out_row.OutRow.{OutRow}
use Rattle.wsm_semantics.specs.Query.{Query, verdict_on}
use Rattle.wsm_semantics.specs.Lines.{Row, events}
use Rattle.wsm_semantics.specs.Relation.{turn_rows}
use Rattle.wsm_semantics.specs.ByKey.{HasRoom, is_row_of}
use Rattle.wsm_semantics.specs.ByNumber.{Numbers, row_by, with_keys}
use Rattle.wsm_csv.specs.Cells.{event_of_cells}
use Rattle.wsm_deal.specs.Deal.{Sharing, dealt_to, goal_of, is_for, keys_of, letters}

-- the keys of a part, in their order
abbrev pub block_of : Sharing → ℕ → List (List ℕ)
block_of s part = take s.block (drop (part * s.block) s.names)

-- which number a key of the part has among all; a number that no key of the part has goes past them all
abbrev pub number_of : Sharing → ℕ → Numbers
number_of s part key = if nat_lt key (length (block_of s part)) then part * s.block + key else length s.names + key

-- the query over the keys of a part alone
abbrev pub query_of_part : Sharing → ℕ → Query → Query
query_of_part s part q = with_keys (number_of s part) (block_of s part) q

-- the events that a run reads of rows
abbrev pub events_of : Query → List (List (List ℕ)) → List Event
events_of q rows = events (map (event_of_cells q.declared) rows)

-- what a run says of a row: its fault, or the verdict on its event
abbrev pub said_of_turn : Query → List Event → Row → Result (Option Refusal) RowFault
said_of_turn q past (Ok e) = Ok (verdict_on q past e)
said_of_turn q past (Err fault) = Err fault

-- the rows that a run writes on the turn of a row; a row that is no event writes none
abbrev pub rows_of_turn : Query → List Event → Row → List OutRow
rows_of_turn q past (Ok e) = turn_rows q past e
rows_of_turn q past (Err fault) = []

-- the same of a row behind others, of which the newest stands first
abbrev pub said_on : Query → List (List (List ℕ)) → List (List ℕ) → Result (Option Refusal) RowFault
said_on q before row = said_of_turn q (events_of q before) (event_of_cells q.declared row)

abbrev pub rows_on : Query → List (List (List ℕ)) → List (List ℕ) → List OutRow
rows_on q before row = rows_of_turn q (events_of q before) (event_of_cells q.declared row)

-- in each part that a row is dealt to it has the fault, or its event the verdict, that it has in one run
abbrev pub VerdictsByKey : Sharing → Query → Type 0
VerdictsByKey s q = (part : ℕ) (before : List (List (List ℕ))) (row : List (List ℕ)) → HasRoom q (events_of q (row ∷ before)) →
    is_for part (goal_of s row) ≡ true → said_on (query_of_part s part q) (dealt_to s part before) row ≡ said_on q before row

-- of what one run writes for a row, the rows of the keys of a part are those that the part's run writes
-- for it behind its own rows, each key by its number among all; for a row of another part there are none
abbrev pub RunsByKey : Sharing → Query → Type 0
RunsByKey s q = (part : ℕ) (before : List (List (List ℕ))) (row : List (List ℕ)) → HasRoom q (events_of q (row ∷ before)) →
    filter (is_row_of (keys_of s part)) (rows_on q before row)
    ≡ (if is_for part (goal_of s row) then map (row_by (number_of s part)) (rows_on (query_of_part s part q) (dealt_to s part before) row) else [])

the_first_block : block_of letters 0 ≡ codes "a" ∷ codes "b" ∷ []
the_first_block = refl

the_second_block : block_of letters 1 ≡ codes "c" ∷ codes "d" ∷ []
the_second_block = refl

-- its two keys, and what is past them
the_second_numbers : map (number_of letters 1) (0 ∷ 1 ∷ 2 ∷ 3 ∷ []) ≡ 2 ∷ 3 ∷ 6 ∷ 7 ∷ []
the_second_numbers = refl

no_third_block : block_of letters 2 ≡ []
no_third_block = refl
