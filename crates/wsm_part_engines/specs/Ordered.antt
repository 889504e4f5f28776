-- The rows of engines in the order of a turn, by their places.
use Rattle.std.specs.Prelude.{ℕ, ◌+◌, ◌<◌, List, [], ◌∷◌, ◌++◌, length, pos, Option, if◌then◌else◌, slice_index_or, Bool, true, nat_eq}
use Rattle.std.specs.List.{list_all}
use Rattle.std.specs.Ordering.{int_cmp, nat_cmp, ordering_then, is_gt}
use Rattle.std.specs.declared.cmp.Ordering.{Ordering}
use Rattle.wsm_semantics.specs.declared.out_row.OutRow.{OutRow}
use Rattle.wsm_semantics.specs.declared.out_row.OutRow.TheVariants.{Rstream}
use Rattle.wsm_semantics.specs.ByNumber.{row_by}
use Rattle.wsm_engine.specs.State.{State as EngineState}
use Rattle.wsm_key_parts.specs.Merged.{rank, place_of}
use Rattle.wsm_part_engines.specs.declared.row_place.RowPlace.{RowPlace}
use Rattle.wsm_part_engines.specs.Fits.{number_of, engine_at}
use Rattle.wsm_part_engines.specs.Slots.{rows_of}

-- the place of a row of a part
abbrev pub place_in : ℕ → ℕ → OutRow → RowPlace
place_in part i row = let place = place_of row in record { rank = rank row; end = place.end; start = place.start; part = part; key = place.key; row = i }

-- those of the rows of a part, from a number on
abbrev pub places_from : ℕ → ℕ → List OutRow → List RowPlace
places_from part i [] = []
places_from part i (row ∷ rows) = place_in part i row ∷ places_from part (i + 1) rows

-- those of all engines, from a part on
abbrev pub all_places : ℕ → List (Option EngineState) → List RowPlace
all_places part [] = []
all_places part (slot ∷ slots) = places_from part 0 (rows_of slot) ++ all_places (part + 1) slots

-- the row of a place, its key by its number
abbrev pub row_at : ℕ → List (Option EngineState) → RowPlace → OutRow
row_at block engines p = row_by (number_of block p.part) (slice_index_or (rows_of (engine_at engines p.part)) p.row (Rstream (pos 0) []))

-- there is such a row
pub record IsRow (engines : List (Option EngineState)) (p : RowPlace) : Type 0 where
  pub part : p.part < length engines
  pub row : p.row < length (rows_of (engine_at engines p.part))

-- by rank, end, start, part and key, and rows of one place by number
abbrev pub row_cmp : RowPlace → RowPlace → Ordering
row_cmp a b =
    ordering_then (nat_cmp a.rank b.rank)
    (ordering_then (int_cmp a.end b.end)
    (ordering_then (int_cmp a.start b.start)
    (ordering_then (nat_cmp a.part b.part)
    (ordering_then (nat_cmp a.key b.key)
    (nat_cmp a.row b.row)))))

abbrev pub with_place : RowPlace → List RowPlace → List RowPlace
with_place p [] = p ∷ []
with_place p (x ∷ xs) = if is_gt (row_cmp p x) then x ∷ with_place p xs else p ∷ x ∷ xs

abbrev pub in_row_order : List RowPlace → List RowPlace
in_row_order [] = []
in_row_order (p ∷ ps) = with_place p (in_row_order ps)

-- all are of one part
abbrev pub are_of : ℕ → List RowPlace → Bool
are_of part ps = list_all (λ p. nat_eq p.part part) ps

abbrev pub are_of_one : List RowPlace → Bool
are_of_one [] = true
are_of_one (p ∷ ps) = are_of p.part ps

-- those of one part stand in order
abbrev pub arranged : List RowPlace → List RowPlace
arranged ps = if are_of_one ps then ps else in_row_order ps
