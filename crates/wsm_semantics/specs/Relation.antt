-- The relation where the watermark rises, and the three streams (Arasu et al. 2006): a relation is a
-- bag at each instant, Istream what it gained, Dstream what it lost, Rstream what it is. The
-- instants and which firing stands for a pane are this project's own rules.
use Rattle.std.specs.Prelude.{List, [], ◌∷◌, ◌++◌, map, filter_map, ℤ, option_and_then, if◌then◌else◌}
use Rattle.std.specs.Ordering.{int_cmp, nat_cmp, bool_cmp, ordering_then, is_eq, is_gt}
use Rattle.std.specs.declared.cmp.Ordering.{Ordering}
use Rattle.std.specs.declared.cmp.Ordering.TheVariants.{Less, Equal, Greater}
use Rattle.wsm_record.specs.declared.cell.Cell.{Cell}
use Rattle.wsm_record.specs.declared.cell.Cell.TheVariants.{Int, Bool as Truth, Enum}
use Rattle.wsm_record.specs.declared.words.Form.{Form}
use Rattle.wsm_record.specs.declared.words.Form.TheVariants as form
use Rattle.wsm_record.specs.Event.{Event}
use Rattle.wsm_semantics.specs.declared.out_row.OutRow.{OutRow}
use Rattle.wsm_semantics.specs.declared.out_row.OutRow.TheVariants.{Istream, Dstream, Rstream}
use Rattle.wsm_semantics.specs.Query.{Query, mark, raises}
use Rattle.wsm_semantics.specs.Panes.{held}
use Rattle.wsm_semantics.specs.Firings.{firings_so_far, pane_rows}
use Rattle.wsm_semantics.specs.StandingFirings.{standing}
use Rattle.wsm_semantics.specs.Retractions.{retract_rows}

-- cells of one type by value; no column has cells of two types
abbrev pub cell_cmp : Cell → Cell → Ordering
cell_cmp (Int a) (Int b) = int_cmp a b
cell_cmp (Int a) (Truth b) = Less
cell_cmp (Int a) (Enum e j) = Less
cell_cmp (Truth a) (Int b) = Greater
cell_cmp (Truth a) (Truth b) = bool_cmp a b
cell_cmp (Truth a) (Enum e j) = Less
cell_cmp (Enum d i) (Int b) = Greater
cell_cmp (Enum d i) (Truth b) = Greater
cell_cmp (Enum d i) (Enum e j) = ordering_then (nat_cmp d e) (nat_cmp i j)

-- by columns from the left
abbrev pub row_cmp : List Cell → List Cell → Ordering
row_cmp [] [] = Equal
row_cmp [] (y ∷ ys) = Less
row_cmp (x ∷ xs) [] = Greater
row_cmp (x ∷ xs) (y ∷ ys) = ordering_then (cell_cmp x y) (row_cmp xs ys)

abbrev pub with_row : List Cell → List (List Cell) → List (List Cell)
with_row r [] = r ∷ []
with_row r (x ∷ xs) = if is_gt (row_cmp r x) then x ∷ with_row r xs else r ∷ x ∷ xs

-- a bag as the list of its rows in order, each as often as it stands there
abbrev pub sorted_rows : List (List Cell) → List (List Cell)
sorted_rows [] = []
sorted_rows (r ∷ rs) = with_row r (sorted_rows rs)

-- the relation at an event that raises the watermark: after its firings, before its drops
abbrev pub relation_at : Query → List Event → Event → List (List Cell)
relation_at q past e =
    let fs = firings_so_far q (e ∷ past) in
    sorted_rows (filter_map (λ p. option_and_then (λ f. q.row f.place.key f.fired) (standing q fs p.0 p.1)) (held q past))

-- the relation at the last rise of the watermark in a history, empty before the first
abbrev pub relation : Query → List Event → List (List Cell)
relation q [] = []
relation q (e ∷ past) = if raises q past e then relation_at q past e else relation q past

abbrev pub without_one : List Cell → List (List Cell) → List (List Cell)
without_one r [] = []
without_one r (x ∷ xs) = if is_eq (row_cmp r x) then xs else x ∷ without_one r xs

-- the difference of bags
abbrev pub difference : List (List Cell) → List (List Cell) → List (List Cell)
difference rows [] = rows
difference rows (x ∷ xs) = difference (without_one x rows) xs

-- the rows of a stream, from the relation before and the relation now, at a mark
abbrev pub stream_rows : Form → ℤ → List (List Cell) → List (List Cell) → List OutRow
stream_rows form.Panes mark before now = []
stream_rows form.Istream mark before now = map (Istream mark) (difference now before)
stream_rows form.Dstream mark before now = map (Dstream mark) (difference before now)
stream_rows form.Rstream mark before now = map (Rstream mark) now

-- the rows of a turn: of panes, or of a stream
abbrev pub chosen_rows : Form → List OutRow → List OutRow → List OutRow
chosen_rows form.Panes of_panes streamed = of_panes
chosen_rows _ of_panes streamed = streamed

-- the rows that the streams write on the turn of an event: where it raises the watermark, at the new one
abbrev pub streamed : Query → List Event → Event → List OutRow
streamed q past e = if raises q past e then stream_rows q.form (mark q (e ∷ past)) (relation q past) (relation_at q past e) else []

-- the rows of the turn of an event after a history
abbrev pub turn_rows : Query → List Event → Event → List OutRow
turn_rows q past e = chosen_rows q.form (retract_rows q.mode q past e ++ pane_rows q past e) (streamed q past e)
