-- Retracting panes: accumulating and retracting refinement is that of the Dataflow Model (Akidau et al.
-- 2015). A firing that stood for a pane is withdrawn where a later one takes its place, or where the
-- pane is joined with another that fired, but not where its window is dropped. Which firing stands, and
-- that what is withdrawn comes before what fires, are this project's own rules.
use Rattle.std.specs.Prelude.{Bool, ◌&&◌, not, List, [], ◌∷◌, map, filter, filter_map, nat_eq, Option, option_map, if◌then◌else◌}
use Rattle.std.specs.List.{list_any}
use Rattle.std.specs.Ordering.{eq_by_cmp, is_gt}
use Rattle.std.specs.FinMap.Entries.{where_key}
use Rattle.wsm_record.specs.declared.cell.Cell.{Cell}
use Rattle.wsm_record.specs.declared.words.Mode.{Mode}
use Rattle.wsm_record.specs.declared.words.Mode.TheVariants.{Discarding, Accumulating, Retracting}
use Rattle.wsm_record.specs.Modes.{retracts}
use Rattle.wsm_record.specs.Event.{Event}
use Rattle.wsm_windows.specs.declared.place.Place.{Place}
use Rattle.wsm_windows.specs.Places.{place_cmp, window_of}
use Rattle.wsm_semantics.specs.declared.out_row.OutRow.{OutRow}
use Rattle.wsm_semantics.specs.declared.out_row.OutRow.TheVariants.{Retract}
use Rattle.wsm_semantics.specs.Query.{Datum, Query, mark}
use Rattle.wsm_semantics.specs.Panes.{panes, held, is_live_at}
use Rattle.wsm_semantics.specs.Firings.{Firing, firings_so_far}
use Rattle.wsm_semantics.specs.StandingFirings.{standing}

-- the firings that stand for some places with their contents, after a history
abbrev pub standing_for : Query → List Event → List (Place × List Datum) → List Firing
standing_for q past ps = filter_map (λ p. standing q (firings_so_far q past) p.0 p.1) ps

-- the panes after an event whose windows were live before it: what it drops is among them
abbrev pub panes_before_drops : Query → List Event → Event → List (Place × List Datum)
panes_before_drops q past e = where_key place_cmp (is_live_at q (mark q past)) (panes q (e ∷ past))

-- the same firing: of one turn, at one place
abbrev pub is_same : Firing → Firing → Bool
is_same f g = nat_eq f.turn g.turn && eq_by_cmp place_cmp f.place g.place

-- the firings that an event withdraws: those that stood for a held pane, and stand for none after it
abbrev pub withdrawn : Query → List Event → Event → List Firing
withdrawn q past e = let now = standing_for q (e ∷ past) (panes_before_drops q past e) in filter (λ f. not (list_any (is_same f) now)) (standing_for q past (held q past))

-- ---- rows

-- what was written of a firing, where HAVING is true: its place and its columns
abbrev pub written_of : Query → Firing → Option (Place × List Cell)
written_of q f = option_map (λ columns. (f.place, columns)) (q.row f.place.key f.fired)

abbrev pub with_written : Place × List Cell → List (Place × List Cell) → List (Place × List Cell)
with_written w [] = w ∷ []
with_written w (x ∷ xs) = if is_gt (place_cmp w.0 x.0) then x ∷ with_written w xs else w ∷ x ∷ xs

-- by end, then start, then key
abbrev pub by_place : List (Place × List Cell) → List (Place × List Cell)
by_place [] = []
by_place (w ∷ ws) = with_written w (by_place ws)

-- the row that withdraws what was written
abbrev pub retract_row : Place × List Cell → OutRow
retract_row w = Retract w.0.key (window_of w.0) w.1

-- the rows that withdraw what was written
abbrev pub retracted : List (Place × List Cell) → List OutRow
retracted ws = map retract_row (by_place ws)

-- the retract rows of the turn of an event after a history; what is thrown away isn't computed
abbrev pub retract_rows : Mode → Query → List Event → Event → List OutRow
retract_rows Discarding q past e = []
retract_rows Accumulating q past e = []
retract_rows Retracting q past e = retracted (filter_map (written_of q) (withdrawn q past e))

-- the rows of what is withdrawn, where panes retract
abbrev pub retracted_in : Mode → List (Place × List Cell) → List OutRow
retracted_in mode ws = if retracts mode then retracted ws else []
