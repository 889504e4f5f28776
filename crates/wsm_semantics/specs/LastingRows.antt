-- What retracting panes add up to: of all pane rows that were written, without those that were
-- withdrawn, one is left for each firing that stands, or that stood when its window was dropped. Which
-- firing stands, and that a drop withdraws nothing, are this project's own rules.
use Rattle.std.specs.Prelude.{◌≡◌, false, not, List, [], ◌∷◌, ◌++◌, filter_map, IsPermutation, Option, Some, None}
use Rattle.std.specs.List.{AllByRecursion}
use Rattle.std.specs.FinMap.Entries.{where_key}
use Rattle.wsm_record.specs.declared.cell.Cell.{Cell}
use Rattle.wsm_record.specs.Event.{Event}
use Rattle.wsm_windows.specs.declared.place.Place.{Place}
use Rattle.wsm_windows.specs.Places.{place_cmp, at}
use Rattle.wsm_semantics.specs.declared.out_row.OutRow.{OutRow}
use Rattle.wsm_semantics.specs.declared.out_row.OutRow.TheVariants.{Pane, Retract}
use Rattle.wsm_semantics.specs.Query.{Query, mark}
use Rattle.wsm_semantics.specs.Panes.{held, is_live_at}
use Rattle.wsm_semantics.specs.Firings.{Firing}
use Rattle.wsm_semantics.specs.Retractions.{standing_for, panes_before_drops, is_same, written_of}
use Rattle.wsm_semantics.specs.Relation.{turn_rows}

-- the rows of all turns of a history
abbrev pub rows_so_far : Query → List Event → List OutRow
rows_so_far q [] = []
rows_so_far q (e ∷ past) = rows_so_far q past ++ turn_rows q past e

-- what a pane row writes, without its kind: where, and the columns
abbrev pub shown_by : OutRow → Option (Place × List Cell)
shown_by (Pane kind key window columns) = Some (at key window, columns)
shown_by _ = None

-- what a retract row withdraws
abbrev pub withdrawn_by : OutRow → Option (Place × List Cell)
withdrawn_by (Retract key window columns) = Some (at key window, columns)
withdrawn_by _ = None

-- the firings that stood for the panes that an event drops
abbrev pub standing_dropped : Query → List Event → Event → List Firing
standing_dropped q past e = standing_for q (e ∷ past) (where_key place_cmp (λ p. not (is_live_at q (mark q (e ∷ past)) p)) (panes_before_drops q past e))

-- the firings that stood for panes when these were dropped
abbrev pub stood_at_drop : Query → List Event → List Firing
stood_at_drop q [] = []
stood_at_drop q (e ∷ past) = stood_at_drop q past ++ standing_dropped q past e

-- the firings that stand, and those that stood when their window was dropped
abbrev pub lasting : Query → List Event → List Firing
lasting q past = stood_at_drop q past ++ standing_for q past (held q past)

-- no two of some firings are the same
abbrev pub AreOnce : List Firing → Type 0
AreOnce [] = Unit {0}
AreOnce (f ∷ fs) = AllByRecursion (λ g. is_same f g ≡ false) fs × AreOnce fs

-- what was written of panes is, as a bag, what was withdrawn and what was written of the firings that
-- last, each of which lasts once
pub record AddsUp (q : Query) (past : List Event) : Type 0 where
  pub rows : IsPermutation (filter_map shown_by (rows_so_far q past)) (filter_map withdrawn_by (rows_so_far q past) ++ filter_map (written_of q) (lasting q past))
  pub once : AreOnce (lasting q past)
