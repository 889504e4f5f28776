-- A history replayed by what is kept alone: what a turn does to the panes that are held and to the
-- relation of the last rise of the watermark, and the rows that it writes, of the panes that fire or
-- of one of the three streams (Arasu et al. 2006). The marks and the verdicts are those of the history.
use Rattle.std.specs.Prelude.{ℕ, List, [], ◌∷◌, ◌++◌, length, filter_map, ℤ}
use Rattle.wsm_record.specs.declared.cell.Cell.{Cell}
use Rattle.wsm_record.specs.Event.{Event}
use Rattle.wsm_windows.specs.declared.place.Place.{Place}
use Rattle.wsm_semantics.specs.declared.out_row.OutRow.{OutRow}
pub use Rattle.wsm_semantics.specs.Query.{datum}
use Rattle.wsm_semantics.specs.Query.{Query, Effect, Selects, Rises, Nothing, effect_of}
use Rattle.wsm_semantics.specs.Firings.{Firing, row_of}
use Rattle.wsm_semantics.specs.Retractions.{retracted_in}
use Rattle.wsm_semantics.specs.Relation.{relation, stream_rows, chosen_rows}
use Rattle.wsm_semantics.specs.Kept.{Kept, kept, kept_after_record, fired_by_record, kept_at_watermark, fired_by_watermark, kept_after_watermark, withdrawn_by_record, withdrawn_by_watermark, relation_of}

-- what is kept of the panes after what an event does
abbrev pub kept_after : Query → Effect → List (Place × Kept) → List (Place × Kept)
kept_after q (Selects d) panes = kept_after_record q d.mark d panes
kept_after q (Rises old new) panes = kept_after_watermark q old new panes
kept_after q Nothing panes = panes

-- what fires by it on a turn
abbrev pub fired_by : Query → ℕ → Effect → List (Place × Kept) → List Firing
fired_by q turn (Selects d) panes = fired_by_record q d.mark d panes
fired_by q turn (Rises old new) panes = fired_by_watermark q turn old new panes
fired_by q turn Nothing panes = []

-- what was written and is withdrawn by it
abbrev pub withdrawn_by : Query → Effect → List (Place × Kept) → List (Place × List Cell)
withdrawn_by q (Selects d) panes = withdrawn_by_record q d.mark d panes
withdrawn_by q (Rises old new) panes = withdrawn_by_watermark q old new panes
withdrawn_by q Nothing panes = []

-- the relation where the watermark rises: after its firings, before its drops
abbrev pub relation_by : Query → ℤ → ℤ → List (Place × Kept) → List (List Cell)
relation_by q old new panes = relation_of q (kept_at_watermark q old new panes)

-- ---- with the relation

-- what is kept of each held pane, and the relation at the last rise of the watermark
pub record State : Type 0 where
  pub panes : List (Place × Kept)
  pub relation : List (List Cell)

abbrev pub relation_after : Query → Effect → State → List (List Cell)
relation_after q (Selects d) s = s.relation
relation_after q (Rises old new) s = relation_by q old new s.panes
relation_after q Nothing s = s.relation

abbrev pub after : Query → List Event → Event → State → State
after q past e s = let effect = effect_of q past e in record { panes = kept_after q effect s.panes; relation = relation_after q effect s }

-- by the events alone
abbrev pub replayed : Query → List Event → State
replayed q [] = record { panes = []; relation = [] }
replayed q (e ∷ past) = after q past e (replayed q past)

-- as the history says
abbrev pub state : Query → List Event → State
state q past = record { panes = kept q past; relation = relation q past }

abbrev pub streamed_by : Query → Effect → State → List OutRow
streamed_by q (Selects d) s = []
streamed_by q (Rises old new) s = stream_rows q.form new s.relation (relation_by q old new s.panes)
streamed_by q Nothing s = []

-- the rows of the turn of an event
abbrev pub turn_rows_by : Query → List Event → Event → State → List OutRow
turn_rows_by q past e s =
    let effect = effect_of q past e in
    chosen_rows q.form (retracted_in q.mode (withdrawn_by q effect s.panes) ++ filter_map (row_of q) (fired_by q (length past) effect s.panes)) (streamed_by q effect s)
