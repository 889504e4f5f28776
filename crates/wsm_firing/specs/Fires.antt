-- What firings do to the state of a window operator, and what they need.
use Rattle.std.specs.Prelude.{◌≡◌, ℕ, List, [], ◌∷◌, ◌++◌, length, Option, Some}
use Rattle.std.specs.FinMap.Entries.{put}
use Rattle.wsm_record.specs.declared.event.Value.{Value}
use Rattle.wsm_record.specs.declared.cell.Cell.{Cell}
use Rattle.wsm_windows.specs.declared.window.PaneKind.{PaneKind}
use Rattle.wsm_windows.specs.declared.place.Place.{Place}
use Rattle.wsm_windows.specs.Places.{place_cmp}
use Rattle.wsm_semantics.specs.Retractions.{retracted_in}
use Rattle.wsm_semantics.specs.Summaries.{Fired, Pane, all_fired, columns, fired_count, fired_pane, fires, withdrawn_firing}
use Rattle.wsm_program.specs.Program.{Program}
use Rattle.wsm_machine.specs.Meaning.{pane_cost_by, plan_of, query_of}
use Rattle.wsm_panes.specs.Held.{Held, IsKept, entries_of}
use Rattle.wsm_firing.specs.declared.fire.Due.{Due}
use Rattle.wsm_firing.specs.declared.operator.WindowState.{WindowState}
use Rattle.wsm_firing.specs.declared.tally.Tally.{Tally}
use Rattle.wsm_firing.specs.Due.{fired_by}
use Rattle.wsm_firing.specs.Firing.{CanAdd, rows_of, turn_rows}
use Rattle.wsm_firing.specs.Operator.{AreReady}
use Rattle.wsm_firing.specs.Streams.{Tells}
use Rattle.wsm_firing.specs.Spots.{Holds}
use Rattle.wsm_firing.specs.Tally.{tally_of, tally_with}

abbrev pub Panes : Type 0
Panes = List (Place × Pane (List Value))

-- these firings, after which these panes are held: their rows stand behind those of the turn, the streams
-- were told, and each was counted
pub record Fires (p : Program) (fs : List (Fired (List Value))) (es : Panes) (old new : WindowState) (before after : Tally) : Type 0 where
  pub panes : entries_of new.held ≡ es
  pub keeps : IsKept old.held new.held
  pub tells : Tells old.streams new.streams (entries_of old.held) (entries_of new.held)
  pub rows : new.rows.written ≡ old.rows.written ++ rows_of p fs
  pub room : new.rows.room ≡ old.rows.room
  pub tally : after ≡ tally_with p before fs

-- ---- one pane

-- what FIRE comes to on a pane that is due: the cells of its row, where HAVING is true, and its instructions
pub record IsRun (p : Program) (d : Due) (pane : Pane (List Value)) (cells : Option (List Cell)) (executed : ℕ) : Type 0 where
  pub row : cells ≡ columns (plan_of p) d.spot.place.key (fired_count p.header.mode pane) pane.folded
  pub steps : executed ≡ pane_cost_by p (fired_by p.header.mode d pane)

-- on the one that is held at its spot
abbrev pub HasRun : Program → Held → Due → Option (List Cell) → ℕ → Type 0
HasRun p h d row steps = (pane : Pane (List Value)) → Holds h d.spot pane → IsRun p d pane row steps

-- it can fire
abbrev pub CanFireDue : Program → Due → WindowState → Tally → Type 0
CanFireDue p d s t = (pane : Pane (List Value)) → Holds s.held d.spot pane →
    CanAdd p s.rows.room (length s.rows.written) t (fired_by p.header.mode d pane ∷ [])

-- it fires, in its place
abbrev pub FiresDue : Program → Due → WindowState → WindowState → Tally → Tally → Type 0
FiresDue p d old new before after = (pane : Pane (List Value)) → Holds old.held d.spot pane →
    let fired = fired_pane (plan_of p) p.header.mode d.spot.place (Some d.kind) pane in
    Fires p (fired_by p.header.mode d pane ∷ []) (put place_cmp d.spot.place fired (entries_of old.held)) old new before after

-- ---- those that have a kind

abbrev pub Kinds : Type 0
Kinds = Place → Pane (List Value) → Option PaneKind

abbrev pub CanFireBy : Program → Kinds → WindowState → Tally → Type 0
CanFireBy p kind s t = CanAdd p s.rows.room (length s.rows.written) t (fires (query_of p) kind (entries_of s.held))

-- they can fire where all is ready
pub record CanFireReady (p : Program) (kind : Kinds) (s : WindowState) (t : Tally) : Type 0 where
  pub ready : AreReady p s.held s.streams
  pub can : CanFireBy p kind s t

abbrev pub FiresBy : Program → Kinds → WindowState → WindowState → Tally → Tally → Type 0
FiresBy p kind old new before after =
    Fires p (fires (query_of p) kind (entries_of old.held)) (all_fired (plan_of p) (query_of p) kind (entries_of old.held)) old new before after

-- on a turn: what was withdrawn before, then what these withdraw, stands in front of their rows
pub record FiresOnTurn (p : Program) (kind : Kinds) (old new : WindowState) (counted : Tally) : Type 0 where
  pub panes : entries_of new.held ≡ all_fired (plan_of p) (query_of p) kind (entries_of old.held)
  pub keeps : IsKept old.held new.held
  pub tells : Tells old.streams new.streams (entries_of old.held) (entries_of new.held)
  pub rows : (ws : List (Place × List Cell)) → old.rows.written ≡ retracted_in p.header.mode ws →
      new.rows.written ≡ turn_rows p (ws ++ withdrawn_firing kind (entries_of old.held)) (fires (query_of p) kind (entries_of old.held))
  pub room : new.rows.room ≡ old.rows.room
  pub tally : counted ≡ tally_of p (fires (query_of p) kind (entries_of old.held))
