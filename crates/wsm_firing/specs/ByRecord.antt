-- What fires on the turn of a record.
use Rattle.std.specs.Prelude.{◌≡◌, ◌≢◌, ℕ, ℤ, Bool, false, List, [], ◌∷◌, map, Option, Some, None, length, if◌then◌else◌}
use Rattle.std.specs.List.{AllByRecursion, list_any}
use Rattle.std.specs.Option.{is_some}
use Rattle.std.specs.Ordering.{eq_by_cmp}
use Rattle.std.specs.declared.cmp.Ordering.TheVariants.{Less}
use Rattle.wsm_record.specs.declared.event.Value.{Value}
use Rattle.wsm_record.specs.declared.cell.Cell.{Cell}
use Rattle.wsm_windows.specs.declared.window.PaneKind.{PaneKind}
use Rattle.wsm_windows.specs.declared.window.Shape.TheVariants.{Session}
use Rattle.wsm_windows.specs.declared.window.Window.{Window}
use Rattle.wsm_windows.specs.Windows.{IsTime}
use Rattle.wsm_windows.specs.declared.place.Place.{Place}
use Rattle.wsm_windows.specs.Places.{place_cmp, at}
use Rattle.wsm_semantics.specs.Query.{Query}
use Rattle.wsm_semantics.specs.Panes.{is_there}
use Rattle.wsm_semantics.specs.Firings.{kind_on_record}
use Rattle.wsm_semantics.specs.Replay.{datum}
use Rattle.wsm_semantics.specs.Summaries.{Pane, Fired, fires, kind_by_record, withdrawn_firing}
use Rattle.wsm_program.specs.Program.{Program}
use Rattle.wsm_machine.specs.Meaning.{query_of}
use Rattle.wsm_panes.specs.Held.{Held, entries_of, with_entered}
pub use Rattle.wsm_panes.specs.Entered.{windows_of_record}
use Rattle.wsm_panes.specs.Entered.{unshown_at}
use Rattle.wsm_firing.specs.declared.operator.Arrival.{Arrival}
use Rattle.wsm_firing.specs.declared.operator.WindowState.{WindowState}
use Rattle.wsm_firing.specs.Firing.{CanFire}

-- the places of the windows that a record is put into, of which one may be told alone
abbrev pub places_entered : Program → ℤ → ℕ → ℤ → Option Window → List Place
places_entered p mark key time alone = map (at key) (windows_of_record p.header.shape p.header.clock.lateness mark time alone)

-- what is held once a record that arrives is put in, folded by these values
abbrev pub panes_entered : Program → Arrival → List Value → Held → List (Place × Pane (List Value))
panes_entered p a values h = with_entered p.header.kinds a.key a.time values p.header.clock.lateness a.mark h

-- whether a place is one of some places
abbrev pub is_among : List Place → Place → Bool
is_among places p = list_any (eq_by_cmp place_cmp p) places

-- what a pane at one of some places fires as, on the turn of a record in it
abbrev pub kind_at : {X : Type 0} → Query → ℤ → List Place → Place → Pane X → Option PaneKind
kind_at q mark places p h = if is_among places p then kind_on_record q mark p.end h.unshown else None

-- whether the turn of a record in a pane with so many unshown records calls for it, where there is one
abbrev pub is_called : Query → ℤ → Place → Option ℕ → Bool
is_called q mark p None = false
is_called q mark p (Some unshown) = is_some (kind_on_record q mark p.end unshown)

abbrev pub is_called_at : Query → ℤ → Place → List (Place × Pane (List Value)) → Bool
is_called_at q mark p es = is_called q mark p (unshown_at p es)

-- each place before the next
abbrev pub AreInOrder : List Place → Type 0
AreInOrder [] = Unit {0}
AreInOrder (p ∷ ps) = AllByRecursion (λ r. place_cmp p r ≡ Less) ps × AreInOrder ps

-- what a pane fires as on the turn of a record that arrives
abbrev pub kind_entered : {X : Type 0} → Program → Arrival → Place → Pane X → Option PaneKind
kind_entered p a = kind_by_record (query_of p) a.mark (datum 0 a.mark a.key a.time [])

-- what fires on the turn of a record of a key and a time
abbrev pub fires_by_record : Program → ℤ → ℕ → ℤ → List (Place × Pane (List Value)) → List (Fired (List Value))
fires_by_record p mark key time panes = fires (query_of p) (kind_by_record (query_of p) mark (datum 0 mark key time [])) panes

abbrev pub fires_entered : Program → Arrival → List (Place × Pane (List Value)) → List (Fired (List Value))
fires_entered p a panes = fires_by_record p a.mark a.key a.time panes

-- what those that fire then withdraw
abbrev pub withdrawn_of_record : Program → ℤ → ℕ → ℤ → List (Place × Pane (List Value)) → List (Place × List Cell)
withdrawn_of_record p mark key time panes = withdrawn_firing (kind_by_record (query_of p) mark (datum 0 mark key time [])) panes

abbrev pub Panes : Type 0
Panes = List (Place × Pane (List Value))

abbrev pub withdrawn_entered : Program → Arrival → List (Place × Pane (List Value)) → List (Place × List Cell)
withdrawn_entered p a panes = withdrawn_of_record p a.mark a.key a.time panes

-- the panes that a record is in are those at the windows that it was put into at a mark
pub record HasEntered (p : Program) (mark : ℤ) (key : ℕ) (time : ℤ) (alone : Option Window) (panes : Panes) : Type 0 where
  pub timely : IsTime time
  pub marked : IsTime mark
  pub grid : alone ≡ None → (gap : ℤ) → p.header.shape ≢ Session gap
  pub among : AllByRecursion (λ e. is_there (query_of p) e.0 (datum 0 mark key time []) ≡ is_among (places_entered p mark key time alone) e.0) panes

-- a record has entered, and what fires can behind so many rows
pub record CanFireByRecord (p : Program) (capacity rows : ℕ) (mark : ℤ) (key : ℕ) (time : ℤ) (alone : Option Window) (panes : Panes) : Type 0 where
  pub entered : HasEntered p mark key time alone panes
  pub can : CanFire p capacity rows (fires_by_record p mark key time panes)

-- the same of what is held by a window operator
abbrev pub CanFireEntered : Program → WindowState → Arrival → Option Window → Type 0
CanFireEntered p s a session = CanFireByRecord p s.rows.room (length s.rows.written) a.mark a.key a.time session (entries_of s.held)
