-- How much is held and written, whatever the shape of windows, the mode, the triggers and the form. The
-- bounds, and that watermarks drop what they pass, are this project's own rules.
use Rattle.std.specs.Prelude.{◌≡◌, ℕ, ◌*◌, ◌≤◌, List, length, filter, ℤ, nat_eq, unsigned_abs, if◌then◌else◌}
use Rattle.std.specs.List.{AllByRecursion, sum_by}
use Rattle.wsm_record.specs.declared.words.Mode.{Mode}
use Rattle.wsm_record.specs.Modes.{retracts}
use Rattle.wsm_record.specs.Event.{Event}
use Rattle.wsm_windows.specs.declared.window.Shape.TheVariants.{Session}
use Rattle.wsm_windows.specs.Life.{live_bound}
use Rattle.wsm_semantics.specs.Query.{Query}
use Rattle.wsm_semantics.specs.Panes.{held}
use Rattle.wsm_semantics.specs.Firings.{firings}
use Rattle.wsm_semantics.specs.Relation.{turn_rows}

-- the most panes: for each declared key, the most windows that are live at once
abbrev pub most_panes : Query → ℕ
most_panes q = length q.declared.keys * live_bound q.shape q.clock.skew q.clock.lateness

-- the most rows of a turn: for each pane that fires one, and where panes retract for each that is
-- withdrawn one more
abbrev pub rows_of_panes : Mode → ℕ → ℕ
rows_of_panes mode n = if retracts mode then n * 2 else n

abbrev pub most_rows : Query → ℕ
most_rows q = rows_of_panes q.mode (most_panes q)

-- after any history: of each key no more panes are held than windows can be live at once, and so
-- many in all; each has no more records than may be admitted, and sessions no more together, as a
-- record stands in one alone; and no turn fires more panes than can be held, nor writes more rows than
-- these may
pub record HeldBounded (q : Query) : Type 0 where
  pub of_key : (past : List Event) (key : ℕ) → length (filter (λ e. nat_eq e.0.key key) (held q past)) ≤ live_bound q.shape q.clock.skew q.clock.lateness
  pub panes : (past : List Event) → length (held q past) ≤ most_panes q
  pub records : (past : List Event) → AllByRecursion (λ e. length e.1 ≤ unsigned_abs q.clock.records) (held q past)
  pub in_sessions : (past : List Event) (gap : ℤ) → q.shape ≡ Session gap → sum_by (λ e. length e.1) (held q past) ≤ unsigned_abs q.clock.records
  pub fired : (past : List Event) (e : Event) → length (firings q past e) ≤ most_panes q
  pub rows : (past : List Event) (e : Event) → length (turn_rows q past e) ≤ most_rows q
