-- What rows of panes come to, where panes discard what they showed: what a column adds up to over the rows of some windows is
-- what the records of these windows come to, once the windows were dropped. Discarding panes are those of the Dataflow Model
-- (Akidau et al. 2015); which firing shows a record, and when a window is dropped, are this project's own rules.
use Rattle.std.specs.Prelude.{◌≡◌, ℕ, zero, suc, Bool, ◌&&◌, List, [], ◌∷◌, map, length, filter, ℤ, pos, ◌+ℤ◌, ◌-ℤ◌, ◌*ℤ◌, ◌≤ℤ◌, int_lt, int_le, nat_eq, Option, Some, None, true, if◌then◌else◌}
use Rattle.std.specs.List.{AllByRecursion}
use Rattle.std.specs.Ordering.{eq_by_cmp}
use Rattle.wsm_record.specs.declared.event.Value.{Value}
use Rattle.wsm_record.specs.declared.cell.Cell.{Cell}
use Rattle.wsm_record.specs.declared.cell.Cell.TheVariants as cells
use Rattle.wsm_record.specs.Event.{Event}
use Rattle.wsm_windows.specs.declared.window.Shape.TheVariants.{Fixed, Session}
use Rattle.wsm_windows.specs.declared.window.Window.{Window}
use Rattle.wsm_windows.specs.Windows.{IsWindowOfShape, size_of}
use Rattle.wsm_windows.specs.declared.place.Place.{Place}
use Rattle.wsm_windows.specs.Places.{place_cmp, at}
use Rattle.wsm_semantics.specs.declared.out_row.OutRow.{OutRow}
use Rattle.wsm_semantics.specs.declared.out_row.OutRow.TheVariants.{Pane, Retract}
use Rattle.wsm_semantics.specs.Query.{Datum, Query, mark, selected}
use Rattle.wsm_semantics.specs.Sessions.{sessions}
use Rattle.wsm_semantics.specs.Panes.{of_key, windows_among, contents}
use Rattle.wsm_semantics.specs.Firings.{Firing, firings, is_shown}
use Rattle.wsm_semantics.specs.FiringSets.{IsDropped}
use Rattle.wsm_semantics.specs.LastingRows.{rows_so_far}
use Rattle.wsm_semantics.specs.FromWatermark.{HasNoSessions, is_beside}

abbrev pub sum_of : {A : Type 0} → (A → ℤ) → List A → ℤ
sum_of f [] = pos 0
sum_of f (x ∷ xs) = f x +ℤ sum_of f xs

-- ---- what is written

abbrev pub number_in : Cell → ℤ
number_in (cells.Int n) = n
number_in _ = pos 0

-- the number in a column, counted from 0
abbrev pub number_at : ℕ → List Cell → ℤ
number_at c [] = pos 0
number_at zero (x ∷ xs) = number_in x
number_at (suc c) (x ∷ xs) = number_at c xs

-- what isn't written comes to nothing
abbrev pub number_of : ℕ → Option (List Cell) → ℤ
number_of c None = pos 0
number_of c (Some columns) = number_at c columns

-- what a row of some windows has in a column, and what is withdrawn less
abbrev pub amount_in : ℕ → (Place → Bool) → OutRow → ℤ
amount_in c here (Pane kind key window columns) = if here (at key window) then number_at c columns else pos 0
amount_in c here (Retract key window columns) = if here (at key window) then pos 0 -ℤ number_at c columns else pos 0
amount_in c here _ = pos 0

-- what the rows of some windows come to in a column, in all turns so far
abbrev pub amount_written : Query → List Event → ℕ → (Place → Bool) → ℤ
amount_written q past c here = sum_of (amount_in c here) (rows_so_far q past)

-- ---- what is owed

-- what a record of a key comes to, by its values
abbrev pub Amount : Type 0
Amount = ℕ → List Value → ℤ

abbrev pub amount_of : Amount → Datum → ℤ
amount_of amount d = amount d.key d.values

-- the column of a firing has what the records that it is computed over come to together, as one of SUM and of COUNT does; where
-- HAVING is false that is nothing
abbrev pub HasAmount : Query → ℕ → Amount → Firing → Type 0
HasAmount q c amount f = number_of c (q.row f.place.key f.fired) ≡ sum_of (amount_of amount) f.fired

abbrev pub AddsAmounts : Query → ℕ → Amount → Type 0
AddsAmounts q c amount = (past : List Event) (e : Event) → AllByRecursion (HasAmount q c amount) (firings q past e)

-- windows of a key that begin from a time on, and before another
abbrev pub begins_in : ℕ → ℤ → ℤ → Place → Bool
begins_in key from until p = nat_eq p.key key && (int_le from p.start && int_lt p.start until)

-- records of a key with such times
abbrev pub comes_in : ℕ → ℤ → ℤ → Datum → Bool
comes_in key from until d = nat_eq d.key key && (int_le from d.time && int_lt d.time until)

-- what the selected records of a key, of a span of time, come to
abbrev pub amount_owed : Query → List Event → Amount → ℕ → ℤ → ℤ → ℤ
amount_owed q past amount key from until = sum_of (amount_of amount) (filter (comes_in key from until) (selected q past))

-- a number so many times
abbrev pub many : ℕ → ℤ → ℤ
many zero x = pos 0
many (suc n) x = x +ℤ many n x

abbrev pub starts_in : ℤ → ℤ → Window → Bool
starts_in from until w = int_le from w.start && int_lt w.start until

-- how many of the windows that a selected record stands in begin in a span
abbrev pub windows_in : Query → List Event → ℤ → ℤ → Datum → ℕ
windows_in q past from until d = length (filter (starts_in from until) (windows_among q.shape q.clock.lateness (selected q past) d))

-- each session of the key has all its records before a time, or none
abbrev pub CutsNoSession : Query → ℤ → ℕ → ℤ → List Event → Type 0
CutsNoSession q gap key t past = AllByRecursion (λ w. is_beside gap (t -ℤ pos 1) w ≡ true) (sessions gap (map (λ d. d.time) (of_key key (selected q past))))

-- ---- the law

-- after any history, of one window: so far its rows come to what those of its records do that were shown, and once it was
-- dropped to what all do
pub record OfWindow (q : Query) (c : ℕ) (amount : Amount) (past : List Event) (key : ℕ) (w : Window) : Type 0 where
  pub shown : amount_written q past c (eq_by_cmp place_cmp (at key w)) ≡ sum_of (amount_of amount) (filter (is_shown q past (at key w)) (contents q past (at key w)))
  pub dropped : IsDropped q past w → amount_written q past c (eq_by_cmp place_cmp (at key w)) ≡ sum_of (amount_of amount) (contents q past (at key w))

-- of the windows of a span of time, once the last of them was dropped, whatever fired when: the rows come to what the selected
-- records do, each as often as it stands in one of them; and so, where the span cuts no window, of fixed windows and of
-- sessions, to what the selected records of the span do
pub record AmountsAddUp (q : Query) (c : ℕ) (amount : Amount) : Type 0 where
  pub windows : HasNoSessions q → (past : List Event) (key : ℕ) (u : ℤ) (w : Window) → IsWindowOfShape q.shape u w → OfWindow q c amount past key w
  pub spread : HasNoSessions q → (past : List Event) (key : ℕ) (from until : ℤ) → (((until -ℤ pos 1) +ℤ size_of q.shape) +ℤ q.clock.lateness) ≤ℤ mark q past →
      amount_written q past c (begins_in key from until) ≡ sum_of (λ d. many (windows_in q past from until d) (amount_of amount d)) (of_key key (selected q past))
  pub spans : (size : ℤ) → q.shape ≡ Fixed size → (past : List Event) (key : ℕ) (i j : ℤ) → ((j *ℤ size) +ℤ q.clock.lateness) ≤ℤ mark q past →
      amount_written q past c (begins_in key (i *ℤ size) (j *ℤ size)) ≡ amount_owed q past amount key (i *ℤ size) (j *ℤ size)
  pub sessions : (gap : ℤ) → q.shape ≡ Session gap → (past : List Event) (key : ℕ) (from until : ℤ) → CutsNoSession q gap key from past → CutsNoSession q gap key until past →
      (((until -ℤ pos 1) +ℤ gap) +ℤ q.clock.lateness) ≤ℤ mark q past → amount_written q past c (begins_in key from until) ≡ amount_owed q past amount key from until
