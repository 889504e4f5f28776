-- The law from a watermark on: what fires for a window that begins late enough hangs on no record from
-- before it. So a run may begin behind any row, with the watermark then as its START, and what it fires
-- for windows that begin past that watermark and SKEW is what the whole run fires. More generally, any
-- records with times up to some time may be left out: nothing changes for windows that begin after it.
-- Watermarks and windows are those of the Dataflow Model; how far a record may be ahead, the verdicts and what
-- is counted are this project's own rules.
use Rattle.std.specs.Prelude.{◌≡◌, ◌≢◌, ℕ, suc, ◌+◌, Bool, true, false, ◌||◌, List, [], ◌∷◌, length, map, filter, ℤ, pos, ◌+ℤ◌, ◌-ℤ◌, ◌≤ℤ◌, int_lt, int_le, nat_lt, Some, None, if◌then◌else◌}
use Rattle.std.specs.List.{AllByRecursion}
use Rattle.wsm_record.specs.declared.words.Form.TheVariants as form
use Rattle.wsm_record.specs.declared.words.Mode.TheVariants.{Retracting}
use Rattle.wsm_record.specs.Event.{Event, Record, Watermark}
use Rattle.wsm_windows.specs.declared.window.Window.{Window}
use Rattle.wsm_windows.specs.declared.window.Shape.{Shape}
use Rattle.wsm_windows.specs.declared.window.Shape.TheVariants.{Fixed, Sliding, Session}
use Rattle.wsm_windows.specs.Windows.{last_start, first_start}
use Rattle.wsm_windows.specs.declared.place.Place.{Place}
use Rattle.wsm_windows.specs.Places.{at}
use Rattle.wsm_admission.specs.Clock.{marks_of}
use Rattle.wsm_semantics.specs.declared.out_row.OutRow.{OutRow}
use Rattle.wsm_semantics.specs.declared.out_row.OutRow.TheVariants.{Pane, Retract}
use Rattle.wsm_semantics.specs.Query.{Query, mark, raises, selected, verdict_on}
use Rattle.wsm_semantics.specs.Sessions.{sessions}
use Rattle.wsm_semantics.specs.Panes.{of_key, held}
use Rattle.wsm_semantics.specs.Firings.{firings, pane_rows}
use Rattle.wsm_semantics.specs.Relation.{relation, turn_rows}
use Rattle.wsm_semantics.specs.ByKey.{HasRoom, pane_at, firing_at}

-- a query with another START and another RECORDS
abbrev pub begun_at : ℤ → ℤ → Query → Query
begun_at start records q = record q { clock = record q.clock { start = start; records = records } }

-- ---- a history, and one without some of its records

-- an event that both have, or the first alone
pub data Step : Type 0 where
  Stays : (e : Event) → Step
  Goes : (e : Event) → Step

-- all events, the newest first, after a history
abbrev pub whole : List Step → List Event → List Event
whole [] older = older
whole (Stays e ∷ steps) older = e ∷ whole steps older
whole (Goes e ∷ steps) older = e ∷ whole steps older

-- those that both have, after another
abbrev pub rest : List Step → List Event → List Event
rest [] other = other
rest (Stays e ∷ steps) other = e ∷ rest steps other
rest (Goes e ∷ steps) other = rest steps other

-- a time for each key
abbrev pub Times : Type 0
Times = ℕ → ℤ

-- a record with a time up to that of its key, or of no declared key
abbrev pub IsRecordUpTo : Times → Event → Type 0
IsRecordUpTo x (Record None time values) = Unit {0}
IsRecordUpTo x (Record (Some key) time values) = time ≤ℤ x key
IsRecordUpTo x (Watermark source time) = ⊥

-- no others are left out
abbrev pub LeavesOut : Times → List Step → Type 0
LeavesOut x [] = Unit {0}
LeavesOut x (Stays e ∷ steps) = LeavesOut x steps
LeavesOut x (Goes e ∷ steps) = IsRecordUpTo x e × LeavesOut x steps

-- the turn in the first that an event has which is so many turns from the beginning of the second, where what
-- came before is so much longer in the first
abbrev pub turn_in : List Step → List Event → ℕ → ℕ → ℕ
turn_in [] other longer = λ n. n + longer
turn_in (Stays e ∷ steps) other longer = turn_in steps other longer
turn_in (Goes e ∷ steps) other longer = λ n. let m = turn_in steps other longer n in if nat_lt n (length (rest steps other)) then m else suc m

-- ---- where both begin

-- no record after the time of its key was selected
abbrev pub EndsBy : Query → Times → List Event → Type 0
EndsBy q x past = AllByRecursion (λ d. d.time ≤ℤ x d.key) (selected q past)

-- two histories, the second by a query that is begun anew, which agree on the marks of the sources and have
-- selected no record after the time of its key; the first is so many events longer
pub record BeginAlike (q : Query) (start records : ℤ) (x : Times) (older other : List Event) (longer : ℕ) : Type 0 where
  pub marks : marks_of (begun_at start records q).clock q.declared other ≡ marks_of q.clock q.declared older
  pub turns : length older ≡ length other + longer
  pub before : EndsBy q x older
  pub before_other : EndsBy (begun_at start records q) x other

-- ---- windows that begin late enough

-- a record with a time up to x isn't inside; in sessions it isn't linked to one that is
abbrev pub begins_after : Shape → ℤ → ℤ → Bool
begins_after (Fixed size) x start = int_lt x start
begins_after (Sliding size period) x start = int_lt x start
begins_after (Session gap) x start = int_le (x +ℤ gap) start

abbrev pub is_after : Query → Times → Place → Bool
is_after q x p = begins_after q.shape (x p.key) p.start

-- the rows of streams have no window
abbrev pub is_row_at : (Place → Bool) → OutRow → Bool
is_row_at late (Pane kind key window columns) = late (at key window)
is_row_at late (Retract key window columns) = late (at key window)
is_row_at late _ = false

-- sessions merge, and may withdraw where they do
abbrev pub RetractsNoSessions : Query → Type 0
RetractsNoSessions q = (gap : ℤ) → q.shape ≡ Session gap → q.mode ≢ Retracting

-- windows that don't merge
abbrev pub HasNoSessions : Query → Type 0
HasNoSessions q = (gap : ℤ) → q.shape ≢ Session gap

-- ---- the law

-- none is refused for RECORDS in either
abbrev pub BothHaveRoom : Query → ℤ → ℤ → List Event → List Event → Type 0
BothHaveRoom q start records past anew = HasRoom q past × HasRoom (begun_at start records q) anew

-- for some windows, wherever steps may be so: both have the same watermark, each event that both have has the same
-- verdict, and the same is held and fires, turn by turn; on the turn of an event that is left out nothing fires
pub record SameFor (late : Place → Bool) (May : List Step → Type 0) (q : Query) (start records : ℤ) (older other : List Event) (longer : ℕ) : Type 0 where
  pub mark : (steps : List Step) → May steps → mark (begun_at start records q) (rest steps other) ≡ mark q (whole steps older)
  pub verdict : (steps : List Step) (e : Event) → May (Stays e ∷ steps) → BothHaveRoom q start records (e ∷ whole steps older) (e ∷ rest steps other) →
      verdict_on (begun_at start records q) (rest steps other) e ≡ verdict_on q (whole steps older) e
  pub held : (steps : List Step) → May steps → BothHaveRoom q start records (whole steps older) (rest steps other) →
      filter (λ p. late p.0) (held q (whole steps older)) ≡ map (pane_at (turn_in steps other longer)) (filter (λ p. late p.0) (held (begun_at start records q) (rest steps other)))
  pub gone : (steps : List Step) (e : Event) → May (Goes e ∷ steps) → filter (λ f. late f.place) (firings q (whole steps older) e) ≡ []
  pub firings : (steps : List Step) (e : Event) → May (Stays e ∷ steps) → BothHaveRoom q start records (e ∷ whole steps older) (e ∷ rest steps other) →
      filter (λ f. late f.place) (firings q (whole steps older) e) ≡ map (firing_at (turn_in steps other longer)) (filter (λ f. late f.place) (firings (begun_at start records q) (rest steps other) e))

-- and the same rows are written, of panes; and where retracting panes don't merge, of those that are withdrawn. Sessions
-- that retract withdraw a row where its session is joined with one that fired, and that one may begin sooner
pub record SameRowsFor (late : Place → Bool) (May : List Step → Type 0) (q : Query) (start records : ℤ) (older other : List Event) : Type 0 where
  pub panes : (steps : List Step) (e : Event) → May (Stays e ∷ steps) → BothHaveRoom q start records (e ∷ whole steps older) (e ∷ rest steps other) →
      filter (is_row_at late) (pane_rows q (whole steps older) e) ≡ filter (is_row_at late) (pane_rows (begun_at start records q) (rest steps other) e)
  pub rows : RetractsNoSessions q → q.form ≡ form.Panes → (steps : List Step) (e : Event) → May (Stays e ∷ steps) → BothHaveRoom q start records (e ∷ whole steps older) (e ∷ rest steps other) →
      filter (is_row_at late) (turn_rows q (whole steps older) e) ≡ filter (is_row_at late) (turn_rows (begun_at start records q) (rest steps other) e)

-- ---- of what begins late enough

-- for windows that begin late enough
abbrev pub SameAfter : Query → ℤ → ℤ → Times → List Event → List Event → ℕ → Type 0
SameAfter q start records x older other longer = SameFor (is_after q x) (LeavesOut x) q start records older other longer

abbrev pub SameRowsAfter : Query → ℤ → ℤ → Times → List Event → List Event → Type 0
SameRowsAfter q start records x older other = SameRowsFor (is_after q x) (LeavesOut x) q start records older other

-- ---- of sessions that a time doesn't part

abbrev pub is_beyond : Times → Place → Bool
is_beyond x p = int_lt (x p.key) p.start

-- all its records come after the time, or none does
abbrev pub is_beside : ℤ → ℤ → Window → Bool
is_beside gap t w = int_lt t w.start || int_le w.end (t +ℤ gap)

-- the time of a key parts no session of it
abbrev pub PartsNoSession : Query → Times → List Event → Type 0
PartsNoSession q x past = (gap : ℤ) → q.shape ≡ Session gap → (key : ℕ) → AllByRecursion (λ w. is_beside gap (x key) w ≡ true) (sessions gap (map (λ d. d.time) (of_key key (selected q past))))

abbrev pub MayLeaveOut : Query → ℤ → ℤ → Times → List Step → Type 0
MayLeaveOut q start records x steps = LeavesOut x steps × PartsNoSession q x (whole steps []) × BothHaveRoom q start records (whole steps []) (rest steps [])

-- so where no session is parted, records with times up to that of their key may be left out for all windows beyond it
abbrev pub SameBeyond : Query → ℤ → Times → Type 0
SameBeyond q records x = SameFor (is_beyond x) (MayLeaveOut q q.clock.start records x) q q.clock.start records [] [] 0

abbrev pub SameRowsBeyond : Query → ℤ → Times → Type 0
SameRowsBeyond q records x = SameRowsFor (is_beyond x) (MayLeaveOut q q.clock.start records x) q q.clock.start records [] []

-- ---- from a watermark on

-- the end of the last window that begins by a time, and in sessions of one all of whose records come by it
abbrev pub last_end : Shape → ℤ → ℤ
last_end (Fixed size) x = last_start size x +ℤ size
last_end (Sliding size period) x = last_start period x +ℤ size
last_end (Session gap) x = x +ℤ gap

-- the watermark from which on none of these windows is live
abbrev pub settled_at : Query → ℤ → ℤ
settled_at q x = last_end q.shape x +ℤ q.clock.lateness

abbrev pub IsSettled : Query → Times → ℤ → Type 0
IsSettled q x m = (key : ℕ) → settled_at q (x key) ≤ℤ m

-- from then on all is the same: what is held, fires and is written, and the relation where the watermark rises; and what
-- streams write, where the relation at the last rise was the same
pub record SameOnceSettled (May : List Step → Type 0) (q : Query) (start records : ℤ) (x : Times) (older other : List Event) (longer : ℕ) : Type 0 where
  pub held : (steps : List Step) → May steps → BothHaveRoom q start records (whole steps older) (rest steps other) → IsSettled q x (mark q (whole steps older)) →
      held q (whole steps older) ≡ map (pane_at (turn_in steps other longer)) (held (begun_at start records q) (rest steps other))
  pub firings : (steps : List Step) (e : Event) → May (Stays e ∷ steps) → BothHaveRoom q start records (e ∷ whole steps older) (e ∷ rest steps other) → IsSettled q x (mark q (whole steps older)) →
      firings q (whole steps older) e ≡ map (firing_at (turn_in steps other longer)) (firings (begun_at start records q) (rest steps other) e)
  pub rows : q.form ≡ form.Panes → (steps : List Step) (e : Event) → May (Stays e ∷ steps) → BothHaveRoom q start records (e ∷ whole steps older) (e ∷ rest steps other) → IsSettled q x (mark q (whole steps older)) →
      turn_rows q (whole steps older) e ≡ turn_rows (begun_at start records q) (rest steps other) e
  pub streams : (steps : List Step) (e : Event) → May (Stays e ∷ steps) → BothHaveRoom q start records (e ∷ whole steps older) (e ∷ rest steps other) → IsSettled q x (mark q (whole steps older)) →
      relation q (whole steps older) ≡ relation (begun_at start records q) (rest steps other) → turn_rows q (whole steps older) e ≡ turn_rows (begun_at start records q) (rest steps other) e
  pub relation : (steps : List Step) (e : Event) → May (Stays e ∷ steps) → BothHaveRoom q start records (e ∷ whole steps older) (e ∷ rest steps other) → IsSettled q x (mark q (whole steps older)) → raises q (whole steps older) e ≡ true →
      relation q (e ∷ whole steps older) ≡ relation (begun_at start records q) (e ∷ rest steps other)

-- ---- at any watermark

-- a time, or that right before the first session that it parts
abbrev pub unparted_time : ℤ → ℤ → List Window → ℤ
unparted_time gap t [] = t
unparted_time gap t (w ∷ ws) = if is_beside gap t w then unparted_time gap t ws else w.start -ℤ pos 1

-- right before the first window that ends after a time; or a gap before, where that parts no session
abbrev pub dropped_time : Shape → ℤ → List ℤ → ℤ
dropped_time (Fixed size) t times = first_start size size t -ℤ pos 1
dropped_time (Sliding size period) t times = first_start size period t -ℤ pos 1
dropped_time (Session gap) t times = unparted_time gap (t -ℤ gap) (sessions gap times)

-- the times right before the first window of the key that is live, or, where no session is, up to which none is
abbrev pub dropped_times : Query → List Event → Times
dropped_times q past key = dropped_time q.shape (mark q past -ℤ q.clock.lateness) (map (λ d. d.time) (of_key key (selected q past)))
