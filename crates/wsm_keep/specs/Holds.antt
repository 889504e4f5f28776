-- What a queue has of the rows so far: whatever comes, of it and of all rows the same stay.
use Rattle.std.specs.Prelude.{◌≡◌, ℕ, Bool, true, false, Ok, List, [], ◌∷◌, ◌++◌, filter, length, map, ℤ, ◌≤ℤ◌, int_lt, nat_eq, if◌then◌else◌}
use Rattle.std.specs.List.{AllByRecursion}
use Rattle.wsm_record.specs.Event.{Event}
use Rattle.wsm_windows.specs.declared.window.Shape.TheVariants.{Session}
use Rattle.wsm_semantics.specs.Query.{Query, mark}
use Rattle.wsm_semantics.specs.Lines.{Row}
use Rattle.wsm_semantics.specs.FromWatermark.{Times, IsSettled, PartsNoSession}
use Rattle.wsm_keep.specs.declared.what.What.{What}
use Rattle.wsm_keep.specs.declared.what.What.TheVariants.{Selected, Accepted, Idle}
use Rattle.wsm_keep.specs.Staying.{events_in, with_what, done_by, thinned}

-- a row with its text
abbrev pub Written : Type 0
Written = Row × List ℕ

abbrev pub read : Written → Row
read w = w.0

abbrev pub text_of : Written → List ℕ
text_of w = w.1

-- events as rows, each with the text that it has
abbrev pub row_with : (Event → List ℕ) → Event → Written
row_with text e = (Ok e, text e)

abbrev pub rows_with : (Event → List ℕ) → List Event → List Written
rows_with text past = map (row_with text) past

-- what a row does, with its text
abbrev pub Queued : Type 0
Queued = What × List ℕ

abbrev pub queued : What × Written → Queued
queued d = (d.0, text_of d.1)

-- all rows, queued
abbrev pub all_queued : Query → List Written → List Queued
all_queued q rows = map queued (with_what read q rows)

-- the times of a key's records that are selected
abbrev pub time_if : ℕ → What → List ℤ
time_if key (Selected k time) = if nat_eq k key then time ∷ [] else []
time_if key (Accepted source) = []
time_if key Idle = []

abbrev pub times_in : {A : Type 0} → ℕ → List (What × A) → List ℤ
times_in key [] = []
times_in key (d ∷ ds) = time_if key d.0 ++ times_in key ds

-- how many of what rows do select a record
abbrev pub is_selected : What → Bool
is_selected (Selected key time) = true
is_selected (Accepted source) = false
is_selected Idle = false

abbrev pub selected_in : {A : Type 0} → List (What × A) → ℕ
selected_in ds = length (filter (λ d. is_selected d.0) ds)

-- later than the time of the key
abbrev pub IsAbove : Times → What → Type 0
IsAbove x (Selected key time) = int_lt (x key) time ≡ true
IsAbove x (Accepted source) = Unit {0}
IsAbove x Idle = Unit {0}

-- at any later times the same stay of both
abbrev pub Serves : Times → List Queued → List Queued → Type 0
Serves x queue all = (y : Times) → ((key : ℕ) → x key ≤ℤ y key) → (told : List ℕ) → thinned done_by y told queue ≡ thinned done_by y told all

-- at some times that are settled and part no session
pub record Holds (q : Query) (rows : List Written) (queue : List Queued) : Type 0 where
  pub x : Times
  pub settled : IsSettled q x (mark q (events_in read rows))
  pub whole : PartsNoSession q x (events_in read rows)
  pub serves : Serves x queue (all_queued q rows)
  pub above : (gap : ℤ) → q.shape ≡ Session gap → AllByRecursion (λ d. IsAbove x d.0) queue
