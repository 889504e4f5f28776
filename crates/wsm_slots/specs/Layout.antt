-- Slots as four lists: of each slot a head, the values that its pane is folded to, the words of the row
-- that stands for it, and the window of what stands, where windows are kept.
use Rattle.std.specs.Prelude.{◌≡◌, ℕ, ℤ, ◌+◌, ◌*◌, ◌≤◌, Bool, true, false, List, [], ◌∷◌, ◌++◌, ◌<◌, take, drop, length, slice_get, slice_set, Option, Some, None, IfSome, if◌then◌else◌}
use Rattle.std.specs.Option.{is_some}
use Rattle.wsm_record.specs.declared.event.Value.{Value}
use Rattle.wsm_record.specs.declared.cell.Cell.{Cell}
use Rattle.wsm_record.specs.declared.limits.TheConstants.{MAX_ACCUMULATORS, MAX_COLUMNS}
use Rattle.wsm_record.specs.declared.words.Kind.{Kind}
use Rattle.wsm_record.specs.declared.words.Mode.{Mode}
use Rattle.wsm_record.specs.Modes.{is_over_all}
use Rattle.wsm_windows.specs.declared.place.Place.{Place}
use Rattle.wsm_windows.specs.declared.window.Window.{Window}
use Rattle.wsm_fold.specs.Fold.{joins}
use Rattle.wsm_semantics.specs.declared.standing.Standing.{Standing}
use Rattle.wsm_semantics.specs.declared.standing.Standing.TheVariants as standing
use Rattle.wsm_semantics.specs.Summaries.{Pane, standing_row}
use Rattle.wsm_slots.specs.declared.head.Head.{Head}
use Rattle.wsm_slots.specs.declared.head.Holds.{Holds}
use Rattle.wsm_slots.specs.declared.head.Holds.TheVariants.{Nothing, Unfolded, Folded}
use Rattle.wsm_slots.specs.declared.head.Stands.{Stands}
use Rattle.wsm_slots.specs.declared.head.Stands.TheVariants.{Unfired, NoRow, FiredRow, Joined}
use Rattle.wsm_slots.specs.declared.widths.Widths.{Widths}
use Rattle.wsm_slots.specs.RowWords.{cells_by}

-- ---- an entry, by what its slot has

abbrev pub is_held : Holds → Bool
is_held Nothing = false
is_held Unfolded = true
is_held Folded = true

abbrev pub is_folded : Holds → Bool
is_folded Nothing = false
is_folded Unfolded = false
is_folded Folded = true

abbrev pub folded_by : Bool → List Value → Option (List Value)
folded_by is_folded folds = if is_folded then Some folds else None

abbrev pub standing_by : Stands → Option Window → List Cell → Standing
standing_by Unfired window row = standing.Unfired
standing_by NoRow window row = standing.Row window None
standing_by FiredRow window row = standing.Row window (Some row)
standing_by Joined window row = standing.Joined

abbrev pub place_by : Head → Place
place_by h = record { end = h.end; start = h.start; key = h.key }

abbrev pub entry_by : Head → List Value → List Cell → Option Window → Option (Place × Pane (List Value))
entry_by h folds row window =
    if is_held h.holds then Some (place_by h, record { count = h.count; unshown = h.unshown; folded = folded_by (is_folded h.holds) folds; stands = standing_by h.stands window row }) else None

-- the entries of slots whose panes have so many accumulators and so many columns, and a window where there is one
abbrev pub entries_by : ℕ → ℕ → List Head → List Value → List ℤ → List Window → List (Option (Place × Pane (List Value)))
entries_by w c [] folds words windows = []
entries_by w c (h ∷ hs) folds words windows = entry_by h (take w folds) (cells_by h.kinds (take c words)) (slice_get windows 0) ∷ entries_by w c hs (drop w folds) (drop c words) (drop 1 windows)

-- slots, and how wide their panes are
pub record Slotted : Type 0 where
  pub widths : Widths
  pub slots : List (Option (Place × Pane (List Value)))

-- the window of what stands is there exactly where windows are kept
abbrev pub HasWindow : Bool → Standing → Type 0
HasWindow are_kept standing.Unfired = Unit {0}
HasWindow are_kept (standing.Row window columns) = is_some window ≡ are_kept
HasWindow are_kept standing.Joined = Unit {0}

-- a pane has as much as there is room for in a slot
pub record IsAsWide (w : Widths) (pane : Pane (List Value)) : Type 0 where
  pub folds : IfSome pane.folded (λ values. length values ≡ w.accumulators)
  pub row : IfSome (standing_row pane.stands) (λ values. length values ≡ w.columns)
  pub window : HasWindow w.windows pane.stands

-- how many windows are kept of so many slots
abbrev pub windows_kept : Widths → ℕ → ℕ
windows_kept w count = if w.windows then count else 0

-- there are as many values as the slots have together, and no more of each than a pane can have
pub record IsLaidOut (w : Widths) (heads : List Head) (folds : List Value) (words : List ℤ) (windows : List Window) : Type 0 where
  pub few : (w.accumulators ≤ MAX_ACCUMULATORS) × (w.columns ≤ MAX_COLUMNS)
  pub of_folds : length folds ≡ length heads * w.accumulators
  pub of_words : length words ≡ length heads * w.columns
  pub of_windows : length windows ≡ windows_kept w (length heads)

-- the values of a slot, among those of slots that have so many each
abbrev pub part_at : {A : Type 0} → ℕ → ℕ → List A → List A
part_at i w xs = take w (drop (i * w) xs)

-- with others in their place
abbrev pub with_part : {A : Type 0} → ℕ → ℕ → List A → List A → List A
with_part i w xs ys = take (i * w) xs ++ (ys ++ drop w (drop (i * w) xs))

-- with others in their place, where there are any
abbrev pub with_any : {A : Type 0} → ℕ → List A → Option (List A) → List A
with_any i xs None = xs
with_any i xs (Some ys) = with_part i (length ys) xs ys

-- with the window of a slot in its place, if there is one, where windows are kept
abbrev pub with_window : ℕ → List Window → Option Window → List Window
with_window i windows None = windows
with_window i windows (Some window) = slice_set windows i window

-- a slot is one of those that there are values of
pub record HasPart {A : Type 0} (i w : ℕ) (xs : List A) : Type 0 where
  pub count : ℕ
  pub within : i < count
  pub size : length xs ≡ count * w

-- the cells of a row are written as the words of a slot, among those of slots that have as many each
pub record IsRowWritten (i : ℕ) (row : List Cell) (old new : List ℤ) (kinds : ℕ) : Type 0 where
  pub part : List ℤ
  pub size : length part ≡ length row
  pub words : new ≡ with_part i (length row) old part
  pub cells : cells_by kinds part ≡ row

-- they are, where there is a row
abbrev pub IsWritten : ℕ → Option (List Cell) → List ℤ → List ℤ → ℕ → Type 0
IsWritten i None old new kinds = new ≡ old
IsWritten i (Some row) old new kinds = IsRowWritten i row old new kinds

-- a row folded into what is folded already, if anything is
abbrev pub folded_on : Bool → List Kind → List Value → List Value → List Value
folded_on is_folded kinds held row = if is_folded then joins kinds held row else row

-- ---- what is done to a head

-- a pane of one record
abbrev pub head_of_one : Place → Head
head_of_one place = record { end = place.end; start = place.start; count = 1; unshown = 1; kinds = 0; key = place.key; holds = Folded; stands = Unfired }

abbrev pub stands_by : Standing → Stands
stands_by standing.Unfired = Unfired
stands_by (standing.Row window None) = NoRow
stands_by (standing.Row window (Some row)) = FiredRow
stands_by standing.Joined = Joined

abbrev pub holds_by : Bool → Holds
holds_by has_folds = if has_folds then Folded else Unfolded

abbrev pub head_of : Place → Pane (List Value) → ℕ → Head
head_of place pane kinds =
    record { end = place.end; start = place.start; count = pane.count; unshown = pane.unshown; kinds = kinds; key = place.key; holds = holds_by (is_some pane.folded); stands = stands_by pane.stands }

abbrev pub head_with_one_more : Head → Head
head_with_one_more h = record h { count = h.count + 1; unshown = h.unshown + 1; holds = Folded }

abbrev pub unfolded : Holds → Holds
unfolded Nothing = Nothing
unfolded Unfolded = Unfolded
unfolded Folded = Unfolded

abbrev pub left_by : Mode → Holds → Holds
left_by mode holds = if is_over_all mode then holds else unfolded holds

abbrev pub head_fired : Mode → Bool → ℕ → Head → Head
head_fired mode has_row kinds h = record h { unshown = 0; kinds = kinds; holds = left_by mode h.holds; stands = if has_row then FiredRow else NoRow }

-- ---- what is done to a slot

-- a slot has another entry, or none
abbrev pub with_slot : ℕ → Option (Place × Pane (List Value)) → Slotted → Slotted
with_slot slot entry s = record s { slots = slice_set s.slots slot entry }
