-- The streams of the relation that stands for the panes, by what it gains and loses.
use Rattle.std.specs.Prelude.{◌≡◌, ℕ, ◌+◌, ◌≤◌, ◌<◌, Bool, false, not, ◌&&◌, List, [], ◌∷◌, ◌++◌, length, ℤ, pos, filter_map, Option, if◌then◌else◌}
use Rattle.std.specs.List.{AllByRecursion, cons_option}
use Rattle.std.specs.FinMap.Entries.{where_key}
use Rattle.wsm_record.specs.declared.event.Value.{Value}
use Rattle.wsm_record.specs.declared.cell.Cell.{Cell}
use Rattle.wsm_record.specs.declared.words.Form.{Form}
use Rattle.wsm_record.specs.declared.words.Form.TheVariants as form
use Rattle.wsm_windows.specs.declared.window.Shape.{Shape}
use Rattle.wsm_windows.specs.declared.window.Shape.TheVariants.{Session}
use Rattle.wsm_windows.specs.declared.place.Place.{Place}
use Rattle.wsm_windows.specs.Places.{place_cmp, window_of}
use Rattle.wsm_windows.specs.Windows.{IsPlaced, IsTime}
use Rattle.wsm_semantics.specs.Query.{Datum}
use Rattle.wsm_semantics.specs.Kept.{is_linked}
use Rattle.wsm_semantics.specs.Relation.{sorted_rows, stream_rows}
use Rattle.wsm_semantics.specs.Replay.{datum}
use Rattle.wsm_semantics.specs.declared.out_row.OutRow.{OutRow}
use Rattle.wsm_semantics.specs.Summaries.{Pane, Plan, entered, linked, standing_row}
use Rattle.wsm_slots.specs.declared.spot.Spot.{Spot}
use Rattle.wsm_panes.specs.Held.{Held, entries_of}
use Rattle.wsm_slots.specs.Panes.{has_fired}
use Rattle.wsm_firing.specs.Spots.{Holds}
use Rattle.wsm_relation.specs.Rows.{IsInOrder}
use Rattle.wsm_relation.specs.Delta.{IsDelta, IsChange, undone}

-- what the streams keep of what they were told: a form, room for so many rows, and what changed since
-- the last instant, where that is written, or since there was no row, where those that stand are
pub record Told : Type 0 where
  pub form : Form
  pub room : ℕ
  pub numbers : List (List Cell × ℤ)

-- the rows that stand for panes
abbrev pub standing_rows : {X : Type 0} → List (Place × Pane X) → List (List Cell)
standing_rows panes = filter_map (λ e. standing_row e.1.stands) panes

-- whether a record joins two sessions that both fired
abbrev pub are_both_fired : List (Place × Pane (List Value)) → Bool
are_both_fired (e ∷ f ∷ es) = has_fired e.1.stands && has_fired f.1.stands
are_both_fired _ = false

-- the rows that stand once a record is put in: two sessions that both fired and are joined stand for nothing
abbrev pub rows_with : Shape → Datum → List (Place × Pane (List Value)) → List (List Cell)
rows_with (Session gap) d panes =
    if are_both_fired (linked gap d panes) then standing_rows (where_key place_cmp (λ p. not (is_linked gap d p)) panes) else standing_rows panes
rows_with shape d panes = standing_rows panes

-- once a record of a key and a time is
abbrev pub rows_entered : Held → ℕ → ℤ → List (List Cell)
rows_entered h key time = rows_with h.shape (datum 0 (pos 0) key time []) (entries_of h)

-- ---- what was told of the relation at the last instant and of the one now

pub record HasChanged (numbers : List (List Cell × ℤ)) (before now : List (List Cell)) : Type 0 where
  pub ordered : IsInOrder before
  pub delta : IsDelta numbers
  pub change : IsChange before now numbers

-- since there was no row
pub record HasKept (numbers : List (List Cell × ℤ)) (before now : List (List Cell)) : Type 0 where
  pub none : before ≡ []
  pub changed : HasChanged numbers before now

abbrev pub IsToldOf : Form → List (List Cell × ℤ) → List (List Cell) → List (List Cell) → Type 0
IsToldOf form.Panes numbers before now = before ≡ []
IsToldOf form.Istream numbers before now = HasChanged numbers before now
IsToldOf form.Dstream numbers before now = HasChanged numbers before now
IsToldOf form.Rstream numbers before now = HasKept numbers before now

abbrev pub IsTold : Told → List (List Cell) → List (List Cell) → Type 0
IsTold s before now = IsToldOf s.form s.numbers before now

-- what was told of some rows is told of others
abbrev pub TellsRows : Told → Told → List (List Cell) → List (List Cell) → Type 0
TellsRows old new before after = (relation : List (List Cell)) → IsTold old relation before → IsTold new relation after

-- or of those that stand for some panes
abbrev pub TellsPanes : {X : Type 0} → Told → Told → List (Place × Pane X) → List (Place × Pane X) → Type 0
TellsPanes old new before after = TellsRows old new (standing_rows before) (standing_rows after)

-- or of those that stand once a record of a key and a time is put in, whatever the plan and the mark
abbrev pub TellsEntered : Told → Told → Held → ℕ → ℤ → Type 0
TellsEntered old new h key time = (plan : Plan (List Value)) (lateness mark : ℤ) →
    TellsPanes old new (entries_of h) (entered plan h.shape lateness (datum 0 mark key time []) (entries_of h))

-- a row is lost, or gained, if there is one
abbrev pub Loses : Told → Told → Option (List Cell) → Type 0
Loses old new row = (before now : List (List Cell)) → IsTold old before (cons_option row now) → IsTold new before now

abbrev pub Gains : Told → Told → Option (List Cell) → Type 0
Gains old new row = (before now : List (List Cell)) → IsTold old before now → IsTold new before (cons_option row now)

-- that of the pane at a spot
abbrev pub LosesHeld : Held → Spot → Told → Told → Type 0
LosesHeld h spot old new = (pane : Pane (List Value)) → Holds h spot pane → Loses old new (standing_row pane.stands)

-- the relation at the last instant, from the one now: it is kept where changes against it are written
abbrev pub relation_before : Form → List (List Cell × ℤ) → List (List Cell) → List (List Cell)
relation_before form.Istream numbers now = undone numbers now
relation_before form.Dstream numbers now = undone numbers now
relation_before form.Panes numbers now = []
relation_before form.Rstream numbers now = []

-- no more rows than there is room for
pub record AreWithin (room : ℕ) (before now : List (List Cell)) : Type 0 where
  pub few_before : length before ≤ room
  pub few_now : length now ≤ room

-- what was told, of no more rows than there is room for, before the relation loses a row, if there is one
pub record CanLose (s : Told) (row : Option (List Cell)) : Type 0 where
  pub before : List (List Cell)
  pub rest : List (List Cell)
  pub told : IsTold s before (cons_option row rest)
  pub within : AreWithin s.room before (cons_option row rest)

-- that of the pane at a spot
abbrev pub CanLoseHeld : Held → Spot → Told → Type 0
CanLoseHeld h spot s = (pane : Pane (List Value)) → Holds h spot pane → CanLose s (standing_row pane.stands)

-- some rows and those of two panes, where both fired
abbrev pub rows_and : Pane (List Value) → Pane (List Value) → List (List Cell) → List (List Cell)
rows_and v w rows = if has_fired v.stands && has_fired w.stands then cons_option (standing_row v.stands) (cons_option (standing_row w.stands) rows) else rows

-- before it loses those of two panes
pub record CanLosePair (s : Told) (v w : Pane (List Value)) : Type 0 where
  pub before : List (List Cell)
  pub rest : List (List Cell)
  pub told : IsTold s before (rows_and v w rest)
  pub within : AreWithin s.room before (rows_and v w rest)

-- before it gains one
pub record CanGain (s : Told) (row : Option (List Cell)) : Type 0 where
  pub before : List (List Cell)
  pub now : List (List Cell)
  pub told : IsTold s before now
  pub within : AreWithin s.room before (cons_option row now)

-- before it is written
pub record CanAdvance (s : Told) : Type 0 where
  pub before : List (List Cell)
  pub now : List (List Cell)
  pub told : IsTold s before now
  pub within : AreWithin s.room before now

-- what was told of these panes, of which there are no more than there is room for
pub record CanTell {X : Type 0} (s : Told) (panes : List (Place × Pane X)) : Type 0 where
  pub before : List (List Cell)
  pub told : IsTold s before (standing_rows panes)
  pub few_before : length before ≤ s.room
  pub few : length panes ≤ s.room

-- the form and the room stay
pub record AreAlike (old new : Told) : Type 0 where
  pub form : new.form ≡ old.form
  pub room : new.room ≡ old.room

-- a row is lost, or gained, if there is one, and form and room stay
pub record HasLost (old new : Told) (row : Option (List Cell)) : Type 0 where
  pub told : Loses old new row
  pub alike : AreAlike old new

pub record HasGained (old new : Told) (row : Option (List Cell)) : Type 0 where
  pub told : Gains old new row
  pub alike : AreAlike old new

-- that of the pane at a spot
pub record HasLostHeld (h : Held) (spot : Spot) (old new : Told) : Type 0 where
  pub told : LosesHeld h spot old new
  pub alike : AreAlike old new

-- what was told of some panes is told of others, and form and room stay
pub record HasTold {X : Type 0} (old new : Told) (before after : List (Place × Pane X)) : Type 0 where
  pub told : TellsPanes old new before after
  pub alike : AreAlike old new

-- the rows of panes that are dropped can be told
pub record CanDrop (s : Told) (panes : List (Place × Pane (List Value))) : Type 0 where
  pub placed : AllByRecursion (λ e. IsPlaced (window_of e.0)) panes
  pub tells : CanTell s panes

-- those of panes that a record of a key and a time joins can be
pub record CanLoseJoined (s : Told) (h : Held) (key : ℕ) (time : ℤ) : Type 0 where
  pub declared : key < h.keys
  pub timely : IsTime time
  pub tells : CanTell s (entries_of h)

-- what was told of some panes is told of those that they became, as many
pub record Tells {X : Type 0} (old new : Told) (before after : List (Place × Pane X)) : Type 0 where
  pub told : TellsPanes old new before after
  pub alike : AreAlike old new
  pub as_many : length after ≡ length before

-- ---- what is written

-- there is room for so many rows more, where rows are those of a stream
abbrev pub HasRoomFor : Form → ℕ → ℕ → ℕ → Type 0
HasRoomFor form.Panes n rows capacity = Unit {0}
HasRoomFor form.Istream n rows capacity = rows + n ≤ capacity
HasRoomFor form.Dstream n rows capacity = rows + n ≤ capacity
HasRoomFor form.Rstream n rows capacity = rows + n ≤ capacity

-- the relation that is kept after an instant, from the one before and the one that panes stand for
abbrev pub relation_kept : Form → List (List Cell) → List (List Cell) → List (List Cell)
relation_kept form.Istream old now = now
relation_kept form.Dstream old now = now
relation_kept form.Panes old now = old
relation_kept form.Rstream old now = old

-- the next instant is the one of the relation that stands
abbrev pub Advances : Told → Told → Type 0
Advances old new = (before now : List (List Cell)) → IsTold old before now → IsTold new (relation_kept old.form before (sorted_rows now)) now

-- the rows of the stream at a mark stand behind those that were there
abbrev pub WritesAt : Told → ℤ → List OutRow → List OutRow → Type 0
WritesAt s mark rows written = (before now : List (List Cell)) → IsTold s before now → written ≡ rows ++ stream_rows s.form mark before (sorted_rows now)
