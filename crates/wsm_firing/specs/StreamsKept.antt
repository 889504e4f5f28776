-- What is kept of the relation for its streams.
use Rattle.std.specs.Prelude.{◌≡◌, ℕ, ◌*◌, ◌≤◌, List, [], ℤ}
use Rattle.wsm_record.specs.declared.limits.TheConstants.{MAX_PANES}
use Rattle.wsm_record.specs.declared.cell.Cell.{Cell}
use Rattle.wsm_record.specs.declared.words.Form.{Form}
use Rattle.wsm_record.specs.declared.words.Form.TheVariants as form
use Rattle.wsm_relation.specs.Delta.{Delta}
use Rattle.wsm_relation.specs.declared.changes.Side.{Side}
use Rattle.wsm_relation.specs.declared.changes.Side.TheVariants.{Gained, Lost, Standing}
use Rattle.wsm_firing.specs.declared.streams.Kept.{Kept}
use Rattle.wsm_firing.specs.declared.streams.Kept.TheVariants.{Nothing, Changed}

-- the form whose rows are a side of what changed
abbrev pub side_form : Side → Form
side_form Gained = form.Istream
side_form Lost = form.Dstream
side_form Standing = form.Rstream

abbrev pub form_kept : Kept → Form
form_kept Nothing = form.Panes
form_kept (Changed side changes) = side_form side

-- what changed since the last instant, or since there was no row
abbrev pub numbers_kept : Kept → List (List Cell × ℤ)
numbers_kept Nothing = []
numbers_kept (Changed side changes) = changes.numbers

-- what it is after it is written
abbrev pub numbers_after : Side → List (List Cell × ℤ) → List (List Cell × ℤ)
numbers_after Gained numbers = []
numbers_after Lost numbers = []
numbers_after Standing numbers = numbers

-- ---- what is reserved

-- for how many rows: those of the last instant and those now, or these alone, where there was none
abbrev pub room_of : Side → ℕ → ℕ
room_of Gained room = 2 * room
room_of Lost room = 2 * room
room_of Standing room = room

pub record HasRoomOfChanges (side : Side) (room : ℕ) (changes : Delta) : Type 0 where
  pub most : room ≤ MAX_PANES
  pub enough : changes.room ≡ room_of side room

abbrev pub IsReserved : ℕ → Kept → Type 0
IsReserved room Nothing = Unit {0}
IsReserved room (Changed side changes) = HasRoomOfChanges side room changes
