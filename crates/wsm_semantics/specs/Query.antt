-- What a query means, and what an event does on its turn. A history is a list of events, the newest
-- first; nothing is kept beside it. The clauses of a query are this project's own.
use Rattle.std.specs.Prelude.{◌≡◌, ℕ, Bool, ◌&&◌, List, [], ◌∷◌, ◌++◌, length, ℤ, Option, Some, None, is_none, if◌then◌else◌, false}
use Rattle.wsm_record.specs.declared.event.Value.{Value}
use Rattle.wsm_record.specs.declared.cell.Cell.{Cell}
use Rattle.wsm_record.specs.declared.words.Form.{Form}
use Rattle.wsm_record.specs.declared.words.Mode.{Mode}
use Rattle.wsm_record.specs.Event.{Event, Record, Watermark}
use Rattle.wsm_record.specs.Schema.{Declared}
use Rattle.wsm_windows.specs.declared.window.Shape.{Shape}
use Rattle.wsm_windows.specs.declared.window.Shape.TheVariants.{Session}
use Rattle.wsm_admission.specs.declared.clock.Clock.{Clock}
use Rattle.wsm_admission.specs.declared.verdict.Refusal.{Refusal}
use Rattle.wsm_admission.specs.Clock.{watermark_of, rises, verdict}

-- a selected record: how many events came before it, the watermark then, and what it says
pub record Datum : Type 0 where
  pub turn : ℕ
  pub mark : ℤ
  pub key : ℕ
  pub time : ℤ
  pub values : List Value

-- a query is what its clauses mean
pub record Query : Type 0 where
  pub clock : Clock
  pub declared : Declared
  pub shape : Shape
  pub mode : Mode
  pub early : ℕ  -- the count of EARLY EVERY, or 0 for none
  pub late : ℕ  -- the count of LATE EVERY, or 0 for none
  pub form : Form
  pub selects : ℕ → List Value → Bool  -- whether WHERE is true of a key and values
  pub row : ℕ → List Datum → Option (List Cell)  -- the columns of a key and records, where HAVING is true

-- a record of a session is late by its own time: a session's end moves
abbrev pub SessionsByEvent : Query → Type 0
SessionsByEvent q = (gap : ℤ) → q.shape ≡ Session gap → q.clock.from_window ≡ false

-- the watermark after a history
abbrev pub mark : Query → List Event → ℤ
mark q past = watermark_of q.clock q.declared past

-- an event after a history raises the watermark
abbrev pub raises : Query → List Event → Event → Bool
raises q past e = rises q.clock q.declared past e

-- the verdict on an event after a history
abbrev pub verdict_on : Query → List Event → Event → Option Refusal
verdict_on q past e = verdict q.clock q.shape q.declared past e

abbrev pub is_taken : Query → List Event → Event → Bool
is_taken q past e = is_none (verdict_on q past e)

-- the record of a turn that an event would be, if it is selected
abbrev pub datum : ℕ → ℤ → ℕ → ℤ → List Value → Datum
datum turn mark key time values = record { turn = turn; mark = mark; key = key; time = time; values = values }

-- what an event does on its turn: it selects a record, it raises the watermark, or nothing
pub data Effect : Type 0 where
  Selects : (d : Datum) → Effect
  Rises : (old : ℤ) → (new : ℤ) → Effect
  Nothing : Effect

-- a record is selected where its key is declared, it is taken and WHERE is true; a watermark matters
-- where it raises that of the query
abbrev pub effect_of : Query → List Event → Event → Effect
effect_of q past (Record None time values) = Nothing
effect_of q past (Record (Some key) time values) =
    if is_taken q past (Record (Some key) time values) && q.selects key values
    then Selects (datum (length past) (mark q past) key time values)
    else Nothing
effect_of q past (Watermark source time) =
    if raises q past (Watermark source time) then Rises (mark q past) (mark q (Watermark source time ∷ past)) else Nothing

-- the record that is selected, if one is
abbrev pub selection : Effect → List Datum
selection (Selects d) = d ∷ []
selection (Rises old new) = []
selection Nothing = []

abbrev pub selection_of : Query → List Event → Event → List Datum
selection_of q past e = selection (effect_of q past e)

-- the selected records of a history, the newest first
abbrev pub selected : Query → List Event → List Datum
selected q [] = []
selected q (e ∷ past) = selection_of q past e ++ selected q past
