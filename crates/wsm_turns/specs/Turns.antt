-- What lines come to, one behind the other: the events that go on, in their order. A history of lines has the newest first. A record of
-- a declared key with values that fit tells a time; its clock is its key, or one that its line names. Clocks make watermarks of those
-- times; a record that is too far ahead of them waits, and goes on later. One whose identifier came before is left out, until a record of
-- its time would be late. The rules are this project's own; a watermark is that of Akidau et al. 2015.
use Rattle.std.specs.Prelude.{ℕ, ◌+◌, min, Bool, false, ◌&&◌, List, [], ◌∷◌, length, map, ℤ, pos, Option, Some, None, Result, Ok, Err, unsigned_abs, if◌then◌else◌}
use Rattle.wsm_record.specs.declared.limits.TheConstants.{LATEST_TIME}
use Rattle.wsm_record.specs.Event.{Event, Record, Watermark}
use Rattle.wsm_record.specs.Schema.{Declared, fit_fields}
use Rattle.wsm_windows.specs.declared.window.Shape.{Shape}
use Rattle.wsm_windows.specs.Limits.{is_time}
use Rattle.wsm_admission.specs.declared.clock.Clock.{Clock}
use Rattle.wsm_admission.specs.Clock.{is_key, watermark_of}
use Rattle.wsm_watermarks.specs.declared.held.Timed.{Timed}
use Rattle.wsm_watermarks.specs.declared.stamp.Stamp.{Stamp}
use Rattle.wsm_watermarks.specs.Agreement.{mark_after}
use Rattle.wsm_watermarks.specs.Held.{Item, Mark, Passed, Went, went_on}
use Rattle.wsm_semantics.specs.Query.{Query}
use Rattle.wsm_doubles.specs.Memory.{Memory, knows, live}
use Rattle.wsm_turns.specs.declared.clocks.Clocks.{Clocks}
use Rattle.wsm_turns.specs.declared.voice.Voice.{Voice}
use Rattle.wsm_turns.specs.declared.voice.Voice.TheVariants.{Key}
use Rattle.wsm_turns.specs.Numbered.{Numbered, timed}
use Rattle.wsm_turns.specs.Voices.{stamp_by}

-- ---- what lines say

-- an event, the identifier of its record, if it has one, and whose clock that tells its time by
pub record Spoken : Type 0 where
  pub event : Event
  pub identifier : Option (List ℕ)
  pub voice : Voice

-- what a line says: an event, or a fault, by which it says none
abbrev pub Said : Type 0 → Type 0
Said Fault = Result Spoken Fault

-- an event with such an identifier, if there is one, by such a voice
abbrev pub spoken_by : {Fault : Type 0} → Option (List ℕ) → Voice → Result Event Fault → Said Fault
spoken_by identifier voice (Ok e) = Ok (record { event = e; identifier = identifier; voice = voice })
spoken_by identifier voice (Err why) = Err why

-- the same by that of its key
abbrev pub spoken : {Fault : Type 0} → Option (List ℕ) → Result Event Fault → Said Fault
spoken identifier r = spoken_by identifier Key r

-- what an event says of time: a record of a declared key whose values fit and whose time is one, on the clock of its key
abbrev pub stamp_at : Declared → Option ℕ → ℤ → Bool → Option Stamp
stamp_at d None time fit = None
stamp_at d (Some key) time fit =
    if is_key d (Some key) && (fit && is_time time) then Some (record { clock = key; time = unsigned_abs time }) else None

abbrev pub stamp_of : Declared → Event → Option Stamp
stamp_of d (Record key time values) = stamp_at d key time (fit_fields d.fields values)
stamp_of d (Watermark source time) = None

-- ---- what goes to the query

-- by what lines are taken: the clocks of the log, where it has any, and of the query what it declares, its clock and its windows
pub record Setting : Type 0 where
  pub clocks : Option Clocks
  pub declared : Declared
  pub clock : Clock
  pub shape : Shape

abbrev pub setting_of : Option Clocks → Query → Setting
setting_of clocks q = record { clocks = clocks; declared = q.declared; clock = q.clock; shape = q.shape }

-- the query's watermark after a history
abbrev pub watermark : Setting → List Event → ℤ
watermark w past = watermark_of w.clock w.declared past

-- what is kept of lines: the stamps that came, the newest first; the last watermark that was told; the records that wait, the earliest
-- first; the events that the query was fed, the newest first; and the identifiers that are remembered, with the times of their records
pub record Kept : Type 0 where
  pub stamps : List Stamp
  pub told : ℕ
  pub waits : List (Timed Numbered)
  pub fed : List Event
  pub memory : Memory

-- what goes to the query, the first first, and what is kept then
pub record Turn : Type 0 where
  pub goes : List Numbered
  pub kept : Kept

-- a history with further events
abbrev pub fed_with : List Event → List Numbered → List Event
fed_with past [] = past
fed_with past (g ∷ gs) = fed_with (g.event ∷ past) gs

-- events go to the query, and what can't count any more is forgotten
abbrev pub going : Setting → Kept → List Numbered → Turn
going w k gs = let past = fed_with k.fed gs in
    record { goes = gs; kept = record k { fed = past; memory = live w.clock w.shape (watermark w past) k.memory } }

-- a watermark at a time, and no later than times go
abbrev pub mark_at : ℕ → Event
mark_at time = Watermark (Some 0) (pos (min time (unsigned_abs LATEST_TIME)))

-- what goes on at a line: a watermark is of that line, and a record of its own
abbrev pub numbered : ℕ → Item Numbered → Numbered
numbered number (Mark time) = record { number = number; event = mark_at time }
numbered number (Passed row) = row.row

-- as a record comes with its stamp: what goes on, and what waits then. Without clocks it goes on itself
abbrev pub went_by : Option Clocks → Kept → Stamp → Timed Numbered → Went Numbered
went_by None k stamp row = record { out = Passed row ∷ []; mark = k.told; held = k.waits }
went_by (Some c) k stamp row =
    went_on c.rule c.ahead c.room (record { out = []; mark = k.told; held = k.waits }) (row, mark_after c.rule (stamp ∷ k.stamps))

-- its identifier is remembered
abbrev pub is_double : Option (List ℕ) → Memory → Bool
is_double None memory = false
is_double (Some i) memory = knows i memory

-- behind a record that passes
abbrev pub noted : Option (List ℕ) → ℕ → Memory → Memory
noted None time memory = memory
noted (Some i) time memory = (i, pos time) ∷ memory

-- the turn of a record that passes and tells its time by a stamp
abbrev pub stamped : Setting → Kept → ℕ → Stamp → Spoken → Turn
stamped w k number stamp x = let went = went_by w.clocks k stamp (timed stamp.time number x.event) in
    going w (record { stamps = stamp ∷ k.stamps; told = went.mark; waits = went.held; fed = k.fed; memory = noted x.identifier stamp.time k.memory }) (map (numbered number) went.out)

-- that of one that passes at a time and tells none: it goes on at once
abbrev pub unstamped : Setting → Kept → ℕ → ℕ → Spoken → Turn
unstamped w k number time x = going w (record k { memory = noted x.identifier time k.memory }) (record { number = number; event = x.event } ∷ [])

abbrev pub passing_by : Setting → Kept → ℕ → Option Stamp → ℕ → Spoken → Turn
passing_by w k number None time x = unstamped w k number time x
passing_by w k number (Some stamp) time x = stamped w k number stamp x

-- the turn of a record with a stamp by its key: a double is left out, and tells no time
abbrev pub passing : Setting → Kept → ℕ → Stamp → Spoken → Turn
passing w k number stamp x =
    if is_double x.identifier k.memory then record { goes = []; kept = k } else passing_by w k number (stamp_by x.voice stamp) stamp.time x

-- the turn of an event: what says nothing of time goes on at once
abbrev pub turn_by : Setting → Kept → ℕ → Option Stamp → Spoken → Turn
turn_by w k number None x = going w k (record { number = number; event = x.event } ∷ [])
turn_by w k number (Some stamp) x = passing w k number stamp x

-- the turn of the line of a number
abbrev pub turn_of : {F : Type 0} → Setting → Kept → ℕ → Said F → Turn
turn_of w k number (Err why) = record { goes = []; kept = k }
turn_of w k number (Ok x) = turn_by w k number (stamp_of w.declared x.event) x

-- where watermarks begin
abbrev pub start_of : Option Clocks → ℕ
start_of None = 0
start_of (Some c) = c.rule.start

-- what is kept of lines. The number of a line is its place in the log, from 1 on
abbrev pub kept : {F : Type 0} → Setting → List (Said F) → Kept
kept w [] = record { stamps = []; told = start_of w.clocks; waits = []; fed = []; memory = [] }
kept w (x ∷ before) = (turn_of w (kept w before) (length before + 1) x).kept

-- what waits at the end goes on too, the earliest first
abbrev pub at_end : Kept → List Numbered
at_end k = map (λ r. r.row) k.waits
