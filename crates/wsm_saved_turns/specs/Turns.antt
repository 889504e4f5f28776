-- The texts of what is kept of identifiers, of the names of clocks and of clocks, and what a text is read as.
use Rattle.std.specs.Prelude.{ℕ, ℤ, ◌<◌, ◌≤◌, ◌^◌, List, [], ◌++◌, length, map, FitsSigned, Option, Some, None, option_map, option_and_then, ⊤}
use Rattle.std.specs.Int.{w64}
use Rattle.wsm_doubles.specs.Memory.{Memory}
use Rattle.wsm_journal.specs.Reading.{number_of}
use Rattle.wsm_record.specs.Event.{event_of}
use Rattle.wsm_saved.specs.Numbers.{number_text, read_signed, signed_text}
use Rattle.wsm_saved.specs.Lists.{BytesFit, ListFits, OptionFits, bytes_text, list_text, option_text, read_bytes, read_list, read_option}
use Rattle.wsm_saved.specs.Events.{EventFits, event_text, read_event}
use Rattle.wsm_watermarks.specs.declared.held.Timed.{Timed}
use Rattle.wsm_watermarks.specs.declared.table.Said.{Said}
use Rattle.wsm_watermarks.specs.Held.{AreByTime}
use Rattle.wsm_turns.specs.declared.waiting.Waiting.{Waiting}
use Rattle.wsm_turns.specs.Numbered.{Numbered, timed}
use Rattle.wsm_saved_turns.specs.declared.clocks.Row.{Row}
use Rattle.wsm_saved_turns.specs.declared.clocks.Standing.{Standing}

-- an identifier, and the time of its record
abbrev pub entry_text : List ℕ × ℤ → List ℕ
entry_text e = bytes_text e.0 ++ signed_text e.1

unfoldable pub read_entry : List ℕ → Option ((List ℕ × ℤ) × List ℕ)
read_entry text = option_and_then (λ i. option_map (λ z. ((i.0, z.0), z.1)) (read_signed i.1)) (read_bytes text)

abbrev pub EntryFits : List ℕ × ℤ → Type 0
EntryFits e = BytesFit e.0 × FitsSigned w64 e.1

-- identifiers that are kept
abbrev pub doubles_text : Memory → List ℕ
doubles_text known = list_text entry_text known

abbrev pub DoublesFit : Memory → Type 0
DoublesFit known = ListFits EntryFits known

-- the names of clocks, where lines name them
abbrev pub names_text : Option ℕ → List (List ℕ) → List ℕ
names_text None list = []
names_text (Some most) list = list_text bytes_text list

abbrev pub NamesFit : List (List ℕ) → Type 0
NamesFit list = ListFits BytesFit list

-- the last stamp of a clock: its time, and which of all it was
abbrev pub stamp_text : Said → List ℕ
stamp_text s = number_text s.time ++ number_text s.number

abbrev pub said_at : ℕ → ℕ → Said
said_at time number = record { time = time; number = number }

unfoldable pub read_stamp : List ℕ → Option (Said × List ℕ)
read_stamp text = option_and_then (λ time. option_map (λ number. (said_at time.0 number.0, number.1)) (number_of time.1)) (number_of text)

abbrev pub StampFits : Said → Type 0
StampFits s = (s.time < 2 ^ 64) × (s.number < 2 ^ 64)

-- the same of a clock that may not have spoken
abbrev pub said_text : Option Said → List ℕ
said_text said = option_text stamp_text said

abbrev pub read_said : List ℕ → Option (Option Said × List ℕ)
read_said text = read_option read_stamp text

abbrev pub SaidFits : Option Said → Type 0
SaidFits said = OptionFits StampFits said

-- a record that waits: its time, the number of its line, and its event
abbrev pub row_text : Timed Numbered → List ℕ
row_text r = number_text r.time ++ (number_text r.row.number ++ event_text r.row.event)

unfoldable pub read_row : List ℕ → Option (Timed Numbered × List ℕ)
read_row text =
    option_and_then (λ time. option_and_then (λ number. option_map (λ e. (timed time.0 number.0 e.0, e.1))
    (read_event number.1)) (number_of time.1)) (number_of text)

pub record RowFits (r : Timed Numbered) : Type 0 where
  pub time : r.time < 2 ^ 64
  pub number : r.row.number < 2 ^ 64
  pub event : EventFits r.row.event

-- where clocks stand: of each its last stamp, how many stamps were heard, the watermark, the last that was told, and the records that wait
pub record Stand : Type 0 where
  pub said : List (Option Said)
  pub heard : ℕ
  pub mark : ℕ
  pub told : ℕ
  pub rows : List (Timed Numbered)

abbrev pub stand : List (Option Said) → ℕ → ℕ → ℕ → List (Timed Numbered) → Stand
stand said heard mark told rows = record { said = said; heard = heard; mark = mark; told = told; rows = rows }

abbrev pub stand_text : Stand → List ℕ
stand_text s = list_text said_text s.said ++ (number_text s.heard ++ (number_text s.mark ++ (number_text s.told ++ list_text row_text s.rows)))

unfoldable pub read_stand : List ℕ → Option (Stand × List ℕ)
read_stand text =
    option_and_then (λ said. option_and_then (λ heard. option_and_then (λ mark. option_and_then (λ told. option_map (λ rows. (stand said.0 heard.0 mark.0 told.0 rows.0, rows.1))
    (read_list read_row told.1)) (number_of mark.1)) (number_of heard.1)) (number_of said.1)) (read_list read_said text)

pub record StandFits (s : Stand) : Type 0 where
  pub said : ListFits SaidFits s.said
  pub heard : s.heard < 2 ^ 64
  pub mark : s.mark < 2 ^ 64
  pub told : s.told < 2 ^ 64
  pub rows : ListFits RowFits s.rows

-- where the clocks of a log stand
abbrev pub stand_of : Waiting → Stand
stand_of w = stand w.marks.table.said w.marks.table.heard w.marks.mark w.told w.held.rows

-- its numbers fit, and the records wait by their times, where there is room for them
pub record WaitingFits (w : Waiting) : Type 0 where
  pub stand : StandFits (stand_of w)
  pub by_time : AreByTime w.held.rows
  pub few : length w.held.rows ≤ w.held.room

-- the clocks of a log, where it has any
abbrev pub clocks_text : Option Waiting → List ℕ
clocks_text None = []
clocks_text (Some w) = stand_text (stand_of w)

abbrev pub ClocksFit : Option Waiting → Type 0
ClocksFit None = ⊤
ClocksFit (Some w) = WaitingFits w

-- what was read of a record that waits, and of where clocks stand
abbrev pub row_of : Row → Timed Numbered
row_of r = timed r.time r.number (event_of r.event)

abbrev pub standing_of : Standing → Stand
standing_of s = stand s.said.items s.heard s.mark s.told (map row_of s.rows.items)
