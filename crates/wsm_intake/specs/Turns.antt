-- What an intake keeps, and how it fits the lines so far.
use Rattle.std.specs.Prelude.{◌≡◌, ◌≤◌, ℕ, ◌+◌, ℤ, List, ◌∷◌, ◌++◌, length, Option}
use Rattle.wsm_admission.specs.Admission.{counter}
use Rattle.wsm_program.specs.Program.{Program}
use Rattle.wsm_machine.specs.Meaning.{query_of}
use Rattle.wsm_lines.specs.declared.reader.LineReader.{LineReader}
use Rattle.wsm_lines.specs.Reader.{Follows, event_read, identifier_read}
use Rattle.wsm_lines.specs.declared.source.Source.{Source}
use Rattle.wsm_turns.specs.declared.clocks.Clocks.{Clocks}
use Rattle.wsm_intake.specs.declared.intake.Intake.{Intake}
use Rattle.wsm_log_text.specs.declared.totals.LogTotals.{LogTotals}
use Rattle.wsm_turns.specs.declared.voice.Voice.{Voice}
use Rattle.wsm_turns.specs.Clocks.{count_in, named_in}
use Rattle.wsm_turns.specs.Heard.{left_count, silent_count, silent_in}
use Rattle.wsm_turns.specs.Named.{Knows}
use Rattle.wsm_turns.specs.Voices.{Voiced}
use Rattle.wsm_turns.specs.Turns.{Kept, Setting, Spoken, Turn, kept, setting_of, watermark}
use Rattle.wsm_log_text.specs.Counts.{counts_of}
use Rattle.wsm_log_text.specs.LogText.{end_line, end_text, events_text, fault_count, line_of, names_of, said, said_at, text_of_turn, turn_at, turn_text}
use Rattle.wsm_turns.specs.Waits.{Hear}
use Rattle.wsm_turns.specs.Known.{Remembers}
use Rattle.wsm_log_text.specs.FirstLine.{first_of}
use Rattle.wsm_intake.specs.Tells.{Serves}

abbrev pub setting_by : Option Clocks → Program → Setting
setting_by clocks p = setting_of clocks (query_of p)

-- what was read last, by a voice
abbrev pub spoken_read : LineReader → Voice → Spoken
spoken_read r voice = record { event = event_read r; identifier = identifier_read r; voice = voice }

-- what is kept, by a program
pub record Holds (clocks : Option Clocks) (p : Program) (t : Intake) (k : Kept) : Type 0 where
  pub told : Serves p t.told k.fed
  pub waiting : Hear clocks (count_in clocks (length p.header.schema.keys)) t.waiting k.stamps k.told k.waits
  pub remembers : Remembers (setting_by clocks p) (watermark (setting_by clocks p) k.fed) t.identifiers k.memory

-- after lines
pub record Fits (s : Source) (clocks : Option Clocks) (p : Program) (t : Intake) (before : List (List ℕ)) : Type 0 where
  pub holds : Holds clocks p t (kept (setting_by clocks p) (said s clocks p.header.schema before))
  pub reader : Follows s before t.reader
  pub names : Knows (named_in clocks) t.names (names_of s clocks p.header.schema before)
  pub taken : t.taken ≡ length (said s clocks p.header.schema before)
  pub faults : t.faults ≡ counter (fault_count (said s clocks p.header.schema before))
  pub doubles : t.doubles ≡ counter (left_count (setting_by clocks p) (said s clocks p.header.schema before))
  pub silent : t.silent ≡ counter (silent_count (said s clocks p.header.schema before))

-- after lines of which this is kept, which need not be what the program itself comes to by them; the query has so many RECORDS
pub record FitsBehind (s : Source) (clocks : Option Clocks) (p : Program) (whole : ℤ) (t : Intake) (k : Kept) (before : List (List ℕ)) : Type 0 where
  pub holds : Holds clocks p t k
  pub records : t.records ≡ whole
  pub first : t.first.items ≡ first_of before
  pub few : length k.stamps ≤ length (said s clocks p.header.schema before)
  pub reader : Follows s before t.reader
  pub names : Knows (named_in clocks) t.names (names_of s clocks p.header.schema before)
  pub taken : t.taken ≡ length (said s clocks p.header.schema before)

-- a turn was taken, with its bytes behind those that were there; so many records more were left out
pub record Goes (clocks : Option Clocks) (p : Program) (old new : Intake) (k : Kept) (turn : Turn) (left : ℕ) : Type 0 where
  pub holds : Holds clocks p new turn.kept
  pub text : new.told.lines.items ≡ old.told.lines.items ++ events_text (query_of p) k.fed turn.goes
  pub doubles : (n : ℕ) → old.doubles ≡ counter n → new.doubles ≡ counter (n + left)
  pub others : new ≡ record old { told = new.told; waiting = new.waiting; identifiers = new.identifiers; doubles = new.doubles }

-- the same of an event by its voice, where the names of clocks are known
pub record Speaks (clocks : Option Clocks) (p : Program) (old new : Intake) (k : Kept) (v : Voiced) (turn : Turn) (left : ℕ) : Type 0 where
  pub goes : Goes clocks p (record old { names = new.names; silent = new.silent }) new k turn left
  pub names : Knows (named_in clocks) new.names v.names
  pub silent : (n : ℕ) → old.silent ≡ counter n → new.silent ≡ counter (n + silent_in v.voice)

-- one line more, with the bytes of its turn
pub record Turned (s : Source) (clocks : Option Clocks) (p : Program) (new : Intake) (before : List (List ℕ)) (line : List ℕ) : Type 0 where
  pub fits : Fits s clocks p new (line ∷ before)
  pub text : new.told.lines.items ≡ turn_text (query_of p) clocks (said s clocks p.header.schema before) (said_at s clocks p.header.schema before line)

-- one line more after lines of which this is kept, with the bytes of its turn
pub record TurnedBehind (s : Source) (clocks : Option Clocks) (p : Program) (records : ℤ) (new : Intake) (k : Kept) (before : List (List ℕ)) (line : List ℕ) : Type 0 where
  pub fits : FitsBehind s clocks p records new (turn_at (setting_by clocks p) k (length (said s clocks p.header.schema before) + 1) (said_at s clocks p.header.schema before line)).kept (line ∷ before)
  pub text : new.told.lines.items ≡ text_of_turn (query_of p) clocks k (length (said s clocks p.header.schema before) + 1) (said_at s clocks p.header.schema before line)

-- the intake is at its end: its bytes are those behind all turns, with these numbers and counts
pub record Ends (s : Source) (clocks : Option Clocks) (p : Program) (new : Intake) (lines : List (List ℕ)) (end : LogTotals) : Type 0 where
  pub text : new.told.lines.items ≡ end_text (query_of p) clocks (said s clocks p.header.schema lines)
  pub numbers : line_of end.totals ≡ end_line (query_of p) clocks (said s clocks p.header.schema lines)
  pub counts : end.counts ≡ counts_of (query_of p) clocks (said s clocks p.header.schema lines)
