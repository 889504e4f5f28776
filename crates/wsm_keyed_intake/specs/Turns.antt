-- What a keyed intake keeps, and how it fits the lines so far.
use Rattle.std.specs.Prelude.{◌≡◌, ℕ, ◌+◌, List, [], ◌∷◌, ◌++◌, length, Option, Some, None}
use Rattle.wsm_record.specs.declared.words.Form.TheVariants.{Panes}
use Rattle.wsm_admission.specs.Admission.{counter}
use Rattle.wsm_program.specs.Program.{Program}
use Rattle.wsm_lines.specs.Reader.{Follows, event_read, identifier_read}
use Rattle.wsm_turns.specs.declared.clocks.Clocks.{Clocks}
use Rattle.wsm_turns.specs.declared.voice.Voice.{Voice}
use Rattle.wsm_turns.specs.Clocks.{count_in, named_in}
use Rattle.wsm_turns.specs.Heard.{left_count, silent_count, silent_in}
use Rattle.wsm_turns.specs.Named.{Knows}
use Rattle.wsm_turns.specs.Voices.{Voiced}
use Rattle.wsm_turns.specs.Turns.{Kept, Spoken, Turn, watermark}
use Rattle.wsm_turns.specs.Waits.{Hear}
use Rattle.wsm_turns.specs.Known.{Remembers}
use Rattle.wsm_part_engines.specs.State.{State}
use Rattle.wsm_part_engines.specs.Fits as parts
use Rattle.wsm_named_lines.specs.Reading.{Reading}
use Rattle.wsm_keyed_told.specs.KeyedLines.{events_text}
use Rattle.wsm_keyed_told.specs.Tells.{Serves}
use Rattle.wsm_log_text.specs.declared.totals.LogTotals.{LogTotals}
use Rattle.wsm_log_text.specs.Counts.{counts_of}
use Rattle.wsm_log_text.specs.LogText as texts
use Rattle.wsm_log_text.specs.LogText.{fault_count, line_of}
use Rattle.wsm_keyed_intake.specs.declared.intake.KeyedIntake.{KeyedIntake}
use Rattle.wsm_keyed_intake.specs.KeyedLog.{KeyedLog, declared_by, end_text, kept_by, last_line, names_of, query_behind, said_by, said_next, setting_by, turn_text}

-- ---- before the first line

-- engines of a program of panes before the first event
pub record IsOpened (s : State) : Type 0 where
  pub panes : s.program.header.form ≡ Panes
  pub fits : (names : List (List ℕ)) → parts.Fits s.program names s []

-- clocks aren't those of keys: lines name them, or there are none
abbrev pub AreNamed : Option Clocks → Type 0
AreNamed None = Unit {0}
AreNamed (Some c) = (most : ℕ) × (c.named ≡ Some most)

-- ---- what is kept

-- there are more names behind some
abbrev pub Grows : List (List ℕ) → List (List ℕ) → Type 0
Grows names all = (more : List (List ℕ)) × (all ≡ names ++ more)

-- what was read last, by a voice
abbrev pub spoken_read : Reading → Voice → Spoken
spoken_read r voice = record { event = event_read r.reader; identifier = identifier_read r.reader; voice = voice }

-- what is kept, by all names that ever come
pub record Holds (clocks : Option Clocks) (p : Program) (all : List (List ℕ)) (t : KeyedIntake) (k : Kept) : Type 0 where
  pub told : Serves p t.told k.fed
  pub grows : Grows t.told.names all
  pub waiting : Hear clocks (count_in clocks (length all)) t.waiting k.stamps k.told k.waits
  pub remembers : Remembers (setting_by clocks p all) (watermark (setting_by clocks p all) k.fed) t.identifiers k.memory

-- after lines, by these names
pub record FitsBy (g : KeyedLog) (all : List (List ℕ)) (t : KeyedIntake) (before : List (List ℕ)) : Type 0 where
  pub holds : Holds g.clocks g.program all t (kept_by g all before)
  pub voices : Knows (named_in g.clocks) t.voices (texts.names_of g.source g.clocks (declared_by g all) before)
  pub taken : t.taken ≡ length (said_by g all before)
  pub faults : t.faults ≡ counter (fault_count (said_by g all before))
  pub doubles : t.doubles ≡ counter (left_count (setting_by g.clocks g.program all) (said_by g all before))
  pub silent : t.silent ≡ counter (silent_count (said_by g all before))

-- a reader of lines behind some, by the names that came with them
pub record Reads (g : KeyedLog) (r : Reading) (names : List (List ℕ)) (before : List (List ℕ)) : Type 0 where
  pub reader : Follows g.source before r.reader
  pub most : r.most ≡ g.most
  pub known : names ≡ names_of g before

-- after lines, by the names so far and whichever come with later lines
pub record Fits (g : KeyedLog) (t : KeyedIntake) (before : List (List ℕ)) : Type 0 where
  pub reads : Reads g t.reader t.told.names before
  pub by : (later : List (List ℕ)) → FitsBy g (names_of g (later ++ before)) t before

-- ---- one line more

-- a turn was taken, with its bytes behind those that were there; so many records more were left out
pub record Goes (clocks : Option Clocks) (p : Program) (all : List (List ℕ)) (old new : KeyedIntake) (k : Kept) (turn : Turn) (left : ℕ) : Type 0 where
  pub holds : Holds clocks p all new turn.kept
  pub text : new.told.lines.items ≡ old.told.lines.items ++ events_text p all k.fed turn.goes
  pub names : new.told.names ≡ old.told.names
  pub doubles : (n : ℕ) → old.doubles ≡ counter n → new.doubles ≡ counter (n + left)
  pub others : new ≡ record old { told = new.told; waiting = new.waiting; identifiers = new.identifiers; doubles = new.doubles }

-- the same of an event by its voice, where the names of clocks are known
pub record Speaks (clocks : Option Clocks) (p : Program) (all : List (List ℕ)) (old new : KeyedIntake) (k : Kept) (v : Voiced) (turn : Turn) (left : ℕ) : Type 0 where
  pub goes : Goes clocks p all (record old { voices = new.voices; silent = new.silent }) new k turn left
  pub voices : Knows (named_in clocks) new.voices v.names
  pub silent : (n : ℕ) → old.silent ≡ counter n → new.silent ≡ counter (n + silent_in v.voice)

-- one line more, with the bytes of its turn, by these names
pub record TurnedBy (g : KeyedLog) (all : List (List ℕ)) (new : KeyedIntake) (before : List (List ℕ)) (line : List ℕ) : Type 0 where
  pub fits : FitsBy g all new (line ∷ before)
  pub text : new.told.lines.items ≡ turn_text g.program all g.clocks (said_by g all before) (said_next g all before line)

-- the same by the names so far and whichever come with later lines
pub record Turned (g : KeyedLog) (new : KeyedIntake) (before : List (List ℕ)) (line : List ℕ) : Type 0 where
  pub reads : Reads g new.reader new.told.names (line ∷ before)
  pub by : (later : List (List ℕ)) → TurnedBy g (names_of g (later ++ line ∷ before)) new before line

-- the intake is at its end: its bytes are those behind all turns, with these numbers and counts
pub record Ends (g : KeyedLog) (new : KeyedIntake) (lines : List (List ℕ)) (end : LogTotals) : Type 0 where
  pub text : new.told.lines.items ≡ end_text g.program (names_of g lines) g.clocks (said_by g (names_of g lines) lines)
  pub numbers : line_of end.totals ≡ last_line g.program (names_of g lines) g.clocks (said_by g (names_of g lines) lines)
  pub counts : end.counts ≡ counts_of (query_behind g lines) g.clocks (said_by g (names_of g lines) lines)
