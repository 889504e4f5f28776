-- What the lines of a log come to by any number of names: what one query over all names that ever come writes, each key by its cell.
-- A history of lines has the newest first.
use Rattle.std.specs.Prelude.{ℕ, ◌+◌, List, [], ◌∷◌, ◌++◌, length, Option, Ok, Err}
use Rattle.wsm_record.specs.Schema.{Declared}
use Rattle.wsm_semantics.specs.Query.{Query}
use Rattle.wsm_semantics.specs.Lines.{Line}
use Rattle.wsm_semantics.specs.Text.{line_text}
use Rattle.wsm_program.specs.Program.{Program}
use Rattle.wsm_lines.specs.declared.source.Source.{Source}
use Rattle.wsm_turns.specs.declared.clocks.Clocks.{Clocks}
use Rattle.wsm_turns.specs.Turns.{Kept, Setting, at_end, kept, setting_of}
use Rattle.wsm_part_programs.specs.Names.{of_names}
use Rattle.wsm_key_names.specs.Reading.{by_names}
use Rattle.wsm_named_lines.specs.Names.{names_after_lines}
use Rattle.wsm_keyed_told.specs.KeyedLines.{events_text}
use Rattle.wsm_log_text.specs.LogText.{Said, end_line, fault_text, said, said_at, turn_at}

-- a program, the source and the clocks of a log, the names that are there before the first line, and how many there may be: one that
-- comes in a line that says an event is learned as long as there are fewer
pub record KeyedLog : Type 0 where
  pub program : Program
  pub source : Source
  pub clocks : Option Clocks
  pub names : List (List ℕ)
  pub most : ℕ

-- the names once these lines came
abbrev pub names_of : KeyedLog → List (List ℕ) → List (List ℕ)
names_of g lines = names_after_lines g.most g.source g.names lines

-- ---- by some names

-- by what lines are taken
abbrev pub setting_by : Option Clocks → Program → List (List ℕ) → Setting
setting_by clocks p names = setting_of clocks (of_names p names)

-- what is declared of records
abbrev pub declared_by : KeyedLog → List (List ℕ) → Declared
declared_by g names = by_names names g.program.header.schema

-- what lines say
abbrev pub said_by : KeyedLog → List (List ℕ) → List (List ℕ) → List Said
said_by g names lines = said g.source g.clocks (declared_by g names) lines

-- and a line behind others
abbrev pub said_next : KeyedLog → List (List ℕ) → List (List ℕ) → List ℕ → Said
said_next g names before line = said_at g.source g.clocks (declared_by g names) before line

-- what is kept of them
abbrev pub kept_by : KeyedLog → List (List ℕ) → List (List ℕ) → Kept
kept_by g names lines = kept (setting_by g.clocks g.program names) (said_by g names lines)

-- ---- bytes

-- those of the turn of the line of a number, after lines of which this is kept
abbrev pub text_of_turn : Program → List (List ℕ) → Option Clocks → Kept → ℕ → Said → List ℕ
text_of_turn p names clocks k number (Err why) = fault_text number why
text_of_turn p names clocks k number (Ok x) = events_text p names k.fed (turn_at (setting_by clocks p names) k number (Ok x)).goes

-- those of the turn of a line after those before it
abbrev pub turn_text : Program → List (List ℕ) → Option Clocks → List Said → Said → List ℕ
turn_text p names clocks before x = text_of_turn p names clocks (kept (setting_by clocks p names) before) (length before + 1) x

-- those of all turns
abbrev pub turns_text : Program → List (List ℕ) → Option Clocks → List Said → List ℕ
turns_text p names clocks [] = []
turns_text p names clocks (x ∷ before) = turns_text p names clocks before ++ turn_text p names clocks before x

-- the last line
abbrev pub last_line : Program → List (List ℕ) → Option Clocks → List Said → Line
last_line p names clocks lines = end_line (of_names p names) clocks lines

-- those behind all turns: what waits goes on, and the last line
abbrev pub end_text : Program → List (List ℕ) → Option Clocks → List Said → List ℕ
end_text p names clocks lines = let k = kept (setting_by clocks p names) lines in
    events_text p names k.fed (at_end k) ++ line_text p.header.schema (last_line p names clocks lines)

-- ---- of a log, by all names that ever come

-- the query over them
abbrev pub query_behind : KeyedLog → List (List ℕ) → Query
query_behind g lines = of_names g.program (names_of g lines)

-- the bytes of the turns of these lines
abbrev pub log_turns : KeyedLog → List (List ℕ) → List ℕ
log_turns g lines = turns_text g.program (names_of g lines) g.clocks (said_by g (names_of g lines) lines)

-- and all that is written for them
abbrev pub log_text : KeyedLog → List (List ℕ) → List ℕ
log_text g lines = log_turns g lines ++ end_text g.program (names_of g lines) g.clocks (said_by g (names_of g lines) lines)
