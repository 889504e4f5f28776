-- What a run over a log writes for each line, by a source, clocks and a program.
use Rattle.std.specs.Prelude.{ℕ, List, [], ◌∷◌, ◌++◌, Option}
use Rattle.wsm_program.specs.Program.{Program}
use Rattle.wsm_machine.specs.Meaning.{query_of}
use Rattle.wsm_lines.specs.declared.source.Source.{Source}
use Rattle.wsm_turns.specs.declared.clocks.Clocks.{Clocks}
use Rattle.wsm_log_text.specs.LogText.{said, said_at, turn_text}
use Rattle.wsm_live.specs.Told.{Turn}

-- the bytes that are written for a line behind others
abbrev pub turn_by : Source → Option Clocks → Program → Turn
turn_by s clocks p before line = turn_text (query_of p) clocks (said s clocks p.header.schema before) (said_at s clocks p.header.schema before line)

-- by what lines are taken: a source, clocks, if there are any, and a program
pub record TakenBy : Type 0 where
  pub source : Source
  pub clocks : Option Clocks
  pub program : Program

abbrev pub taken_by : Source → Option Clocks → Program → TakenBy
taken_by s clocks p = record { source = s; clocks = clocks; program = p }

-- the bytes that are written for each line
abbrev pub turn_of : TakenBy → Turn
turn_of by = turn_by by.source by.clocks by.program

-- lines one behind the other
abbrev pub text_of : List (List ℕ) → List ℕ
text_of [] = []
text_of (line ∷ lines) = line ++ text_of lines
