-- What is taken of the lines that a source writes.
--     from,POSITION
--     :LINE
--     at,LINES,POSITION
-- The first one has the last position that was taken. Each `at` says how many lines of a log came since the last one, and where the
-- source stands behind them: these lines are taken with that position. Lines without an `at` behind them aren't.
use Rattle.std.specs.Prelude.{◌+◌, ◌==◌, ◌||◌, not, ℕ, nat_eq, nat_le, List, [], ◌∷◌, ◌++◌, length, drop, Bool, Option, Some, None, if◌then◌else◌, codes, bytes_eq}
use Rattle.std.specs.List.{starts_with}
use Rattle.wsm_journal.specs.Text.{is_mark, is_position}
use Rattle.wsm_journal.specs.Reading.{number_of}
use Rattle.wsm_fed.specs.declared.fault.Broken.{Broken}
use Rattle.wsm_fed.specs.declared.fault.Broken.TheVariants as broken
use Rattle.wsm_fed.specs.declared.fault.FedFault.{FedFault}
use Rattle.wsm_fed.specs.declared.fault.FedFault.TheVariants as fault

-- where the taking of lines stands
pub record Stand : Type 0 where
  -- how many lines of the source were read
  pub heard : ℕ
  -- the last position that was taken
  pub position : List ℕ
  -- the lines since then, each with its line feed, and how many they are
  pub text : List ℕ
  pub count : ℕ

-- lines that are taken, and the position behind them
pub record Chunk : Type 0 where
  pub text : List ℕ
  pub position : List ℕ

-- ---- what a line says

abbrev pub from_said : List ℕ → Option (List ℕ)
from_said line = if starts_with nat_eq line (codes "from,") then Some (drop 5 line) else None

abbrev pub line_said : List ℕ → Option (List ℕ)
line_said line = if starts_with nat_eq line (codes ":") then Some (drop 1 line) else None

abbrev pub at_said : List ℕ → Option (ℕ × List ℕ)
at_said line = if is_mark line then number_of (drop 3 line) else None

-- ---- what a line does

pub data Step : Type 0 where
  Goes : (next : Stand) → Step
  Takes : (chunk : Chunk) → (next : Stand) → Step
  Breaks : (why : FedFault) → Step

-- behind one line more
abbrev pub stand : (heard : ℕ) → (position text : List ℕ) → (count : ℕ) → Stand
stand heard position text count = record { heard = heard; position = position; text = text; count = count }

abbrev pub heard : Stand → Stand
heard s = stand (s.heard + 1) s.position s.text s.count

abbrev pub with_line : Stand → List ℕ → Stand
with_line s line = stand (s.heard + 1) s.position (s.text ++ (line ++ 10 ∷ [])) (s.count + 1)

abbrev pub behind : Stand → List ℕ → Stand
behind s position = stand (s.heard + 1) position [] 0

abbrev pub chunk_with : (text position : List ℕ) → Chunk
chunk_with text position = record { text = text; position = position }

-- the next line breaks the protocol
abbrev pub breaks : Stand → Broken → Step
breaks s why = Breaks (fault.Line (s.heard + 1) why)

-- 16 MiB of lines without an `at` are held, and no more
abbrev pub has_room : Stand → Bool
has_room s = nat_le (length s.text) 16777216

abbrev pub first_step : Stand → Option (List ℕ) → Step
first_step s None = breaks s broken.NoFrom
first_step s (Some position) = if bytes_eq position s.position then Goes (heard s) else Breaks fault.Other

abbrev pub line_step : Stand → List ℕ → Step
line_step s line = if has_room s then Goes (with_line s line) else breaks s broken.Large

-- no line and no other position: there is nothing to take
abbrev pub is_news : Stand → List ℕ → Bool
is_news s position = not (s.count == 0) || not (bytes_eq position s.position)

abbrev pub position_step : Stand → List ℕ → Step
position_step s position =
    if is_position position then (if is_news s position then Takes (chunk_with s.text position) (behind s position) else Goes (heard s)) else breaks s broken.Position

abbrev pub at_step : Stand → Option (ℕ × List ℕ) → Step
at_step s None = breaks s broken.NoLine
at_step s (Some at) = if at.0 == s.count then position_step s at.1 else breaks s (broken.Lines at.0 s.count)

abbrev pub later_step : Stand → List ℕ → Option (List ℕ) → Step
later_step s line None = at_step s (at_said line)
later_step s line (Some text) = line_step s text

abbrev pub step : Stand → List ℕ → Step
step s line = if s.heard == 0 then first_step s (from_said line) else later_step s line (line_said line)

-- ---- what is taken

-- the chunks, up to the first line that breaks the protocol, if one does
pub record Came : Type 0 where
  pub chunks : List Chunk
  pub fault : Option FedFault

abbrev pub nothing_more : Option FedFault → Came
nothing_more fault = record { chunks = []; fault = fault }

abbrev pub with_chunk : Chunk → Came → Came
with_chunk chunk came = record { chunks = chunk ∷ came.chunks; fault = came.fault }

-- of a step and what comes of all behind it
abbrev pub came_by : Step → (Stand → Came) → Came
came_by (Goes next) more = more next
came_by (Takes chunk next) more = with_chunk chunk (more next)
came_by (Breaks why) more = nothing_more (Some why)

unfoldable pub came_from : Stand → List (List ℕ) → Came
came_from s [] = nothing_more None
came_from s (line ∷ lines) = came_by (step s line) (λ next. came_from next lines)

-- before the first line, where this is the last position that was taken
abbrev pub at_first : List ℕ → Stand
at_first position = stand 0 position [] 0
