-- What it is to follow logs: each line once, in order.
use Rattle.std.specs.Prelude.{◌≡◌, ℕ, List, [], ◌∷◌, ◌++◌}
use Rattle.wsm_follow.specs.Ended.{ended_lines, kept_lines}
use Rattle.wsm_follow.specs.Logs.{Log, lines_behind}
use Rattle.wsm_follow.specs.declared.file.FileId.{FileId}

-- how far logs were read
pub record Stand : Type 0 where
  pub file : FileId
  pub offset : ℕ

abbrev pub stand : FileId → ℕ → Stand
stand file offset = record { file = file; offset = offset }

-- the lines behind it, as they are kept
abbrev pub lines_at : ℕ → List Log → Stand → List (List ℕ)
lines_at longest logs s = kept_lines longest (lines_behind s.file s.offset logs)

-- a text has the lines from one place to another: the next ones, each once, in order
abbrev pub GoesOn : ℕ → List Log → Stand → List ℕ → Stand → Type 0
GoesOn longest logs from text to = kept_lines longest (ended_lines text) ++ lines_at longest logs to ≡ lines_at longest logs from

-- the lines of texts
abbrev pub lines_in : ℕ → List (List ℕ) → List (List ℕ)
lines_in longest [] = []
lines_in longest (text ∷ texts) = kept_lines longest (ended_lines text) ++ lines_in longest texts

-- these texts were given, one behind the other, each from where the one before it ended
abbrev pub Follows : ℕ → List Log → Stand → List (List ℕ) → Stand → Type 0
Follows longest logs from [] to = from ≡ to
Follows longest logs from (text ∷ texts) to = (next : Stand) × (GoesOn longest logs from text next × Follows longest logs next texts to)
