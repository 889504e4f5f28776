-- The logs of a folder that only grows and is rotated by renaming, each with all the bytes that ever come to it.
use Rattle.std.specs.Prelude.{◌≡◌, ℕ, ◌+◌, ◌==◌, ◌&&◌, not, List, [], ◌∷◌, ◌++◌, drop, length, map, Bool, true, if◌then◌else◌, Option, Some, None, option_and_then}
use Rattle.std.specs.List.{list_all}
use Rattle.wsm_follow.specs.Ended.{ended_lines}
use Rattle.wsm_follow.specs.Names.{Listing}
use Rattle.wsm_follow.specs.declared.file.FileId.{FileId}

pub record Log : Type 0 where
  pub file : FileId
  pub bytes : List ℕ

abbrev pub is_same : FileId → FileId → Bool
is_same a b = (a.device == b.device) && (a.inode == b.inode)

-- all the bytes of a file, where it is one of the logs
abbrev pub bytes_in : FileId → List Log → Option (List ℕ)
bytes_in file [] = None
bytes_in file (log ∷ logs) = if is_same log.file file then Some log.bytes else bytes_in file logs

-- the same where the logs are known
abbrev pub bytes_of : FileId → Option (List Log) → Option (List ℕ)
bytes_of file logs = option_and_then (bytes_in file) logs

-- the lines of logs that came one behind the other: of each those that have ended
abbrev pub lines_of_logs : List Log → List (List ℕ)
lines_of_logs [] = []
lines_of_logs (log ∷ logs) = ended_lines log.bytes ++ lines_of_logs logs

-- the lines behind so many bytes of a log
abbrev pub lines_behind : FileId → ℕ → List Log → List (List ℕ)
lines_behind file offset [] = []
lines_behind file offset (log ∷ logs) = if is_same log.file file then ended_lines (drop offset log.bytes) ++ lines_of_logs logs else lines_behind file offset logs

-- the file that stands behind this one, if both are there
abbrev pub next_in : FileId → List FileId → Option FileId
next_in file [] = None
next_in file (f ∷ []) = None
next_in file (f ∷ g ∷ fs) = if is_same f file then Some g else next_in file (g ∷ fs)

-- no file is two of the logs
abbrev pub are_distinct : List FileId → Bool
are_distinct [] = true
are_distinct (f ∷ fs) = list_all (λ g. not (is_same f g)) fs && are_distinct fs

abbrev pub files_of : List Log → List FileId
files_of logs = map (λ l. l.file) logs

-- of files in their order one that stands behind another is the log that came next
pub record AreInTurn (logs : List Log) (files : List Listing) : Type 0 where
  pub next : (file behind : FileId) → next_in file (map (λ f. f.file) files) ≡ Some behind → next_in file (files_of logs) ≡ Some behind
  pub distinct : are_distinct (files_of logs) ≡ true

-- a file is one of the logs
abbrev pub IsAmong : FileId → List Log → Type 0
IsAmong file logs = (bytes : List ℕ) × (bytes_in file logs ≡ Some bytes)

-- a text stands at a place of some bytes
abbrev pub StandsAt : List ℕ → ℕ → List ℕ → Type 0
StandsAt bytes offset text = drop offset bytes ≡ text ++ drop (offset + length text) bytes
