-- A log, a journal, the process that reads the one and keeps the other, a pipe, and a table: what is seen of each, and what a power
-- cut may leave of it.
use Rattle.std.specs.Prelude.{ℕ, ◌+◌, List, [], ◌∷◌, ◌++◌, length, take, drop, Bool, false, if◌then◌else◌, nat_le}
use Rattle.wsm_protocol.specs.Runs.{Run, Text}

-- a line on its way, with its number, from 1
pub record Item : Type 0 where
  pub number : ℕ
  pub line : Text

-- lines with their numbers, behind so many
abbrev pub numbered : ℕ → List Text → List Item
numbered n [] = []
numbered n (line ∷ lines) = record { number = n + 1; line = line } ∷ numbered (n + 1) lines

-- what a journal says: a head, how many rows it stands for, how many lines these came to, and chunks of rows behind it
pub record Journal : Type 0 where
  pub head : List Text
  pub rows : ℕ
  pub lines : ℕ
  pub chunks : List (List Text)

abbrev pub all_rows : List (List Text) → List Text
all_rows [] = []
all_rows (chunk ∷ chunks) = chunk ++ all_rows chunks

-- the place in the log behind a journal's rows
abbrev pub reached : Journal → ℕ
reached j = j.rows + length (all_rows j.chunks)

-- the lines behind a journal's head, and how many all its rows came to
abbrev pub lines_behind : Run → Journal → List Text
lines_behind r j = r.resumed j.head (all_rows j.chunks)

abbrev pub count : Run → Journal → ℕ
count r j = j.lines + length (lines_behind r j)

-- a journal with a chunk more, and the lines of that chunk
abbrev pub with_chunk : Journal → List Text → Journal
with_chunk j rows = record { head = j.head; rows = j.rows; lines = j.lines; chunks = j.chunks ++ rows ∷ [] }

abbrev pub lines_of_chunk : Run → Journal → List Text → List Text
lines_of_chunk r j rows = drop (length (lines_behind r j)) (lines_behind r (with_chunk j rows))

-- a journal whose first chunks are cut, where all of their lines were taken
abbrev pub cut_front : Run → ℕ → Journal → Journal
cut_front r n j =
    let front = all_rows (take n j.chunks) in
    record { head = r.cut j.head front; rows = j.rows + length front; lines = j.lines + length (r.resumed j.head front); chunks = drop n j.chunks }

abbrev pub cut_where_taken : Run → ℕ → ℕ → Journal → Journal
cut_where_taken r taken n j = if nat_le (cut_front r n j).lines taken then cut_front r n j else j

-- The process: down; with another journal written beside the one that is there, and synced; with that one renamed, and its folder not
-- synced; with all of the journal on the disk; with a chunk behind it that isn't synced. Each but the first with the lines that are to be
-- handed out.
pub data Live : Type 0 where
  Down : Live
  Opening : (next : Journal) → (out : List Item) → Live
  Renamed : (out : List Item) → Live
  Ready : (out : List Item) → Live
  Appended : (out : List Item) → Live

pub record World : Type 0 where
  pub synced : List Text  -- the log's rows that are surely on the disk
  pub unsynced : List Text  -- those behind them
  pub seen : Journal  -- what a read of the journal gives
  pub others : List Journal  -- what else a power cut may leave by its name
  pub live : Live
  pub pipe : List Item  -- handed out, and not read
  pub is_read : Bool  -- whether the sink of the last pipe is there
  pub table : List Text  -- the lines that the sink took
  pub settled : ℕ  -- how many of them are surely on the disk
  pub taken : ℕ  -- how many it told

abbrev pub log_of : World → List Text
log_of w = w.synced ++ w.unsynced

abbrev pub nothing_kept : Journal
nothing_kept = record { head = []; rows = 0; lines = 0; chunks = [] }

-- before the first row
abbrev pub first_world : World
first_world = record { synced = []; unsynced = []; seen = nothing_kept; others = []; live = Down; pipe = []; is_read = false; table = []; settled = 0; taken = 0 }
