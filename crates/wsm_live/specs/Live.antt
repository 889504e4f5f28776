-- What a run over a growing log has come to, and what its journal says.
use Rattle.std.specs.Prelude.{◌≡◌, ◌⊎◌, ◌&&◌, ℕ, Bool, List, [], ◌∷◌, ◌++◌, length, Option, option_map, true, false}
use Rattle.wsm_numbered.specs.Numbered.{sum_over}
use Rattle.wsm_numbered.specs.Seen.{count_of, sum_in}
use Rattle.wsm_follow.specs.Ended.{ended_lines}
use Rattle.wsm_journal.specs.Text.{Entry, are_rows, is_position, journal_text}
use Rattle.wsm_journal.specs.Folder.{Folder}
use Rattle.wsm_journal.specs.Calls.{IfKnown, MayLeave}
use Rattle.wsm_journal.specs.Laws.{IsBeforeOrAfter}
use Rattle.wsm_journal.specs.declared.journal_file.JournalFile.{JournalFile}
use Rattle.wsm_journal.specs.declared.journal_file.JournalError.{JournalError}
use Rattle.wsm_journal.specs.declared.journal_file.JournalError.TheVariants as journal
use Rattle.wsm_journal.specs.Kept.{HasOneMore, IsLeftOrRead, entry_behind, records_in}
use Rattle.wsm_live.specs.Kept.{read_lines, rows_of}
use Rattle.wsm_live.specs.Told.{Turn, handed_out, told, with_lines}
use Rattle.wsm_live.specs.Head.{StandsFor, behind_row, cut_row, is_headed, is_readable, name_in, own_row}
use Rattle.wsm_live.specs.declared.run.LiveRun.{LiveRun}
use Rattle.wsm_live.specs.declared.live.Front.{Front}
use Rattle.wsm_live.specs.declared.live.Live.{Live}
use Rattle.wsm_live.specs.declared.live.LiveError.{LiveError}
use Rattle.wsm_live.specs.declared.live.LiveError.TheVariants.{Damaged, Failed, Full, Memory}

-- ---- what a journal says

-- the lines of chunks, as they are read
abbrev pub chunk_lines : ℕ → List Entry → List (List ℕ)
chunk_lines longest [] = []
chunk_lines longest (chunk ∷ chunks) = read_lines longest chunk.rows ++ chunk_lines longest chunks

-- the lines behind the head
abbrev pub lines_behind : ℕ → List Entry → List (List ℕ)
lines_behind longest [] = []
lines_behind longest (head ∷ chunks) = chunk_lines longest chunks

abbrev pub head_entry : List ℕ → List ℕ → Entry
head_entry rows position = record { number = 0; lines = 0; rows = rows; position = position }

-- a journal without a record is begun with a head
abbrev pub begun : List ℕ → List ℕ → List Entry → List Entry
begun head position [] = head_entry head position ∷ []
begun head position (e ∷ es) = e ∷ es

-- the position of the last record, or what was the last before
abbrev pub last_position : List ℕ → List Entry → List ℕ
last_position position [] = position
last_position position (e ∷ es) = last_position e.position es

-- its first record, if it has one, begins as a head with this row, whatever name that has
abbrev pub IsHeaded : List ℕ → List Entry → Type 0
IsHeaded head [] = Unit {0}
IsHeaded head (e ∷ es) = is_headed head e.rows ≡ true

-- what stands behind its head's row, if it has a record
abbrev pub behind_head : List ℕ → List Entry → List ℕ
behind_head head [] = []
behind_head head (e ∷ es) = behind_row head e.rows

-- the row that its head begins with, with the name that it has
abbrev pub row_of : List ℕ → List Entry → List ℕ
row_of head [] = head
row_of head (e ∷ es) = own_row head e.rows

-- the name that its head has
abbrev pub name_of : List Entry → List ℕ
name_of [] = []
name_of (e ∷ es) = name_in e.rows

-- ---- what a run has come to

abbrev pub longest_of : {T : Type 0} → LiveRun T → ℕ
longest_of r = r.longest

abbrev pub taker_of : {T : Type 0} → LiveRun T → T
taker_of r = r.taker

-- its lines were these, the newest first, and what was written for them is numbered
pub record IsBehind {T B : Type 0} (turn : B → Turn) (stands : T → B → List (List ℕ) → Type 0) (r : LiveRun T) (by : B) (before : List (List ℕ)) : Type 0 where
  pub taken : stands r.taker by before
  pub count : count_of r.numbering ≡ length (told (turn by) before)
  pub sum : sum_in r.numbering ≡ sum_over 0 (told (turn by) before)

-- lines were taken behind others, and what is handed out for them stands behind a text
pub record Takes {T B : Type 0} (turn : B → Turn) (stands : T → B → List (List ℕ) → Type 0) (by : B) (before lines : List (List ℕ)) (r : LiveRun T) (old new : List ℕ) : Type 0 where
  pub behind : IsBehind turn stands r by (with_lines before lines)
  pub out : new ≡ old ++ handed_out (turn by) before lines

-- the same, whatever came before
abbrev pub Took : {T B : Type 0} → (B → Turn) → (T → B → List (List ℕ) → Type 0) → List (List ℕ) → LiveRun T → LiveRun T → List ℕ → List ℕ → Type 0
Took {B = B} turn stands lines old new from to = (by : B) (before : List (List ℕ)) → IsBehind turn stands old by before → Takes turn stands by before lines new from to

-- behind some bytes stands a row that says what a run has come to
pub record AddsCut {T B : Type 0} (turn : B → Turn) (stands : T → B → List (List ℕ) → Type 0) (states : List ℕ → B → List (List ℕ) → Type 0) (r : LiveRun T) (old new : List ℕ) : Type 0 where
  pub text : List ℕ
  pub row : new ≡ old ++ cut_row (count_of r.numbering) (sum_in r.numbering) text
  pub says : (by : B) (before : List (List ℕ)) → IsBehind turn stands r by before → StandsFor turn states by before (cut_row (count_of r.numbering) (sum_in r.numbering) text)

-- a run stands for the same lines
abbrev pub IsStill : {T B : Type 0} → (B → Turn) → (T → B → List (List ℕ) → Type 0) → LiveRun T → LiveRun T → Type 0
IsStill {B = B} turn stands old new = (by : B) (before : List (List ℕ)) → IsBehind turn stands old by before → IsBehind turn stands new by before

-- ---- both

abbrev pub journal_of : {F T : Type 0} → Live F T → JournalFile F
journal_of l = l.journal

abbrev pub run_of : {F T : Type 0} → Live F T → LiveRun T
run_of l = l.run

abbrev pub position_of : {F T : Type 0} → Live F T → List ℕ
position_of l = l.position.items

abbrev pub name_kept : {F T : Type 0} → Live F T → List ℕ
name_kept l = l.name.items

abbrev pub head_kept : {F T : Type 0} → Live F T → List ℕ
head_kept l = l.head.items

abbrev pub front_of : {F T : Type 0} → Live F T → Front
front_of l = l.front

-- so many lines were handed out for these, and that is their sum
pub record Counts {B : Type 0} (turn : B → Turn) (by : B) (before : List (List ℕ)) (front : Front) : Type 0 where
  pub count : front.count ≡ length (told (turn by) before)
  pub sum : front.sum ≡ sum_over 0 (told (turn by) before)

-- the rows of a text's lines
abbrev pub rows_of_text : List ℕ → List ℕ
rows_of_text text = rows_of (ended_lines text)

-- why a journal wasn't opened, or a record not added
abbrev pub error_of : JournalError → LiveError
error_of journal.Memory = Memory
error_of journal.Failed = Failed
error_of journal.Full = Full
error_of journal.Damaged = Damaged

-- of a journal that was read as these records: it is as it was, or was begun
abbrev pub IsBegun : List Entry → Option ℕ → List ℕ → List ℕ → Option (List Entry) → Option (List Entry) → Type 0
IsBegun [] last head position old new = new ≡ option_map (λ es. es ++ entry_behind last 0 head position ∷ []) old
IsBegun (e ∷ es) last head position old new = new ≡ old

-- what a power cut may leave while such a journal is begun, if it has no record: what it might have left before, or a head or a part of it
abbrev pub IsLeftBegun : Option Folder → List Entry → Option ℕ → List ℕ → List ℕ → List ℕ → Type 0
IsLeftBegun folder es last head position left = MayLeave folder left ⊎ ((es ≡ []) × HasOneMore folder (entry_behind last 0 head position) left)

-- what it may leave while a journal is opened: also the records that are read now
abbrev pub IsLeftOpened : Option Folder → List ℕ → List ℕ → List ℕ → Type 0
IsLeftOpened folder head position left = IsLeftOrRead folder left ⊎ IfKnown folder (λ d. (records_in d ≡ []) × IsBeforeOrAfter [] (head_entry head position) left)

-- a run that took no line goes on behind those that the head of such a journal stands for, which is of this run and can be read
pub record Resumed {T B : Type 0} (turn : B → Turn) (stands : T → B → List (List ℕ) → Type 0) (states : List ℕ → B → List (List ℕ) → Type 0) (head : List ℕ) (es : List Entry) (old new : LiveRun T) : Type 0 where
  pub behind : (by : B) (before : List (List ℕ)) → IsBehind turn stands old by [] → StandsFor turn states by before (behind_head head es) → IsBehind turn stands new by before
  pub longest : new.longest ≡ old.longest
  pub headed : IsHeaded head es
  pub readable : is_readable (behind_head head es) ≡ true

-- all lines behind the head of such a journal were taken, and its name and position are known
pub record GoneOn {F T B : Type 0} (turn : B → Turn) (stands : T → B → List (List ℕ) → Type 0) (head begin : List ℕ) (es : List Entry) (run : LiveRun T) (live : Live F T) (from to : List ℕ) : Type 0 where
  pub took : Took turn stands (lines_behind run.longest es) run live.run from to
  pub longest : live.run.longest ≡ run.longest
  pub row : live.head.items ≡ row_of head es
  pub name : live.name.items ≡ name_of (begun head begin es)
  pub position : live.position.items ≡ last_position [] (begun head begin es)

-- All lines behind the head of a journal that was read as these records were taken, behind those that the head stands for, and it is
-- known how many were handed out for those. It is of this run, and its name and position are known.
pub record Opened {F T B : Type 0} (turn : B → Turn) (stands : T → B → List (List ℕ) → Type 0) (states : List ℕ → B → List (List ℕ) → Type 0) (head begin : List ℕ) (es : List Entry) (run : LiveRun T) (live : Live F T) (from to : List ℕ) : Type 0 where
  pub took : (by : B) (before : List (List ℕ)) → IsBehind turn stands run by [] → StandsFor turn states by before (behind_head head es) → Takes turn stands by before (lines_behind run.longest es) live.run from to
  pub front : (by : B) (before : List (List ℕ)) → IsBehind turn stands run by [] → StandsFor turn states by before (behind_head head es) → Counts turn by before live.front
  pub longest : live.run.longest ≡ run.longest
  pub headed : IsHeaded head es
  pub readable : is_readable (behind_head head es) ≡ true
  pub row : live.head.items ≡ row_of head es
  pub name : live.name.items ≡ name_of (begun head begin es)
  pub position : live.position.items ≡ last_position [] (begun head begin es)

-- ---- cuts

-- a head that says what a run has come to, at the position of the last record
abbrev pub cut_entry : {F T : Type 0} → Live F T → List ℕ → Entry
cut_entry l text = head_entry (l.head.items ++ cut_row (count_of l.run.numbering) (sum_in l.run.numbering) text) l.position.items

-- this is such a head, and what stands behind its row stands for the lines that the run took
pub record IsHeadOf {F T B : Type 0} (turn : B → Turn) (stands : T → B → List (List ℕ) → Type 0) (states : List ℕ → B → List (List ℕ) → Type 0) (l : Live F T) (e : Entry) : Type 0 where
  pub text : List ℕ
  pub entry : e ≡ cut_entry l text
  pub says : (by : B) (before : List (List ℕ)) → IsBehind turn stands l.run by before → StandsFor turn states by before (behind_row l.head.items e.rows)

-- a journal can have a head of these rows at this position
abbrev pub can_be_head : List ℕ → List ℕ → Bool
can_be_head rows position = are_rows rows && is_position position

-- it can't have such a head
pub record IsUnfit {F T B : Type 0} (turn : B → Turn) (stands : T → B → List (List ℕ) → Type 0) (states : List ℕ → B → List (List ℕ) → Type 0) (l : Live F T) : Type 0 where
  pub head : Entry
  pub is_head : IsHeadOf turn stands states l head
  pub unfit : can_be_head head.rows head.position ≡ false

-- such a head was put in the place of all records
pub record IsCut {F T B : Type 0} (turn : B → Turn) (stands : T → B → List (List ℕ) → Type 0) (states : List ℕ → B → List (List ℕ) → Type 0) (l : Live F T) (old new : Option (List Entry)) : Type 0 where
  pub head : Entry
  pub is_head : IsHeadOf turn stands states l head
  pub records : new ≡ option_map (λ _. head ∷ []) old

-- the text of such a head
pub record IsHeadText {F T B : Type 0} (turn : B → Turn) (stands : T → B → List (List ℕ) → Type 0) (states : List ℕ → B → List (List ℕ) → Type 0) (l : Live F T) (left : List ℕ) : Type 0 where
  pub head : Entry
  pub is_head : IsHeadOf turn stands states l head
  pub text : left ≡ journal_text (head ∷ [])

-- what might have been left before, or such a text
abbrev pub IsLeftOrCut : {F T B : Type 0} → (B → Turn) → (T → B → List (List ℕ) → Type 0) → (List ℕ → B → List (List ℕ) → Type 0) → Live F T → Option Folder → List ℕ → Type 0
IsLeftOrCut turn stands states l folder left = MayLeave folder left ⊎ IsHeadText turn stands states l left
