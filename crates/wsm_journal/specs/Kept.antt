-- What a journal's file in its folder stands for.
use Rattle.std.specs.Prelude.{◌≡◌, ◌⊎◌, ℕ, ◌+◌, Bool, true, false, List, [], Option, Some, None, option_map}
use Rattle.wsm_journal.specs.Text.{Entry, AreRecords, journal_text, last_number}
use Rattle.wsm_journal.specs.Reading.{read_journal}
use Rattle.wsm_journal.specs.Laws.{IsBeforeOrAfter}
use Rattle.wsm_journal.specs.Folder.{File, Folder, Append, Sync, bytes_of, file_with, folder_with}
use Rattle.wsm_journal.specs.Calls.{IfKnown, MayLeave, MayLeaveIn, called}
use Rattle.wsm_journal.specs.declared.folder.FolderError.{FolderError}
use Rattle.wsm_journal.specs.declared.folder.FolderError.TheVariants.{Failed as FolderFailed, Memory as FolderMemory}
use Rattle.wsm_journal.specs.declared.journal_file.JournalError.{JournalError}
use Rattle.wsm_journal.specs.declared.journal_file.JournalError.TheVariants.{Failed, Memory}
use Rattle.wsm_journal.specs.declared.journal_file.ReplaceError.{ReplaceError}
use Rattle.wsm_journal.specs.declared.journal_file.ReplaceError.TheVariants.{Kept, Either}
use Rattle.wsm_journal.specs.declared.journal_file.JournalFile.{JournalFile}

-- the records that a folder's journal is read as
abbrev pub records_in : Folder → List Entry
records_in d = (read_journal (bytes_of d.journal)).entries

-- the journal is the text of its records, all of it on the disk, and nothing else may have its name there
pub record IsSettled (d : Folder) : Type 0 where
  pub records : AreRecords None (records_in d)
  pub journal : d.journal ≡ file_with (journal_text (records_in d)) []
  pub named : d.named ≡ []

-- its last record has this number
abbrev pub IsSettledAt : Option ℕ → Folder → Type 0
IsSettledAt last d = IsSettled d × (last ≡ last_number None (records_in d))

-- the file that is to take the journal's name is this one
abbrev pub with_next : File → Folder → Folder
with_next next d = folder_with d.journal d.named next

-- what a power cut may leave while bytes are added and synced
abbrev pub MayLeaveSynced : List ℕ → Option Folder → List ℕ → Type 0
MayLeaveSynced bytes folder left = MayLeaveIn (Append bytes) folder left ⊎ MayLeave (called Sync (called (Append bytes) folder)) left

-- what a call that failed is told as
abbrev pub error_of : FolderError → JournalError
error_of FolderMemory = Memory
error_of FolderFailed = Failed

abbrev pub cause_of : ReplaceError → FolderError
cause_of (Kept e) = e
cause_of (Either e) = e

-- the journal is as it was
abbrev pub is_kept : ReplaceError → Bool
is_kept (Kept e) = true
is_kept (Either e) = false

-- a failure is told only where a call has failed
abbrev pub IsCaused : Bool → ReplaceError → Type 0
IsCaused has_failed e = cause_of e ≡ FolderFailed → has_failed ≡ true

-- the number of the record behind one
abbrev pub next_number : Option ℕ → ℕ
next_number None = 0
next_number (Some last) = last + 1

abbrev pub entry_behind : Option ℕ → ℕ → List ℕ → List ℕ → Entry
entry_behind last lines rows position = record { number = next_number last; lines = lines; rows = rows; position = position }

-- with such a record more, or without it
abbrev pub HasOneMore : Option Folder → Entry → List ℕ → Type 0
HasOneMore folder more left = IfKnown folder (λ d. IsBeforeOrAfter (records_in d) more left)

-- what might have been left before, or the text of these records
abbrev pub IsLeftOr : Option Folder → List Entry → List ℕ → Type 0
IsLeftOr folder entries left = MayLeave folder left ⊎ (left ≡ journal_text entries)

-- what might have been left before, or the text of the records that are read now
abbrev pub IsLeftOrRead : Option Folder → List ℕ → Type 0
IsLeftOrRead folder left = MayLeave folder left ⊎ IfKnown folder (λ d. left ≡ journal_text (records_in d))

module _ {F : Type 0} (folder : F → Option Folder) where
  -- its records, if they are known
  abbrev pub records_of : JournalFile F → Option (List Entry)
  records_of j = option_map records_in (folder j.folder)

  -- it is settled, and its last number is that of the last record
  abbrev pub IsOpen : JournalFile F → Type 0
  IsOpen j = IfKnown (folder j.folder) (IsSettledAt j.last)

abbrev pub folder_of : {F : Type 0} → JournalFile F → F
folder_of j = j.folder

abbrev pub last_of : {F : Type 0} → JournalFile F → Option ℕ
last_of j = j.last
