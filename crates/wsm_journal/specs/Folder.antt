-- A journal's file in its folder, the calls by which it is written, and what a power cut may leave of it.
use Rattle.std.specs.Prelude.{◌≡◌, ℕ, ◌&&◌, ◌||◌, nat_eq, nat_le, List, [], ◌∷◌, ◌++◌, length, Bool, true, false}
use Rattle.std.specs.List.{starts_with}

-- a file: the bytes that are surely on the disk, and those that were written behind them since
pub record File : Type 0 where
  pub synced : List ℕ
  pub unsynced : List ℕ

abbrev pub file_with : List ℕ → List ℕ → File
file_with synced unsynced = record { synced = synced; unsynced = unsynced }

-- what a read of a file gives
abbrev pub bytes_of : File → List ℕ
bytes_of f = f.synced ++ f.unsynced

-- a power cut may leave these bytes of a file: what is on the disk, and behind it any, no more than were written
abbrev pub may_be_left : File → List ℕ → Bool
may_be_left f left = starts_with nat_eq left f.synced && nat_le (length left) (length (bytes_of f))

-- a folder: the file that has the journal's name, those that had it since the folder was last synced, any of which may have
-- it on the disk, and the one that is to take the name
pub record Folder : Type 0 where
  pub journal : File
  pub named : List File
  pub next : File

abbrev pub folder_with : File → List File → File → Folder
folder_with journal named next = record { journal = journal; named = named; next = next }

-- what is asked of a folder
pub data Call : Type 0 where
  Append : (bytes : List ℕ) → Call
  Sync : Call
  CreateNext : Call
  WriteNext : (bytes : List ℕ) → Call
  SyncNext : Call
  Rename : Call
  SyncFolder : Call

abbrev pub written : List ℕ → File → File
written bytes f = file_with f.synced (f.unsynced ++ bytes)

abbrev pub on_disk : File → File
on_disk f = file_with (bytes_of f) []

-- what a call that goes well makes of a folder
abbrev pub after : Folder → Call → Folder
after d (Append bytes) = folder_with (written bytes d.journal) d.named d.next
after d Sync = folder_with (on_disk d.journal) d.named d.next
after d CreateNext = folder_with d.journal d.named (file_with [] [])
after d (WriteNext bytes) = folder_with d.journal d.named (written bytes d.next)
after d SyncNext = folder_with d.journal d.named (on_disk d.next)
after d Rename = folder_with d.next (d.journal ∷ d.named) (file_with [] [])
after d SyncFolder = folder_with d.journal [] d.next

abbrev pub after_calls : Folder → List Call → Folder
after_calls d [] = d
after_calls d (call ∷ calls) = after_calls (after d call) calls

abbrev pub is_one_left : List File → List ℕ → Bool
is_one_left [] left = false
is_one_left (f ∷ fs) left = may_be_left f left || is_one_left fs left

-- a power cut may leave these bytes by the journal's name
abbrev pub may_leave : Folder → List ℕ → Bool
may_leave d left = may_be_left d.journal left || is_one_left d.named left

-- a journal that is on the disk, with its name
abbrev pub settled : List ℕ → Folder
settled text = folder_with (file_with text []) [] (file_with [] [])

-- how more is added to a journal, and how another is put in its place
abbrev pub append_calls : List ℕ → List Call
append_calls more = Append more ∷ Sync ∷ []

abbrev pub replace_calls : List ℕ → List Call
replace_calls text = CreateNext ∷ WriteNext text ∷ SyncNext ∷ Rename ∷ SyncFolder ∷ []

-- before the calls, between any two and behind them
abbrev pub EachMoment : (Folder → Type 0) → Folder → List Call → Type 0
EachMoment P d [] = P d
EachMoment P d (call ∷ calls) = P d × EachMoment P (after d call) calls

-- a power cut leaves only such bytes
abbrev pub LeavesOnly : (List ℕ → Type 0) → Folder → Type 0
LeavesOnly P d = (left : List ℕ) → may_leave d left ≡ true → P left
