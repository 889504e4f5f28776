-- What the calls of a folder do, as far as it is known, and what a power cut at a moment of them may leave.
use Rattle.std.specs.Prelude.{◌≡◌, ◌⊎◌, ℕ, ◌≤◌, List, [], Bool, true, Option, Some, None, option_map, Result, IsErrOf}
use Rattle.wsm_journal.specs.Folder.{Folder, Call, after, file_with, folder_with, may_leave}
use Rattle.wsm_journal.specs.declared.folder.FolderError.{FolderError}
use Rattle.wsm_journal.specs.declared.folder.FolderError.TheVariants.{Failed}

-- P holds of a folder, if it is known
abbrev pub IfKnown : Option Folder → (Folder → Type 0) → Type 0
IfKnown None P = Unit {0}
IfKnown (Some d) P = P d

-- a power cut now may leave these bytes by the journal's name
abbrev pub MayLeave : Option Folder → List ℕ → Type 0
MayLeave None left = ⊥
MayLeave (Some d) left = may_leave d left ≡ true

-- a folder as a call leaves it that went well
abbrev pub called : Call → Option Folder → Option Folder
called call folder = option_map (λ d. after d call) folder

-- a power cut may leave these bytes before a call, in it or behind it
abbrev pub MayLeaveIn : Call → Option Folder → List ℕ → Type 0
MayLeaveIn call folder left = MayLeave folder left ⊎ MayLeave (called call folder) left

-- the same but for the file that is to take the journal's name
abbrev pub without_next : Folder → Folder
without_next d = folder_with d.journal d.named (file_with [] [])

abbrev pub HasSameNames : Option Folder → Option Folder → Type 0
HasSameNames old new = option_map without_next new ≡ option_map without_next old

-- Time goes on: what a power cut since a moment might have left is what it might have left before, or what it may leave in a call.
pub record Elapses (before now : ℕ) (past since : ℕ → List ℕ → Type 0) (in_call : List ℕ → Type 0) : Type 0 where
  pub later : before ≤ now
  pub nothing_else : (t : ℕ) (left : List ℕ) → t ≤ before → since t left → past t left ⊎ in_call left
  pub keeps : (t : ℕ) (left : List ℕ) → t ≤ before → past t left → since t left

-- What a power cut at any moment since old might have left has P.
pub record LeavesSince {F : Type 0} (moment : F → ℕ) (left_since : F → ℕ → List ℕ → Type 0) (old new : F) (P : List ℕ → Type 0) : Type 0 where
  pub later : moment old ≤ moment new
  pub each : (left : List ℕ) → left_since new (moment old) left → P left
  -- for what began earlier
  pub before : (t : ℕ) (left : List ℕ) → t ≤ moment old → left_since new t left → left_since old t left ⊎ P left

-- a failure is told only where a call has failed
abbrev pub HasCause : {T : Type 0} → (has_failed : Bool) → Result T FolderError → Type 0
HasCause has_failed result = IsErrOf result Failed → has_failed ≡ true
