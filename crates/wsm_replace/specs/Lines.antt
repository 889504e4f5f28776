-- What whole lines of a reader have read and not handed on. This project's own rule.
use Rattle.std.specs.Prelude.{◌≡◌, ◌⊎◌, ◌+◌, ◌<◌, ℕ, List, [], drop, length, Option}
use Rattle.std.specs.Io.KnownBytes.{IsAtEnd, prepend_known}
use Rattle.wsm_replace.specs.declared.lines.WholeLines.{WholeLines}

abbrev pub input_of : {I : Type 0} → WholeLines I → I
input_of w = w.input

-- the bytes of lines that were read and not handed on
abbrev pub lines_left : {I : Type 0} → WholeLines I → List ℕ
lines_left w = drop w.given w.lines.items

-- the bytes behind the lines: of the one that was begun, and those that the reader still has
abbrev pub behind : {I : Type 0} → (I → Option (List ℕ)) → WholeLines I → Option (List ℕ)
behind remaining w = prepend_known w.begun.items (remaining w.input)

-- the bytes that weren't handed on
abbrev pub unread : {I : Type 0} → (I → Option (List ℕ)) → WholeLines I → Option (List ℕ)
unread remaining w = prepend_known (lines_left w) (behind remaining w)

-- no lines were read
pub record HasNone {I : Type 0} (w : WholeLines I) : Type 0 where
  pub lines : w.lines.items ≡ []
  pub given : w.given ≡ 0

-- how many bytes may still be handed on as lines: of those that were read, and those that may still be read for lines
abbrev pub room : {I : Type 0} → WholeLines I → ℕ
room w = length (lines_left w) + length w.begun.items + w.left

-- what may still be read has a place to be read to
abbrev pub CanRead : {I : Type 0} → WholeLines I → Type 0
CanRead w = 0 < w.left → 0 < length w.chunk.items

-- no line can come any more: so many bytes as may be were read, or all
abbrev pub IsSpent : {I : Type 0} → (I → Option (List ℕ)) → WholeLines I → Type 0
IsSpent remaining w = (w.left ≡ 0) ⊎ IsAtEnd (remaining w.input)
