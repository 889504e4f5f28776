-- What a value of `Lines` stands for.
use Rattle.std.specs.Prelude.{◌≡◌, ◌==◌, ◌+◌, ℕ, Bool, true, false, List, [], ◌∷◌, ◌++◌, Option, Some, None, Result, Ok, Err, MatchResult, if◌then◌else◌, ⊤}
use Rattle.std.specs.Bool.{MatchBool}
use Rattle.std.specs.Io.KnownBytes.{prepend_known}
use Rattle.wsm_log.specs.LinesOf.{AreAll, AreFirst, kept_lines_of}
use Rattle.wsm_log.specs.LineBuffer.{ahead_of, line_in, most_of}
use Rattle.wsm_log.specs.declared.lines.Lines.{Lines}
use Rattle.wsm_log.specs.declared.lines.ReadFailed.{ReadFailed}

-- the line that was read last, as it is kept
abbrev pub line_of : {R : Type 0} → Lines R → List ℕ
line_of r = line_in r.buffer

-- the most bytes that are kept of a line
abbrev pub most_kept : {R : Type 0} → Lines R → ℕ
most_kept r = most_of r.buffer

-- for how many more lines there are turns
abbrev pub turns_left : {R : Type 0} → Lines R → ℕ
turns_left r = r.left

-- what is answered from here on, where nothing more is read: the end behind a read that gave nothing, a failure behind one that failed
-- or where no turn is left
abbrev pub ending_of : {R : Type 0} → Lines R → Option (Result Bool ReadFailed)
ending_of r = if r.over then Some (Ok false) else (if r.left == 0 then Some (Err (record {})) else None)

-- the bytes that no line took: those that are held, and those that the reader has left
abbrev pub bytes_left : {R : Type 0} → (R → Option (List ℕ)) → Lines R → Option (List ℕ)
bytes_left remaining r = prepend_known (ahead_of r.buffer) (remaining r.reader)

-- these lines were read of the known bytes, and those of the rest are to come
abbrev pub HasRest : {R : Type 0} → ℕ → (R → Option (List ℕ)) → Option (List ℕ) → List (List ℕ) → Lines R → Type 0
HasRest longest remaining None lines r = ⊤
HasRest longest remaining (Some bytes) lines r = (rest : List ℕ) × (bytes_left remaining r ≡ Some rest) × (r.over ≡ true → rest ≡ [])
    × (lines ++ kept_lines_of longest rest ≡ kept_lines_of longest bytes)

-- these lines were read so far, as they are kept, of a reader that had these bytes
pub record Follows {R : Type 0} (longest : ℕ) (remaining : R → Option (List ℕ)) (known : Option (List ℕ)) (lines : List (List ℕ)) (r : Lines R) : Type 0 where
  pub most : most_kept r ≡ longest + 2
  pub rest : HasRest longest remaining known lines r

-- where a line was found it is the next one; where none was, all have been read; and a failed read ends the reading
abbrev pub Advances : {R : Type 0} → ℕ → (R → Option (List ℕ)) → Option (List ℕ) → List (List ℕ) → Lines R → Result Bool ReadFailed → Type 0
Advances longest remaining known lines new result = MatchResult result
    (λ found. MatchBool found (Follows longest remaining known (lines ++ line_of new ∷ []) new) (AreAll longest known lines))
    (λ _. AreFirst longest known lines)
