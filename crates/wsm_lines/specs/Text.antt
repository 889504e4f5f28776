-- The text of a line.
use Rattle.std.specs.Prelude.{ℕ, ◌==◌, ◌+◌, ◌-◌, List, [], ◌∷◌, take, drop, length, nat_lt, Bool, true, false, if◌then◌else◌, Result, Ok, Err, bytes_eq, slice_index}
use Rattle.std.specs.Str.{is_utf8}
use Rattle.wsm_lines.specs.declared.fault.LineFault.{LineFault}
use Rattle.wsm_lines.specs.declared.fault.LineFault.TheVariants.{TooLong, NotUtf8}

-- a line without one carriage return at its end
abbrev pub bare : List ℕ → List ℕ
bare line = if slice_index line (length line - 1) == 13 then take (length line - 1) line else line

abbrev pub byte_order_mark : List ℕ
byte_order_mark = 239 ∷ 187 ∷ 191 ∷ []

-- a line without the byte order mark that may stand in front of a log's first
abbrev pub unmarked : Bool → List ℕ → List ℕ
unmarked false line = line
unmarked true line = if bytes_eq (take 3 line) byte_order_mark then drop 3 line else line

abbrev pub utf8_in : List ℕ → Result (List ℕ) LineFault
utf8_in text = if is_utf8 text then Ok text else Err NotUtf8

-- the text of a line, which may be the first: it isn't too long, with its byte order mark, and is UTF-8
abbrev pub text_in : Bool → ℕ → List ℕ → Result (List ℕ) LineFault
text_in first longest line = if nat_lt longest (length line) then Err TooLong else utf8_in (unmarked first line)

-- what has to be kept of a line: of one that is too long so much that this shows, also where it ends in a
-- carriage return
abbrev pub kept : ℕ → List ℕ → List ℕ
kept longest line = take (longest + 2) line
