-- Lines that are handed out, each as `NUMBER,SUM,LINE`: its number among all, from 1 on, and the CRC-32 of all lines up to it and of it
-- itself, with their line feeds. Who takes line NUMBER behind NUMBER - 1 others whose sum fits has all of them, in order, once.
use Rattle.std.specs.Prelude.{ℕ, ◌+◌, ◌==◌, List, [], ◌∷◌, ◌++◌, if◌then◌else◌}
use Rattle.std.specs.Fmt.{decimal}
use Rattle.wsm_sums.specs.Crc.{sum_behind}

abbrev pub with_front : ℕ → List (List ℕ) → List (List ℕ)
with_front byte [] = (byte ∷ []) ∷ []
with_front byte (line ∷ lines) = (byte ∷ line) ∷ lines

-- the lines of a text, each with its line feed
abbrev pub lines_in : List ℕ → List (List ℕ)
lines_in [] = []
lines_in (byte ∷ text) = if byte == 10 then (byte ∷ []) ∷ lines_in text else with_front byte (lines_in text)

-- the sum of lines behind others, of which the sum is told
abbrev pub sum_over : ℕ → List (List ℕ) → ℕ
sum_over sum [] = sum
sum_over sum (line ∷ lines) = sum_over (sum_behind sum line) lines

abbrev pub numbered_line : (number sum : ℕ) → List ℕ → List ℕ
numbered_line number sum line = decimal number ++ (44 ∷ (decimal sum ++ (44 ∷ line)))

-- lines behind so many others, of which the sum is told
abbrev pub numbered : (count sum : ℕ) → List (List ℕ) → List ℕ
numbered count sum [] = []
numbered count sum (line ∷ lines) = numbered_line (count + 1) (sum_behind sum line) line ++ numbered (count + 1) (sum_behind sum line) lines
