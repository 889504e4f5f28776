-- What is handed out for lines, in pieces.
use Rattle.std.proofs.Common.{◌≡◌, ◌∙◌, ◌+◌, ℕ, List, [], ◌∷◌, ◌++◌, length, refl, sym, ap, append_assoc, append-nil}
use Rattle.std.proofs.Math.ListN.{length-append}
use Rattle.wsm_numbered.specs.Numbered.{lines_in, numbered, sum_over}
use Rattle.wsm_numbered.proofs.Lines.{numbered_append, sum_over-append}
use Rattle.wsm_live.specs.Told.{Turn, handed_out, told, told_for, with_lines}

pub with-append : (before first second : List (List ℕ)) → with_lines before (first ++ second) ≡ with_lines (with_lines before first) second
with-append before [] second = refl
with-append before (line ∷ first) second = with-append (line ∷ before) first second

pub told-append : (turn : Turn) (before first second : List (List ℕ)) → told_for turn before (first ++ second) ≡ told_for turn before first ++ told_for turn (with_lines before first) second
told-append turn before [] second = refl
told-append turn before (line ∷ first) second =
    ap (λ (ls : List (List ℕ)). lines_in (turn before line) ++ ls) (told-append turn (line ∷ before) first second)
    ∙ sym (append_assoc (lines_in (turn before line)) (told_for turn (line ∷ before) first) (told_for turn (with_lines (line ∷ before) first) second))

pub told-with : (turn : Turn) (before lines : List (List ℕ)) → told turn (with_lines before lines) ≡ told turn before ++ told_for turn before lines
told-with turn before [] = sym (append-nil (told turn before))
told-with turn before (line ∷ lines) =
    told-with turn (line ∷ before) lines ∙ append_assoc (told turn before) (lines_in (turn before line)) (told_for turn (line ∷ before) lines)

-- a run from the first line on
pub told_all : (turn : Turn) (lines : List (List ℕ)) → told turn (with_lines [] lines) ≡ told_for turn [] lines
told_all turn lines = told-with turn [] lines

pub handed-append : (turn : Turn) (before first second : List (List ℕ))
    → handed_out turn before (first ++ second) ≡ handed_out turn before first ++ handed_out turn (with_lines before first) second
handed-append turn before first second =
    let was : List (List ℕ) = told turn before in
    let one : List (List ℕ) = told_for turn before first in
    let two : List (List ℕ) = told_for turn (with_lines before first) second in
    let count : length (told turn (with_lines before first)) ≡ length was + length one = ap length (told-with turn before first) ∙ length-append was one in
    let sum : sum_over 0 (told turn (with_lines before first)) ≡ sum_over (sum_over 0 was) one = ap (sum_over 0) (told-with turn before first) ∙ sum_over-append 0 was one in
    ap (numbered (length was) (sum_over 0 was)) (told-append turn before first second)
    ∙ numbered_append (length was) (sum_over 0 was) one two
    ∙ ap (λ (n : ℕ). numbered (length was) (sum_over 0 was) one ++ numbered n (sum_over (sum_over 0 was) one) two) (sym count)
    ∙ ap (λ (s : ℕ). numbered (length was) (sum_over 0 was) one ++ numbered (length (told turn (with_lines before first))) s two) (sym sum)
