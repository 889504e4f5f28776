-- What is written for lines is whole, whoever takes it apart.
use Rattle.std.proofs.Common.{◌≡◌, ◌∙◌, ℕ, ◌==◌, List, [], ◌∷◌, ◌++◌, Bool, true, false, cond, Option, refl, sym, ap, ap₂, append_assoc}
use Rattle.wsm_program.specs.Program.{Program}
use Rattle.wsm_machine.specs.Meaning.{query_of}
use Rattle.wsm_lines.specs.declared.source.Source.{Source}
use Rattle.wsm_turns.specs.declared.clocks.Clocks.{Clocks}
use Rattle.wsm_numbered.specs.Numbered.{lines_in, with_front}
use Rattle.wsm_log_text.specs.LogText.{said, turns_text}
use Rattle.wsm_live.specs.Told.{told}
use Rattle.wsm_live_run.specs.Turns.{text_of, turn_by}

front-text : (byte : ℕ) (lines : List (List ℕ)) → text_of (with_front byte lines) ≡ byte ∷ text_of lines
front-text byte [] = refl
front-text byte (line ∷ lines) = refl

pub lines-text : (text : List ℕ) → text_of (lines_in text) ≡ text
lines-text [] = refl
lines-text (byte ∷ text) = by_byte (byte == 10) (lines-text text)
  where
    by_byte : (t : Bool) → text_of (lines_in text) ≡ text → text_of (cond t ((byte ∷ []) ∷ lines_in text) (with_front byte (lines_in text))) ≡ byte ∷ text
    by_byte true rest = ap (λ (l : List ℕ). byte ∷ l) rest
    by_byte false rest = front-text byte (lines_in text) ∙ ap (λ (l : List ℕ). byte ∷ l) rest

pub text-append : (first second : List (List ℕ)) → text_of (first ++ second) ≡ text_of first ++ text_of second
text-append [] second = refl
text-append (line ∷ first) second = ap (λ (l : List ℕ). line ++ l) (text-append first second) ∙ sym (append_assoc line (text_of first) (text_of second))

pub same_text : (s : Source) (clocks : Option Clocks) (p : Program) (lines : List (List ℕ))
    → text_of (told (turn_by s clocks p) lines) ≡ turns_text (query_of p) clocks (said s clocks p.header.schema lines)
same_text s clocks p [] = refl
same_text s clocks p (line ∷ before) =
    text-append (told (turn_by s clocks p) before) (lines_in (turn_by s clocks p before line))
    ∙ ap₂ (λ (a b : List ℕ). a ++ b) (same_text s clocks p before) (lines-text (turn_by s clocks p before line))
