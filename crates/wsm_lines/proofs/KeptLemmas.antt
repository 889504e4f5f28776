-- What is kept of a line tells what it says.
use Rattle.std.proofs.Common.{◌≡◌, ◌∙◌, sym, ap, refl, ℕ, ◌+◌, ◌-◌, ◌<◌, ◌≤◌, List, [], ◌∷◌, length, take, map, Bool, true, false, if◌then◌else◌, arith, length-take, ◌⊎◌, inl, inr, leb}
use Rattle.std.specs.Prelude.{Err, slice_index, ◌==◌}
use Rattle.std.proofs.lemmas.List.{take_all}
use Rattle.std.proofs.lemmas.Bool.{lt-ltb}
use Rattle.std.proofs.lemmas.Bool.Decides.{leb_tells}
use Rattle.wsm_record.specs.Schema.{Declared}
use Rattle.wsm_lines.specs.Fault.{on_ok, or_none}
use Rattle.wsm_lines.specs.Heading.{heading_in, headed_in, heading_by, Heading, unread, broken, known}
use Rattle.wsm_lines.specs.Key.{if_told, key_by, key_text_of}
use Rattle.wsm_lines.specs.Said.{clock_by, clock_of, event_by, identifier_by, identifier_of, is_first, said_of, taken_in, taken_of}
use Rattle.wsm_lines.specs.Text.{bare, kept, text_in, unmarked, utf8_in}
use Rattle.wsm_lines.specs.declared.fault.LineFault.TheVariants.{TooLong}
use Rattle.wsm_lines.specs.declared.source.Format.{Format}
use Rattle.wsm_lines.specs.declared.source.Format.TheVariants as format
use Rattle.wsm_lines.specs.declared.source.Source.{Source}

bare_by : (b : Bool) (line : List ℕ) → length line ≤ length (if b then take (length line - 1) line else line) + 1
bare_by true line = omega (arith, length-take (length line - 1) line)
bare_by false line = omega arith

-- a carriage return is one byte
length-bare : (line : List ℕ) → length line ≤ length (bare line) + 1
length-bare line = bare_by (slice_index line (length line - 1) == 13) line

too_long : (first : Bool) (longest : ℕ) (line : List ℕ) → longest < length line → text_in first longest line ≡ Err TooLong
too_long first longest line h = ap (λ b. if b then Err TooLong else utf8_in (unmarked first line)) (lt-ltb longest (length line) h)

both_long : (first : Bool) (longest : ℕ) (line : List ℕ) → longest + 2 ≤ length line → text_in first longest (bare (kept longest line)) ≡ text_in first longest (bare line)
both_long first longest line h =
    let kept_long : longest < length (bare (kept longest line)) = omega (arith, length-bare (kept longest line), length-take (longest + 2) line) in
    let line_long : longest < length (bare line) = omega (arith, length-bare line) in
    too_long first longest (bare (kept longest line)) kept_long ∙ sym (too_long first longest (bare line) line_long)

pub text_in-kept : (first : Bool) (longest : ℕ) (line : List ℕ) → text_in first longest (bare (kept longest line)) ≡ text_in first longest (bare line)
text_in-kept first longest line = by (leb_tells (longest + 2) (length line))
  where
    by : ((leb (longest + 2) (length line) ≡ true) × (longest + 2 ≤ length line)) ⊎ ((leb (longest + 2) (length line) ≡ false) × (length line < longest + 2)) → text_in first longest (bare (kept longest line)) ≡ text_in first longest (bare line)
    by (inl p) = both_long first longest line p.1
    by (inr p) = ap (λ l. text_in first longest (bare l)) (take_all (longest + 2) line (omega (arith, p.1)))

headed-kept : (f : Format) (longest : ℕ) (h : Heading) (line : List ℕ) → headed_in f longest h (bare (kept longest line)) ≡ headed_in f longest h (bare line)
headed-kept format.Json longest h line = refl
headed-kept format.Access longest h line = refl
headed-kept format.Rows longest h line = refl
headed-kept (format.Csv form) longest unread line = ap (heading_by form) (text_in-kept true longest line)
headed-kept (format.Csv form) longest broken line = refl
headed-kept (format.Csv form) longest (known header columns count) line = refl

pub heading_in-kept : (f : Format) (longest : ℕ) (before : List (List ℕ)) → heading_in f longest (map (kept longest) before) ≡ heading_in f longest before
heading_in-kept f longest [] = refl
heading_in-kept f longest (line ∷ before) =
    ap (λ h. headed_in f longest h (bare (kept longest line))) (heading_in-kept f longest before)
    ∙ headed-kept f longest (heading_in f longest before) line

is_first-kept : (longest : ℕ) (before : List (List ℕ)) → is_first (map (kept longest) before) ≡ is_first before
is_first-kept longest [] = refl
is_first-kept longest (line ∷ before) = refl

taken_of-kept : (s : Source) (before : List (List ℕ)) (line : List ℕ) → taken_of s before (kept s.longest line) ≡ taken_of s before line
taken_of-kept s before line = ap (λ t. on_ok t (taken_in s.format (length s.fields) (heading_in s.format s.longest before))) (text_in-kept (is_first before) s.longest line)

taken_of-all-kept : (s : Source) (before : List (List ℕ)) (line : List ℕ) → taken_of s (map (kept s.longest) before) (kept s.longest line) ≡ taken_of s before line
taken_of-all-kept s before line =
    ap (λ b. on_ok (text_in b s.longest (bare (kept s.longest line))) (taken_in s.format (length s.fields) (heading_in s.format s.longest (map (kept s.longest) before)))) (is_first-kept s.longest before)
    ∙ ap (λ h. on_ok (text_in (is_first before) s.longest (bare (kept s.longest line))) (taken_in s.format (length s.fields) h)) (heading_in-kept s.format s.longest before)
    ∙ taken_of-kept s before line

pub said_of-kept : (s : Source) (d : Declared) (before : List (List ℕ)) (line : List ℕ) → said_of s d before (kept s.longest line) ≡ said_of s d before line
said_of-kept s d before line = ap (event_by s d) (taken_of-kept s before line)

pub said_of-all-kept : (s : Source) (d : Declared) (before : List (List ℕ)) (line : List ℕ) → said_of s d (map (kept s.longest) before) (kept s.longest line) ≡ said_of s d before line
said_of-all-kept s d before line = ap (event_by s d) (taken_of-all-kept s before line)

pub identifier_of-all-kept : (s : Source) (before : List (List ℕ)) (line : List ℕ) → identifier_of s (map (kept s.longest) before) (kept s.longest line) ≡ identifier_of s before line
identifier_of-all-kept s before line = ap (λ t. or_none (identifier_by s t)) (taken_of-all-kept s before line)

pub clock_of-all-kept : (s : Source) (before : List (List ℕ)) (line : List ℕ) → clock_of s (map (kept s.longest) before) (kept s.longest line) ≡ clock_of s before line
clock_of-all-kept s before line = ap (λ t. or_none (clock_by s t)) (taken_of-all-kept s before line)

pub key_text_of-all-kept : (s : Source) (before : List (List ℕ)) (line : List ℕ) → key_text_of s (map (kept s.longest) before) (kept s.longest line) ≡ key_text_of s before line
key_text_of-all-kept s before line = ap (λ t. if_told (key_by s t)) (taken_of-all-kept s before line)
