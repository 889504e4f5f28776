-- The lines of a turn, one after the other.
use Rattle.std.proofs.Common.{◌≡◌, ◌∙◌, ◌++◌, ◌∷◌, ℕ, List, [], Some, refl, sym, ap, append_assoc, append-nil}
use Rattle.std.proofs.lemmas.List.Concat.{flat_map-append}
use Rattle.std.specs.Prelude.{◌≢◌}
use Rattle.wsm_admission.specs.declared.verdict.Refusal.{Refusal}
use Rattle.wsm_admission.specs.declared.verdict.Refusal.TheVariants as refusal
use Rattle.wsm_semantics.specs.Lines.{Line, Refused, refusal_lines}
use Rattle.wsm_record.specs.Schema.{Declared}
use Rattle.wsm_semantics.specs.Text.{line_text, lines_text}

-- a refusal has a line, but for a late record
told : (row : ℕ) (why : Refusal) → why ≢ refusal.Late → refusal_lines row (Some why) ≡ Refused row why ∷ []
told row refusal.Late h = absurd (h refl)
told row refusal.UnknownKey h = refl
told row refusal.FieldRange h = refl
told row refusal.TimeRange h = refl
told row refusal.TooFarAhead h = refl
told row refusal.RecordLimit h = refl
told row refusal.NotRising h = refl
told row refusal.UnknownSource h = refl

pub one_line : (declared : Declared) (line : Line) → lines_text declared (line ∷ []) ≡ line_text declared line
one_line declared line = append-nil (line_text declared line)

pub told_text : (declared : Declared) (row : ℕ) (why : Refusal) → why ≢ refusal.Late → line_text declared (Refused row why) ≡ lines_text declared (refusal_lines row (Some why))
told_text declared row why h = sym (one_line declared (Refused row why)) ∙ ap (lines_text declared) (sym (told row why h))

-- lines behind lines
pub joined_lines : (declared : Declared) (old mid new : List ℕ) (first second : List Line) → mid ≡ old ++ lines_text declared first → new ≡ mid ++ lines_text declared second → new ≡ old ++ lines_text declared (first ++ second)
joined_lines declared old mid new first second h k =
    k ∙ ap (λ t. t ++ lines_text declared second) h ∙ append_assoc old (lines_text declared first) (lines_text declared second)
    ∙ ap (λ t. old ++ t) (sym (flat_map-append (line_text declared) first second))
