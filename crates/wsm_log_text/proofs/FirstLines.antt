-- The first line, and what is no want of memory.
use Rattle.std.proofs.Common.{◌≡◌, ◌∙◌, ℕ, suc, Bool, false, List, [], ◌∷◌, length, Option, Result, Err, ap, arith}
use Rattle.std.specs.Prelude.{if◌then◌else◌, nat_eq}
use Rattle.std.proofs.lemmas.Bool.Decides.{nat_tests}
use Rattle.wsm_record.specs.Schema.{Declared}
use Rattle.wsm_lines.specs.declared.fault.LineFault.{LineFault}
use Rattle.wsm_lines.specs.declared.fault.LineRefusal.{LineRefusal}
use Rattle.wsm_lines.specs.declared.fault.LineRefusal.TheVariants as refusal
use Rattle.wsm_lines.specs.declared.source.Source.{Source}
use Rattle.wsm_turns.specs.declared.clocks.Clocks.{Clocks}
use Rattle.wsm_log_text.specs.LogText.{said}
use Rattle.wsm_log_text.specs.FirstLine.{first_of}

-- ---- the first line

not_zero : (n : ℕ) → nat_eq (suc n) 0 ≡ false
not_zero n = grind (arith, nat_tests)

pub first_next : (s : Source) (clocks : Option Clocks) (d : Declared) (before : List (List ℕ)) (line items : List ℕ) (n : ℕ) → n ≡ length (said s clocks d before) → items ≡ first_of before →
    (if nat_eq n 0 then line else items) ≡ first_of (line ∷ before)
first_next s clocks d [] line items n h k = ap (λ (m : ℕ). if nat_eq m 0 then line else items) h
first_next s clocks d (x ∷ before) line items n h k =
    ap (λ (m : ℕ). if nat_eq m 0 then line else items) h
    ∙ ap (λ (b : Bool). if b then line else items) (not_zero (length (said s clocks d before)))
    ∙ k

-- ---- a fault is no want of memory

pub fault_alone : {X : Type 0} (why : LineFault) → ◌≡◌ {A = Result X LineRefusal} (Err (refusal.Fault why)) (Err refusal.Memory) → ⊥
fault_alone why h = cc
