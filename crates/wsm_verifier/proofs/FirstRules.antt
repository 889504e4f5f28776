-- The first of all rules, from the firsts of their halves.
use Rattle.std.proofs.Common.{◌≡◌, ℕ, Bool, true, false, cond, List, [], ◌∷◌, ◌++◌, Option, Some, None, refl, sym, ap}
use Rattle.std.proofs.lemmas.Bool.{true≢false}
use Rattle.wsm_program.specs.declared.Instr.{Instr}
use Rattle.wsm_rules.specs.declared.rejection.Rule.{Rule}
use Rattle.wsm_rules.specs.Labels.{State}
use Rattle.wsm_rules.specs.Rules.{Setting, first_of, operand_tests, result_tests, tests}

none≢some : {A X : Type 0} {a : A} → Some a ≡ None → X
none≢some {A} {X} {a} e = let tag : Option A → Bool = λ o. elim o [ None ↦ true | Some x ↦ false ] in absurd (true≢false (sym (ap tag e)))

first_found : (xs ys : List (Rule × Bool)) (r : Rule) → first_of xs ≡ Some r → first_of (xs ++ ys) ≡ Some r
first_found [] ys r e = none≢some (sym e)
first_found (x ∷ xs) ys r e =
    elim (x.1) as (λ b. cond b (Some (x.0)) (first_of xs) ≡ Some r → cond b (Some (x.0)) (first_of (xs ++ ys)) ≡ Some r) [
      | true ↦ λ e. e
      | false ↦ λ e. first_found xs ys r e
    ] e

first_behind : (xs ys : List (Rule × Bool)) → first_of xs ≡ None → first_of (xs ++ ys) ≡ first_of ys
first_behind [] ys e = refl
first_behind (x ∷ xs) ys e =
    elim (x.1) as (λ b. cond b (Some (x.0)) (first_of xs) ≡ None → cond b (Some (x.0)) (first_of (xs ++ ys)) ≡ first_of ys) [
      | true ↦ λ e. none≢some e
      | false ↦ λ e. first_behind xs ys e
    ] e

pub by_operands : (c : Setting) (p : ℕ) (i : Instr) (s : State) (r : Rule) → first_of (operand_tests c i s) ≡ Some r → first_of (tests c p i s) ≡ Some r
by_operands c p i s r e = first_found (operand_tests c i s) (result_tests c p i s) r e

pub by_results : (c : Setting) (p : ℕ) (i : Instr) (s : State) → first_of (operand_tests c i s) ≡ None → first_of (tests c p i s) ≡ first_of (result_tests c p i s)
by_results c p i s e = first_behind (operand_tests c i s) (result_tests c p i s) e
