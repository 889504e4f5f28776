-- The rules at one instruction of generated code.
use Rattle.std.proofs.Common.{◌≡◌, ℕ, suc, ◌<◌, Bool, true, false, ◌&&◌, ◌||◌, not, cond, List, [], ◌∷◌, ◌++◌, length, drop, Option, Some, None, refl, sym, ap, ◌∙◌, arith, length-append}
use Rattle.std.specs.Prelude.{ℤ, is_some, is_none, option_map, nat_eq, nat_lt}
use Rattle.std.specs.List.{list_any}
use Rattle.std.proofs.Math.Bool.{and-false}
use Rattle.std.proofs.Math.Seq.{drop-append_seam}
use Rattle.wsm_record.specs.declared.Kind.{Kind}
use Rattle.wsm_program.specs.declared.Instr.{Instr}
use Rattle.wsm_program.specs.declared.Instr.TheVariants.{Jump, JumpIfFalse, Test, Fold, Return}
use Rattle.wsm_program.specs.declared.SectionId.{SectionId}
use Rattle.wsm_rules.specs.declared.rejection.Rule.{Rule}
use Rattle.wsm_rules.specs.declared.known.Known.{Known}
use Rattle.wsm_program.specs.Instructions.{next, may_stand, bad_jump, goes_on}
use Rattle.wsm_rules.specs.Labels.{State, Reached, pops, pushed, along, folded_after}
use Rattle.wsm_rules.specs.Rules.{Setting, types_fit, folds_again, may_divide_by_zero, accumulator_leaves, overflows, fold_missing, first_of, fault_of}
use Rattle.wsm_compiler.proofs.Parts.{Labelled, one}

any_test : (ts : List (Rule × Bool)) → is_some (first_of ts) ≡ list_any (λ t. t.1) ts
any_test [] = refl
any_test (t ∷ ts) = elim (t.1) as (λ b. is_some (cond b (Some (t.0)) (first_of ts)) ≡ (b || list_any (λ t. t.1) ts)) [ true ↦ refl | false ↦ any_test ts ]

-- whether a rule holds, where it is known of each
pub tested : (c : Setting) (p : ℕ) (i : Instr) (s : State) (b1 b2 b3 b4 b5 b6 b7 b8 b9 b10 b11 : Bool) →
    not (may_stand c.section i) ≡ b1 → nat_lt (length s.stack) (pops i) ≡ b2 → not (types_fit c.kinds c.ends i s.stack) ≡ b3 → folds_again i s.folded ≡ b4 →
    may_divide_by_zero i s.stack ≡ b5 → is_none (pushed c.ranges i s) ≡ b6 → accumulator_leaves c.records c.kinds i s.stack ≡ b7 →
    overflows s.stack (pushed c.ranges i s) (pops i) ≡ b8 → fold_missing c.section i s.folded ≡ b9 → bad_jump c.n p i ≡ b10 → (goes_on i && nat_eq (suc p) c.n) ≡ b11 →
    is_some (fault_of c p i (Reached s)) ≡ (b1 || (b2 || (b3 || (b4 || (b5 || (b6 || (b7 || (b8 || (b9 || (b10 || (b11 || false)))))))))))
tested c p i s b1 b2 b3 b4 b5 b6 b7 b8 b9 b10 b11 h1 h2 h3 h4 h5 h6 h7 h8 h9 h10 h11 = grind (arith, any_test)

-- an instruction that goes on to the next place, and folds nothing
abbrev pub plain : Instr → Bool
plain (Jump t) = false
plain (JumpIfFalse t) = false
plain (Test x t) = false
plain (Fold a) = false
plain Return = false
plain _ = true

pub plain_next : (i : Instr) (k : ℕ) → plain i ≡ true → next i k ≡ suc k ∷ []
plain_next i k h = grind arith

plain_again : (i : Instr) (fs : List Bool) → plain i ≡ true → folds_again i fs ≡ false
plain_again i fs h = grind arith

plain_leaves : (n : ℤ) (ks : List Kind) (i : Instr) (s : List Known) → plain i ≡ true → accumulator_leaves n ks i s ≡ false
plain_leaves n ks i s h = grind arith

plain_missing : (id : SectionId) (i : Instr) (fs : List Bool) → plain i ≡ true → fold_missing id i fs ≡ false
plain_missing id i fs h = grind (arith, and-false)

plain_jumps : (n p : ℕ) (i : Instr) → plain i ≡ true → bad_jump n p i ≡ false
plain_jumps n p i h = grind arith

plain_along : (i : Instr) → plain i ≡ true → (p q : ℕ) (s : State) → along i p q s ≡ s
plain_along i h p q s = grind arith

plain_folded : (i : Instr) (fs : List Bool) → plain i ≡ true → folded_after i fs ≡ fs
plain_folded i fs h = grind arith

-- a place has one behind it
pub not_last : (b : Bool) (p n : ℕ) → suc p < n → (b && nat_eq (suc p) n) ≡ false
not_last b p n h = let e : nat_eq (suc p) n ≡ false = grind arith in ap (λ x. b && x) e ∙ and-false b

-- operands on a stack, the last first
abbrev pub stacked : List Known → State → State
stacked ops s = record s { stack = ops ++ s.stack }

abbrev pub with_known : Known → State → State
with_known x s = record s { stack = x ∷ s.stack }

abbrev pub pushed_on : State → Option Known → Option State
pushed_on s o = option_map (λ x. with_known x s) o

enough : (ops s : List Known) (n : ℕ) → n ≡ length ops → nat_lt (length (ops ++ s)) n ≡ false
enough ops s n h = let l = length-append ops s in grind (arith, l, h)

has_room : (ops s : List Known) (p : Option Known) (o : Option (List Known)) (n : ℕ) → o ≡ option_map (λ x. x ∷ []) p → n ≡ length ops → length s < 32 → overflows (ops ++ s) o n ≡ false
has_room ops s p o n e h l = grind (arith, length-append)

none_alone : (p : Option Known) → is_none (option_map (λ (x : Known). x ∷ []) p) ≡ is_none p
none_alone p = grind arith

-- it faults where it may not stand, where types don't fit, or where arithmetic has no interval
verdict : (stands types divides : Bool) (p : Option Known) → (divides ≡ true → is_none p ≡ true) →
    (not stands || (false || (not types || (false || (divides || (is_none p || (false || (false || (false || (false || (false || false))))))))))) ≡ is_none (cond (stands && types) p None)
verdict stands types divides p h = grind arith

map_twice : {A B D : Type 0} (f : A → B) (g : B → D) (o : Option A) → option_map g (option_map f o) ≡ option_map (λ x. g (f x)) o
map_twice f g o = grind arith

-- what is pushed, in place of the first n values
abbrev laid : List Known → List Known → List Bool → ℕ → List Known → State
laid fields below fs n vs = record { stack = vs ++ drop n below; folded = fs; fields = fields }

abbrev over : List Known → List Known → List Bool → Known → State
over fields below fs x = record { stack = x ∷ below; folded = fs; fields = fields }

given_some : (s t : State) (b : Bool) (p : Option Known) → pushed_on s (cond b p None) ≡ Some t → pushed_on s p ≡ Some t
given_some s t b p h = grind arith

-- a plain instruction with its operands on the stack pushes what it makes of them, or faults
pub acting : (e : State) (c : Setting) (k : ℕ) (i : Instr) (ops : List Known) (s : State) (types : Bool) (p : Option Known) →
    plain i ≡ true → pops i ≡ length ops → types_fit c.kinds c.ends i (ops ++ s.stack) ≡ types → pushed c.ranges i (stacked ops s) ≡ option_map (λ x. x ∷ []) p →
    (may_divide_by_zero i (ops ++ s.stack) ≡ true → is_none p ≡ true) → length s.stack < 32 → suc k < c.n →
    Labelled e c k (i ∷ []) (stacked ops s) (pushed_on s (cond (may_stand c.section i && types) p None))
acting e c k i ops s types p pl popped fit is div room more =
    let st = stacked ops s in
    let d = may_divide_by_zero i (ops ++ s.stack) in
    one e c k i st (pushed_on s (cond (may_stand c.section i && types) p None)) (plain_next i k pl) (plain_along i pl)
    (
    tested c k i st (not (may_stand c.section i)) false (not types) false d (is_none p) false false false false false
    refl (enough ops s.stack (pops i) popped) (ap not fit) (plain_again i s.folded pl) refl (ap is_none is ∙ none_alone p) (plain_leaves c.records c.kinds i (ops ++ s.stack) pl)
    (has_room ops s.stack p (pushed c.ranges i st) (pops i) is popped room) (plain_missing c.section i s.folded pl) (plain_jumps c.n k i pl) (not_last (goes_on i) k c.n more)
    ∙ verdict (may_stand c.section i) types d p div
    ∙ sym (some_none s (cond (may_stand c.section i && types) p None))
    )
    (λ t h.
    (λ j. option_map (laid s.fields (ops ++ s.stack) (plain_folded i s.folded pl j) (popped j)) (is j))
    ∙ map_twice (λ x. x ∷ []) (laid s.fields (ops ++ s.stack) s.folded (length ops)) p
    ∙ ap (λ below. option_map (over s.fields below s.folded) p) (drop-append_seam ops s.stack)
    ∙ given_some s t (may_stand c.section i && types) p h)
  where
    some_none : (s : State) (o : Option Known) → is_none (pushed_on s o) ≡ is_none o
    some_none s None = refl
    some_none s (Some x) = refl
