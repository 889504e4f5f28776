-- What the verifier finds of an expression, by its structure: none where a place of its code has a fault.
use Rattle.std.proofs.Common.{◌≡◌, ℕ, suc, ◌+◌, ◌<◌, Bool, true, ◌&&◌, cond, List, [], ◌∷◌, ◌++◌, length, Option, Some, None, refl, sym, subst, arith}
use Rattle.std.specs.Prelude.{is_none, option_map, slice_index_or, slice_set}
use Rattle.std.proofs.lemmas.Option.{same_Some}
use Rattle.wsm_interval.specs.declared.interval.Interval.{Interval}
use Rattle.wsm_interval.specs.Interval.{interval, div, rem}
use Rattle.wsm_program.specs.declared.instr.FieldTest.{FieldTest}
use Rattle.wsm_program.specs.declared.instr.Instr.{Instr}
use Rattle.wsm_program.specs.declared.instr.Instr.TheVariants as instr
use Rattle.wsm_interval.specs.declared.Arithmetic.TheVariants.{Div, Rem}
use Rattle.wsm_interval.specs.declared.Comparison.TheVariants.{Eq}
use Rattle.wsm_query.specs.declared.expr.Op.{Op}
use Rattle.wsm_query.specs.declared.expr.Op.TheVariants as ops
use Rattle.wsm_query.specs.Tree.{Query, Expr, Number, Truth, Field, EnumName, Key, KeyName, Count, Aggregate, If, Brackets, Minus, Not, Binary, And, Or}
use Rattle.wsm_check.specs.Names.{place_of, field_place, name_place}
use Rattle.wsm_check.specs.Aggregates.{aggregates}
use Rattle.wsm_rules.specs.declared.known.Known.{Known}
use Rattle.wsm_rules.specs.declared.known.Known.TheVariants as known
use Rattle.wsm_rules.specs.Labels.{State, pushed, narrowed_known, of_one, of_two}
use Rattle.wsm_program.specs.Instructions.{may_stand, opposite_test}
use Rattle.wsm_rules.specs.Rules.{Setting, types_fit, has_zero, and_then}
use Rattle.wsm_compiler.specs.TermCode.{instruction}
use Rattle.wsm_compiler.specs.Code.{test_of}
use Rattle.wsm_machine.proofs.FittingStacks.{no}
use Rattle.wsm_compiler.proofs.Parts.{none≢some, Labelled, sequence}
use Rattle.wsm_compiler.proofs.Tests.{stacked, with_known, pushed_on, acting}
use Rattle.wsm_compiler.proofs.Choices.{hulled}

abbrev pub head_of : Option (List Known) → Option Known
head_of (Some (x ∷ xs)) = Some x
head_of x = None

-- what an instruction makes of its operands, and of nothing else
abbrev pub of_instr : Setting → Instr → List Known → Option Known
of_instr c i ops = cond (may_stand c.section i && types_fit c.kinds c.ends i ops) (head_of (pushed c.ranges i (record { stack = ops; folded = []; fields = [] }))) None

-- what is known of a field, where it is read
abbrev pub of_field : Setting → List Known → ℕ → Option Known
of_field c fs f = cond (may_stand c.section (instr.Field f) && true) (Some (slice_index_or fs f known.Truth)) None

-- what is known of the fields where a test is true, and where it is false
abbrev pub known_true : Option FieldTest → List Known → List Known
known_true None fs = fs
known_true (Some x) fs = slice_set fs x.field (narrowed_known x (slice_index_or fs x.field known.Truth))

abbrev pub known_false : Option FieldTest → List Known → List Known
known_false None fs = fs
known_false (Some x) fs = known_true (Some (opposite_test x)) fs

-- a test that its jump makes is a truth
abbrev pub test_found : {A : Type 0} → Option A → Option Known → Option Known
test_found None o = o
test_found (Some x) o = Some known.Truth

-- what the verifier finds of an expression, where this is known of the fields
abbrev pub found : Setting → Query → List Known → ℕ → Expr → Option Known
found c q fs a (Number n) = of_instr c (instr.PushInt n) []
found c q fs a (Truth b) = of_instr c (instr.PushBool b) []
found c q fs a (Field x) = of_field c fs (field_place q.fields x)
found c q fs a (EnumName x y) = of_instr c (instr.PushEnum (suc (field_place q.fields x)) (name_place q.fields x y)) []
found c q fs a Key = of_instr c instr.Key []
found c q fs a (KeyName x) = of_instr c (instr.PushEnum 0 (place_of x q.keys)) []
found c q fs a Count = of_instr c instr.Count []
found c q fs a (Aggregate kind e) = of_instr c (instr.Acc a) []
found c q fs a (If t x y) =
    and_then (λ b. hulled (found c q (known_true (test_of q a t) fs) (a + aggregates t) x) (found c q (known_false (test_of q a t) fs) (a + (aggregates t + aggregates x)) y)) (test_found (test_of q a t) (found c q fs a t))
found c q fs a (Brackets e) = found c q fs a e
found c q fs a (Minus e) = and_then (λ x. of_instr c instr.Neg (x ∷ [])) (found c q fs a e)
found c q fs a (Not e) = and_then (λ x. of_instr c instr.Not (x ∷ [])) (found c q fs a e)
found c q fs a (Binary op x y) = and_then (λ u. and_then (λ v. of_instr c (instruction op) (v ∷ u ∷ [])) (found c q fs (a + aggregates x) y)) (found c q fs a x)
found c q fs a (And x y) = and_then (λ b. hulled (found c q (known_true (test_of q a x) fs) (a + aggregates x) y) (Some known.Truth)) (test_found (test_of q a x) (found c q fs a x))
found c q fs a (Or x y) = and_then (λ b. hulled (Some known.Truth) (found c q (known_false (test_of q a x) fs) (a + aggregates x) y)) (test_found (test_of q a x) (found c q fs a x))

-- ---- one instruction, with its operands on the stack

numbers_alone : (o : Option Interval) → option_map (λ z. known.Number z ∷ []) o ≡ option_map (λ x. x ∷ []) (head_of (option_map (λ z. known.Number z ∷ []) o))
numbers_alone o = grind arith

two_alone : (f : Interval → Interval → Option Interval) (v u : Known) (s : List Known) → of_two f (v ∷ u ∷ s) ≡ option_map (λ x. x ∷ []) (head_of (of_two f (v ∷ u ∷ [])))
two_alone f v u s = grind (arith, numbers_alone)

one_alone : (f : Interval → Option Interval) (v : Known) (s : List Known) → of_one f (v ∷ s) ≡ option_map (λ x. x ∷ []) (head_of (of_one f (v ∷ [])))
one_alone f v s = grind (arith, numbers_alone)

-- where the divisor may be 0 there is no interval
zero_div : (v u : Known) → has_zero u v ≡ true → is_none (head_of (of_two div (v ∷ u ∷ []))) ≡ true
zero_div v u h = grind arith

zero_rem : (v u : Known) → has_zero u v ≡ true → is_none (head_of (of_two rem (v ∷ u ∷ []))) ≡ true
zero_rem v u h = grind arith

module _ (e : State) (c : Setting) (k : ℕ) (s : State) (room : length s.stack < 32) (more : suc k < c.n) where
  abbrev Makes : Instr → List Known → Type 0
  Makes i ops = Labelled e c k (i ∷ []) (stacked ops s) (pushed_on s (of_instr c i ops))

  pub push_int : (n : _) → Makes (instr.PushInt n) []
  push_int n = acting e c k (instr.PushInt n) [] s true (Some (known.Number (interval n n))) refl refl refl refl (λ h. no h) room more

  pub push_bool : (b : Bool) → Makes (instr.PushBool b) []
  push_bool b = acting e c k (instr.PushBool b) [] s true (Some known.Truth) refl refl refl refl (λ h. no h) room more

  pub push_enum : (d n : ℕ) → Makes (instr.PushEnum d n) []
  push_enum d n = acting e c k (instr.PushEnum d n) [] s true (Some (known.NameOf d)) refl refl refl refl (λ h. no h) room more

  pub push_field : (f : ℕ) → Labelled e c k (instr.Field f ∷ []) s (pushed_on s (of_field c s.fields f))
  push_field f = acting e c k (instr.Field f) [] s true (Some (slice_index_or s.fields f known.Truth)) refl refl refl refl (λ h. no h) room more

  pub push_key : Makes instr.Key []
  push_key = acting e c k instr.Key [] s true (Some (known.NameOf 0)) refl refl refl refl (λ h. no h) room more

  pub push_acc : (a : ℕ) → Makes (instr.Acc a) []
  push_acc a = acting e c k (instr.Acc a) [] s true _ refl refl refl refl (λ h. no h) room more

  pub push_count : Makes instr.Count []
  push_count = acting e c k instr.Count [] s true _ refl refl refl refl (λ h. no h) room more

  pub make_neg : (v : Known) → Makes instr.Neg (v ∷ [])
  make_neg v = acting e c k instr.Neg (v ∷ []) s _ _ refl refl refl (one_alone _ v s.stack) (λ h. no h) room more

  pub make_not : (v : Known) → Makes instr.Not (v ∷ [])
  make_not v = acting e c k instr.Not (v ∷ []) s _ _ refl refl refl refl (λ h. no h) room more

  pub make_op : (op : Op) (u v : Known) → Makes (instruction op) (v ∷ u ∷ [])
  make_op (ops.Compute Div) u v = acting e c k (instr.Compute Div) (v ∷ u ∷ []) s _ _ refl refl refl (two_alone _ v u s.stack) (zero_div v u) room more
  make_op (ops.Compute Rem) u v = acting e c k (instr.Compute Rem) (v ∷ u ∷ []) s _ _ refl refl refl (two_alone _ v u s.stack) (zero_rem v u) room more
  make_op (ops.Compute a) u v = acting e c k (instr.Compute a) (v ∷ u ∷ []) s _ _ refl refl refl (two_alone _ v u s.stack) (λ h. no h) room more
  make_op (ops.Compare Eq) u v = acting e c k (instr.Compare Eq) (v ∷ u ∷ []) s _ _ refl refl refl refl (λ h. no h) room more
  make_op (ops.Compare d) u v = acting e c k (instr.Compare d) (v ∷ u ∷ []) s _ _ refl refl refl refl (λ h. no h) room more

-- a part of n places that pushes a value, and what follows it
pub follow : (e : State) (c : Setting) (k n : ℕ) (is js : List Instr) (s : State) (o : Option Known) (f : Known → Option State) → length is ≡ n → 0 < length is → 0 < length js →
    Labelled e c k is s (pushed_on s o) → ((x : Known) → o ≡ Some x → Labelled e c (k + n) js (with_known x s) (f x)) → Labelled e c k (is ++ js) s (and_then f o)
follow e c k n is js s None f hn hi hj first rest = sequence e c k is js s None (λ t. None) hi hj first (λ t h. none≢some h)
follow e c k n is js s (Some x) f hn hi hj first rest =
    sequence e c k is js s (Some (with_known x s)) (λ t. f x) hi hj first
    (λ t h. subst (λ w. Labelled e c (k + length is) js w (f x)) (same_Some (with_known x s) t h) (subst (λ m. Labelled e c (k + m) js (with_known x s) (f x)) (sym hn) (rest x refl)))
