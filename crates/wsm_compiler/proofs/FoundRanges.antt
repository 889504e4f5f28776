-- What the verifier finds of an expression is its range, in its type.
use Rattle.std.proofs.Common.{◌≡◌, Bool, true, false, not, cond, [], ◌∷◌, Option, Some, None, Result, Ok, Err, refl, ap, ◌∙◌, arith}
use Rattle.std.specs.Prelude.{option_map}
use Rattle.std.proofs.lemmas.Bool.{eqb-true}
use Rattle.wsm_interval.specs.declared.interval.Interval.{Interval}
use Rattle.wsm_interval.specs.Interval.{neg}
use Rattle.wsm_program.specs.declared.instr.Instr.{Instr}
use Rattle.wsm_program.specs.declared.instr.Instr.TheVariants as instr
use Rattle.wsm_query.specs.declared.expr.Op.{Op}
use Rattle.wsm_query.specs.declared.expr.Op.TheVariants.{Compute, Compare}
use Rattle.wsm_record.specs.declared.words.CellType.{CellType}
use Rattle.wsm_record.specs.declared.words.CellType.TheVariants as types
use Rattle.wsm_record.specs.Types.{is_type}
use Rattle.wsm_check.specs.Types.{Typed, wanted, if_typed, two_ints, are_comparable}
use Rattle.wsm_rules.specs.declared.known.Known.{Known}
use Rattle.wsm_rules.specs.declared.known.Known.TheVariants as known
use Rattle.wsm_rules.specs.Labels.{same_type}
use Rattle.wsm_rules.specs.Rules.{Setting, and_then}
use Rattle.wsm_compiler.specs.TermCode.{instruction}
use Rattle.wsm_compiler.specs.Ranges.{Range, Unfit, NoNumber, Within, within, no_number, on_intervals, of_op, of_minus}
use Rattle.wsm_machine.proofs.FittingStacks.{no, type_known}
use Rattle.wsm_machine.proofs.PushedValues.{same_type_is}
use Rattle.wsm_compiler.proofs.Hulls.{type_self}
use Rattle.wsm_compiler.proofs.Found.{of_instr, head_of}

-- ---- types as far as they were found

abbrev type_in : CellType → Typed → CellType
type_in t (Ok u) = u
type_in t (Err f) = t

abbrev pub fine : CellType → Typed
fine t = Ok t

pub ok_is : (t u : CellType) → fine t ≡ fine u → t ≡ u
ok_is t u e = ap (type_in t) e

pub err≢ok : {A E X : Type 0} {a : A} {f : E} → Err f ≡ Ok a → X
err≢ok {A} {E} {X} {a} {f} e = let tag : Result A E → Bool = λ r. elim r [ Ok x ↦ true | Err x ↦ false ] in no (ap tag e)

pub typed_first : (x : Typed) (go : CellType → Typed) (t : CellType) → if_typed x go ≡ Ok t → (u : CellType) × (x ≡ Ok u) × (go u ≡ Ok t)
typed_first x go t e = grind arith

pub wanted_is : (b : Bool) (u t : CellType) → wanted b u ≡ Ok t → (b ≡ true) × (u ≡ t)
wanted_is b u t e = grind (arith, ok_is)

pub ty_is : (t u : CellType) → is_type t u ≡ true → t ≡ u
ty_is t u h = grind (arith, eqb-true)

-- ---- a range in a type

abbrev pub is_int : CellType → Bool
is_int types.Int = true
is_int x = false

-- a number's range is an interval, and another value has none
abbrev pub suits : CellType → Range → Bool
suits t Unfit = true
suits t NoNumber = not (is_int t)
suits t (Within i) = is_int t

abbrev pub plain_known : CellType → Option Known
plain_known types.Int = None
plain_known types.Bool = Some known.Truth
plain_known (types.Enum e) = Some (known.NameOf e)

abbrev pub number_known : CellType → Interval → Option Known
number_known types.Int i = Some (known.Number i)
number_known x i = None

abbrev pub known_of : CellType → Range → Option Known
known_of t Unfit = None
known_of t NoNumber = plain_known t
known_of t (Within i) = number_known t i

pub known_has : (t : CellType) (r : Range) (x : Known) → known_of t r ≡ Some x → type_known x ≡ t
known_has t r x e = grind arith

-- two values of one type
pub known_same : (t : CellType) (r p : Range) (x y : Known) → known_of t r ≡ Some x → known_of t p ≡ Some y → same_type y x ≡ true
known_same t r p x y h l = grind (arith, same_type_is, type_known, known_has, type_self)

-- a truth
pub known_truth : (r : Range) (x : Known) → known_of types.Bool r ≡ Some x → x ≡ known.Truth
known_truth r x e = grind arith

-- ---- operators

within_known : (o : Option Interval) → head_of (option_map (λ z. known.Number z ∷ []) o) ≡ known_of types.Int (within o)
within_known o = grind arith

pub minus_found : (c : Setting) (r : Range) → suits types.Int r ≡ true → and_then (λ x. of_instr c instr.Neg (x ∷ [])) (known_of types.Int r) ≡ known_of types.Int (of_minus r)
minus_found c r h = grind (arith, within_known)

pub minus_suits : (r : Range) → suits types.Int r ≡ true → suits types.Int (of_minus r) ≡ true
minus_suits Unfit h = refl
minus_suits NoNumber h = no h
minus_suits (Within i) h = within_suits (neg i)
  where
    within_suits : (o : Option Interval) → suits types.Int (within o) ≡ true
    within_suits None = refl
    within_suits (Some i) = refl

pub not_found : (c : Setting) (r : Range) → suits types.Bool r ≡ true → and_then (λ x. of_instr c instr.Not (x ∷ [])) (known_of types.Bool r) ≡ known_of types.Bool r
not_found c r h = grind arith

abbrev Two : Setting → Instr → Option Known → Option Known → Option Known
Two c i o p = and_then (λ u. and_then (λ v. of_instr c i (v ∷ u ∷ [])) p) o

arithmetic : (c : Setting) (i : Instr) (f : Interval → Interval → Option Interval) →
    ((x y : Interval) → of_instr c i (known.Number y ∷ known.Number x ∷ []) ≡ head_of (option_map (λ z. known.Number z ∷ []) (f x y))) →
    (r p : Range) → suits types.Int r ≡ true → suits types.Int p ≡ true →
    (Two c i (known_of types.Int r) (known_of types.Int p) ≡ known_of types.Int (on_intervals f r p)) × (suits types.Int (on_intervals f r p) ≡ true)
arithmetic c i f is Unfit p h l = (refl, refl)
arithmetic c i f is NoNumber p h l = no h
arithmetic c i f is (Within x) Unfit h l = (refl, refl)
arithmetic c i f is (Within x) NoNumber h l = no l
arithmetic c i f is (Within x) (Within y) h l = (is x y ∙ within_known (f x y), suited (f x y))
  where
    suited : (o : Option Interval) → suits types.Int (within o) ≡ true
    suited None = refl
    suited (Some i) = refl

-- a comparison of two values of which each is told of by its range
compared : (c : Setting) (i : Instr) (t : CellType) → ((x y : Known) → type_known x ≡ t → type_known y ≡ t → of_instr c i (y ∷ x ∷ []) ≡ Some known.Truth) →
    (r p : Range) → suits t r ≡ true → suits t p ≡ true →
    (Two c i (known_of t r) (known_of t p) ≡ known_of types.Bool (no_number r p)) × (suits types.Bool (no_number r p) ≡ true)
compared c i types.Int is NoNumber p h l = no h
compared c i types.Int is (Within x) NoNumber h l = no l
compared c i types.Int is (Within x) (Within y) h l = (is (known.Number x) (known.Number y) refl refl, refl)
compared c i types.Bool is NoNumber NoNumber h l = (is known.Truth known.Truth refl refl, refl)
compared c i types.Bool is NoNumber (Within y) h l = no l
compared c i types.Bool is (Within x) p h l = no h
compared c i (types.Enum e) is NoNumber NoNumber h l = (is (known.NameOf e) (known.NameOf e) refl refl, refl)
compared c i (types.Enum e) is NoNumber (Within y) h l = no l
compared c i (types.Enum e) is (Within x) p h l = no h
compared c i t is r p h l = (refl, refl)

-- two numbers are compared
of_numbers : (c : Setting) (i : Instr) → ((x y : Interval) → of_instr c i (known.Number y ∷ known.Number x ∷ []) ≡ Some known.Truth) → (x y : Known) → type_known x ≡ types.Int → type_known y ≡ types.Int → of_instr c i (y ∷ x ∷ []) ≡ Some known.Truth
of_numbers c i is x y h l = grind arith

-- two values of one type are compared
of_same : (c : Setting) (i : Instr) → ((x y : Known) → of_instr c i (y ∷ x ∷ []) ≡ cond (same_type x y) (Some known.Truth) None) →
    (t : CellType) (x y : Known) → type_known x ≡ t → type_known y ≡ t → of_instr c i (y ∷ x ∷ []) ≡ Some known.Truth
of_same c i is t x y h l = grind (arith, same_type_is, type_known, type_self)

abbrev pub OpFound : Setting → Op → CellType → CellType → CellType → Range → Range → Type 0
OpFound c op t u w r p = (Two c (instruction op) (known_of t r) (known_of u p) ≡ known_of w (of_op op r p)) × (suits w (of_op op r p) ≡ true)

two_numbers : (c : Setting) (op : Op) (t u w : CellType) (r p : Range) → two_ints t u ≡ true → suits t r ≡ true → suits u p ≡ true →
    (suits types.Int r ≡ true → suits types.Int p ≡ true → OpFound c op types.Int types.Int w r p) → OpFound c op t u w r p
two_numbers c op t u w r p h l m go = grind (arith, ty_is)

two_alike : (c : Setting) (op : Op) (t u w : CellType) (r p : Range) → is_type t u ≡ true → suits t r ≡ true → suits u p ≡ true → (suits t p ≡ true → OpFound c op t t w r p) → OpFound c op t u w r p
two_alike c op t u w r p h l m go = grind (arith, ty_is)

-- the types that an operator takes, and the one that it gives
abbrev pub op_typed : Op → CellType → CellType → Bool
op_typed (Compute a) t u = two_ints t u
op_typed (Compare d) t u = are_comparable d t u

abbrev pub result_of : Op → CellType
result_of (Compute a) = types.Int
result_of (Compare d) = types.Bool

-- an operator on two parts whose values are told of by their ranges
pub op_found : (c : Setting) (op : Op) (t u w : CellType) (r p : Range) → op_typed op t u ≡ true → result_of op ≡ w → suits t r ≡ true → suits u p ≡ true → OpFound c op t u w r p
op_found c op t u w r p h e l m = grind (arith, two_numbers, arithmetic, two_alike, compared, of_same, of_numbers)
