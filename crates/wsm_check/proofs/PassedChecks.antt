-- What holds of a query that passed its checks.
use Rattle.std.proofs.Common.{◌≡◌, ◌++◌, true, List, [], ◌∷◌, length, Option, Some, None, refl, arith, length-append}
use Rattle.std.specs.Prelude.{is_ok}
use Rattle.std.specs.List.{flat_map}
use Rattle.wsm_query.specs.Tree.{Query, Expr, If, Brackets, Minus, Not, Binary, And, Or}
use Rattle.wsm_check.specs.declared.refusal.Part.{Part}
use Rattle.wsm_check.specs.Types.{InWhere, Typed, typed, typed_condition}
use Rattle.wsm_check.specs.Aggregates.{accumulators_of, aggregates, in_option}
use Rattle.wsm_check.specs.Checks.{condition_refusal, typed_refusal}
use Rattle.wsm_check.specs.Parts.{aggregates_of}
use Rattle.wsm_check.proofs.Plain.{plain, first_ok}

-- ---- aggregates are as many as their accumulators

pub length-accumulators_of : (e : Expr) → length (accumulators_of e) ≡ aggregates e
length-accumulators_of (If c x y) =
    omega (arith, length-append (accumulators_of c) (accumulators_of x ++ accumulators_of y), length-append (accumulators_of x) (accumulators_of y), length-accumulators_of c, length-accumulators_of x, length-accumulators_of y)
length-accumulators_of (Brackets e) = length-accumulators_of e
length-accumulators_of (Minus e) = length-accumulators_of e
length-accumulators_of (Not e) = length-accumulators_of e
length-accumulators_of (Binary op x y) = omega (arith, length-append (accumulators_of x) (accumulators_of y), length-accumulators_of x, length-accumulators_of y)
length-accumulators_of (And x y) = omega (arith, length-append (accumulators_of x) (accumulators_of y), length-accumulators_of x, length-accumulators_of y)
length-accumulators_of (Or x y) = omega (arith, length-append (accumulators_of x) (accumulators_of y), length-accumulators_of x, length-accumulators_of y)
length-accumulators_of e = refl

pub counted_all : (es : List Expr) → length (flat_map accumulators_of es) ≡ aggregates_of es
counted_all [] = refl
counted_all (e ∷ es) = omega (arith, length-append (accumulators_of e) (flat_map accumulators_of es), length-accumulators_of e, counted_all es)

-- ---- expressions that passed

has_type : (p : Part) (x : Typed) → typed_refusal p x ≡ None → is_ok x ≡ true
has_type p x h = grind arith

pub condition_plain : (q : Query) (p : Part) (o : Option Expr) → condition_refusal q InWhere p o ≡ None → length (flat_map accumulators_of (in_option o)) ≡ 0
condition_plain q p None h = refl
condition_plain q p (Some e) h =
    omega (arith, counted_all (e ∷ []), plain q InWhere refl e (first_ok (typed q InWhere e) _ (has_type p (typed_condition q InWhere e) h)))
