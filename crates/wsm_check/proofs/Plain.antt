-- An expression that has a type in WHERE or in an aggregate has no aggregate.
use Rattle.std.proofs.Common.{◌≡◌, Bool, true, false, refl, arith}
use Rattle.std.specs.Prelude.{is_ok}
use Rattle.wsm_query.specs.Tree.{Query, Expr, Aggregate, If, Brackets, Minus, Not, Binary, And, Or}
use Rattle.wsm_record.specs.declared.words.CellType.{CellType}
use Rattle.wsm_check.specs.Types.{Around, InColumn, Typed, if_typed, if_both, entered, typed}
use Rattle.wsm_check.specs.Aggregates.{aggregates}

abbrev pub HasType : Query → Around → Expr → Type 0
HasType q around e = is_ok (typed q around e) ≡ true

pub first_ok : (x : Typed) (go : CellType → Typed) → is_ok (if_typed x go) ≡ true → is_ok x ≡ true
first_ok x go h = grind arith

rest_ok : (x : Typed) (go : CellType → Typed) → is_ok (if_typed x go) ≡ true → (t : CellType) × (is_ok (go t) ≡ true)
rest_ok x go h = grind arith

second_ok : (x y : Typed) (go : CellType → CellType → Typed) → is_ok (if_both x y go) ≡ true → is_ok y ≡ true
second_ok x y go h = let r = rest_ok x (λ t. if_typed y (λ u. go t u)) h in first_ok y (λ u. go r.0 u) r.1

-- no aggregate may stand there
abbrev pub bare : Around → Bool
bare InColumn = false
bare x = true

none_entered : {X : Type 0} (around : Around) (x : Typed) → bare around ≡ true → is_ok (entered around x) ≡ true → X
none_entered around x b h = grind arith

-- an expression in WHERE or in an aggregate has no aggregate
pub plain : (q : Query) (around : Around) → bare around ≡ true → (e : Expr) → HasType q around e → aggregates e ≡ 0
plain q around b (Aggregate kind e) h = none_entered around _ b h
plain q around b (If c x y) h =
    let r = rest_ok (typed q around c) _ h in
    omega (arith, plain q around b c (first_ok (typed q around c) _ h), plain q around b x (first_ok (typed q around x) _ r.1), plain q around b y (second_ok (typed q around x) (typed q around y) _ r.1))
plain q around b (Brackets e) h = plain q around b e h
plain q around b (Minus e) h = plain q around b e (first_ok (typed q around e) _ h)
plain q around b (Not e) h = plain q around b e (first_ok (typed q around e) _ h)
plain q around b (Binary op x y) h = omega (arith, plain q around b x (first_ok (typed q around x) _ h), plain q around b y (second_ok (typed q around x) (typed q around y) _ h))
plain q around b (And x y) h = omega (arith, plain q around b x (first_ok (typed q around x) _ h), plain q around b y (second_ok (typed q around x) (typed q around y) _ h))
plain q around b (Or x y) h = omega (arith, plain q around b x (first_ok (typed q around x) _ h), plain q around b y (second_ok (typed q around x) (typed q around y) _ h))
plain q around b e h = refl
