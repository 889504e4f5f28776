-- What an expression of a type means, as code computes it, is a value of that type.
use Rattle.std.proofs.Common.{◌≡◌, ℕ, ◌+◌, Bool, true, false, ◌&&◌, cond, List, ◌++◌, Option, Some, None, Ok, refl, sym, ap, subst, ◌∙◌, arith}
use Rattle.std.specs.Prelude.{ℤ, slice_get}
use Rattle.wsm_record.specs.declared.event.Value.{Value}
use Rattle.wsm_record.specs.declared.event.Value.TheVariants.{Int, Bool as Truth'}
use Rattle.wsm_record.specs.Name.{is_among}
use Rattle.wsm_record.specs.Schema.{is_i64}
use Rattle.wsm_query.specs.declared.expr.Op.{Op}
use Rattle.wsm_query.specs.Tree.{Query, Expr, Number, Truth, Field, EnumName, Key, KeyName, Count, Aggregate, If, Brackets, Minus, Not, Binary, And, Or}
use Rattle.wsm_check.specs.Names.{field_names, field_place, type_of, names_of}
use Rattle.wsm_record.specs.declared.words.CellType.{CellType}
use Rattle.wsm_record.specs.declared.words.CellType.TheVariants as types
use Rattle.wsm_record.specs.Types.{is_type, kind_type}
use Rattle.wsm_check.specs.Types.{op_ty, typed}
use Rattle.wsm_check.specs.declared.types.Around.{Around}
use Rattle.wsm_check.specs.declared.types.Around.TheVariants.{InAggregate}
use Rattle.wsm_check.specs.Aggregates.{Acc, accumulators_of, aggregates}
use Rattle.wsm_machine.specs.Step.{Setting}
use Rattle.wsm_compiler.specs.Meaning.{Scene, on_numbers, on_same, on_two, both, minus, negated, chosen}
use Rattle.wsm_compiler.specs.Bounded.{kept, bounded_from}
use Rattle.wsm_compiler.specs.Runs.{of_ty, Serves, ServesAccs}
use Rattle.wsm_compiler.proofs.FoundRanges.{ok_is, op_typed, result_of}
use Rattle.wsm_compiler.proofs.ExpressionRanges.{cond_ok, entered_is, op_is, two_types, if_types, logic_types, unary_is, get_left, get_right}
use Rattle.wsm_check.proofs.PassedChecks.{length-accumulators_of}

-- ---- accumulators of parts

pub serves_left : (c : Setting) (around : Around) (s : Scene) (a : ℕ) (xs ys : List Acc) → ServesAccs c around s a (xs ++ ys) → ServesAccs c around s a xs
serves_left c around s a xs ys h e j acc get = h e j acc (get_left xs ys j acc get)

pub serves_right : (c : Setting) (around : Around) (s : Scene) (a : ℕ) (x : Expr) (ys : List Acc) → ServesAccs c around s a (accumulators_of x ++ ys) → ServesAccs c around s (a + aggregates x) ys
serves_right c around s a x ys h e j acc get =
    let l = length-accumulators_of x in
    let there : a + (aggregates x + j) ≡ a + aggregates x + j = omega arith in
    let g = h e (aggregates x + j) acc (ap (λ n. slice_get (accumulators_of x ++ ys) (n + j)) (sym l) ∙ get_right (accumulators_of x) ys j ∙ get) in (
      g.0,
      ap (λ n. s.aggregate n acc.kind acc.operand) (sym there) ∙ g.1,
      g.2,
      ap (λ n. slice_get c.inputs.accs n) (sym there) ∙ g.3,
    )

-- ---- operators

if_kept : (n : ℤ) (b : Bool) → of_ty types.Int (cond b (Some (Int n)) None) ≡ true
if_kept n b = grind arith

kept_has : (t : CellType) (o : Option Value) → of_ty t o ≡ true → of_ty t (kept o) ≡ true
kept_has t o h = grind (arith, if_kept)

unless_zero : (b : Bool) (n : ℤ) → of_ty types.Int (cond b None (Some (Int n))) ≡ true
unless_zero b n = grind arith

numbers_have : (op : Op) (x y : ℤ) → of_ty (result_of op) (on_numbers op x y) ≡ true
numbers_have op x y = grind (arith, unless_zero)

-- an operator on values that are no numbers
not_numbers : (op : Op) (t u : CellType) (b : Bool) → is_type t types.Int ≡ false → op_typed op t u ≡ true → of_ty (result_of op) (on_same op b) ≡ true
not_numbers op t u b n h = grind arith

two_have : (op : Op) (t u : CellType) (v w : Value) → op_typed op t u ≡ true → of_ty t (Some v) ≡ true → of_ty u (Some w) ≡ true → of_ty (result_of op) (on_two op v w) ≡ true
two_have op t u v w h l m = grind (arith, numbers_have, not_numbers)

both_have : (op : Op) (t u : CellType) (o p : Option Value) → op_typed op t u ≡ true → of_ty t o ≡ true → of_ty u p ≡ true → of_ty (result_of op) (kept (both (on_two op) o p)) ≡ true
both_have op t u o p h l m = grind (arith, kept_has, result_of, two_have)

minus_has : (o : Option Value) → of_ty types.Int o ≡ true → of_ty types.Int (kept (minus o)) ≡ true
minus_has o h = grind (arith, kept_has)

negated_has : (o : Option Value) → of_ty types.Bool (negated o) ≡ true
negated_has o = grind arith

chosen_has : (t : CellType) (o x y : Option Value) → of_ty t x ≡ true → of_ty t y ≡ true → of_ty t (chosen o x y) ≡ true
chosen_has t o x y h l = grind arith

at_type : (o : Option Value) (u t : CellType) → u ≡ t → of_ty u o ≡ true → of_ty t o ≡ true
at_type o u t e h = subst (λ x. of_ty x o ≡ true) e h

pub value_has : (c : Setting) (q : Query) (around : Around) (s : Scene) → Serves c q around s → (a : ℕ) (e : Expr) (t : CellType) → typed q around e ≡ Ok t → ServesAccs c around s a (accumulators_of e) → of_ty t (bounded_from q s a e) ≡ true
value_has c q around s serves a (Number n) t h accs = at_type (bounded_from q s a (Number n)) types.Int t (ok_is _ t h) (if_kept n (is_i64 n))
value_has c q around s serves a (Truth b) t h accs = at_type (bounded_from q s a (Truth b)) types.Bool t (ok_is _ t h) refl
value_has c q around s serves a (Field x) t h accs =
    let f = serves.field x t h in kept_has t (s.field (field_place q.fields x)) (ap (of_ty t) f.1 ∙ f.2)
value_has c q around s serves a (EnumName x y) t h accs =
    at_type (bounded_from q s a (EnumName x y)) (types.Enum _) t (ok_is _ t (cond_ok (is_among x (field_names q.fields) && is_among y (names_of (type_of x q.fields))) _ _ t h)) refl
value_has c q around s serves a Key t h accs = at_type (bounded_from q s a Key) (types.Enum 0) t (ok_is _ t h) refl
value_has c q around s serves a (KeyName x) t h accs = at_type (bounded_from q s a (KeyName x)) (types.Enum 0) t (ok_is _ t (cond_ok (is_among x q.keys) _ _ t h)) refl
value_has c q around s serves a Count t h accs =
    let e = entered_is around (Ok types.Int) t h in
    at_type (bounded_from q s a Count) types.Int t (ok_is _ t e.1) (kept_has types.Int s.count (ap (of_ty types.Int) (serves.count e.0)))
value_has c q around s serves a (Aggregate kind e) t h accs =
    let i = entered_is around _ t h in
    let u = unary_is q InAggregate e (kind_type kind) t i.1 in
    let first : a + 0 ≡ a = omega arith in
    let g = accs i.0 0 (record { kind = kind; operand = e }) refl in
    at_type (bounded_from q s a (Aggregate kind e)) (kind_type kind) t u.1
    (kept_has (kind_type kind) (s.aggregate a kind e) (ap (λ n. of_ty (kind_type kind) (s.aggregate n kind e)) (sym first) ∙ ap (of_ty (kind_type kind)) g.1 ∙ g.2))
value_has c q around s serves a (If b x y) t h accs =
    let p = if_types q around b x y t h in
    let rest = serves_right c around s a b (accumulators_of x ++ accumulators_of y) accs in
    let second = serves_right c around s (a + aggregates b) x (accumulators_of y) rest in
    let place : a + aggregates b + aggregates x ≡ a + (aggregates b + aggregates x) = omega arith in
    chosen_has t (bounded_from q s a b) (bounded_from q s (a + aggregates b) x) (bounded_from q s (a + (aggregates b + aggregates x)) y)
    (value_has c q around s serves (a + aggregates b) x t p.first_is (serves_left c around s (a + aggregates b) (accumulators_of x) (accumulators_of y) rest))
    (value_has c q around s serves (a + (aggregates b + aggregates x)) y t p.second_is (subst (λ n. ServesAccs c around s n (accumulators_of y)) place second))
value_has c q around s serves a (Brackets e) t h accs = value_has c q around s serves a e t h accs
value_has c q around s serves a (Minus e) t h accs =
    let u = unary_is q around e types.Int t h in at_type (bounded_from q s a (Minus e)) types.Int t u.1 (minus_has (bounded_from q s a e) (value_has c q around s serves a e types.Int u.0 accs))
value_has c q around s serves a (Not e) t h accs = let u = unary_is q around e types.Bool t h in at_type (bounded_from q s a (Not e)) types.Bool t u.1 (negated_has (bounded_from q s a e))
value_has c q around s serves a (Binary op x y) t h accs =
    let p = two_types q around x y (op_ty op) t h in
    let o = op_is op p.left p.right t p.both in
    at_type (bounded_from q s a (Binary op x y)) (result_of op) t o.1
    (both_have op p.left p.right (bounded_from q s a x) (bounded_from q s (a + aggregates x) y) o.0
    (value_has c q around s serves a x p.left p.left_is (serves_left c around s a (accumulators_of x) (accumulators_of y) accs))
    (value_has c q around s serves (a + aggregates x) y p.right p.right_is (serves_right c around s a x (accumulators_of y) accs)))
value_has c q around s serves a (And x y) t h accs =
    let p = logic_types q around x y t h in
    at_type (bounded_from q s a (And x y)) types.Bool t p.is
    (chosen_has types.Bool (bounded_from q s a x) (bounded_from q s (a + aggregates x) y) (Some (Truth' false)) (value_has c q around s serves (a + aggregates x) y types.Bool p.right_is (serves_right c around s a x (accumulators_of y) accs)) refl)
value_has c q around s serves a (Or x y) t h accs =
    let p = logic_types q around x y t h in
    at_type (bounded_from q s a (Or x y)) types.Bool t p.is
    (chosen_has types.Bool (bounded_from q s a x) (Some (Truth' true)) (bounded_from q s (a + aggregates x) y) refl (value_has c q around s serves (a + aggregates x) y types.Bool p.right_is (serves_right c around s a x (accumulators_of y) accs)))
