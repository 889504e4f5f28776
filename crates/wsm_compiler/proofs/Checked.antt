-- What holds of a query that no check refuses.
use Rattle.std.proofs.Common.{◌≡◌, ℕ, suc, ◌≤◌, List, [], ◌∷◌, ◌++◌, Option, None, Ok, arith}
use Rattle.std.specs.Prelude.{max}
use Rattle.std.specs.List.{flat_map}
use Rattle.wsm_program.specs.declared.program.Costs.{Costs}
use Rattle.wsm_query.specs.Tree.{Query, Expr, Aggregate, If, Brackets, Minus, Not, Binary, And, Or}
use Rattle.wsm_check.specs.declared.refusal.Part.{Part}
use Rattle.wsm_check.specs.declared.refusal.Part.TheVariants as part
use Rattle.wsm_check.specs.Aggregates.{Acc, accumulators, accumulators_of, in_option}
use Rattle.wsm_check.specs.Parts.{aggregates_of}
use Rattle.wsm_compiler.proofs.QueryTerms.{condition_need, folds_need, columns_need}
use Rattle.wsm_record.specs.declared.words.CellType.{CellType}
use Rattle.wsm_record.specs.declared.words.CellType.TheVariants as types
use Rattle.wsm_record.specs.Types.{is_type, kind_type}
use Rattle.wsm_check.specs.Types.{Typed, wanted, if_typed, op_ty, typed}
use Rattle.wsm_check.specs.declared.types.Around.{Around}
use Rattle.wsm_check.specs.declared.types.Around.TheVariants.{InWhere, InColumn, InAggregate}
use Rattle.wsm_check.specs.Checks.{first, typed_refusal, condition_refusal, columns_refusal, IsChecked}
use Rattle.wsm_compiler.proofs.Passed.{is_refusal, passed}
use Rattle.wsm_compiler.proofs.ExpressionRanges.{entered_is, unary_is, two_types, if_types, logic_types}
use Rattle.wsm_compiler.proofs.Conditions.{ConditionTyped, ColumnsTyped}
use Rattle.wsm_compiler.proofs.UpdateFaults.{AccsTyped}
use Rattle.wsm_check.proofs.ChecksInOrder.{passed_both}

typed_none : (p : Part) (x : Typed) → typed_refusal p x ≡ None → (t : CellType) × (x ≡ Ok t)
typed_none p x h = grind (arith, is_refusal)

condition_typed : (q : Query) (around : Around) (p : Part) (o : Option Expr) → condition_refusal q around p o ≡ None → ConditionTyped q around o
condition_typed q around p o h = grind (arith, typed_none, unary_is)

columns_typed : (q : Query) (i : ℕ) (es : List Expr) → columns_refusal q i es ≡ None → ColumnsTyped q es
columns_typed q i [] h = tt
columns_typed q i (e ∷ es) h =
    let p = part.Column (suc i) in
    let rest = first (typed_refusal p (typed q InColumn e) ∷ columns_refusal q (suc i) es ∷ []) in
    let a = passed_both _ rest h in
    let b = passed_both (typed_refusal p (typed q InColumn e)) (first (columns_refusal q (suc i) es ∷ [])) a.1 in
    let c = passed_both (columns_refusal q (suc i) es) None b.1 in
    (typed_none p (typed q InColumn e) b.0, columns_typed q (suc i) es c.0)

-- ---- aggregates have their types

module _ (q : Query) (b : Costs) where
  accs_both : (xs ys : List Acc) → AccsTyped q b xs → AccsTyped q b ys → AccsTyped q b (xs ++ ys)
  accs_both [] ys h l = l
  accs_both (x ∷ xs) ys h l = (h.0, accs_both xs ys h.1 l)

  pub accs_typed : (around : Around) (e : Expr) (t : CellType) → typed q around e ≡ Ok t → AccsTyped q b (accumulators_of e)
  accs_typed around (Aggregate kind e) t h =
      let u = unary_is q InAggregate e (kind_type kind) t (entered_is around (if_typed (typed q InAggregate e) (λ t. wanted (is_type t (kind_type kind)) (kind_type kind))) t h).1 in
      (u.0, tt)
  accs_typed around (If c x y) t h =
      let p = if_types q around c x y t h in
      accs_both (accumulators_of c) (accumulators_of x ++ accumulators_of y) (accs_typed around c types.Bool p.test_is)
      (accs_both (accumulators_of x) (accumulators_of y) (accs_typed around x t p.first_is) (accs_typed around y t p.second_is))
  accs_typed around (Brackets e) t h = accs_typed around e t h
  accs_typed around (Minus e) t h = accs_typed around e types.Int (unary_is q around e types.Int t h).0
  accs_typed around (Not e) t h = accs_typed around e types.Bool (unary_is q around e types.Bool t h).0
  accs_typed around (Binary op x y) t h =
      let p = two_types q around x y (op_ty op) t h in accs_both (accumulators_of x) (accumulators_of y) (accs_typed around x p.left p.left_is) (accs_typed around y p.right p.right_is)
  accs_typed around (And x y) t h =
      let p = logic_types q around x y t h in accs_both (accumulators_of x) (accumulators_of y) (accs_typed around x types.Bool p.left_is) (accs_typed around y types.Bool p.right_is)
  accs_typed around (Or x y) t h =
      let p = logic_types q around x y t h in accs_both (accumulators_of x) (accumulators_of y) (accs_typed around x types.Bool p.left_is) (accs_typed around y types.Bool p.right_is)
  accs_typed around e t h = tt

  of_columns : (es rest : List Expr) → ColumnsTyped q es → AccsTyped q b (flat_map accumulators_of rest) → AccsTyped q b (flat_map accumulators_of (es ++ rest))
  of_columns [] rest h l = l
  of_columns (e ∷ es) rest h l = accs_both (accumulators_of e) (flat_map accumulators_of (es ++ rest)) (accs_typed InColumn e h.0.0 h.0.1) (of_columns es rest h.1 l)

  of_having : (o : Option Expr) → ConditionTyped q InColumn o → AccsTyped q b (flat_map accumulators_of (in_option o))
  of_having o h = grind (arith, accs_both, accs_typed)

  -- ---- a checked query

  pub record Fine : Type 0 where
    pub condition : ConditionTyped q InWhere q.condition
    pub columns : ColumnsTyped q q.columns
    pub having : ConditionTyped q InColumn q.having
    pub accs : AccsTyped q b (accumulators q)
    pub where_need : condition_need q 0 q.condition ≤ 32
    pub update_need : folds_need q (accumulators q) ≤ 32
    pub fire_need : columns_need q (aggregates_of q.columns) 0 q.columns ≤ 32

  pub fine : IsChecked q → Fine
  fine h =
      let p = passed q h in
      let need = needs (condition_need q 0 q.condition) (folds_need q (accumulators q)) (columns_need q (aggregates_of q.columns) 0 q.columns) p.code.stack in
      let columns = columns_typed q 0 q.columns p.columns in
      let having = condition_typed q InColumn part.Having q.having p.having in
      record {
        condition = condition_typed q InWhere part.Where q.condition p.condition;
        columns = columns;
        having = having;
        accs = of_columns q.columns (in_option q.having) columns (of_having q.having having);
        where_need = need.0;
        update_need = need.1;
        fire_need = need.2;
      }
    where
      needs : (a d m : ℕ) → max a (max d m) ≤ 32 → (a ≤ 32) × (d ≤ 32) × (m ≤ 32)
      needs a d m h = (omega (arith, h), omega (arith, h), omega (arith, h))
