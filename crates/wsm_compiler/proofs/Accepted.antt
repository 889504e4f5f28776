-- A checked query's program is accepted exactly where its ranges fit and it states enough.
use Rattle.std.proofs.Common.{◌≡◌, ℕ, Bool, true, false, ◌&&◌, ◌||◌, not, List, [], ◌∷◌, ◌++◌, Option, refl, sym, ap, ◌∙◌, arith}
use Rattle.std.specs.Prelude.{is_some, is_none, is_ok, nat_lt, nat_le}
use Rattle.std.specs.List.{flat_map}
use Rattle.std.proofs.lemmas.Bool.{and_from, and_parts}
use Rattle.std.proofs.lemmas.List.Folds.{list_all-append}
use Rattle.std.proofs.Math.Bool.{and-true}
use Rattle.wsm_program.specs.declared.SectionId.TheVariants.{Where, Update, Fire}
use Rattle.wsm_program.specs.declared.program.Costs.{Costs}
use Rattle.wsm_interval.specs.declared.interval.Interval.{Interval}
use Rattle.wsm_query.specs.declared.expr.Op.{Op}
use Rattle.wsm_query.specs.Tree.{Query, Expr, Aggregate, If, Brackets, Minus, Not, Binary, And, Or}
use Rattle.wsm_record.specs.Schema.{DeclaredField}
use Rattle.wsm_compiler.specs.Code.{test_of}
use Rattle.wsm_check.specs.Aggregates.{Acc, accumulators, accumulators_of, in_option, fired}
use Rattle.wsm_rules.specs.declared.rejection.Rejection.{Rejection}
use Rattle.wsm_rules.specs.Costs.{needed}
use Rattle.wsm_rules.specs.Rules.{or_then, fault_in, ranges_of_record, ranges_of_pane, update_visits, code_fault, budget_fault, fault, unless}
use Rattle.wsm_compiler.specs.Ranges.{Range, no_number, on_intervals, of_op, of_minus, of_branches, if_fits, of_aggregate, range, fits, ranges_fit, range_on, where_true, where_false}
use Rattle.wsm_compiler.specs.Program.{program_stating, stated, needed_of, program_of}
use Rattle.wsm_compiler.specs.Accepted.{FaultlessExactly, AcceptedExactly, AcceptedWithoutBudget}
use Rattle.wsm_machine.proofs.FittingStacks.{no}
use Rattle.wsm_compiler.proofs.Conditions.{condition_fits, columns_fit, where_faults}
use Rattle.wsm_compiler.proofs.UpdateFaults.{acc_fits, accs_fit, update_faults}
use Rattle.wsm_compiler.proofs.FireFaults.{fire_faults}
use Rattle.wsm_compiler.proofs.Checked.{Fine, fine}
use Rattle.wsm_compiler.proofs.Visits.{some_or}

-- ---- where a range fits, so do those of its parts

two_fit : (r p : Range) → fits (no_number r p) ≡ true → (fits r ≡ true) × (fits p ≡ true)
two_fit r p h = grind arith

intervals_fit : (f : Interval → Interval → Option Interval) (r p : Range) → fits (on_intervals f r p) ≡ true → (fits r ≡ true) × (fits p ≡ true)
intervals_fit f r p h = grind arith

op_fit : (op : Op) (r p : Range) → fits (of_op op r p) ≡ true → (fits r ≡ true) × (fits p ≡ true)
op_fit op r p h = grind (arith, intervals_fit, two_fit)

minus_fit : (r : Range) → fits (of_minus r) ≡ true → fits r ≡ true
minus_fit r h = grind arith

branches_fit : (r p : Range) → fits (of_branches r p) ≡ true → (fits r ≡ true) × (fits p ≡ true)
branches_fit r p h = grind arith

test_fits : (b r : Range) → fits (if_fits b r) ≡ true → (fits b ≡ true) × (fits r ≡ true)
test_fits b r h = grind arith

module _ (q : Query) (b : Costs) where
  fit_both : (xs ys : List Acc) → accs_fit q b xs ≡ true → accs_fit q b ys ≡ true → accs_fit q b (xs ++ ys) ≡ true
  fit_both xs ys h l = list_all-append (acc_fits q b) xs ys ∙ and_from (accs_fit q b xs) (accs_fit q b ys) h l

  accs_of_fit : (ds : List DeclaredField) (e : Expr) → fits (range_on q ds e) ≡ true → accs_fit q b (accumulators_of e) ≡ true
  accs_of_fit ds (Aggregate kind e) h = and_from (fits (of_aggregate q.clock.records kind (range q e))) true h refl
  accs_of_fit ds (If c x y) h =
      let dx = where_true (test_of q 0 c) ds in
      let dy = where_false (test_of q 0 c) ds in
      let t = test_fits (range_on q ds c) (of_branches (range_on q dx x) (range_on q dy y)) h in
      let p = branches_fit (range_on q dx x) (range_on q dy y) t.1 in
      fit_both (accumulators_of c) (accumulators_of x ++ accumulators_of y) (accs_of_fit ds c t.0) (fit_both (accumulators_of x) (accumulators_of y) (accs_of_fit dx x p.0) (accs_of_fit dy y p.1))
  accs_of_fit ds (Brackets e) h = accs_of_fit ds e h
  accs_of_fit ds (Minus e) h = accs_of_fit ds e (minus_fit (range_on q ds e) h)
  accs_of_fit ds (Not e) h = accs_of_fit ds e h
  accs_of_fit ds (Binary op x y) h = let p = op_fit op (range_on q ds x) (range_on q ds y) h in fit_both (accumulators_of x) (accumulators_of y) (accs_of_fit ds x p.0) (accs_of_fit ds y p.1)
  accs_of_fit ds (And x y) h =
      let dy = where_true (test_of q 0 x) ds in
      let p = two_fit (range_on q ds x) (range_on q dy y) h in
      fit_both (accumulators_of x) (accumulators_of y) (accs_of_fit ds x p.0) (accs_of_fit dy y p.1)
  accs_of_fit ds (Or x y) h =
      let dy = where_false (test_of q 0 x) ds in
      let p = two_fit (range_on q ds x) (range_on q dy y) h in
      fit_both (accumulators_of x) (accumulators_of y) (accs_of_fit ds x p.0) (accs_of_fit dy y p.1)
  accs_of_fit ds e h = refl

  pub accs_of_all : (es : List Expr) → columns_fit q es ≡ true → accs_fit q b (flat_map accumulators_of es) ≡ true
  accs_of_all [] h = refl
  accs_of_all (e ∷ es) h =
      let p = and_parts (fits (range q e)) (columns_fit q es) h in
      fit_both (accumulators_of e) (flat_map accumulators_of es) (accs_of_fit q.fields e p.0) (accs_of_all es p.1)

  option_fits : (o : Option Expr) → columns_fit q (in_option o) ≡ condition_fits q o
  option_fits o = grind (arith, and-true)

  pub fired_fit : columns_fit q (fired q) ≡ (columns_fit q q.columns && condition_fits q q.having)
  fired_fit = list_all-append (λ e. fits (range q e)) q.columns (in_option q.having) ∙ ap (λ v. columns_fit q q.columns && v) (option_fits q.having)

  pub all_fit : ranges_fit q ≡ (condition_fits q q.condition && columns_fit q (fired q))
  all_fit = list_all-append (λ e. fits (range q e)) (in_option q.condition) (fired q) ∙ ap (λ v. v && columns_fit q (fired q)) (option_fits q.condition)

  -- ---- the three sections

  not_both : (x y : Bool) → (not x || not y) ≡ not (x && y)
  not_both x y = grind arith

  abbrev where_fault : Option Rejection
  where_fault = let p = program_stating q b in fault_in p Where (ranges_of_record p)

  abbrev update_fault : Option Rejection
  update_fault = let p = program_stating q b in fault_in p Update (ranges_of_record p)

  abbrev fire_fault : Option Rejection
  fire_fault = let p = program_stating q b in fault_in p Fire (ranges_of_pane p (update_visits p))

  by_accs : (u w : Bool) → accs_fit q b (accumulators q) ≡ u → columns_fit q (fired q) ≡ w → Fine q b → (is_some update_fault || is_some fire_fault) ≡ not w
  by_accs true w hu hw h =
      (λ i. (update_faults q b h.accs h.update_need ∙ ap not hu) i || fire_faults q b h.columns h.having h.accs h.update_need h.fire_need hu i) ∙ ap not (sym fired_fit ∙ hw)
  by_accs false true hu hw h = no (sym hu ∙ accs_of_all (fired q) hw)
  by_accs false false hu hw h = ap (λ x. x || is_some fire_fault) (update_faults q b h.accs h.update_need ∙ ap not hu)

  pub code_faults : Fine q b → is_some (code_fault (program_stating q b)) ≡ not (ranges_fit q)
  code_faults h =
      some_or where_fault (or_then update_fault fire_fault)
      ∙ ap (λ x. is_some where_fault || x) (some_or update_fault fire_fault ∙ by_accs (accs_fit q b (accumulators q)) (columns_fit q (fired q)) refl refl h)
      ∙ ap (λ x. x || not (columns_fit q (fired q))) (where_faults q b h.condition h.where_need)
      ∙ not_both (condition_fits q q.condition) (columns_fit q (fired q))
      ∙ ap not (sym all_fit)

-- ---- the numbers that are stated

none_is : (o : Option Rejection) → is_none o ≡ not (is_some o)
none_is o = grind arith

not_not : (b : Bool) → not (not b) ≡ b
not_not b = grind arith

not_above : (a b : ℕ) → nat_le b a ≡ true → nat_lt a b ≡ false
not_above a b h = grind arith

above : (a b : ℕ) → nat_le b a ≡ false → nat_lt a b ≡ true
above a b h = grind arith

not_below : (a b : ℕ) → not (nat_lt a b) ≡ nat_le b a
not_below a b = elim (nat_le b a) as (λ x. nat_le b a ≡ x → not (nat_lt a b) ≡ x) [ true ↦ λ h. ap not (not_above a b h) | false ↦ λ h. ap not (above a b h) ] refl

stated_enough : (s : Costs) (n : Costs) → is_none (budget_fault s n) ≡ (nat_le n.per_record s.per_record && (nat_le n.per_pane s.per_pane && nat_le n.held s.held))
stated_enough s n = grind (arith, not_below)

none_both : (a b : Option Rejection) → is_none (or_then a b) ≡ (is_none a && is_none b)
none_both a b = grind arith

ok_is_none : (n : Costs) (o : Option Rejection) → is_ok (unless n o) ≡ is_none o
ok_is_none n o = grind arith

pub faultless_exactly : (q : Query) → FaultlessExactly q
faultless_exactly q h =
    let s = stated (needed_of q) q.budget in
    none_is (code_fault (program_of q)) ∙ ap not (code_faults q s (fine q s h)) ∙ not_not (ranges_fit q)

pub accepted_exactly : (q : Query) → AcceptedExactly q
accepted_exactly q h =
    let p = program_of q in
    ok_is_none (needed p) (fault p)
    ∙ none_both (code_fault p) (budget_fault p.header.budget (needed p))
    ∙ (λ i. faultless_exactly q h i && stated_enough p.header.budget (needed p) i)

at_most_itself : (n : ℕ) → nat_le n n ≡ true
at_most_itself n = grind arith

pub accepted_without_budget : (q : Query) → AcceptedWithoutBudget q
accepted_without_budget q h e = grind (arith, at_most_itself, accepted_exactly, and-true)
