-- The checks that a query passed, one by one.
use Rattle.std.proofs.Common.{◌≡◌, ℕ, ◌≤◌, ◌*◌, Bool, true, false, ◌&&◌, [], ◌∷◌, length, Option, Some, None, arith}
use Rattle.std.specs.Prelude.{nat_le}
use Rattle.wsm_record.specs.Modes.{may_write}
use Rattle.wsm_windows.specs.Life.{live_bound}
use Rattle.wsm_windows.specs.Limits.{is_shape}
use Rattle.wsm_admission.specs.Clock.{is_limited, is_timely}
use Rattle.wsm_query.specs.Tree.{Query}
use Rattle.wsm_check.specs.declared.refusal.CheckFault.{CheckFault}
use Rattle.wsm_check.specs.declared.refusal.CheckFault.TheVariants.{Limit, Exceeds, SessionLateness, StreamNeedsAccumulating}
use Rattle.wsm_check.specs.declared.refusal.Part.{Part}
use Rattle.wsm_check.specs.declared.refusal.Part.TheVariants as part
use Rattle.wsm_check.specs.declared.refusal.CheckRefusal.{CheckRefusal}
use Rattle.wsm_check.specs.declared.refusal.CodeLimit.{CodeLimit}
use Rattle.wsm_check.specs.declared.refusal.CodeLimit.TheVariants.{Accumulators, Where, Update, Fire, Stack, Panes}
use Rattle.wsm_check.specs.Parts.{parts_of}
use Rattle.wsm_check.specs.Sizes.{where_size, update_size, fire_size, stack_need, counted}
use Rattle.wsm_check.specs.declared.types.Around.TheVariants.{InWhere, InColumn}
use Rattle.wsm_check.specs.Checks.{unless, first, names_refusal, fields_refusal, sources_refusal, budget_fits, every_fits, condition_refusal, columns_refusal, exceeds, foldings_refusal, sizes_refusal, declared_refusal, numbers_refusal, expressions_refusal, rest_refusal, IsChecked}
use Rattle.wsm_check.proofs.ChecksInOrder.{passed_both}

abbrev pub is_refusal : Option CheckRefusal → Bool
is_refusal None = false
is_refusal (Some r) = true

pub unless_none : (b : Bool) (f : CheckFault) (p : Part) → unless b f p ≡ None → b ≡ true
unless_none b f p h = grind arith

-- a number within a limit, as it is and as the code counts it
is_at_most : (l : CodeLimit) (m n : ℕ) → exceeds l m n ≡ None → m ≤ n
is_at_most l m n h = let e = unless_none (nat_le m n) (Exceeds l m n) part.Code h in grind (arith, e)

counts_at_most : (l : CodeLimit) (m n : ℕ) → n ≤ 100000 → exceeds l (counted m) n ≡ None → m ≤ n
counts_at_most l m n few h = let e = is_at_most l (counted m) n h in omega (arith, e, few)

-- how large the code is, and how many panes there may be
pub record CodeFits (q : Query) : Type 0 where
  pub accs : length (parts_of q).foldings ≤ 16
  pub selection : where_size q ≤ 1000
  pub update : update_size q ≤ 1000
  pub fire : fire_size q ≤ 1000
  pub stack : stack_need q ≤ 32
  pub held : length q.keys * live_bound q.output.shape q.clock.skew q.clock.lateness ≤ 100000

code_fits_in : (q : Query) → foldings_refusal (parts_of q) ≡ None → sizes_refusal (parts_of q) ≡ None → CodeFits q
code_fits_in q few fits =
    let panes = length q.keys * live_bound q.output.shape q.clock.skew q.clock.lateness in
    let h = exceeds Panes (counted panes) 100000 in
    let s = exceeds Stack (counted (stack_need q)) 32 in
    let f = exceeds Fire (counted (fire_size q)) 1000 in
    let u = exceeds Update (counted (update_size q)) 1000 in
    let f1 = passed_both (exceeds Where (counted (where_size q)) 1000) (first (u ∷ f ∷ s ∷ h ∷ [])) fits in
    let f2 = passed_both u (first (f ∷ s ∷ h ∷ [])) f1.1 in
    let f3 = passed_both f (first (s ∷ h ∷ [])) f2.1 in
    let f4 = passed_both s (first (h ∷ [])) f3.1 in
    let f5 = passed_both h None f4.1 in
    record {
      accs = is_at_most Accumulators (length (parts_of q).foldings) 16 few;
      selection = counts_at_most Where (where_size q) 1000 (omega arith) f1.0;
      update = counts_at_most Update (update_size q) 1000 (omega arith) f2.0;
      fire = counts_at_most Fire (fire_size q) 1000 (omega arith) f3.0;
      stack = counts_at_most Stack (stack_need q) 32 (omega arith) f4.0;
      held = counts_at_most Panes panes 100000 (omega arith) f5.0;
    }

pub record Passed (q : Query) : Type 0 where
  pub keys : names_refusal part.Keys q.keys ≡ None
  pub fields : fields_refusal [] q.fields ≡ None
  pub sources : sources_refusal q.sources ≡ None
  pub clock : is_limited q.clock ≡ true
  pub budget : budget_fits q.budget ≡ true
  pub shape : is_shape q.output.shape ≡ true
  pub lateness : is_timely q.clock.from_window q.output.shape ≡ true
  pub triggers : (every_fits q.output.early && every_fits q.output.late) ≡ true
  pub emit : may_write q.output.mode q.output.form ≡ true
  pub condition : condition_refusal q InWhere part.Where q.condition ≡ None
  pub columns : columns_refusal q 0 q.columns ≡ None
  pub having : condition_refusal q InColumn part.Having q.having ≡ None
  pub code : CodeFits q

pub passed : (q : Query) → IsChecked q → Passed q
passed q h =
    let accs = foldings_refusal (parts_of q) in
    let sizes = sizes_refusal (parts_of q) in
    let g1 = passed_both (declared_refusal q) (first (rest_refusal q ∷ sizes ∷ [])) h in
    let r = passed_both (rest_refusal q) (first (sizes ∷ [])) g1.1 in
    let g2 = passed_both (numbers_refusal q) (first (expressions_refusal q ∷ accs ∷ [])) r.0 in
    let g3 = passed_both (expressions_refusal q) (first (accs ∷ [])) g2.1 in
    let keys = names_refusal part.Keys q.keys in
    let fields = fields_refusal [] q.fields in
    let sources = sources_refusal q.sources in
    let d1 = passed_both keys (first (fields ∷ sources ∷ [])) g1.0 in
    let d2 = passed_both fields (first (sources ∷ [])) d1.1 in
    let d3 = passed_both sources None d2.1 in
    let clock = unless (is_limited q.clock) Limit part.Clock in
    let budget = unless (budget_fits q.budget) Limit part.Budget in
    let shape = unless (is_shape q.output.shape) Limit part.Window in
    let lateness = unless (is_timely q.clock.from_window q.output.shape) SessionLateness part.Window in
    let triggers = unless (every_fits q.output.early && every_fits q.output.late) Limit part.Trigger in
    let emit = unless (may_write q.output.mode q.output.form) StreamNeedsAccumulating part.Emit in
    let n1 = passed_both clock (first (budget ∷ shape ∷ lateness ∷ triggers ∷ emit ∷ [])) g2.0 in
    let n2 = passed_both budget (first (shape ∷ lateness ∷ triggers ∷ emit ∷ [])) n1.1 in
    let n3 = passed_both shape (first (lateness ∷ triggers ∷ emit ∷ [])) n2.1 in
    let n4 = passed_both lateness (first (triggers ∷ emit ∷ [])) n3.1 in
    let n5 = passed_both triggers (first (emit ∷ [])) n4.1 in
    let n6 = passed_both emit None n5.1 in
    let condition = condition_refusal q InWhere part.Where q.condition in
    let columns = columns_refusal q 0 q.columns in
    let having = condition_refusal q InColumn part.Having q.having in
    let e1 = passed_both condition (first (columns ∷ having ∷ [])) g3.0 in
    let e2 = passed_both columns (first (having ∷ [])) e1.1 in
    let e3 = passed_both having None e2.1 in
    record {
      keys = d1.0;
      fields = d2.0;
      sources = d3.0;
      clock = unless_none (is_limited q.clock) Limit part.Clock n1.0;
      budget = unless_none (budget_fits q.budget) Limit part.Budget n2.0;
      shape = unless_none (is_shape q.output.shape) Limit part.Window n3.0;
      lateness = unless_none (is_timely q.clock.from_window q.output.shape) SessionLateness part.Window n4.0;
      triggers = unless_none (every_fits q.output.early && every_fits q.output.late) Limit part.Trigger n5.0;
      emit = unless_none (may_write q.output.mode q.output.form) StreamNeedsAccumulating part.Emit n6.0;
      condition = e1.0;
      columns = e2.0;
      having = e3.0;
      code = code_fits_in q (passed_both accs None g3.1).0 (passed_both sizes None r.1).0;
    }
