-- Where each accumulator holds its aggregate's meaning, FIRE's expressions mean what they mean on the records.
use Rattle.std.proofs.Common.{◌≡◌, ℕ, ◌+◌, cond, List, [], ◌∷◌, ◌++◌, length, Option, Some, None, refl, sym, ap, subst, ◌∙◌, arith, append_assoc}
use Rattle.std.specs.Prelude.{true, false, pos, slice_get}
use Rattle.std.specs.List.{list_all, flat_map}
use Rattle.wsm_record.specs.declared.event.Value.{Value}
use Rattle.wsm_record.specs.declared.event.Value.TheVariants.{Bool as Truth'}
use Rattle.wsm_record.specs.Schema.{is_i64}
use Rattle.wsm_record.specs.declared.cell.Cell.{Cell}
use Rattle.wsm_query.specs.Tree.{Query, Expr, Aggregate, If, Brackets, Minus, Not, Binary, And, Or}
use Rattle.wsm_check.specs.Types.{typed}
use Rattle.wsm_check.specs.declared.types.Around.TheVariants.{InColumn}
use Rattle.wsm_check.specs.Aggregates.{Acc, accumulators_of, aggregates}
use Rattle.wsm_compiler.specs.Meaning.{Scene, meaning_from, met_from, on_records, on_accumulators, on_two, both, minus, negated, chosen, chosen_numbers, number_of}
use Rattle.wsm_program.specs.declared.instr.SectionId.TheVariants.{Fire}
use Rattle.wsm_machine.specs.Run.{run}
use Rattle.wsm_check.specs.Parts.{type_or_int}
use Rattle.wsm_compiler.specs.Program.{stated, needed_of, program_of}
use Rattle.wsm_compiler.specs.Runs.{cell}
use Rattle.wsm_compiler.specs.Sections.{Leaves, in_bounds, condition_value, on_stack, fired_stack}
use Rattle.wsm_compiler.specs.Folded.{Hold, MeansTheSame, FireMeans}
use Rattle.wsm_compiler.proofs.ExpressionRanges.{get_left, get_right}
use Rattle.wsm_compiler.proofs.Conditions.{in_condition}
use Rattle.wsm_compiler.proofs.FireFaults.{accs_are}
use Rattle.wsm_compiler.proofs.SectionRuns.{fire_runs}
use Rattle.wsm_check.proofs.PassedChecks.{length-accumulators_of}

-- on records an aggregate's number doesn't matter
pub free : (q : Query) (key : ℕ) (records : List (List Value)) (a b : ℕ) (e : Expr) →
    (meaning_from q (on_records q key records) a e ≡ meaning_from q (on_records q key records) b e)
    × (met_from q (on_records q key records) a e ≡ met_from q (on_records q key records) b e)
free q key records a b (If c x y) =
    let fc = free q key records a b c in
    let fx = free q key records (a + aggregates c) (b + aggregates c) x in
    let fy = free q key records (a + (aggregates c + aggregates x)) (b + (aggregates c + aggregates x)) y in
    ((λ i. chosen (fc.0 i) (fx.0 i) (fy.0 i)), (λ i. fc.1 i ++ chosen_numbers (fc.0 i) (fx.1 i) (fy.1 i)))
free q key records a b (Brackets e) = free q key records a b e
free q key records a b (Minus e) = let f = free q key records a b e in ((λ i. minus (f.0 i)), (λ i. f.1 i ++ number_of (minus (f.0 i))))
free q key records a b (Not e) = let f = free q key records a b e in ((λ i. negated (f.0 i)), f.1)
free q key records a b (Binary op x y) =
    let fx = free q key records a b x in
    let fy = free q key records (a + aggregates x) (b + aggregates x) y in
    ((λ i. both (on_two op) (fx.0 i) (fy.0 i)), (λ i. fx.1 i ++ (fy.1 i ++ number_of (both (on_two op) (fx.0 i) (fy.0 i)))))
free q key records a b (And x y) =
    let fx = free q key records a b x in
    let fy = free q key records (a + aggregates x) (b + aggregates x) y in
    ((λ i. chosen (fx.0 i) (fy.0 i) (Some (Truth' false))), (λ i. fx.1 i ++ chosen_numbers (fx.0 i) (fy.1 i) []))
free q key records a b (Or x y) =
    let fx = free q key records a b x in
    let fy = free q key records (a + aggregates x) (b + aggregates x) y in
    ((λ i. chosen (fx.0 i) (Some (Truth' true)) (fy.0 i)), (λ i. fx.1 i ++ chosen_numbers (fx.0 i) [] (fy.1 i)))
free q key records a b e = (refl, refl)

-- ---- accumulators of parts

hold_left : (q : Query) (key : ℕ) (records : List (List Value)) (accs : List Value) (a : ℕ) (xs ys : List Acc) → Hold q key records accs a (xs ++ ys) → Hold q key records accs a xs
hold_left q key records accs a xs ys h j acc get = h j acc (get_left xs ys j acc get)

hold_right : (q : Query) (key : ℕ) (records : List (List Value)) (accs : List Value) (a : ℕ) (x : Expr) (ys : List Acc) → Hold q key records accs a (accumulators_of x ++ ys) → Hold q key records accs (a + aggregates x) ys
hold_right q key records accs a x ys h j acc get =
    let l = length-accumulators_of x in
    let there : a + (aggregates x + j) ≡ a + aggregates x + j = omega arith in
    ap (slice_get accs) (sym there) ∙ h (aggregates x + j) acc (ap (λ n. slice_get (accumulators_of x ++ ys) (n + j)) (sym l) ∙ get_right (accumulators_of x) ys j ∙ get)

module _ (q : Query) (key : ℕ) (records : List (List Value)) (accs : List Value) where
  abbrev pane : Scene
  pane = on_accumulators key (pos (length records)) accs

  abbrev all : Scene
  all = on_records q key records

  abbrev Same : ℕ → Expr → Type 0
  Same a e = (meaning_from q pane a e ≡ meaning_from q all a e) × (met_from q pane a e ≡ met_from q all a e)

  same : (a : ℕ) (e : Expr) → Hold q key records accs a (accumulators_of e) → Same a e
  same a (Aggregate kind e) h =
      let first : a + 0 ≡ a = omega arith in
      let is = ap (slice_get accs) (sym first) ∙ h 0 (record { kind = kind; operand = e }) refl in
      (is, ap number_of is)
  same a (If c x y) h =
      let rest = hold_right q key records accs a c (accumulators_of x ++ accumulators_of y) h in
      let place : a + aggregates c + aggregates x ≡ a + (aggregates c + aggregates x) = omega arith in
      let fc = same a c (hold_left q key records accs a (accumulators_of c) (accumulators_of x ++ accumulators_of y) h) in
      let fx = same (a + aggregates c) x (hold_left q key records accs (a + aggregates c) (accumulators_of x) (accumulators_of y) rest) in
      let fy = same (a + (aggregates c + aggregates x)) y (subst (λ n. Hold q key records accs n (accumulators_of y)) place (hold_right q key records accs (a + aggregates c) x (accumulators_of y) rest)) in
      ((λ i. chosen (fc.0 i) (fx.0 i) (fy.0 i)), (λ i. fc.1 i ++ chosen_numbers (fc.0 i) (fx.1 i) (fy.1 i)))
  same a (Brackets e) h = same a e h
  same a (Minus e) h = let f = same a e h in ((λ i. minus (f.0 i)), (λ i. f.1 i ++ number_of (minus (f.0 i))))
  same a (Not e) h = let f = same a e h in ((λ i. negated (f.0 i)), f.1)
  same a (Binary op x y) h =
      let fx = same a x (hold_left q key records accs a (accumulators_of x) (accumulators_of y) h) in
      let fy = same (a + aggregates x) y (hold_right q key records accs a x (accumulators_of y) h) in
      ((λ i. both (on_two op) (fx.0 i) (fy.0 i)), (λ i. fx.1 i ++ (fy.1 i ++ number_of (both (on_two op) (fx.0 i) (fy.0 i)))))
  same a (And x y) h =
      let fx = same a x (hold_left q key records accs a (accumulators_of x) (accumulators_of y) h) in
      let fy = same (a + aggregates x) y (hold_right q key records accs a x (accumulators_of y) h) in
      ((λ i. chosen (fx.0 i) (fy.0 i) (Some (Truth' false))), (λ i. fx.1 i ++ chosen_numbers (fx.0 i) (fy.1 i) []))
  same a (Or x y) h =
      let fx = same a x (hold_left q key records accs a (accumulators_of x) (accumulators_of y) h) in
      let fy = same (a + aggregates x) y (hold_right q key records accs a x (accumulators_of y) h) in
      ((λ i. chosen (fx.0 i) (Some (Truth' true)) (fy.0 i)), (λ i. fx.1 i ++ chosen_numbers (fx.0 i) [] (fy.1 i)))
  same a e h = (refl, refl)

  pub means_the_same : (a : ℕ) (e : Expr) → MeansTheSame q key records accs a e
  means_the_same a e h =
      let s = same a e h in
      let f = free q key records a 0 e in
      (s.0 ∙ f.0, s.1 ∙ f.1)

  -- ---- what FIRE leaves

  bounds_same : (a : ℕ) (e : Expr) → Hold q key records accs a (accumulators_of e) → in_bounds q pane a e ≡ in_bounds q all a e
  bounds_same a e h = let s = same a e h in (λ i. cond (list_all is_i64 (s.1 i)) (s.0 i) None)

  condition_same : (a : ℕ) (o : Option Expr) → Hold q key records accs a (in_condition o) → condition_value q pane a o ≡ condition_value q all a o
  condition_same a o h = grind (arith, bounds_same)

  -- by the value of a column
  by_value : (o : Option Value) (f g : Value → Option (List Cell)) → ((v : Value) → f v ≡ g v) → elim o as (λ x. Option (List Cell)) [ None ↦ None | Some v ↦ f v ] ≡ elim o as (λ x. Option (List Cell)) [ None ↦ None | Some v ↦ g v ]
  by_value o f g h = grind arith

  pub stack_same : (a : ℕ) (es : List Expr) (stack : List Cell) → Hold q key records accs a (flat_map accumulators_of es ++ in_condition q.having) → fired_stack q pane a es stack ≡ fired_stack q all a es stack
  stack_same a [] stack h = ap (on_stack stack) (condition_same a q.having h)
  stack_same a (e ∷ es) stack h =
      let rest = flat_map accumulators_of es ++ in_condition q.having in
      let whole : Hold q key records accs a (accumulators_of e ++ rest) = subst (λ xs. Hold q key records accs a xs) (append_assoc (accumulators_of e) (flat_map accumulators_of es) (in_condition q.having)) h in
      let b = a + aggregates e in
      let t = type_or_int (typed q InColumn e) in
      ap (λ o. elim o as (λ x. Option (List Cell)) [ None ↦ None | Some v ↦ fired_stack q pane b es (cell t v ∷ stack) ]) (bounds_same a e (hold_left q key records accs a (accumulators_of e) rest whole))
      ∙ by_value (in_bounds q all a e) (λ v. fired_stack q pane b es (cell t v ∷ stack)) (λ v. fired_stack q all b es (cell t v ∷ stack)) (λ v. stack_same b es (cell t v ∷ stack) (hold_right q key records accs a e rest whole))

pub fire_means : (q : Query) → FireMeans q
fire_means q checked d fit records count h =
    let held = subst (λ xs. Hold q d.key records d.accs 0 xs) (accs_are q (stated (needed_of q) q.budget)) h in
    subst (λ o. Leaves (run (program_of q) Fire d) o) (ap (λ n. fired_stack q (on_accumulators d.key n d.accs) 0 q.columns []) count ∙ stack_same q d.key records d.accs 0 q.columns [] held) (fire_runs q checked d fit)
