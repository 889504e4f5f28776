-- Runs of WHERE and UPDATE of an accepted query on records in range: they end, and so what they compute has values in 64 bits.
use Rattle.std.proofs.Common.{◌≡◌, ℤ, ℕ, Bool, true, false, ◌&&◌, cond, List, [], ◌∷◌, map, Option, Some, None, Result, Ok, refl, sym, ap, subst, ◌∙◌, arith}
use Rattle.std.specs.Prelude.{is_ok, pos, negsuc, int_le, ◌≤ℤ◌}
use Rattle.std.proofs.lemmas.Int.{ints}
use Rattle.std.specs.List.{AllByRecursion, list_all}
use Rattle.std.proofs.lemmas.Bool.{and_from, and_parts}
use Rattle.wsm_record.specs.declared.event.Value.{Value}
use Rattle.wsm_record.specs.Schema.{FieldType, DeclaredField, fits_type, fit_fields, is_i64, is_spelt_type, is_spelt_field}
use Rattle.wsm_record.specs.Name.{is_name}
use Rattle.wsm_program.specs.declared.instr.SectionId.{SectionId}
use Rattle.wsm_program.specs.declared.instr.SectionId.TheVariants.{Where, Update}
use Rattle.wsm_program.specs.Program.{is_program}
use Rattle.wsm_program.specs.declared.program.Costs.{Costs}
use Rattle.wsm_rules.specs.declared.rejection.Rejection.{Rejection}
use Rattle.wsm_rules.specs.Rules.{judge}
use Rattle.wsm_record.specs.declared.cell.Cell.{Cell}
use Rattle.wsm_machine.specs.declared.outcome.Outcome.{Outcome}
use Rattle.wsm_machine.specs.declared.outcome.Outcome.TheVariants.{Done, Trap as Trapped}
use Rattle.wsm_machine.specs.declared.outcome.Trap.{Trap}
use Rattle.wsm_machine.specs.declared.run.Ran.{Ran}
use Rattle.wsm_machine.specs.Inputs.{Inputs, is_of_field, are_of_fields}
use Rattle.wsm_machine.specs.InRange.{in_range, are_folded_in, is_word}
use Rattle.wsm_machine.specs.Run.{run}
use Rattle.wsm_machine.specs.Meaning as program
use Rattle.wsm_machine.specs.Meaning.{record_inputs, where_run, update_run, is_done, top_is_true, updated}
use Rattle.wsm_machine.proofs.AccumulatorRanges.{le_is, le_true}
use Rattle.wsm_machine.proofs.CompleteRuns.{completes}
use Rattle.wsm_machine.proofs.EndedRuns.{folds, values_are}
use Rattle.wsm_query.specs.Tree.{Query, Expr}
use Rattle.wsm_record.specs.declared.words.CellType.TheVariants as types
use Rattle.wsm_check.specs.Aggregates.{Acc, accumulators, in_option}
use Rattle.wsm_compiler.specs.Meaning.{Scene, meaning, meets_i64, on_record, is_true, condition_holds, selects}
use Rattle.wsm_compiler.specs.Program.{program_of}
use Rattle.wsm_compiler.specs.Runs.{cell}
use Rattle.wsm_compiler.specs.Sections.{in_bounds, condition_value, folded_values, on_stack, Traps, Leaves, Folds, record_fits}
use Rattle.wsm_compiler.specs.SameMeaning.{IsAccepted, record_in_range, HasValue, TotalOnRecords}
use Rattle.wsm_machine.proofs.FittingStacks.{no}
use Rattle.wsm_compiler.proofs.Parts.{none≢some}
use Rattle.wsm_compiler.proofs.Lawful.{is_lawful}
use Rattle.wsm_compiler.proofs.SectionRuns.{where_runs}
use Rattle.wsm_compiler.proofs.UpdateRuns.{update_runs}

-- ---- runs that end

pub costs_of : (r : Result Costs Rejection) → is_ok r ≡ true → (c : Costs) × (r ≡ Ok c)
costs_of r h = grind arith

pub lawful : (q : Query) → IsAccepted q → is_program (program_of q) ≡ true
lawful q a = is_lawful q a.checked a.spelt

pub ends : (q : Query) → IsAccepted q → (s : SectionId) (d : Inputs) → in_range (program_of q) s d ≡ true → (run (program_of q) s d).outcome ≡ Done
ends q a s d h = let c = costs_of (judge (program_of q)) a.accepted in (completes (program_of q) c.0 c.1 (lawful q a) s d h).done

not_trapped : (o : Outcome) (t : Trap) → o ≡ Done → o ≡ Trapped t → ⊥
not_trapped o t e h = let tag : Outcome → Bool = λ x. elim x [ Done ↦ true | Trapped t ↦ false ] in no (ap tag (sym h ∙ e))

no_traps : {X : Type 0} (r : Ran) → r.outcome ≡ Done → Traps r → X
no_traps r e h3 = grind (arith, not_trapped)

-- the stack that it leaves
pub left : (r : Ran) (o : Option (List Cell)) → r.outcome ≡ Done → Leaves r o → o ≡ Some r.stack
left r o e h = grind (arith, no_traps)

pub folded : (r : Ran) (o : Option (List Value)) → r.outcome ≡ Done → Folds r o → (vs : List Value) × (o ≡ Some vs) × (r.folds ≡ map Some vs)
folded r o e h = grind (arith, no_traps)

-- ---- values

pub in_bounds_is : (b : Bool) (o : Option Value) (v : Value) → cond b o None ≡ Some v → (o ≡ Some v) × (b ≡ true)
in_bounds_is b o v h = grind arith

pub has_value : (q : Query) (s : Scene) (e : Expr) (v : Value) → in_bounds q s 0 e ≡ Some v → HasValue q s e
has_value q s e v h = let p = in_bounds_is (meets_i64 q s 0 e) (meaning q s e) v h in record { value = v; is = p.0; in_i64 = p.1 }

pub condition_has : (q : Query) (s : Scene) (o : Option Expr) (v : Value) → condition_value q s 0 o ≡ Some v → AllByRecursion (HasValue q s) (in_option o) × (condition_holds q s o ≡ is_true (Some v))
condition_has q s o v h = grind (arith, has_value, in_bounds_is)

-- a value on top of the stack
top_is : (v : Value) (rest : List Cell) → top_is_true (cell types.Bool v ∷ rest) ≡ is_true (Some v)
top_is v rest = grind arith

-- what a section says that ends with a truth on top
pub says : (r : Ran) (v : Value) (rest : List Cell) → r.outcome ≡ Done → r.stack ≡ cell types.Bool v ∷ rest → program.says_true r ≡ is_true (Some v)
says r v rest e h = (λ i. is_done (e i) && top_is_true (h i)) ∙ top_is v rest

-- ---- inputs

of_type : (t : FieldType) (v : Value) → fits_type t v ≡ true → is_of_field t v ≡ true
of_type t v h = grind arith

of_fields : (fs : List DeclaredField) (vs : List Value) → fit_fields fs vs ≡ true → are_of_fields fs vs ≡ true
of_fields [] [] h = refl
of_fields (f ∷ fs) (v ∷ vs) h =
    let p = and_parts (fits_type f.type v) (fit_fields fs vs) h in and_from (is_of_field f.type v) (are_of_fields fs vs) (of_type f.type v p.0) (of_fields fs vs p.1)
of_fields fs vs h = no h

-- a number between two of 64 bits has 64 bits
between : (lo hi n : ℤ) → is_i64 lo ≡ true → is_i64 hi ≡ true → (int_le lo n && int_le n hi) ≡ true → is_i64 n ≡ true
between lo hi n h l m =
    let least = negsuc 9223372036854775807 in
    let most = pos 9223372036854775807 in
    let b = and_parts (int_le least lo) (int_le lo most) h in
    let c = and_parts (int_le least hi) (int_le hi most) l in
    let d = and_parts (int_le lo n) (int_le n hi) m in
    let above : least ≤ℤ n = omega (arith, ints, le_is least lo b.0, le_is lo n d.0) in
    let below : n ≤ℤ most = omega (arith, ints, le_is n hi d.1, le_is hi most c.1) in
    (λ i. le_true least n above i && le_true n most below i)

word_of : (t : FieldType) (v : Value) → is_spelt_type t ≡ true → fits_type t v ≡ true → is_word v ≡ true
word_of t v h l = grind (arith, between)

words : (fs : List DeclaredField) (vs : List Value) → list_all is_spelt_field fs ≡ true → fit_fields fs vs ≡ true → list_all is_word vs ≡ true
words [] [] h l = refl
words (f ∷ fs) (v ∷ vs) h l =
    let p = and_parts (is_spelt_field f) (list_all is_spelt_field fs) h in
    let n = and_parts (is_name f.name) (is_spelt_type f.type) p.0 in
    let r = and_parts (fits_type f.type v) (fit_fields fs vs) l in
    and_from (is_word v) (list_all is_word vs) (word_of f.type v n.1 r.0) (words fs vs p.1 r.1)
words fs vs h l = no l

module _ (q : Query) (a : IsAccepted q) (key : ℕ) (values : List Value) (h : record_in_range q key values ≡ true) where
  abbrev d : Inputs
  d = record_inputs key values

  fit : record_fits q d ≡ true
  fit = grind (arith, of_fields, words)

  -- ---- WHERE

  record Kept : Type 0 where
    value : Value
    is : condition_value q (on_record key values) 0 q.condition ≡ Some value
    says : program.selects (program_of q) key values ≡ is_true (Some value)

  kept_by : (o : Option Value) → condition_value q (on_record key values) 0 q.condition ≡ o → on_stack [] o ≡ Some (where_run (program_of q) key values).stack → Kept
  kept_by None is e = none≢some e
  kept_by (Some v) is e =
      let r = where_run (program_of q) key values in
      record { value = v; is = is; says = says r v [] (ends q a Where d h) (ap (λ (o : Option (List Cell)). elim o [ None ↦ [] | Some s ↦ s ]) (sym e)) }

  kept : Kept
  kept = kept_by (condition_value q (on_record key values) 0 q.condition) refl (left (where_run (program_of q) key values) _ (ends q a Where d h) (where_runs q a.checked a.spelt d fit))

  pub condition_total : AllByRecursion (HasValue q (on_record key values)) (in_option q.condition)
  condition_total = (condition_has q (on_record key values) q.condition kept.value kept.is).0

  pub selects_same : program.selects (program_of q) key values ≡ selects q key values
  selects_same = kept.says ∙ sym (condition_has q (on_record key values) q.condition kept.value kept.is).1

  -- ---- UPDATE

  -- what it folds is each operand's value
  pub updated_is : folded_values q (on_record key values) (accumulators q) ≡ Some (updated (program_of q) key values)
  updated_is =
      let r = update_run (program_of q) key values in
      let f = folded r (folded_values q (on_record key values) (accumulators q)) (ends q a Update d h) (update_runs q a.checked a.spelt d fit) in
      f.1 ∙ ap Some (sym (values_are r.folds f.0 (updated (program_of q) key values) f.2 refl))

  -- and in the range that the verifier knows
  pub updated_in : are_folded_in (program_of q) (updated (program_of q) key values) ≡ true
  updated_in =
      let c = costs_of (judge (program_of q)) a.accepted in
      let r = update_run (program_of q) key values in
      let l = folds (program_of q) d 0 r (completes (program_of q) c.0 c.1 (lawful q a) Update d h) in
      subst (λ vs. are_folded_in (program_of q) vs ≡ true) (sym (values_are r.folds l.0 (updated (program_of q) key values) l.1 refl)) l.2

  operands_have : (accs : List Acc) (vs : List Value) → folded_values q (on_record key values) accs ≡ Some vs → AllByRecursion (λ acc. HasValue q (on_record key values) acc.operand) accs
  operands_have [] vs e = tt
  operands_have (acc ∷ accs) vs e = by_value (operands_have accs) (in_bounds q (on_record key values) 0 acc.operand) (folded_values q (on_record key values) accs) refl refl e
    where
      by_value : ((ws : List Value) → folded_values q (on_record key values) accs ≡ Some ws → AllByRecursion (λ acc. HasValue q (on_record key values) acc.operand) accs) → (o : Option Value) (rest : Option (List Value)) → in_bounds q (on_record key values) 0 acc.operand ≡ o → folded_values q (on_record key values) accs ≡ rest →
          elim o as (λ x. Option (List Value)) [ None ↦ None | Some x ↦ elim rest [ None ↦ None | Some xs ↦ Some (x ∷ xs) ] ] ≡ Some vs → AllByRecursion (λ acc. HasValue q (on_record key values) acc.operand) (acc ∷ accs)
      by_value go None rest f g e = none≢some e
      by_value go (Some v) None f g e = none≢some e
      by_value go (Some v) (Some ws) f g e = (has_value q (on_record key values) acc.operand v f, go ws g)

  pub operands_total : AllByRecursion (λ acc. HasValue q (on_record key values) acc.operand) (accumulators q)
  operands_total = operands_have (accumulators q) (updated (program_of q) key values) updated_is

pub total_on_records : (q : Query) → TotalOnRecords q
total_on_records q a key values h = (condition_total q a key values h, operands_total q a key values h)
