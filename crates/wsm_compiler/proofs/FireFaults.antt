-- FIRE has a fault exactly where a range of a column or of HAVING doesn't fit, where those of all aggregates do.
use Rattle.std.proofs.Common.{◌≡◌, ℕ, zero, suc, ◌≤◌, true, ◌&&◌, not, List, [], ◌∷◌, ◌++◌, map, reverse, Option, Some, refl, sym, ap, subst, ◌∙◌, arith, append-nil}
use Rattle.std.specs.Prelude.{ℤ, is_some, slice_get, slice_index_or}
use Rattle.std.specs.List.{flat_map}
use Rattle.std.proofs.lemmas.Grind.{flat_map-append}
use Rattle.std.proofs.lemmas.Option.{same_Some}
use Rattle.std.proofs.lemmas.Bool.{and_parts}
use Rattle.wsm_record.specs.declared.words.Kind.{Kind}
use Rattle.wsm_program.specs.declared.SectionId.TheVariants.{Fire}
use Rattle.wsm_program.specs.declared.program.Costs.{Costs}
use Rattle.wsm_query.specs.Tree.{Query, Expr}
use Rattle.wsm_record.specs.Types.{kind_type}
use Rattle.wsm_check.specs.declared.types.Around.TheVariants.{InColumn, InAggregate}
use Rattle.wsm_check.specs.Aggregates.{Acc, accumulators, accumulators_of, in_option}
use Rattle.wsm_rules.specs.declared.known.Known.{Known}
use Rattle.wsm_rules.specs.declared.known.Known.TheVariants.{Truth}
use Rattle.wsm_rules.specs.Labels.{Visit}
use Rattle.wsm_rules.specs.Rules.{Setting, setting, entry, and_then, accumulated, known_range, known_accumulators, ranges_of_pane, update_visits, column_known, fault_in}
use Rattle.wsm_compiler.specs.Ranges.{Range, of_aggregate, range, fits}
use Rattle.wsm_check.specs.Parts.{aggregates_of, column_type}
use Rattle.wsm_compiler.specs.Program.{program_stating}
use Rattle.wsm_compiler.proofs.Parts.{none≢some}
use Rattle.wsm_compiler.proofs.FoundRanges.{suits, known_of}
use Rattle.wsm_compiler.proofs.ExpressionRanges.{Accs, range_suits}
use Rattle.wsm_compiler.proofs.QueryTerms.{kinds_of, folds_need, columns_need}
use Rattle.wsm_compiler.proofs.Sizes.{sizes_are_lengths, some_columns_size}
use Rattle.wsm_compiler.proofs.SectionEnds.{whole_section}
use Rattle.wsm_compiler.proofs.KnownFields.{reads_fire}
use Rattle.wsm_compiler.proofs.Conditions.{condition_fits, in_condition, ConditionTyped, ColumnsTyped, columns_fit, columns_ends}
use Rattle.wsm_compiler.proofs.UpdateFaults.{updating, acc_fits, accs_fit, AccsTyped}
use Rattle.wsm_compiler.proofs.Folded.{interval_of, ValuesAt, all_values}

-- what ACC pushes is told of by the aggregate's range
aggregate_known : (n : ℤ) (kind : Kind) (r : Range) → suits (kind_type kind) r ≡ true → fits (of_aggregate n kind r) ≡ true →
    Some (known_range (and_then (accumulated n kind) (interval_of r))) ≡ known_of (kind_type kind) (of_aggregate n kind r)
aggregate_known n kind r h l = grind (arith, known_of)

flat_option : (o : Option Expr) → flat_map accumulators_of (in_option o) ≡ in_condition o
flat_option o = grind (arith, append-nil)

module _ (q : Query) (b : Costs) where
  abbrev known_from : ℕ → List Acc → List Visit → List Known
  known_from n accs vs = known_accumulators q.clock.records n (kinds_of q accs) vs

  -- the j-th of the accumulators from the n-th on
  known_at : (n : ℕ) (accs : List Acc) (vs : List Visit) (j : ℕ) (acc : Acc) → AccsTyped q b accs → accs_fit q b accs ≡ true → ValuesAt q b n accs vs → slice_get accs j ≡ Some acc →
      Some (slice_index_or (known_from n accs vs) j Truth) ≡ known_of (kind_type acc.kind) (of_aggregate q.clock.records acc.kind (range q acc.operand))
  known_at n [] vs j acc h fit values e = none≢some e
  known_at n (x ∷ accs) vs zero acc h fit values e =
      let f = and_parts (acc_fits q b x) (accs_fit q b accs) fit in
      ap (λ o. Some (known_range (and_then (accumulated q.clock.records x.kind) o))) values.0
      ∙ aggregate_known q.clock.records x.kind (range q x.operand) (range_suits (updating q b) q InAggregate x.operand (kind_type x.kind) h.0) f.0
      ∙ ap (λ z. known_of (kind_type z.kind) (of_aggregate q.clock.records z.kind (range q z.operand))) (same_Some x acc e)
  known_at n (x ∷ accs) vs (suc j) acc h fit values e = known_at (suc n) accs vs j acc h.1 (and_parts (acc_fits q b x) (accs_fit q b accs) fit).1 values.1 e

  abbrev pub firing : Setting
  firing = let p = program_stating q b in setting p Fire (ranges_of_pane p (update_visits p))

  pub accs_known : AccsTyped q b (accumulators q) → accs_fit q b (accumulators q) ≡ true → ValuesAt q b 0 (accumulators q) (update_visits (program_stating q b)) → Accs firing q 0 (accumulators q)
  accs_known h fit values j acc e = grind (arith, known_at)

  pub accs_are : accumulators q ≡ flat_map accumulators_of q.columns ++ in_condition q.having
  accs_are = flat_map-append accumulators_of q.columns (in_option q.having) ∙ ap (λ zs. flat_map accumulators_of q.columns ++ zs) (flat_option q.having)

  -- FIRE
  pub fire_faults : ColumnsTyped q q.columns → ConditionTyped q InColumn q.having → AccsTyped q b (accumulators q) → folds_need q (accumulators q) ≤ 32 → columns_need q (aggregates_of q.columns) 0 q.columns ≤ 32 →
      accs_fit q b (accumulators q) ≡ true →
      is_some (fault_in (program_stating q b) Fire (ranges_of_pane (program_stating q b) (update_visits (program_stating q b)))) ≡ not (columns_fit q q.columns && condition_fits q q.having)
  fire_faults h hh ha low room fit =
      let p = program_stating q b in
      let vs = update_visits p in
      let r = ranges_of_pane p vs in
      let fault = not (columns_fit q q.columns && condition_fits q q.having) in
      let l = (sizes_are_lengths q).2 in
      whole_section p Fire r fault (omega (arith, l, some_columns_size q (aggregates_of q.columns) 0 q.columns))
      (columns_ends (entry p) firing q (reads_fire q b (known_accumulators q.clock.records 0 p.header.kinds vs)) (aggregates_of q.columns) 0 0 q.columns (entry p) [] (omega arith) refl h hh
      (subst (λ accs. Accs firing q 0 accs) accs_are (accs_known ha fit (all_values q b ha low fit))) (omega (arith, room)) (omega (arith, l)) refl
      (ap (λ zs. Truth ∷ zs) (sym (append-nil (reverse (map column_known (map (column_type q) q.columns)))))) refl)
