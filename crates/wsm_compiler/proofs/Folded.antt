-- What UPDATE folds into each accumulator, where it has no fault: one value, of its operand's range.
use Rattle.std.proofs.Common.{◌≡◌, ℕ, suc, ◌+◌, ◌≤◌, ◌<◌, Bool, true, false, ◌&&◌, not, cond, List, [], ◌∷◌, ◌++◌, length, Option, Some, None, refl, sym, ap, subst, ◌∙◌, arith, length-append}
use Rattle.std.specs.Prelude.{ℤ, ◌*ℤ◌, nat_eq}
use Rattle.std.specs.List.{list_all}
use Rattle.std.specs.Int.{int_min, int_max}
use Rattle.std.proofs.lemmas.Bool.{and_parts}
use Rattle.wsm_record.specs.declared.words.Kind.{Kind}
use Rattle.wsm_record.specs.declared.words.Kind.TheVariants.{Sum, Min, Max, Any, All}
use Rattle.wsm_interval.specs.declared.interval.Interval.{Interval}
use Rattle.wsm_interval.specs.Interval.{interval}
use Rattle.wsm_record.specs.Schema.{is_i64}
use Rattle.wsm_program.specs.declared.instr.Instr.{Instr}
use Rattle.wsm_program.specs.declared.instr.FieldTest.{FieldTest}
use Rattle.wsm_program.specs.declared.instr.Instr.TheVariants as instr
use Rattle.wsm_program.specs.declared.program.Costs.{Costs}
use Rattle.wsm_query.specs.Tree.{Query, Expr}
use Rattle.wsm_record.specs.Types.{kind_type}
use Rattle.wsm_check.specs.declared.types.Around.TheVariants.{InAggregate}
use Rattle.wsm_check.specs.Terms.{Term, If, Minus, Not, Binary, And, Or, resolved}
use Rattle.wsm_check.specs.Tested.{unless_tested}
use Rattle.wsm_check.specs.Aggregates.{Acc, accumulators, accumulators_of}
use Rattle.wsm_rules.specs.declared.known.Known.{Known}
use Rattle.wsm_rules.specs.declared.known.Known.TheVariants as known
use Rattle.wsm_rules.specs.Labels.{State, Ranges, Label, Reached, Visit, visit, visit_of}
use Rattle.wsm_rules.specs.Rules.{entry, known_fields, ranges_of_record, hull_options, last_number, value_folded, values_folded, update_visits}
use Rattle.wsm_compiler.specs.TermCode.{choice, instruction, test_code, jump_unless, term_test, term_size, term_code}
use Rattle.wsm_compiler.specs.Code.{code, size, need, folds, update_section}
use Rattle.wsm_compiler.specs.Ranges.{Range, Unfit, NoNumber, Within, of_aggregate, range, fits}
use Rattle.wsm_compiler.specs.Program.{program_stating}
use Rattle.wsm_compiler.proofs.Operators.{of_operator}
use Rattle.wsm_compiler.proofs.Visits.{extended, added, added_append, visits_are}
use Rattle.wsm_machine.proofs.FittingStacks.{no}
use Rattle.wsm_compiler.proofs.Parts.{Comes, Labels, continued, shorter, visit_is}
use Rattle.wsm_compiler.proofs.Tests.{with_known, pushed_on}
use Rattle.wsm_compiler.proofs.QueryTerms.{folds_size, folds_need}
use Rattle.wsm_compiler.proofs.Sizes.{length-code, length-folds, some_code, some_folds, some_folds_size}
use Rattle.wsm_compiler.proofs.Found.{found}
use Rattle.wsm_compiler.proofs.FoundRanges.{suits, known_of}
use Rattle.wsm_compiler.proofs.ExpressionRanges.{range_suits, found_here}
use Rattle.wsm_compiler.proofs.CodeLabels.{labelled}
use Rattle.wsm_compiler.proofs.KnownFields.{reads_update}
use Rattle.wsm_compiler.proofs.UpdateFaults.{folded_so, set_next, unset, takes, if_takes, updating, behind_fold, fold_one, acc_fits, accs_fit, AccsTyped, KindsAt, no_accs, entry_is, all_kinds}
use Rattle.wsm_compiler.proofs.Rooms.{sole_room, next_room}
use Rattle.wsm_semantics.proofs.MergedRecords.{unlike_newer}
use Rattle.wsm_semantics.proofs.Each.{itself}

-- ---- only folds fold

abbrev not_fold : Instr → Bool
not_fold (instr.Fold a) = false
not_fold i = true

value_none : (b : ℕ) (i : Instr) (l : Label) → not_fold i ≡ true → value_folded b i l ≡ None
value_none b i l h = grind arith

none_both : (x y : Option Interval) → hull_options x y ≡ None → (x ≡ None) × (y ≡ None)
none_both x y h = grind arith

none_in_front : (b : ℕ) (vs ws : List Visit) → values_folded b vs ≡ None → values_folded b (vs ++ ws) ≡ values_folded b ws
none_in_front b [] ws h = refl
none_in_front b (v ∷ vs) ws h =
    let p = none_both (value_folded b v.instr v.label) (values_folded b vs) h in
    (λ i. hull_options (p.0 i) (none_in_front b vs ws p.1 i))

none_behind : (b : ℕ) (vs ws : List Visit) → values_folded b ws ≡ None → values_folded b (vs ++ ws) ≡ values_folded b vs
none_behind b [] ws h = h
none_behind b (v ∷ vs) ws h = ap (hull_options (value_folded b v.instr v.label)) (none_behind b vs ws h)

values_none : (e : State) (r : Ranges) (b : ℕ) (vs : List Visit) (is : List Instr) → list_all not_fold is ≡ true → values_folded b (added e r vs is) ≡ None
values_none e r b vs [] h = refl
values_none e r b vs (i ∷ is) h =
    let p = and_parts (not_fold i) (list_all not_fold is) h in
    let v = visit_of e r i vs in
    none_in_front b (added e r (v ∷ vs) is) (v ∷ []) (values_none e r b (v ∷ vs) is p.1) ∙ ap (λ o. hull_options o None) (value_none b i v.label p.0)

all_both : (is js : List Instr) → list_all not_fold is ≡ true → list_all not_fold js ≡ true → list_all not_fold (is ++ js) ≡ true
all_both [] js h l = l
all_both (i ∷ is) js h l = let p = and_parts (not_fold i) (list_all not_fold is) h in (λ j. p.0 j && all_both is js p.1 l j)

-- neither the code of a test nor the jump of a choice folds
test_folds_none : (t : Option FieldTest) (is : List Instr) → list_all not_fold is ≡ true → list_all not_fold (test_code t is) ≡ true
test_folds_none t is h = grind arith

jump_folds_none : (t : Option FieldTest) (n : ℕ) → not_fold (jump_unless t n) ≡ true
jump_folds_none t n = grind arith

chosen_folds_none : (t : Option FieldTest) (test : List Instr) (k : ℕ) (first : List Instr) (m : ℕ) (second : List Instr) (n : ℕ) → list_all not_fold test ≡ true → list_all not_fold first ≡ true → list_all not_fold second ≡ true →
    list_all not_fold (test_code t test ++ choice (jump_unless t) k first m second n) ≡ true
chosen_folds_none t test k first m second n h l l' = grind (arith, all_both, test_folds_none, jump_folds_none)

code_folds_none : (k : ℕ) (t : Term) → list_all not_fold (term_code k t) ≡ true
code_folds_none k (If c x y) =
    let j = k + unless_tested (term_test c) (term_size c) + 1 in
    let end = j + term_size x + 1 in
    chosen_folds_none (term_test c) (term_code k c) j (term_code j x) (term_size x) (term_code end y) (term_size y) (code_folds_none k c) (code_folds_none j x) (code_folds_none end y)
code_folds_none k (Minus x) = all_both (term_code k x) (instr.Neg ∷ []) (code_folds_none k x) refl
code_folds_none k (Not x) = all_both (term_code k x) (instr.Not ∷ []) (code_folds_none k x) refl
code_folds_none k (Binary op x y) =
    let right = term_code (k + term_size x) y in
    all_both (term_code k x) (right ++ instruction op ∷ []) (code_folds_none k x) (all_both right (instruction op ∷ []) (code_folds_none (k + term_size x) y) (of_operator (λ i. list_all not_fold (i ∷ []) ≡ true) (λ a. refl) (λ c. refl) op))
code_folds_none k (And x y) =
    let j = k + unless_tested (term_test x) (term_size x) + 1 in
    chosen_folds_none (term_test x) (term_code k x) j (term_code j y) (term_size y) (instr.PushBool false ∷ []) 1 (code_folds_none k x) (code_folds_none j y) refl
code_folds_none k (Or x y) =
    let j = k + unless_tested (term_test x) (term_size x) + 1 in
    chosen_folds_none (term_test x) (term_code k x) j (instr.PushBool true ∷ []) 1 (term_code (j + 1 + 1) y) (term_size y) (code_folds_none k x) refl (code_folds_none (j + 1 + 1) y)
code_folds_none k t = refl

-- ---- the value of an operand

abbrev pub interval_of : Range → Option Interval
interval_of (Within i) = Some i
interval_of x = None

-- it is known, it is of the range, and its accumulator takes it
record Value (n : ℤ) (kind : Kind) (r : Range) : Type 0 where
  value : Known
  is : known_of (kind_type kind) r ≡ Some value
  interval : last_number (value ∷ []) ≡ interval_of r
  taken : takes n kind value ≡ true

value_of : (n : ℤ) (kind : Kind) (r : Range) → suits (kind_type kind) r ≡ true → fits (of_aggregate n kind r) ≡ true → Value n kind r
value_of n Sum Unfit h l = no l
value_of n Sum NoNumber h l = no h
value_of n Sum (Within x) h l = record {
  value = known.Number x;
  is = refl;
  interval = refl;
  taken = elim (is_i64 (n *ℤ x.lo) && is_i64 (n *ℤ x.hi)) as (λ a. fits (cond a (Within (interval (int_min x.lo (n *ℤ x.lo)) (int_max x.hi (n *ℤ x.hi)))) Unfit) ≡ true → (true && not (not a)) ≡ true) [ true ↦ λ l. refl | false ↦ λ l. l ] l;
}
value_of n Min Unfit h l = no l
value_of n Min NoNumber h l = no h
value_of n Min (Within x) h l = record { value = known.Number x; is = refl; interval = refl; taken = refl }
value_of n Max Unfit h l = no l
value_of n Max NoNumber h l = no h
value_of n Max (Within x) h l = record { value = known.Number x; is = refl; interval = refl; taken = refl }
value_of n Any Unfit h l = no l
value_of n Any NoNumber h l = record { value = known.Truth; is = refl; interval = refl; taken = refl }
value_of n Any (Within x) h l = no h
value_of n All Unfit h l = no l
value_of n All NoNumber h l = record { value = known.Truth; is = refl; interval = refl; taken = refl }
value_of n All (Within x) h l = no h

other_below : (a b : ℕ) → b < a → nat_eq b a ≡ false
other_below a b h = grind arith

module _ (q : Query) (b : Costs) where
  -- into each accumulator from the a-th on its operand's value is folded
  abbrev pub ValuesAt : ℕ → List Acc → List Visit → Type 0
  ValuesAt a [] vs = Unit {0}
  ValuesAt a (acc ∷ accs) vs = (values_folded a vs ≡ interval_of (range q acc.operand)) × ValuesAt (suc a) accs vs

  values_behind : (a : ℕ) (accs : List Acc) (vs ws : List Visit) → ((d : ℕ) → a ≤ d → values_folded d ws ≡ None) → ValuesAt a accs vs → ValuesAt a accs (vs ++ ws)
  values_behind a [] vs ws none h = tt
  values_behind a (acc ∷ accs) vs ws none h =
      (none_behind a vs ws (none a (omega arith)) ∙ h.0, values_behind (suc a) accs vs ws (λ d l. none d (omega (arith, l))) h.1)

  abbrev Folded : State → ℕ → ℕ → List Acc → List Visit → Type 0
  Folded e k a accs vs =
      ((d : ℕ) → d < a → values_folded d (added e (updating q b).ranges vs (folds q k a accs)) ≡ None)
      × ValuesAt a accs (added e (updating q b).ranges vs (folds q k a accs))

  -- the visits of one accumulator's operand and fold, and of those behind it
  module _ (e : State) (k a : ℕ) (acc : Acc) (accs : List Acc) (vs : List Visit) (value : Known) where
    abbrev r : Ranges
    r = (updating q b).ranges

    abbrev x : Expr
    x = acc.operand

    abbrev ws1 : List Visit
    ws1 = extended e r vs (code q k 0 x)

    abbrev v1 : Visit
    v1 = visit_of e r (instr.Fold a) ws1

    abbrev later : List Instr
    later = folds q (k + size q 0 x + 1) (suc a) accs

    abbrev new2 : List Visit
    new2 = added e r (v1 ∷ ws1) later

    abbrev whole : List Visit
    whole = added e r vs (folds q k a (acc ∷ accs))

    abbrev s : State
    s = folded_so q a (suc (length accs))

    whole_is : whole ≡ (new2 ++ v1 ∷ []) ++ added e r vs (code q k 0 x)
    whole_is = added_append e r vs (code q k 0 x) (instr.Fold a ∷ later)

    at : (d : ℕ) → values_folded d whole ≡ values_folded d (new2 ++ v1 ∷ [])
    at d = ap (values_folded d) whole_is ∙ none_behind d (new2 ++ v1 ∷ []) (added e r vs (code q k 0 x)) (values_none e r d vs (code q k 0 x) (code_folds_none k (resolved q 0 x)))

    module _ (l : v1 ≡ visit r (k + length (code q k 0 x)) (instr.Fold a) (Reached (with_known value s))) where
      fold_at : (d : ℕ) (y : Bool) → nat_eq d a ≡ y → values_folded d (v1 ∷ []) ≡ hull_options (cond y (last_number (value ∷ [])) None) None
      fold_at d y h = ap (λ v. values_folded d (v ∷ [])) l ∙ ap (λ z. hull_options (cond z (last_number (value ∷ [])) None) None) h

      alone : (o : Option Interval) → hull_options o None ≡ o
      alone o = grind arith

      put_together : last_number (value ∷ []) ≡ interval_of (range q x) → ((d : ℕ) → d < suc a → values_folded d new2 ≡ None) × ValuesAt (suc a) accs new2 → Folded e k a (acc ∷ accs) vs
      put_together is h = (
        λ d u. at d ∙ none_in_front d new2 (v1 ∷ []) (h.0 d (omega (arith, u))) ∙ fold_at d false (other_below a d u),
        (
          at a ∙ none_in_front a new2 (v1 ∷ []) (h.0 a (omega arith)) ∙ fold_at a true (itself a) ∙ alone (last_number (value ∷ [])) ∙ is,
          subst (λ vs. ValuesAt (suc a) accs vs) (sym whole_is)
              (values_behind (suc a) accs (new2 ++ v1 ∷ []) (added e r vs (code q k 0 x)) (λ d u. values_none e r d vs (code q k 0 x) (code_folds_none k (resolved q 0 x)))
              (values_behind (suc a) accs new2 (v1 ∷ []) (λ d u. fold_at d false (unlike_newer a d u)) h.1)),
        ),
      )

  folds_values : (e : State) (k a : ℕ) (accs : List Acc) (vs : List Visit) → AccsTyped q b accs → KindsAt q b a accs → folds_need q accs ≤ 32 → k + folds_size q accs ≤ (updating q b).n → accs_fit q b accs ≡ true →
      Comes e vs k (folded_so q a (length accs)) (length (folds q k a accs)) → Folded e k a accs vs
  folds_values e k a [] vs h kinds room more fit comes = (λ d u. refl, tt)
  folds_values e k a (acc ∷ accs) vs h kinds room more fit comes =
      let c = updating q b in
      let y = acc.operand in
      let is = code q k 0 y in
      let st = folded_so q a (suc (length accs)) in
      let rest = folds q (k + size q 0 y + 1) (suc a) accs in
      let f = and_parts (acc_fits q b acc) (accs_fit q b accs) fit in
      let v = value_of q.clock.records acc.kind (range q y) (range_suits c q InAggregate y (kind_type acc.kind) h.0) f.0 in
      let found' : found c q st.fields 0 y ≡ Some v.value = found_here c q InAggregate (reads_update q b) st.fields refl 0 y (kind_type acc.kind) h.0 (no_accs q b 0 (accumulators_of y)) ∙ v.is in
      let lc = length-code q k 0 y in
      let la = length-append is (instr.Fold a ∷ rest) in
      let whole' : Comes e vs k st (length is + length (instr.Fold a ∷ rest)) = subst (λ m. Comes e vs k st m) la comes in
      let first : Labels e c vs k is (Some (with_known v.value st)) =
      subst (λ o. Labels e c vs k is (pushed_on st o)) found' (labelled e c q InAggregate (reads_update q b) k 0 y (kind_type acc.kind) st refl h.0 (no_accs q b 0 (accumulators_of y)) (sole_room (need q 0 y) _ room) (omega (arith, more, some_folds_size q accs)) vs (shorter e vs k st (length is) (length (instr.Fold a ∷ rest)) whole')) in
      let comes1 = continued e c vs k is (length (instr.Fold a ∷ rest)) st (with_known v.value st) (some_code q k 0 y) (omega arith) whole' first in
      let ws1' = extended e c.ranges vs is in
      let k1 = k + length is in
      let one' : length (instr.Fold a ∷ rest) ≡ length (instr.Fold a ∷ []) + length rest = omega arith in
      let comes1' = subst (λ m. Comes e ws1' k1 (with_known v.value st) m) one' comes1 in
      let second : Labels e c ws1' k1 (instr.Fold a ∷ []) (Some (behind_fold q b a st)) =
      subst (λ t. Labels e c ws1' k1 (instr.Fold a ∷ []) (if_takes t (behind_fold q b a st))) v.taken
      (fold_one q b e k1 a v.value st acc.kind kinds.0 (unset a (length accs)) (omega arith) (omega (arith, more, lc, some_folds_size q accs)) ws1' (shorter e ws1' k1 (with_known v.value st) (length (instr.Fold a ∷ [])) (length rest) comes1')) in
      let comes2 = continued e c ws1' k1 (instr.Fold a ∷ []) (length rest) (with_known v.value st) (behind_fold q b a st) (omega arith) (some_folds q (k + size q 0 y + 1) (suc a) accs) comes1' second in
      let place : k1 + length (instr.Fold a ∷ []) ≡ k + size q 0 y + 1 = omega (arith, lc) in
      let ws2' = extended e c.ranges ws1' (instr.Fold a ∷ []) in
      let comes3 : Comes e ws2' (k + size q 0 y + 1) (folded_so q (suc a) (length accs)) (length rest) =
      subst (λ fs. Comes e ws2' (k + size q 0 y + 1) (record { stack = []; folded = fs; fields = known_fields 0 q.fields }) (length rest)) (set_next a (length accs)) (subst (λ n. Comes e ws2' n (behind_fold q b a st) (length rest)) place comes2) in
      put_together e k a acc accs vs v.value (visit_is e c.ranges (instr.Fold a) ws1' k1 (with_known v.value st) comes1.long comes1.label) v.interval
      (folds_values e (k + size q 0 y + 1) (suc a) accs ws2' h.1 kinds.1 (next_room (need q 0 y) _ room) (omega (arith, more)) f.1 comes3)

  -- into each accumulator of the program
  pub all_values : AccsTyped q b (accumulators q) → folds_need q (accumulators q) ≤ 32 → accs_fit q b (accumulators q) ≡ true → ValuesAt 0 (accumulators q) (update_visits (program_stating q b))
  all_values h room fit =
      let p = program_stating q b in
      let l = length-folds q 0 0 (accumulators q) in
      let comes : Comes (entry p) [] 0 (entry p) (length (update_section q)) = record { long = refl; label = refl; quiet = λ d u w. refl } in
      subst (λ vs. ValuesAt 0 (accumulators q) vs) (sym (visits_are (entry p) (ranges_of_record p) (update_section q)))
      (folds_values (entry p) 0 0 (accumulators q) [] h (all_kinds q b) room (omega (arith, l)) fit (subst (λ s. Comes (entry p) [] 0 s (length (update_section q))) (sym (entry_is q b)) comes)).1
