-- A run of UPDATE folds the meaning of each aggregate's operand, or traps where one has none.
use Rattle.std.proofs.Common.{◌≡◌, ℕ, suc, ◌+◌, ◌≤◌, true, false, not, cond, List, [], ◌∷◌, ◌++◌, length, map, replicate, Option, Some, None, refl, sym, ap, subst, ◌∙◌, arith, append_assoc, length-append, append-nil}
use Rattle.std.specs.Prelude.{is_some, slice_get, slice_set}
use Rattle.std.specs.List.{list_all}
use Rattle.std.proofs.lemmas.List.{length-map, map-append}
use Rattle.std.proofs.lemmas.Option.{get_or_from_slice_get}
use Rattle.wsm_record.specs.declared.event.Value.{Value}
use Rattle.wsm_record.specs.declared.words.Kind.{Kind}
use Rattle.wsm_record.specs.declared.words.Kind.TheVariants.{Sum}
use Rattle.wsm_program.specs.declared.instr.Instr.TheVariants as instr
use Rattle.wsm_program.specs.declared.instr.SectionId.TheVariants.{Update}
use Rattle.wsm_program.specs.Instructions.{acc_type}
use Rattle.wsm_program.specs.declared.program.Costs.{Costs}
use Rattle.wsm_record.specs.Types.{kind_type}
use Rattle.wsm_machine.specs.declared.outcome.Trap.TheVariants.{Underflow, WrongType, FoldTwice}
use Rattle.wsm_machine.specs.declared.run.Ran.{Ran}
use Rattle.wsm_machine.specs.Inputs.{Inputs}
use Rattle.wsm_machine.specs.Step.{Setting, setting, State, Goes, step, unless, type_of, value_of, is_type, folds_twice}
use Rattle.wsm_machine.specs.Run.{run_at}
use Rattle.wsm_query.specs.Tree.{Query}
use Rattle.wsm_record.specs.declared.words.CellType.{CellType}
use Rattle.wsm_check.specs.declared.types.Around.TheVariants.{InAggregate}
use Rattle.wsm_check.specs.Spelt.{numbers_fit}
use Rattle.std.proofs.lemmas.Bool.{and_parts}
use Rattle.wsm_compiler.proofs.Operands.{operands_fit}
use Rattle.wsm_compiler.proofs.Lawful.{operands_numbers_of}
use Rattle.wsm_check.specs.Aggregates.{Acc, accumulators, accumulators_of}
use Rattle.wsm_compiler.specs.Meaning.{Scene, on_record}
use Rattle.wsm_compiler.specs.Code.{size, need, folds, update_section}
use Rattle.wsm_compiler.specs.Program.{program_stating, stated, needed_of, program_of}
use Rattle.wsm_compiler.specs.Runs.{of_ty, cell, ServesAccs, state, topped, Gives, StandsAt}
use Rattle.wsm_compiler.specs.Sections.{record_fits, in_bounds, folded_values, Folds, UpdateRuns}
use Rattle.wsm_machine.proofs.FittingStacks.{no}
use Rattle.wsm_compiler.proofs.KnownFields.{in_column}
use Rattle.wsm_compiler.proofs.Checked.{fine}
use Rattle.wsm_compiler.proofs.UpdateFaults.{AccsTyped}
use Rattle.wsm_compiler.proofs.QueryTerms.{kinds_of, kinds_are, folds_size, folds_need}
use Rattle.wsm_compiler.proofs.Sizes.{length-folds, some_folds_size}
use Rattle.wsm_compiler.proofs.Machine.{run_goes, gives_on}
use Rattle.wsm_compiler.proofs.ExpressionRuns.{split_code}
use Rattle.wsm_compiler.proofs.InputMeanings.{serves_update}
use Rattle.wsm_compiler.proofs.SectionRuns.{stands_all, return_ends, code_means, means_has}
use Rattle.wsm_compiler.proofs.Choices.{has_one}
use Rattle.wsm_compiler.proofs.Rooms.{sole_room, next_room}

-- ---- accumulators, of which the first are folded

unfolded_at : (done rest : List (Option Value)) → folds_twice (instr.Fold (length done)) (done ++ None ∷ rest) ≡ false
unfolded_at [] rest = refl
unfolded_at (v ∷ done) rest = unfolded_at done rest

set_at : (done rest : List (Option Value)) (v : Value) → slice_set (done ++ None ∷ rest) (length done) (Some v) ≡ (done ++ Some v ∷ []) ++ rest
set_at [] rest v = refl
set_at (w ∷ done) rest v = ap (λ vs. w ∷ vs) (set_at done rest v)

all_folded : (vs : List Value) → list_all is_some (map (λ (v : Value). Some v) vs ++ []) ≡ true
all_folded [] = refl
all_folded (v ∷ vs) = all_folded vs

kind_at : (q : Query) (before accs : List Acc) (acc : Acc) → slice_get (kinds_of q (before ++ acc ∷ accs)) (length before) ≡ Some acc.kind
kind_at q [] accs acc = refl
kind_at q (x ∷ before) accs acc = kind_at q before accs acc

folds_type : (kind : Kind) (v : Value) → of_ty (kind_type kind) (Some v) ≡ true → is_type (kind_type kind) (type_of (cell (kind_type kind) v)) ≡ true
folds_type kind v h = grind arith

pub value_is : (t : CellType) (v : Value) → value_of (cell t v) ≡ v
value_is t v = grind arith

-- a run that goes on as one that folds
folds_on : (r p : Ran) (o : Option (List Value)) → r.outcome ≡ p.outcome → r.stack ≡ p.stack → r.folds ≡ p.folds → Folds p o → Folds r o
folds_on r p o e l m h7 = grind arith

pub folds_behind : (c : Setting) (s t : State) (o : Option (List Value)) → Gives c s (Some t) → Folds (run_at c t) o → Folds (run_at c s) o
folds_behind c s t o g h = folds_on (run_at c s) (run_at c t) o (ap (λ (r : Ran). r.outcome) g.1) (ap (λ (r : Ran). r.stack) g.1) (ap (λ (r : Ran). r.folds) g.1) h

abbrev with_front : List Value → Option (List Value) → Option (List Value)
with_front vs None = None
with_front vs (Some ws) = Some (vs ++ ws)

abbrev one_more : Value → Option (List Value) → Option (List Value)
one_more v o = elim o [ None ↦ None | Some xs ↦ Some (v ∷ xs) ]

front_moved : (vs : List Value) (v : Value) (o : Option (List Value)) → with_front (vs ++ v ∷ []) o ≡ with_front vs (one_more v o)
front_moved vs v o = grind (arith, append_assoc)

with_none : (o : Option (List Value)) → with_front [] o ≡ o
with_none o = grind arith

module _ (q : Query) (b : Costs) (d : Inputs) (fit : record_fits q d ≡ true) where
  abbrev c : Setting
  c = setting (program_stating q b) Update d

  abbrev s : Scene
  s = on_record d.key d.values

  abbrev held : List Value → ℕ → List (Option Value)
  held vs n = map (λ (v : Value). Some v) vs ++ replicate n None

  none_inside : (accs : List Acc) → ServesAccs c InAggregate s 0 accs
  none_inside accs e = no (ap in_column e)

  -- a fold takes the value on top into its accumulator
  fold_step : (k : ℕ) (vs : List Value) (n a : ℕ) (kind : Kind) (v : Value) → length vs ≡ a → of_ty (kind_type kind) (Some v) ≡ true → slice_get c.code k ≡ Some (instr.Fold a) → slice_get c.kinds a ≡ Some kind →
      Gives c (state k (cell (kind_type kind) v ∷ []) (held vs (suc n))) (Some (state (k + 1) [] (held (vs ++ v ∷ []) n)))
  fold_step k vs n a kind v l has at is =
      let done = map (λ (v : Value). Some v) vs in
      let rest : List (Option Value) = replicate n None in
      let x = cell (kind_type kind) v in
      let m = state k (x ∷ []) (done ++ None ∷ rest) in
      let place : a ≡ length done = sym (length-map vs (λ (v : Value). Some v) ∙ l) in
      let set = slice_set (done ++ None ∷ rest) (length done) (Some (value_of x)) in
      let taken : is_type (acc_type c.kinds (length done)) (type_of x) ≡ true =
      ap (λ k. is_type (kind_type k) (type_of x)) (get_or_from_slice_get c.kinds (length done) kind Sum (subst (λ p. slice_get c.kinds p ≡ Some kind) place is)) ∙ folds_type kind v has in
      let next : set ≡ (done ++ Some v ∷ []) ++ rest = ap (λ w. slice_set (done ++ None ∷ rest) (length done) (Some w)) (value_is (kind_type kind) v) ∙ set_at done rest v in
      let goes : step c m (instr.Fold (length done)) ≡ Goes (state (k + 1) [] set) =
      (λ i. unless (cond (has_one 0 i) (Some Underflow) (cond (not (taken i)) (Some WrongType) (cond (unfolded_at done rest i) (Some FoldTwice) None))) (Goes (state (k + 1) [] set))) in
      subst (λ fs. Gives c m (Some (state (k + 1) [] fs))) (next ∙ ap (λ fs. fs ++ rest) (sym (map-append (λ (v : Value). Some v) vs (v ∷ []))))
      (run_goes c m (state (k + 1) [] set) (instr.Fold (length done)) (subst (λ p. slice_get c.code k ≡ Some (instr.Fold p)) place at) goes)

  folds_run : (k : ℕ) (before accs : List Acc) (vs : List Value) → before ++ accs ≡ accumulators q → length vs ≡ length before → AccsTyped q b accs → operands_fit accs ≡ true → StandsAt c.code k (folds q k (length before) accs) → k + folds_size q accs ≤ length c.code → folds_need q accs ≤ 32 →
      Folds (run_at c (state k [] (held vs (length accs)))) (with_front vs (folded_values q s accs))
  folds_run k before [] vs e l h fits at inside room =
      let st = state k [] (held vs 0) in
      let r = return_ends c st at.0 (all_folded vs) in
      (ap (λ (r : Ran). r.outcome) r, ap (λ (r : Ran). r.stack) r, ap (λ (r : Ran). r.folds) r ∙ append-nil (map (λ (v : Value). Some v) vs) ∙ ap (map (λ (v : Value). Some v)) (sym (append-nil vs)))
  folds_run k before (acc ∷ accs) vs e l h fits at inside room =
      let numbers = and_parts (numbers_fit acc.operand) (operands_fit accs) fits in
      let y = acc.operand in
      let t = kind_type acc.kind in
      let a = length before in
      let j = k + size q 0 y in
      let parts = split_code q c.code k 0 y (instr.Fold a ∷ folds q (j + 1) (suc a) accs) at in
      let serves = serves_update q b d fit in
      let la = length-append before (acc ∷ []) in
      let count : length (before ++ acc ∷ []) ≡ suc a = omega (arith, la) in
      by_value k j vs (length accs) acc (folded_values q s accs) (in_bounds q s 0 y) (means_has c q InAggregate s serves 0 y t h.0 (none_inside (accumulators_of y)))
      (code_means c q InAggregate s serves k 0 y (λ n. numbers.0) t h.0 (none_inside (accumulators_of y)) parts.0 (omega (arith, inside, some_folds_size q accs)) [] (held vs (suc (length accs))) (sole_room (need q 0 y) _ room))
      (λ v has.
      let lv = length-append vs (v ∷ []) in (
        fold_step j vs (length accs) a acc.kind v l has parts.1.0 (ap (λ xs. slice_get (kinds_of q xs) a) (sym e) ∙ kind_at q before accs acc),
        folds_run (j + 1) (before ++ acc ∷ []) accs (vs ++ v ∷ []) (append_assoc before (acc ∷ []) accs ∙ e) (omega (arith, lv, count, l)) h.1 numbers.1 (subst (λ n. StandsAt c.code (j + 1) (folds q (j + 1) n accs)) (sym count) parts.1.1) (omega (arith, inside)) (next_room (need q 0 y) _ room),
      ))
    where
      by_value : (k j : ℕ) (vs : List Value) (n : ℕ) (acc : Acc) (rest : Option (List Value)) (o : Option Value) → of_ty (kind_type acc.kind) o ≡ true →
          Gives c (state k [] (held vs (suc n))) (topped j [] (held vs (suc n)) (kind_type acc.kind) o) →
          ((v : Value) → of_ty (kind_type acc.kind) (Some v) ≡ true →
          Gives c (state j (cell (kind_type acc.kind) v ∷ []) (held vs (suc n))) (Some (state (j + 1) [] (held (vs ++ v ∷ []) n))) × Folds (run_at c (state (j + 1) [] (held (vs ++ v ∷ []) n))) (with_front (vs ++ v ∷ []) rest)) →
          Folds (run_at c (state k [] (held vs (suc n)))) (with_front vs (elim o [ None ↦ None | Some v ↦ elim rest [ None ↦ None | Some xs ↦ Some (v ∷ xs) ] ]))
      by_value k j vs n acc rest None has g go = g
      by_value k j vs n acc rest (Some v) has g go =
          let st = state k [] (held vs (suc n)) in
          let m = state j (cell (kind_type acc.kind) v ∷ []) (held vs (suc n)) in
          let u = state (j + 1) [] (held (vs ++ v ∷ []) n) in
          let p = go v has in
          folds_behind c st u (with_front vs (one_more v rest)) (gives_on c st m (Some u) g p.0) (subst (λ o. Folds (run_at c u) o) (front_moved vs v rest) p.1)

pub update_runs : (q : Query) → UpdateRuns q
update_runs q checked spelt d fit =
    let b = stated (needed_of q) q.budget in
    let f = fine q b checked in
    let c = setting (program_of q) Update d in
    let l = length-folds q 0 0 (accumulators q) in
    let none : List (Option Value) = replicate (length (accumulators q)) None in
    let same : replicate (length c.kinds) None ≡ none = ap (λ n. replicate n None) (ap length (kinds_are q (accumulators q)) ∙ length-map (accumulators q) (λ (acc : Acc). acc.kind)) in
    subst (λ fs. Folds (run_at c (state 0 [] fs)) (folded_values q (on_record d.key d.values) (accumulators q))) (sym same)
    (subst (λ o. Folds (run_at c (state 0 [] none)) o) (with_none (folded_values q (on_record d.key d.values) (accumulators q)))
    (folds_run q b d fit 0 [] (accumulators q) [] refl refl f.accs (operands_numbers_of q spelt) (stands_all (update_section q)) (omega (arith, l)) f.update_need))
