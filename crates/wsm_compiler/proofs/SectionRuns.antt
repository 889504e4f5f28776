-- Runs of WHERE and of FIRE end with the meanings of their expressions, or trap where one has none.
use Rattle.std.proofs.Common.{◌≡◌, inl, inr, ℕ, ◌+◌, ◌≤◌, ◌<◌, true, ◌&&◌, List, [], ◌∷◌, ◌++◌, length, map, reverse, replicate, Option, Some, None, Ok, refl, sym, ap, subst, ◌∙◌, arith, append_assoc, length-append, append-nil}
use Rattle.std.proofs.lemmas.List.{reverse-append}
use Rattle.std.specs.Prelude.{slice_get}
use Rattle.std.specs.List.{flat_map}
use Rattle.wsm_record.specs.declared.event.Value.{Value}
use Rattle.wsm_record.specs.declared.words.CellType.{CellType}
use Rattle.wsm_record.specs.declared.words.CellType.TheVariants as types
use Rattle.wsm_program.specs.declared.instr.Instr.{Instr}
use Rattle.wsm_program.specs.declared.instr.Instr.TheVariants as instr
use Rattle.wsm_program.specs.declared.instr.SectionId.TheVariants.{Where, Fire}
use Rattle.wsm_program.specs.declared.program.Costs.{Costs}
use Rattle.wsm_record.specs.declared.cell.Cell.{Cell}
use Rattle.wsm_machine.specs.declared.outcome.Outcome.TheVariants.{Done}
use Rattle.wsm_machine.specs.declared.run.Ran.{Ran}
use Rattle.wsm_machine.specs.Inputs.{Inputs}
use Rattle.wsm_machine.specs.Step.{Setting, setting, State, type_of, is_type, are_types, is_result}
use Rattle.wsm_machine.specs.Run.{run_at, ended}
use Rattle.wsm_machine.proofs.Runs.{run_step}
use Rattle.wsm_query.specs.Tree.{Query, Expr}
use Rattle.wsm_check.specs.Types.{typed}
use Rattle.wsm_check.specs.declared.types.Around.{Around}
use Rattle.wsm_check.specs.declared.types.Around.TheVariants.{InWhere, InColumn}
use Rattle.wsm_check.specs.Spelt.{numbers_fit}
use Rattle.wsm_compiler.proofs.Operands.{condition_numbers}
use Rattle.wsm_compiler.proofs.Lawful.{condition_numbers_of}
use Rattle.wsm_check.specs.Aggregates.{accumulators_of, aggregates}
use Rattle.wsm_compiler.specs.Meaning.{Scene, on_record, on_accumulators}
use Rattle.wsm_compiler.specs.Code.{code, size, need, condition_code, columns_code, where_section, fire_section}
use Rattle.wsm_check.specs.Parts.{aggregates_of, column_type, type_or_int}
use Rattle.wsm_compiler.specs.Program.{program_stating, stated, needed_of, program_of}
use Rattle.wsm_compiler.specs.Runs.{of_ty, cell, Serves, ServesAccs, state, topped, Gives, StandsAt}
use Rattle.wsm_compiler.specs.Sections.{in_bounds, condition_value, Leaves, on_stack, fired_stack, WhereRuns, FireRuns}
use Rattle.wsm_machine.proofs.FittingStacks.{no}
use Rattle.wsm_machine.proofs.ReturnedStacks.{are_types-same}
use Rattle.wsm_compiler.proofs.KnownFields.{in_column}
use Rattle.wsm_compiler.proofs.QueryTerms.{condition_size, condition_need, ended_size, columns_size, columns_need}
use Rattle.wsm_compiler.proofs.Sizes.{length-condition, sizes_are_lengths, some_columns_size}
use Rattle.wsm_compiler.proofs.Conditions.{ConditionTyped, ColumnsTyped, in_condition}
use Rattle.wsm_compiler.proofs.Checked.{fine}
use Rattle.wsm_compiler.proofs.FireFaults.{accs_are}
use Rattle.wsm_compiler.proofs.Bounded.{bounded_is}
use Rattle.wsm_compiler.proofs.Values.{value_has, serves_left, serves_right}
use Rattle.wsm_compiler.proofs.Machine.{push_bool}
use Rattle.wsm_compiler.proofs.ExpressionRuns.{split_code, code_runs}
use Rattle.wsm_compiler.proofs.InputMeanings.{serves_where, serves_fire, serves_accs}
use Rattle.wsm_compiler.proofs.Choices.{not_under}
use Rattle.wsm_compiler.proofs.Rooms.{first_room, rest_room}

-- ---- a section stands in itself

seam : (before after : List Instr) (i : Instr) → slice_get (before ++ i ∷ after) (length before) ≡ Some i
seam [] after i = refl
seam (j ∷ before) after i = seam before after i

stands_behind : (before is : List Instr) → StandsAt (before ++ is) (length before) is
stands_behind before [] = tt
stands_behind before (i ∷ is) =
    let h = stands_behind (before ++ i ∷ []) is in
    let l = length-append before (i ∷ []) in
    let e : length (before ++ i ∷ []) ≡ length before + 1 = l in
    let h' = subst (λ n. StandsAt ((before ++ i ∷ []) ++ is) n is) e h in
    (seam before is i, subst (λ section. StandsAt section (length before + 1) is) (append_assoc before (i ∷ []) is) h')

pub stands_all : (is : List Instr) → StandsAt is 0 is
stands_all is = stands_behind [] is

-- ---- the return

pub return_ends : (c : Setting) (s : State) → slice_get c.code s.place ≡ Some instr.Return → is_result c s ≡ true → run_at c s ≡ ended Done 1 s
return_ends c s at h = grind (arith, not_under, run_step)

-- what a run leaves that comes to a return, or traps
pub comes_to : (c : Setting) (s : State) (o : Option State) (stack : Option (List Cell)) → Gives c s o →
    (o ≡ None → stack ≡ None) → ((t : State) → o ≡ Some t → (stack ≡ Some t.stack) × (run_at c t ≡ ended Done 1 t)) → Leaves (run_at c s) stack
comes_to c s o stack g none some = grind arith

-- ---- conditions

module _ (c : Setting) (q : Query) (around : Around) (s : Scene) (serves : Serves c q around s) where
  pub code_means : (k a : ℕ) (e : Expr) → ((around ≡ InColumn → ⊥) → numbers_fit e ≡ true) → (t : CellType) → typed q around e ≡ Ok t → ServesAccs c around s a (accumulators_of e) → StandsAt c.code k (code q k a e) → k + size q a e < length c.code →
      (stack : List Cell) (folds : List (Option Value)) → length stack + need q a e ≤ 32 → Gives c (state k stack folds) (topped (k + size q a e) stack folds t (in_bounds q s a e))
  code_means k a e m t h accs at inside stack folds room =
      subst (λ o. Gives c (state k stack folds) (topped (k + size q a e) stack folds t o)) (bounded_is q s a e) (code_runs c q around s serves k a e m t h accs at inside stack folds room)

  pub means_has : (a : ℕ) (e : Expr) (t : CellType) → typed q around e ≡ Ok t → ServesAccs c around s a (accumulators_of e) → of_ty t (in_bounds q s a e) ≡ true
  means_has a e t h accs = ap (of_ty t) (sym (bounded_is q s a e)) ∙ value_has c q around s serves a e t h accs

  condition_gives : (k a : ℕ) (o : Option Expr) (js : List Instr) → ((around ≡ InColumn → ⊥) → condition_numbers o ≡ true) → ConditionTyped q around o → ServesAccs c around s a (in_condition o) → StandsAt c.code k (condition_code q k a o ++ js) → k + condition_size q a o < length c.code →
      (stack : List Cell) (folds : List (Option Value)) → length stack + condition_need q a o ≤ 32 → Gives c (state k stack folds) (topped (k + condition_size q a o) stack folds types.Bool (condition_value q s a o))
  condition_gives k a None js m h accs at inside stack folds room = push_bool c k stack folds (omega (arith, room)) true at.0
  condition_gives k a (Some e) js m h accs at inside stack folds room = code_means k a e m types.Bool h accs (split_code q c.code k a e js at).0 inside stack folds room

  condition_has : (a : ℕ) (o : Option Expr) → ConditionTyped q around o → ServesAccs c around s a (in_condition o) → of_ty types.Bool (condition_value q s a o) ≡ true
  condition_has a o h accs = grind (arith, means_has)

  condition_stands : (k a : ℕ) (o : Option Expr) (js : List Instr) → StandsAt c.code k (condition_code q k a o ++ js) → StandsAt c.code (k + condition_size q a o) js
  condition_stands k a o js h = grind (arith, split_code)

truth_type : (v : Value) → of_ty types.Bool (Some v) ≡ true → type_of (cell types.Bool v) ≡ types.Bool
truth_type v h = grind arith

cell_has : (t : CellType) (v : Value) → of_ty t (Some v) ≡ true → type_of (cell t v) ≡ t
cell_has t v h = grind arith

-- ---- WHERE

-- the state behind a condition, and what stands on its stack
none_topped : (k : ℕ) (stack : List Cell) (folds : List (Option Value)) (o : Option Value) → topped k stack folds types.Bool o ≡ None → on_stack stack o ≡ None
none_topped k stack folds o e = grind arith

topped_returns : (c : Setting) (k : ℕ) (stack : List Cell) (folds : List (Option Value)) (o : Option Value) → of_ty types.Bool o ≡ true → slice_get c.code k ≡ Some instr.Return →
    ((v : Value) → type_of (cell types.Bool v) ≡ types.Bool → is_result c (state k (cell types.Bool v ∷ stack) folds) ≡ true) → (t : State) → topped k stack folds types.Bool o ≡ Some t → (on_stack stack o ≡ Some t.stack) × (run_at c t ≡ ended Done 1 t)
topped_returns c k stack folds o has at good t e = grind (arith, return_ends, truth_type)

pub where_runs : (q : Query) → WhereRuns q
where_runs q checked spelt d fit =
    let b = stated (needed_of q) q.budget in
    let f = fine q b checked in
    let c = setting (program_of q) Where d in
    let s = on_record d.key d.values in
    let serves = serves_where q b d fit in
    let at = stands_all (where_section q) in
    let l = length-condition q 0 0 q.condition in
    let none : ServesAccs c InWhere s 0 (in_condition q.condition) = λ e. no (ap in_column e) in
    let folds : List (Option Value) = replicate (length c.kinds) None in
    let value = condition_value q s 0 q.condition in
    let k = 0 + condition_size q 0 q.condition in
    let returns = condition_stands c q InWhere s serves 0 0 q.condition (instr.Return ∷ []) at in
    comes_to c (state 0 [] folds) (topped k [] folds types.Bool value) (on_stack [] value)
    (condition_gives c q InWhere s serves 0 0 q.condition (instr.Return ∷ []) (λ n. condition_numbers_of q spelt) f.condition none at (omega (arith, l)) [] folds (omega (arith, f.where_need)))
    (none_topped k [] folds value)
    (topped_returns c k [] folds value (condition_has c q InWhere s serves 0 q.condition f.condition none) returns.0 (λ v h. ap (λ u. (is_type types.Bool u && true) && true) h))

-- ---- FIRE

-- the last of values, whose types are those of the columns, is a truth
fire_result : (c : Setting) (columns : List CellType) (x : Cell) (stack : List Cell) → type_of x ≡ types.Bool → reverse (map type_of stack) ≡ columns → are_types (columns ++ types.Bool ∷ []) (reverse (map type_of (x ∷ stack))) ≡ true
fire_result c columns x stack h e =
    let is : reverse (map type_of (x ∷ stack)) ≡ columns ++ types.Bool ∷ [] = reverse-append (type_of x ∷ []) (map type_of stack) ∙ (λ i. e i ++ h i ∷ []) in
    ap (are_types (columns ++ types.Bool ∷ [])) is ∙ are_types-same (columns ++ types.Bool ∷ [])

module _ (q : Query) (b : Costs) (d : Inputs) where
  abbrev c : Setting
  c = setting (program_stating q b) Fire d

  abbrev s : Scene
  s = on_accumulators d.key d.count d.accs

  -- columns that are left, and the types of those on the stack; HAVING's first aggregate is the h-th
  columns_run : (h k a : ℕ) (es : List Expr) (stack : List Cell) (folds : List (Option Value)) → a + aggregates_of es ≡ h → ColumnsTyped q es → ConditionTyped q InColumn q.having →
      ServesAccs c InColumn s a (flat_map accumulators_of es ++ in_condition q.having) → StandsAt c.code k (columns_code q h k a es) → k + columns_size q h a es ≤ length c.code → length stack + columns_need q h a es ≤ 32 →
      reverse (map type_of stack) ++ map (column_type q) es ≡ map (column_type q) q.columns → Leaves (run_at c (state k stack folds)) (fired_stack q s a es stack)
  columns_run h k a [] stack folds behind hc hh accs at inside room types' =
      let serves = serves_fire q b d in
      let value = condition_value q s h q.having in
      let j = k + condition_size q h q.having in
      let first : a ≡ h = omega (arith, behind) in
      let held = subst (λ n. ServesAccs c InColumn s n (in_condition q.having)) first accs in
      let returns = condition_stands c q InColumn s serves k h q.having (instr.Return ∷ []) at in
      subst (λ n. Leaves (run_at c (state k stack folds)) (on_stack stack (condition_value q s n q.having))) (sym first)
      (comes_to c (state k stack folds) (topped j stack folds types.Bool value) (on_stack stack value)
      (condition_gives c q InColumn s serves k h q.having (instr.Return ∷ []) (λ n. absurd (n refl)) hh held at (omega (arith, inside, ended_size q h q.having)) stack folds room)
      (none_topped j stack folds value)
      (topped_returns c j stack folds value (condition_has c q InColumn s serves h q.having hh held) returns.0
      (λ v e. ap (λ x. x && true) (fire_result c (map (column_type q) q.columns) (cell types.Bool v) stack e (sym (append-nil (reverse (map type_of stack))) ∙ types')))))
  columns_run h k a (x ∷ es) stack folds behind hc hh accs at inside room types' =
      let serves = serves_fire q b d in
      let t = hc.0.0 in
      let j = k + size q a x in
      let next = a + aggregates x in
      let whole : ServesAccs c InColumn s a (accumulators_of x ++ (flat_map accumulators_of es ++ in_condition q.having)) =
      subst (λ xs. ServesAccs c InColumn s a xs) (append_assoc (accumulators_of x) (flat_map accumulators_of es) (in_condition q.having)) accs in
      let here = serves_left c InColumn s a (accumulators_of x) (flat_map accumulators_of es ++ in_condition q.having) whole in
      let parts = split_code q c.code k a x (columns_code q h j next es) at in
      let ty : type_or_int (typed q InColumn x) ≡ t = ap type_or_int hc.0.1 in
      one_column (state k stack folds) j a x es stack folds t ty (in_bounds q s a x) (means_has c q InColumn s serves a x t hc.0.1 here)
      (code_means c q InColumn s serves k a x (λ n. absurd (n refl)) t hc.0.1 here parts.0 (omega (arith, inside, some_columns_size q h next es)) stack folds (first_room (length stack) (need q a x) _ room))
      (λ v has. columns_run h j next es (cell t v ∷ stack) folds (omega (arith, behind)) hc.1 hh (serves_right c InColumn s a x (flat_map accumulators_of es ++ in_condition q.having) whole) parts.1 (omega (arith, inside)) (rest_room (length stack) (need q a x) _ room)
      (ap (λ zs. zs ++ map (column_type q) es) (reverse-append (type_of (cell t v) ∷ []) (map type_of stack)) ∙ append_assoc (reverse (map type_of stack)) (type_of (cell t v) ∷ []) (map (column_type q) es)
      ∙ ap (λ z. reverse (map type_of stack) ++ z ∷ map (column_type q) es) (cell_has t v has ∙ sym ty) ∙ types'))
    where
      one_column : (m : State) (j a : ℕ) (x : Expr) (es : List Expr) (stack : List Cell) (folds : List (Option Value)) (t : CellType) → type_or_int (typed q InColumn x) ≡ t → (o : Option Value) → of_ty t o ≡ true → Gives c m (topped j stack folds t o) →
          ((v : Value) → of_ty t (Some v) ≡ true → Leaves (run_at c (state j (cell t v ∷ stack) folds)) (fired_stack q s (a + aggregates x) es (cell t v ∷ stack))) →
          Leaves (run_at c m) (elim o [ None ↦ None | Some v ↦ fired_stack q s (a + aggregates x) es (cell (type_or_int (typed q InColumn x)) v ∷ stack) ])
      one_column m j a x es stack folds t ty None has g rest = g
      one_column m j a x es stack folds t ty (Some v) has g rest =
          subst (λ u. Leaves (run_at c m) (fired_stack q s (a + aggregates x) es (cell u v ∷ stack))) (sym ty) (leaves_on (run_at c m) (run_at c (state j (cell t v ∷ stack) folds)) (fired_stack q s (a + aggregates x) es (cell t v ∷ stack)) (ap (λ (r : Ran). r.outcome) g.1) (ap (λ (r : Ran). r.stack) g.1) (rest v has))
        where
          leaves_on : (r p : Ran) (o : Option (List Cell)) → r.outcome ≡ p.outcome → r.stack ≡ p.stack → Leaves p o → Leaves r o
          leaves_on r p None e l (inl h) = inl (e ∙ h)
          leaves_on r p None e l (inr h) = inr (e ∙ h)
          leaves_on r p (Some stack) e l h = (e ∙ h.0, l ∙ h.1)

pub fire_runs : (q : Query) → FireRuns q
fire_runs q checked d fit =
    let b = stated (needed_of q) q.budget in
    let f = fine q b checked in
    let l = (sizes_are_lengths q).2 in
    columns_run q b d (aggregates_of q.columns) 0 0 q.columns [] (replicate (length (setting (program_of q) Fire d).kinds) None) (omega arith) f.columns f.having
    (subst (λ accs. ServesAccs (setting (program_of q) Fire d) InColumn (on_accumulators d.key d.count d.accs) 0 accs) (accs_are q b) (serves_accs q b d fit))
    (stands_all (fire_section q)) (omega (arith, l)) (omega (arith, f.fire_need)) refl
