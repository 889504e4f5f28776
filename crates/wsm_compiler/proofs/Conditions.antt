-- WHERE and FIRE have a fault exactly where a range of their expressions doesn't fit.
use Rattle.std.proofs.Common.{◌≡◌, ℕ, ◌+◌, ◌≤◌, ◌<◌, Bool, true, false, ◌&&◌, not, List, [], ◌∷◌, ◌++◌, length, map, reverse, Option, Some, None, Ok, refl, sym, ap, subst, ◌∙◌, arith, append_assoc}
use Rattle.std.proofs.lemmas.List.{reverse-append}
use Rattle.std.specs.Prelude.{is_some}
use Rattle.std.specs.List.{list_all, flat_map}
use Rattle.std.proofs.lemmas.Option.{same_Some}
use Rattle.std.proofs.Math.Bool.{and-true, and_assoc}
use Rattle.wsm_program.specs.declared.instr.Instr.TheVariants as instr
use Rattle.wsm_program.specs.declared.SectionId.TheVariants.{Where}
use Rattle.wsm_program.specs.declared.program.Costs.{Costs}
use Rattle.wsm_query.specs.Tree.{Query, Expr}
use Rattle.wsm_record.specs.declared.words.CellType.{CellType}
use Rattle.wsm_record.specs.declared.words.CellType.TheVariants as types
use Rattle.wsm_check.specs.Types.{typed}
use Rattle.wsm_check.specs.declared.types.Around.{Around}
use Rattle.wsm_check.specs.declared.types.Around.TheVariants.{InWhere, InColumn}
use Rattle.wsm_check.specs.Aggregates.{Acc, accumulators_of, aggregates}
use Rattle.wsm_check.specs.Parts.{aggregates_of}
use Rattle.wsm_rules.specs.declared.known.Known.{Known}
use Rattle.wsm_rules.specs.declared.known.Known.TheVariants as known
use Rattle.wsm_rules.specs.Labels.{State, same_type, same_types}
use Rattle.wsm_rules.specs.Rules.{Setting, setting, entry, known_fields, ranges_of_record, column_known, fold_missing, fault_in}
use Rattle.wsm_compiler.specs.Code.{code, size, need, condition_code, columns_code}
use Rattle.wsm_compiler.specs.Ranges.{Range, range, fits}
use Rattle.wsm_check.specs.Parts.{column_type}
use Rattle.wsm_compiler.specs.Program.{program_stating}
use Rattle.wsm_machine.proofs.FittingStacks.{no, type_known}
use Rattle.wsm_machine.proofs.PushedValues.{same_type_is}
use Rattle.wsm_machine.proofs.ReturnedStacks.{column_is}
use Rattle.wsm_compiler.proofs.Hulls.{type_self}
use Rattle.wsm_compiler.proofs.Tests.{with_known}
use Rattle.wsm_compiler.proofs.QueryTerms.{condition_size, condition_need, ended_size, columns_size, columns_need}
use Rattle.wsm_compiler.proofs.Sizes.{length-code, length-condition, some_need, some_code, some_columns_size, some_columns}
use Rattle.wsm_compiler.proofs.Found.{found, push_bool}
use Rattle.wsm_compiler.proofs.FoundRanges.{suits, known_of, known_truth, known_has}
use Rattle.wsm_compiler.proofs.ExpressionRanges.{Reads, Accs, AccsIn, accs_left, accs_right, range_suits, found_here}
use Rattle.wsm_compiler.proofs.CodeLabels.{labelled}
use Rattle.wsm_compiler.proofs.SectionEnds.{Ends, or_behind, follow_ends, return_ends, whole_section}
use Rattle.wsm_compiler.proofs.KnownFields.{in_column, reads_where}
use Rattle.wsm_compiler.proofs.Rooms.{first_room, rest_room}
use Rattle.wsm_check.proofs.PassedChecks.{length-accumulators_of}

abbrev pub condition_fits : Query → Option Expr → Bool
condition_fits q None = true
condition_fits q (Some e) = fits (range q e)

abbrev pub ConditionTyped : Query → Around → Option Expr → Type 0
ConditionTyped q around None = Unit {0}
ConditionTyped q around (Some e) = typed q around e ≡ Ok types.Bool

abbrev pub in_condition : Option Expr → List Acc
in_condition None = []
in_condition (Some e) = accumulators_of e

-- a fault where it doesn't fit, or what comes behind
pub fits_and : (t : CellType) (r : Range) (b : Bool) → suits t r ≡ true → or_behind (known_of t r) (λ x. not b) ≡ not (fits r && b)
fits_and t r b h = grind arith

-- a condition and its section's return
pub condition_ends : (e : State) (c : Setting) (q : Query) (around : Around) → Reads c q around → (k a : ℕ) (o : Option Expr) (s : State) → s.fields ≡ known_fields 0 q.fields → ConditionTyped q around o → AccsIn c q around a (in_condition o) →
    length s.stack + condition_need q a o ≤ 32 → k + condition_size q a o < c.n → same_types (known.Truth ∷ s.stack) c.ends ≡ true → fold_missing c.section instr.Return s.folded ≡ false →
    Ends e c k (condition_code q k a o ++ instr.Return ∷ []) s (not (condition_fits q o))
condition_ends e c q around reads k a None s is h accs room more same folded =
    follow_ends e c k 1 (instr.PushBool true ∷ []) (instr.Return ∷ []) s (Some known.Truth) (λ x. false) refl (omega arith) (omega arith)
    (push_bool e c k s (omega (arith, room)) (omega (arith, more)) true)
    (λ x h. subst (λ z. Ends e c (k + 1) (instr.Return ∷ []) (with_known z s) false) (same_Some known.Truth x h) (return_ends e c (k + 1) (with_known known.Truth s) same folded (omega (arith, room))))
condition_ends e c q around reads k a (Some x) s is h accs room more same folded =
    subst (λ b. Ends e c k (code q k a x ++ instr.Return ∷ []) s b)
    (ap (λ o. or_behind o (λ y. false)) (found_here c q around reads s.fields is a x types.Bool h accs) ∙ fits_and types.Bool (range q x) true (range_suits c q around x types.Bool h) ∙ ap not (and-true (fits (range q x))))
    (follow_ends e c k (size q a x) (code q k a x) (instr.Return ∷ []) s (found c q s.fields a x) (λ y. false) (length-code q k a x) (some_code q k a x) (omega arith)
    (labelled e c q around reads k a x types.Bool s is h accs room more)
    (λ y ey.
    let truth = known_truth (range q x) y (sym (found_here c q around reads s.fields is a x types.Bool h accs) ∙ ey) in
    subst (λ z. Ends e c (k + size q a x) (instr.Return ∷ []) (with_known z s) false) (sym truth) (return_ends e c (k + size q a x) (with_known known.Truth s) same folded (omega (arith, room, some_need q a x)))))

-- WHERE
pub where_faults : (q : Query) (b : Costs) → ConditionTyped q InWhere q.condition → condition_need q 0 q.condition ≤ 32 →
    is_some (fault_in (program_stating q b) Where (ranges_of_record (program_stating q b))) ≡ not (condition_fits q q.condition)
where_faults q b h room =
    let p = program_stating q b in
    let r = ranges_of_record p in
    let l = length-condition q 0 0 q.condition in
    whole_section p Where r (not (condition_fits q q.condition)) (omega (arith, l))
    (condition_ends (entry p) (setting p Where r) q InWhere (reads_where q b) 0 0 q.condition (entry p) refl h (λ e. no (ap in_column e)) (omega (arith, room)) (omega (arith, l)) refl refl)

-- ---- FIRE

abbrev pub ColumnsTyped : Query → List Expr → Type 0
ColumnsTyped q [] = Unit {0}
ColumnsTyped q (x ∷ xs) = ((t : CellType) × (typed q InColumn x ≡ Ok t)) × ColumnsTyped q xs

abbrev pub columns_fit : Query → List Expr → Bool
columns_fit q xs = list_all (λ x. fits (range q x)) xs

-- what FIRE ends with, where below are the values that are there already
abbrev ends_of : Query → List Expr → List Known → List Known
ends_of q es below = reverse (map column_known (map (column_type q) es)) ++ below

ends_next : (q : Query) (x : Expr) (es : List Expr) (below : List Known) → ends_of q (x ∷ es) below ≡ ends_of q es (column_known (column_type q x) ∷ below)
ends_next q x es below =
    let ks = map column_known (map (column_type q) es) in
    let y = column_known (column_type q x) in
    ap (λ zs. zs ++ below) (reverse-append (y ∷ []) ks) ∙ append_assoc (reverse ks) (y ∷ []) below

-- a column's value has its type
column_same : (q : Query) (x : Expr) (t : CellType) (y : Known) → typed q InColumn x ≡ Ok t → type_known y ≡ t → same_type y (column_known (column_type q x)) ≡ true
column_same q x t y h l = grind (arith, type_known, column_is, same_type_is, type_self)

-- columns from the a-th aggregate on, behind which HAVING has the h-th
pub columns_ends : (e : State) (c : Setting) (q : Query) → Reads c q InColumn → (h k a : ℕ) (es : List Expr) (s : State) (below : List Known) → a + aggregates_of es ≡ h → s.fields ≡ known_fields 0 q.fields → ColumnsTyped q es → ConditionTyped q InColumn q.having →
    Accs c q a (flat_map accumulators_of es ++ in_condition q.having) → length s.stack + columns_need q h a es ≤ 32 → k + columns_size q h a es ≤ c.n →
    same_types s.stack below ≡ true → c.ends ≡ known.Truth ∷ ends_of q es below → fold_missing c.section instr.Return s.folded ≡ false →
    Ends e c k (columns_code q h k a es) s (not (columns_fit q es && condition_fits q q.having))
columns_ends e c q reads h k a [] s below behind is hc hh accs room more same ends folded =
    let first : a ≡ h = omega (arith, behind) in
    condition_ends e c q InColumn reads k h q.having s is hh (λ _. subst (λ n. Accs c q n (in_condition q.having)) first accs) room (omega (arith, more, ended_size q h q.having)) (ap (same_types (known.Truth ∷ s.stack)) ends ∙ same) folded
columns_ends e c q reads h k a (x ∷ es) s below behind is hc hh accs room more same ends folded =
    let t = hc.0.0 in
    let hx = hc.0.1 in
    let j = k + size q a x in
    let b = a + aggregates x in
    let rest = columns_code q h j b es in
    let fit = columns_fit q es && condition_fits q q.having in
    let whole = subst (λ xs. Accs c q a xs) (append_assoc (accumulators_of x) (flat_map accumulators_of es) (in_condition q.having)) accs in
    let here : Accs c q a (accumulators_of x) = accs_left c q a (accumulators_of x) _ whole in
    let later : Accs c q b (flat_map accumulators_of es ++ in_condition q.having) = accs_right c q a (aggregates x) (accumulators_of x) _ (length-accumulators_of x) whole in
    subst (λ w. Ends e c k (code q k a x ++ rest) s w)
    (ap (λ o. or_behind o (λ y. not fit)) (found_here c q InColumn reads s.fields is a x t hx (λ _. here)) ∙ fits_and t (range q x) fit (range_suits c q InColumn x t hx) ∙ ap not (sym (and_assoc (fits (range q x)) (columns_fit q es) (condition_fits q q.having))))
    (follow_ends e c k (size q a x) (code q k a x) rest s (found c q s.fields a x) (λ y. not fit) (length-code q k a x) (some_code q k a x) (some_columns q h j b es)
    (labelled e c q InColumn reads k a x t s is hx (λ _. here) (first_room (length s.stack) (need q a x) _ room) (omega (arith, more, some_columns_size q h b es)))
    (λ y ey.
    columns_ends e c q reads h j b es (with_known y s) (column_known (column_type q x) ∷ below) (omega (arith, behind)) is hc.1 hh later (rest_room (length s.stack) (need q a x) _ room) (omega (arith, more))
    (λ i. column_same q x t y hx (known_has t (range q x) y (sym (found_here c q InColumn reads s.fields is a x t hx (λ _. here)) ∙ ey)) i && same i)
    (ends ∙ ap (λ zs. known.Truth ∷ zs) (ends_next q x es below)) folded))
