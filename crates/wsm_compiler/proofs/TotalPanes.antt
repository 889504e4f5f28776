-- FIRE of an accepted query ends on each pane in range, on what UPDATE's values of its records are folded to; so its row is what the
-- query's columns and HAVING mean there.
use Rattle.std.proofs.Common.{◌≡◌, ℕ, suc, ◌+◌, ◌≤◌, ◌<◌, true, cond, List, [], ◌∷◌, ◌++◌, length, map, reverse, Option, Some, None, refl, sym, ap, ◌∙◌, arith, append_assoc, append-nil}
use Rattle.std.proofs.lemmas.List.{reverse-append}
use Rattle.std.specs.Option.{option_and_then}
use Rattle.std.specs.Prelude.{nat_lt, option_map}
use Rattle.std.specs.List.{AllByRecursion, list_all}
use Rattle.std.proofs.lemmas.Bool.{and_from, ltb-true, and_parts}
use Rattle.wsm_record.specs.declared.event.Value.{Value}
use Rattle.wsm_record.specs.Schema.{fit_fields, is_i64}
use Rattle.wsm_fold.specs.Laws.{joined_to}
use Rattle.wsm_fold.specs.Fold.{joins, folds_of}
use Rattle.wsm_program.specs.declared.instr.SectionId.TheVariants.{Fire}
use Rattle.wsm_program.specs.Program.{Program}
use Rattle.wsm_rules.specs.Rules.{judge}
use Rattle.wsm_semantics.specs.Query.{Datum}
use Rattle.wsm_record.specs.declared.cell.Cell.{Cell}
use Rattle.wsm_machine.specs.declared.run.Ran.{Ran}
use Rattle.wsm_machine.specs.Inputs.{Inputs}
use Rattle.wsm_machine.specs.InRange.{in_range, is_word, are_folded_in}
use Rattle.wsm_machine.specs.Sound.{AreFolds}
use Rattle.wsm_machine.specs.Meaning as program
use Rattle.wsm_machine.specs.Meaning.{pane_inputs, fire_run, updated, updated_all}
use Rattle.wsm_machine.proofs.SoundAccumulators.{may_fire}
use Rattle.wsm_machine.proofs.Words.{updated_words}
use Rattle.wsm_query.specs.Tree.{Query, Expr}
use Rattle.wsm_record.specs.declared.words.CellType.TheVariants as types
use Rattle.wsm_check.specs.Aggregates.{aggregates, accumulators, in_option, fired}
use Rattle.wsm_compiler.specs.Meaning.{Scene, meaning, meets_i64, all_of, on_records, condition_holds, column, row}
use Rattle.wsm_compiler.specs.Means.{meant}
use Rattle.wsm_check.specs.Parts.{column_type, schema_of}
use Rattle.wsm_compiler.specs.Program.{program_of}
use Rattle.wsm_compiler.specs.Runs.{cell}
use Rattle.wsm_compiler.specs.Sections.{in_bounds, condition_value, on_stack, fired_stack, pane_fits}
use Rattle.wsm_compiler.specs.Folded.{AreUpdates}
use Rattle.wsm_compiler.specs.SameMeaning.{IsAccepted, record_in_range, IsPane, HasValue, UpdatesHold, TotalOnPanes, AreOfKey, StandsForMeant}
use Rattle.wsm_machine.proofs.AccumulatorRanges.{accs_types}
use Rattle.wsm_compiler.proofs.Parts.{none≢some}
use Rattle.wsm_compiler.proofs.Checked.{fine}
use Rattle.wsm_compiler.proofs.ColumnEnums.{typed_column, typed_columns}
use Rattle.wsm_compiler.proofs.Aggregated.{free, fire_means}
use Rattle.wsm_compiler.proofs.QueryTerms.{kinds_are}
use Rattle.wsm_compiler.proofs.ColumnFolds.{folds_hold}
use Rattle.wsm_compiler.proofs.Total.{costs_of, ends, left, has_value, in_bounds_is, condition_has, says, selects_same, updated_is, updated_in}

-- ---- the stack that FIRE leaves

module _ (q : Query) (key : ℕ) (records : List (List Value)) where
  abbrev s : Scene
  s = on_records q key records

  bounds_free : (a : ℕ) (e : Expr) → in_bounds q s a e ≡ in_bounds q s 0 e
  bounds_free a e = let f = free q key records a 0 e in (λ i. cond (list_all is_i64 (f.1 i)) (f.0 i) None)

  condition_free : (a : ℕ) (o : Option Expr) → condition_value q s a o ≡ condition_value q s 0 o
  condition_free a o = grind (arith, bounds_free)

  -- columns from one on have values, which are pushed, and then HAVING
  record Fired (es : List Expr) (stack out : List Cell) : Type 0 where
    cells : List Cell
    cells_are : all_of (map (typed_column q s) es) ≡ Some cells
    columns : AllByRecursion (HasValue q s) es
    top : Value
    top_is : condition_value q s 0 q.having ≡ Some top
    rest : List Cell
    out_is : out ≡ cell types.Bool top ∷ rest
    rest_is : reverse rest ≡ reverse stack ++ cells

  having_fired : (o : Option Value) (stack out : List Cell) → condition_value q s 0 q.having ≡ o → on_stack stack o ≡ Some out → Fired [] stack out
  having_fired None stack out is e = none≢some e
  having_fired (Some v) stack out is e = record {
    cells = [];
    cells_are = refl;
    columns = tt;
    top = v;
    top_is = is;
    rest = stack;
    out_is = ap (λ (o : Option (List Cell)). elim o [ None ↦ [] | Some c ↦ c ]) (sym e);
    rest_is = sym (append-nil (reverse stack));
  }

  column_fired : (e : Expr) (es : List Expr) (stack out : List Cell) (v : Value) → in_bounds q s 0 e ≡ Some v → Fired es (cell (column_type q e) v ∷ stack) out → Fired (e ∷ es) stack out
  column_fired e es stack out v h f =
      let it : Cell = cell (column_type q e) v in
      let is : typed_column q s e ≡ Some it = ap (option_map (cell (column_type q e))) (in_bounds_is (meets_i64 q s 0 e) (meaning q s e) v h).0 in
      record {
        cells = it ∷ f.cells;
        cells_are = (λ i. elim (is i) as (λ x. Option (List Cell)) [ None ↦ None | Some x ↦ elim (f.cells_are i) as (λ y. Option (List Cell)) [ None ↦ None | Some xs ↦ Some (x ∷ xs) ] ]);
        columns = (has_value q s e v h, f.columns);
        top = f.top;
        top_is = f.top_is;
        rest = f.rest;
        out_is = f.out_is;
        rest_is = f.rest_is ∙ ap (λ (cs : List Cell). cs ++ f.cells) (reverse-append (it ∷ []) stack) ∙ append_assoc (reverse stack) (it ∷ []) f.cells;
      }

  fired_is : (a : ℕ) (es : List Expr) (stack out : List Cell) → fired_stack q s a es stack ≡ Some out → Fired es stack out
  fired_is a [] stack out e = having_fired (condition_value q s 0 q.having) stack out refl (ap (on_stack stack) (sym (condition_free a q.having)) ∙ e)
  fired_is a (x ∷ es) stack out e = by_value (λ stack e. fired_is (a + aggregates x) es stack out e) (in_bounds q s a x) refl e
    where
      by_value : ((stack : List Cell) → fired_stack q s (a + aggregates x) es stack ≡ Some out → Fired es stack out) → (o : Option Value) → in_bounds q s a x ≡ o →
          elim o as (λ y. Option (List Cell)) [ None ↦ None | Some v ↦ fired_stack q s (a + aggregates x) es (cell (column_type q x) v ∷ stack) ] ≡ Some out → Fired (x ∷ es) stack out
      by_value go None h e = none≢some e
      by_value go (Some v) h e = column_fired x es stack out v (sym (bounds_free a x) ∙ h) (go (cell (column_type q x) v ∷ stack) e)

  fired_total : (es : List Expr) (o : Option Expr) → AllByRecursion (HasValue q s) es → AllByRecursion (HasValue q s) (in_option o) → AllByRecursion (HasValue q s) (es ++ in_option o)
  fired_total [] o h l = l
  fired_total (e ∷ es) o h l = (h.0, fired_total es o h.1 l)

-- ---- what is folded

module _ (q : Query) (a : IsAccepted q) (key : ℕ) where
  abbrev p : Program
  p = program_of q

  -- UPDATE's rows of records
  abbrev rows : List (List Value) → List (List Value)
  rows records = map (updated p key) records

  updates : (records : List (List Value)) → list_all (record_in_range q key) records ≡ true → AreUpdates q key (accumulators q) records (rows records)
  updates [] h = tt
  updates (vs ∷ records) h = let b = and_parts (record_in_range q key vs) (list_all (record_in_range q key) records) h in (updated_is q a key vs b.0, updates records b.1)

  rows_in : (records : List (List Value)) → list_all (record_in_range q key) records ≡ true → list_all (are_folded_in p) (rows records) ≡ true
  rows_in [] h = refl
  rows_in (vs ∷ records) h =
      let b = and_parts (record_in_range q key vs) (list_all (record_in_range q key) records) h in
      and_from (are_folded_in p (updated p key vs)) (list_all (are_folded_in p) (rows records)) (updated_in q a key vs b.0) (rows_in records b.1)

  rows_words : (records : List (List Value)) → list_all (list_all is_word) (rows records) ≡ true
  rows_words [] = refl
  rows_words (vs ∷ records) = and_from (list_all is_word (updated p key vs)) (list_all (list_all is_word) (rows records)) (updated_words p key vs) (rows_words records)

  length-rows : (records : List (List Value)) → length (rows records) ≡ length records
  length-rows [] = refl
  length-rows (vs ∷ records) = ap suc (length-rows records)

  some_folds : (records : List (List Value)) → 1 ≤ length records → (held : List Value) × (folds_of p.header.kinds (rows records) ≡ Some held)
  some_folds [] h = absurd (omega (arith, h))
  some_folds (vs ∷ records) h = (joined_to (joins p.header.kinds) (updated p key vs) (folds_of p.header.kinds (rows records)), refl)

  module _ (records : List (List Value)) (h : IsPane q key records) where
    held : List Value
    held = (some_folds records h.some).0

    held_is : folds_of p.header.kinds (rows records) ≡ Some held
    unfolding held
    held_is = (some_folds records h.some).1

    abbrev d : Inputs
    d = pane_inputs key (length records) held

    folds : AreFolds p (length records) held
    folds = record { rows = rows records; folded = rows_in records h.each; words = rows_words records; count = length-rows records; folds = held_is }

    key_declared : key < length q.keys
    key_declared = of_first records h.some h.each
      where
        of_first : (records : List (List Value)) → 1 ≤ length records → list_all (record_in_range q key) records ≡ true → key < length q.keys
        of_first [] l e = absurd (omega (arith, l))
        of_first (vs ∷ records) l e =
            let b = and_parts (record_in_range q key vs) (list_all (record_in_range q key) records) e in
            ltb-true key (length q.keys) (and_parts (nat_lt key (length q.keys)) (fit_fields (schema_of q).fields vs) b.0).0

    ranged : in_range p Fire d ≡ true
    ranged = let c = costs_of (judge p) a.accepted in may_fire p c.0 c.1 key (length records) held key_declared folds h.few

    fit : pane_fits q d ≡ true
    fit = grind (arith, held, ranged, kinds_are, accs_types)

    abbrev ran : Ran
    ran = fire_run p key (length records) held

    result : Fired q key records q.columns [] ran.stack
    result =
        fired_is q key records 0 q.columns [] ran.stack
        (left ran (fired_stack q (on_records q key records) 0 q.columns []) (ends q a Fire d ranged)
        (fire_means q a.checked d fit records refl (folds_hold q key records (rows records) held (updates records h.each) (ap (λ ks. folds_of ks (rows records)) (sym (kinds_are q (accumulators q))) ∙ held_is))))

    pub all_total : AllByRecursion (HasValue q (on_records q key records)) (fired q)
    all_total = fired_total q key records q.columns q.having result.columns (condition_has q (on_records q key records) q.having result.top result.top_is).0

    row_same : program.row p key (length records) held ≡ row q key records
    row_same =
        let f = result in
        let says_top : program.says_true ran ≡ condition_holds q (on_records q key records) q.having =
        says ran f.top f.rest (ends q a Fire d ranged) f.out_is ∙ sym (condition_has q (on_records q key records) q.having f.top f.top_is).1 in
        let columns : Some (program.cells_below ran.stack) ≡ all_of (map (column q (on_records q key records)) q.columns) =
        ap (λ (cs : List Cell). Some (program.cells_below cs)) f.out_is ∙ ap (λ (cs : List Cell). Some cs) f.rest_is ∙ sym f.cells_are
        ∙ ap all_of (typed_columns q (on_records q key records) q.columns (fine q p.header.budget a.checked).columns) in
        (λ i. cond (says_top i) (columns i) None)

    pub row_is : option_and_then (program.row p key (length records)) (folds_of p.header.kinds (rows records)) ≡ row q key records
    row_is = ap (option_and_then (program.row p key (length records))) held_is ∙ row_same

  -- records of one key are folded by their values
  rows_are : (ds : List Datum) → AreOfKey key ds → updated_all p ds ≡ rows (map (λ d. d.values) ds)
  rows_are [] h = refl
  rows_are (d ∷ ds) h = (λ i. updated p (h.0 i) d.values ∷ rows_are ds h.1 i)

  length-values : (ds : List Datum) → length ds ≡ length (map (λ (d : Datum). d.values) ds)
  length-values [] = refl
  length-values (d ∷ ds) = ap suc (length-values ds)

  pub datums_row : (ds : List Datum) → AreOfKey key ds → IsPane q key (map (λ d. d.values) ds) → (program.query_of p).row key ds ≡ (meant q).row key ds
  datums_row ds same h = (λ i. option_and_then (program.row p key (length-values ds i)) (folds_of p.header.kinds (rows_are ds same i))) ∙ row_is (map (λ d. d.values) ds) h

pub updates_hold : (q : Query) → UpdatesHold q
updates_hold q a key records held h is = folds_hold q key records (rows q a key records) held (updates q a key records h) (ap (λ ks. folds_of ks (rows q a key records)) (sym (kinds_are q (accumulators q))) ∙ is)

pub total_on_panes : (q : Query) → TotalOnPanes q
total_on_panes q a key records h = all_total q a key records h

pub stands_for_meant : (q : Query) → StandsForMeant q
stands_for_meant q a = record {
  clock = refl;
  declared = refl;
  shape = refl;
  mode = refl;
  early = refl;
  late = refl;
  form = refl;
  selects = selects_same q a;
  row = λ key ds same h. datums_row q a key ds same h;
}
