-- A column of an accepted query that is COUNT(*) or a SUM has over each firing what the records that it is computed over come to
-- together.
use Rattle.std.proofs.Common.{◌≡◌, ℕ, zero, suc, true, cond, List, [], ◌∷◌, ◌++◌, length, map, ℤ, pos, ◌+ℤ◌, Option, Some, None, refl, sym, ap, subst, ◌∙◌, arith}
use Rattle.std.proofs.lemmas.Int.{ints}
use Rattle.std.proofs.lemmas.Option.{same_Some}
use Rattle.std.proofs.lemmas.Bool.{and_from}
use Rattle.std.specs.Prelude.{option_map, slice_get}
use Rattle.std.specs.List.{AllByRecursion}
use Rattle.wsm_record.specs.declared.event.Value.{Value}
use Rattle.wsm_record.specs.declared.event.Value.TheVariants as values
use Rattle.wsm_record.specs.declared.cell.Cell.{Cell}
use Rattle.wsm_record.specs.declared.words.Form.{Form}
use Rattle.wsm_record.specs.declared.words.Form.TheVariants.{Panes}
use Rattle.wsm_record.specs.declared.words.Kind.TheVariants.{Sum}
use Rattle.wsm_record.specs.declared.words.Mode.{Mode}
use Rattle.wsm_record.specs.declared.words.Mode.TheVariants.{Discarding}
use Rattle.wsm_record.specs.Modes.{may_write}
use Rattle.wsm_record.specs.Types.{cell_of}
use Rattle.wsm_fold.specs.Fold.{fold_of, join, number_of}
use Rattle.wsm_fold.specs.Laws.{joined_to}
use Rattle.wsm_rules.proofs.Lawful.{lawful}
use Rattle.wsm_semantics.specs.Amounts as amounts
use Rattle.wsm_semantics.specs.Amounts.{Amount, HasAmount, amount_of, number_at, sum_of}
use Rattle.wsm_semantics.specs.Firings.{firings}
use Rattle.wsm_record.specs.Event.{Event}
use Rattle.wsm_semantics.specs.Query.{Datum, Query as Meant}
use Rattle.wsm_semantics.proofs.AmountLaw.{amounts_add_up}
use Rattle.wsm_semantics.proofs.InvoiceLaw.{invoices}
use Rattle.wsm_semantics.proofs.Sums.{one_alone}
use Rattle.wsm_machine.specs.Meaning.{query_of}
use Rattle.wsm_machine.proofs.CountedSessions.{sessions_by_event}
use Rattle.wsm_query.specs.Tree.{Query, Expr, Count, Aggregate, Brackets}
use Rattle.wsm_check.specs.Aggregates.{in_option}
use Rattle.wsm_compiler.specs.Accepted.{states_enough}
use Rattle.wsm_compiler.specs.Amounts.{ColumnsAddUp, IsAmount, TextsAddUp, amount_by, number_in}
use Rattle.wsm_compiler.specs.Meaning.{all_of, column, column_enum, condition_holds, fold_where_all, meaning, on_record, on_records}
use Rattle.wsm_compiler.specs.Program.{program_of}
use Rattle.wsm_compiler.specs.Ranges.{ranges_fit}
use Rattle.wsm_compiler.specs.SameMeaning.{AreOfKey, HasValue, IsAccepted}
use Rattle.wsm_compiler.proofs.Accepted.{accepted_exactly}
use Rattle.wsm_compiler.proofs.FiringSets.{IsFiringSet, IsOfSet, all_each, firings_of_sets}
use Rattle.wsm_compiler.proofs.Lawful.{is_lawful}
use Rattle.wsm_compiler.proofs.Parts.{none≢some}
use Rattle.wsm_compiler.proofs.Passed.{passed}
use Rattle.wsm_compiler.proofs.SameLines.{pane_is}
use Rattle.wsm_compiler.proofs.Texts.{parsed_is_spelt}
use Rattle.wsm_compiler.proofs.TotalPanes.{stands_for_meant, total_on_panes}

-- ---- sums of values

cell_number : (e : ℕ) (v : Value) → amounts.number_in (cell_of e v) ≡ number_of v
cell_number e (values.Int n) = refl
cell_number e (values.Bool b) = refl
cell_number e (values.Enum i) = refl

joined_number : (v : Value) (o : Option Value) → number_of (joined_to (join Sum) v o) ≡ number_of v +ℤ number_in o
joined_number v None = sym (one_alone (number_of v))
joined_number v (Some w) = refl

-- a SUM is the sum of its numbers
folded_number : (vs : List Value) → number_in (fold_of Sum vs) ≡ sum_of number_of vs
folded_number [] = refl
folded_number (v ∷ vs) = joined_number v (fold_of Sum vs) ∙ ap (λ (n : ℤ). number_of v +ℤ n) (folded_number vs)

-- and where all values are there, that of all
all_numbers : (os : List (Option Value)) (vs : List Value) → all_of os ≡ Some vs → sum_of number_of vs ≡ sum_of number_in os
all_numbers [] vs h = ap (sum_of number_of) (sym (same_Some [] vs h))
all_numbers (None ∷ os) vs h = none≢some h
all_numbers (Some v ∷ os) vs h = by_rest (λ ws is. all_numbers os ws is) (all_of os) refl h
  where
    by_rest : ((ws : List Value) → all_of os ≡ Some ws → sum_of number_of ws ≡ sum_of number_in os) → (o : Option (List Value)) → all_of os ≡ o →
        elim o as (λ x. Option (List Value)) [ None ↦ None | Some xs ↦ Some (v ∷ xs) ] ≡ Some vs → sum_of number_of vs ≡ number_of v +ℤ sum_of number_in os
    by_rest go None is h = none≢some h
    by_rest go (Some ws) is h = ap (sum_of number_of) (sym (same_Some (v ∷ ws) vs h)) ∙ ap (λ (n : ℤ). number_of v +ℤ n) (go ws is)

summed : (os : List (Option Value)) (v : Value) → fold_where_all Sum (all_of os) ≡ Some v → number_in (fold_where_all Sum (all_of os)) ≡ sum_of number_in os
summed os v h = by_all (all_of os) refl h
  where
    by_all : (o : Option (List Value)) → all_of os ≡ o → fold_where_all Sum o ≡ Some v → number_in (fold_where_all Sum o) ≡ sum_of number_in os
    by_all None is h = none≢some h
    by_all (Some vs) is h = folded_number vs ∙ all_numbers os vs is

-- ---- a column over records

counted : (ds : List Datum) → pos (length (map (λ (d : Datum). d.values) ds)) ≡ sum_of (λ (d : Datum). pos 1) ds
counted [] = refl
counted (d ∷ ds) = one_more (length (map (λ (d : Datum). d.values) ds)) (sum_of (λ (d : Datum). pos 1) ds) (counted ds)
  where
    one_more : (n : ℕ) (m : ℤ) → pos n ≡ m → pos (suc n) ≡ pos 1 +ℤ m
    one_more n m h = omega (arith, ints, h)

module _ (q : Query) (key : ℕ) where
  each_meant : (e : Expr) (ds : List Datum) → AreOfKey key ds →
      sum_of number_in (map (λ vs. meaning q (on_record key vs) e) (map (λ (d : Datum). d.values) ds)) ≡ sum_of (amount_of (λ key values. number_in (meaning q (on_record key values) e))) ds
  each_meant e [] h = refl
  each_meant e (d ∷ ds) h = λ i. number_in (meaning q (on_record (sym h.0 i) d.values) e) +ℤ each_meant e ds h.1 i

  -- the value of a column that is a count or a sum
  value_adds : (e : Expr) (amount : Amount) (ds : List Datum) → AreOfKey key ds → amount_by q e ≡ Some amount → HasValue q (on_records q key (map (λ d. d.values) ds)) e →
      number_in (meaning q (on_records q key (map (λ d. d.values) ds)) e) ≡ sum_of (amount_of amount) ds
  value_adds Count amount ds same is h = counted ds ∙ ap (λ (a : Amount). sum_of (amount_of a) ds) (same_Some (λ key values. pos 1) amount is)
  value_adds (Aggregate Sum e) amount ds same is h =
      summed (map (λ vs. meaning q (on_record key vs) e) (map (λ d. d.values) ds)) h.value h.is
      ∙ each_meant e ds same
      ∙ ap (λ (a : Amount). sum_of (amount_of a) ds) (same_Some (λ key values. number_in (meaning q (on_record key values) e)) amount is)
  value_adds (Brackets e) amount ds same is h = value_adds e amount ds same is (record { value = h.value; is = h.is; in_i64 = h.in_i64 })
  value_adds e amount ds same is h = none≢some is

  module _ (records : List (List Value)) where
    -- all columns have values, and a cell has its column's number
    record Cells (es : List Expr) : Type 0 where
      cells : List Cell
      is : all_of (map (column q (on_records q key records)) es) ≡ Some cells
      at : (c : ℕ) (e : Expr) → slice_get es c ≡ Some e → number_at c cells ≡ number_in (meaning q (on_records q key records) e)

    cell_at : (x : Expr) (es : List Expr) (v : HasValue q (on_records q key records) x) (rest : Cells es) (c : ℕ) (e : Expr) → slice_get (x ∷ es) c ≡ Some e →
        number_at c (cell_of (column_enum q x) v.value ∷ rest.cells) ≡ number_in (meaning q (on_records q key records) e)
    cell_at x es v rest zero e get =
        cell_number (column_enum q x) v.value ∙ ap number_in (sym v.is) ∙ ap (λ (y : Expr). number_in (meaning q (on_records q key records) y)) (same_Some x e get)
    cell_at x es v rest (suc c) e get = rest.at c e get

    with_cell : (x : Expr) (es : List Expr) → HasValue q (on_records q key records) x → Cells es → Cells (x ∷ es)
    with_cell x es v rest = record {
      cells = cell_of (column_enum q x) v.value ∷ rest.cells;
      is = λ i. elim (option_map (cell_of (column_enum q x)) (v.is i)) as (λ y. Option (List Cell)) [ None ↦ None | Some y ↦ elim (rest.is i) as (λ z. Option (List Cell)) [ None ↦ None | Some ys ↦ Some (y ∷ ys) ] ];
      at = λ c e get. cell_at x es v rest c e get;
    }

    cells_of : (es : List Expr) → AllByRecursion (HasValue q (on_records q key records)) es → Cells es
    cells_of [] h = record { cells = []; is = refl; at = λ c e get. none≢some get }
    cells_of (x ∷ es) h = with_cell x es h.0 (cells_of es h.1)

columns_of : {A : Type 0} (P : A → Type 0) (xs ys : List A) → AllByRecursion P (xs ++ ys) → AllByRecursion P xs
columns_of P [] ys h = tt
columns_of P (x ∷ xs) ys h = (h.0, columns_of P xs ys h.1)

at_place : {A : Type 0} (P : A → Type 0) (xs : List A) (c : ℕ) (x : A) → slice_get xs c ≡ Some x → AllByRecursion P xs → P x
at_place P [] c x get h = none≢some get
at_place P (y ∷ xs) zero x get h = subst P (same_Some y x get) h.0
at_place P (y ∷ xs) (suc c) x get h = at_place P xs c x get h.1

-- ---- of accepted queries

module _ (q : Query) (a : IsAccepted q) (without : q.having ≡ None) (c : ℕ) (amount : Amount) (is : IsAmount q c amount) where
  abbrev m : Meant
  m = query_of (program_of q)

  adds : (key : ℕ) (ds : List Datum) → IsFiringSet m key ds → amounts.number_of c (m.row key ds) ≡ sum_of (amount_of amount) ds
  adds key ds h =
      let records = map (λ (d : Datum). d.values) ds in
      let s = on_records q key records in
      let pane = pane_is q a key ds h in
      let total = columns_of (HasValue q s) q.columns (in_option q.having) (total_on_panes q a key records pane) in
      let there = cells_of q key records q.columns total in
      let written : m.row key ds ≡ Some there.cells =
      (stands_for_meant q a).row key ds h.same pane ∙ ap (λ (o : Option Expr). cond (condition_holds q s o) (all_of (map (column q s) q.columns)) None) without ∙ there.is in
      ap (amounts.number_of c) written
      ∙ there.at c is.column is.stands
      ∙ value_adds q key is.column amount ds h.same is.is (at_place (HasValue q s) q.columns c is.column is.stands total)

  each_adds : (past : List Event) (e : Event) → AllByRecursion (HasAmount m c amount) (firings m past e)
  each_adds past e = all_each (IsOfSet m) (HasAmount m c amount) (λ f h. adds f.place.key f.fired h) (firings m past e) (firings_of_sets m past e)

pub columns_add_up : (q : Query) → ColumnsAddUp q
columns_add_up q a without c amount is = each_adds q a without c amount is

-- ---- of texts

panes_alone : (f : Form) (mode : Mode) → mode ≡ Discarding → may_write mode f ≡ true → f ≡ Panes
panes_alone f mode is h = grind arith

pub texts_add_up : (text : List ℕ) (q : Query) → TextsAddUp text q
texts_add_up text q read checked fit enough discarding without c amount is =
    let spelt = parsed_is_spelt text q read in
    let a : IsAccepted q = record { checked = checked; spelt = spelt; accepted = accepted_exactly q checked ∙ and_from (ranges_fit q) (states_enough (program_of q)) fit enough } in
    let p = program_of q in
    let whole = is_lawful q checked spelt in
    let shape = (lawful p whole).shape in
    let timely = sessions_by_event p whole in
    let panes = panes_alone q.output.form q.output.mode discarding (passed q checked).emit in
    let adds = columns_add_up q a without c amount is in
    record { amounts = amounts_add_up (query_of p) shape timely discarding panes c amount adds; invoice = invoices (query_of p) shape timely discarding panes c amount adds }
