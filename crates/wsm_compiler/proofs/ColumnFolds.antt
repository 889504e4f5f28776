-- The folds of UPDATE's values are what accumulators hold of the records, column by column.
use Rattle.std.proofs.Common.{◌≡◌, ℕ, zero, suc, Bool, cond, List, [], ◌∷◌, map, Option, Some, None, refl, sym, ap, ◌∙◌, arith}
use Rattle.std.specs.Prelude.{slice_get}
use Rattle.std.proofs.lemmas.Option.{same_Some}
use Rattle.wsm_record.specs.declared.event.Value.{Value}
use Rattle.wsm_record.specs.declared.words.Kind.{Kind}
use Rattle.wsm_fold.specs.Laws.{joined_to}
use Rattle.wsm_fold.specs.Fold.{join, joins, fold_of, folds_of}
use Rattle.wsm_query.specs.Tree.{Query}
use Rattle.wsm_check.specs.Aggregates.{Acc}
use Rattle.wsm_compiler.specs.Meaning.{meaning, meets_i64, on_record, all_of, fold_where_all}
use Rattle.wsm_compiler.specs.Sections.{in_bounds, folded_values}
use Rattle.wsm_compiler.specs.Folded.{AreUpdates, FoldsHold}
use Rattle.wsm_compiler.proofs.Parts.{none≢some}

-- ---- rows as their first values and the others

abbrev Parted : Type 0
Parted = List (Value × List Value)

abbrev rows_of : Parted → List (List Value)
rows_of ps = map (λ (p : Value × List Value). p.0 ∷ p.1) ps

abbrev firsts : Parted → List Value
firsts ps = map (λ (p : Value × List Value). p.0) ps

abbrev others : Parted → List (List Value)
others ps = map (λ (p : Value × List Value). p.1) ps

-- a first value is folded with the first ones, and others with the others
fold_parts : (k : Kind) (ks : List Kind) (p : Value × List Value) (ps : Parted) →
    joined_to (joins (k ∷ ks)) (p.0 ∷ p.1) (folds_of (k ∷ ks) (rows_of ps)) ≡ joined_to (join k) p.0 (fold_of k (firsts ps)) ∷ joined_to (joins ks) p.1 (folds_of ks (others ps))
fold_parts k ks p [] = refl
fold_parts k ks p (r ∷ rs) = ap (λ row. joins (k ∷ ks) (p.0 ∷ p.1) row) (fold_parts k ks r rs)

-- ---- the values of a record

record First (o : Option Value) (rest : Option (List Value)) (row : List Value) : Type 0 where
  value : Value
  values : List Value
  is : o ≡ Some value
  rest_is : rest ≡ Some values
  row_is : row ≡ value ∷ values

first_of : (o : Option Value) (rest : Option (List Value)) (row : List Value) → elim o as (λ x. Option (List Value)) [ None ↦ None | Some x ↦ elim rest [ None ↦ None | Some xs ↦ Some (x ∷ xs) ] ] ≡ Some row → First o rest row
first_of o rest row h = grind arith

bounded_means : (b : Bool) (o : Option Value) (v : Value) → cond b o None ≡ Some v → o ≡ Some v
bounded_means b o v h = grind arith

module _ (q : Query) (key : ℕ) where
  abbrev meanings : Acc → List (List Value) → List (Option Value)
  meanings acc records = map (λ vs. meaning q (on_record key vs) acc.operand) records

  -- the rows of UPDATE's values are parted into the first operand's meanings and the others' rows
  record Column (acc : Acc) (accs : List Acc) (records rows : List (List Value)) : Type 0 where
    parted : Parted
    rows_are : rows ≡ rows_of parted
    first_is : all_of (meanings acc records) ≡ Some (firsts parted)
    others_are : AreUpdates q key accs records (others parted)

  column : (acc : Acc) (accs : List Acc) (records rows : List (List Value)) → AreUpdates q key (acc ∷ accs) records rows → Column acc accs records rows
  column acc accs [] [] h = record { parted = []; rows_are = refl; first_is = refl; others_are = tt }
  column acc accs (vs ∷ records) (row ∷ rows) h =
      let s = on_record key vs in
      let f = first_of (in_bounds q s 0 acc.operand) (folded_values q s accs) row h.0 in
      let c = column acc accs records rows h.1 in
      let v : meaning q s acc.operand ≡ Some f.value = bounded_means (meets_i64 q s 0 acc.operand) (meaning q s acc.operand) f.value f.is in
      record {
        parted = (f.value, f.values) ∷ c.parted;
        rows_are = (λ i. f.row_is i ∷ c.rows_are i);
        first_is = (λ i. elim (v i) as (λ x. Option (List Value)) [ None ↦ None | Some x ↦ elim (c.first_is i) as (λ y. Option (List Value)) [ None ↦ None | Some xs ↦ Some (x ∷ xs) ] ]);
        others_are = (f.rest_is, c.others_are);
      }
  column acc accs records rows h = absurd h

  hold : (accs : List Acc) (records rows : List (List Value)) (held : List Value) → AreUpdates q key accs records rows → folds_of (map (λ acc. acc.kind) accs) rows ≡ Some held →
      (j : ℕ) (acc : Acc) → slice_get accs j ≡ Some acc → slice_get held j ≡ fold_where_all acc.kind (all_of (meanings acc records))
  hold [] records rows held h is j acc get = none≢some get
  hold (x ∷ accs) records rows held h is j acc get =
      let c = column x accs records rows h in
      by_parts (λ rs hs u e j get. hold accs records rs hs u e j acc get) c.parted (ap (folds_of (map (λ acc. acc.kind) (x ∷ accs))) (sym c.rows_are) ∙ is) c.first_is c.others_are j get
    where
      by_parts : ((rs : List (List Value)) (hs : List Value) → AreUpdates q key accs records rs → folds_of (map (λ acc. acc.kind) accs) rs ≡ Some hs → (j : ℕ) → slice_get accs j ≡ Some acc →
          slice_get hs j ≡ fold_where_all acc.kind (all_of (meanings acc records))) → (ps : Parted) → folds_of (map (λ acc. acc.kind) (x ∷ accs)) (rows_of ps) ≡ Some held → all_of (meanings x records) ≡ Some (firsts ps) → AreUpdates q key accs records (others ps) →
          (j : ℕ) → slice_get (x ∷ accs) j ≡ Some acc → slice_get held j ≡ fold_where_all acc.kind (all_of (meanings acc records))
      by_parts go [] e f u j get = none≢some e
      by_parts go (p ∷ ps) e f u zero get =
          let ks = map (λ acc. acc.kind) accs in
          let same = same_Some _ held e in
          let acc_is = same_Some x acc get in
          ap (λ vs. slice_get vs 0) (sym same ∙ fold_parts x.kind ks p ps)
          ∙ ap (fold_where_all x.kind) (sym f)
          ∙ ap (λ (a : Acc). fold_where_all a.kind (all_of (meanings a records))) acc_is
      by_parts go (p ∷ ps) e f u (suc j) get =
          let ks = map (λ acc. acc.kind) accs in
          let same = same_Some _ held e in
          ap (λ vs. slice_get vs (suc j)) (sym same ∙ fold_parts x.kind ks p ps)
          ∙ go (others (p ∷ ps)) (joined_to (joins ks) p.1 (folds_of ks (others ps))) u refl j get

pub folds_hold : (q : Query) → FoldsHold q
folds_hold q key records rows held h is j acc get = grind (arith, hold)
