-- What accumulators hold of records in range: as folds of rows, in the range that FIRE reads, and with
-- sums that stay in 64 bits where there are at most as many records as the program allows.
use Rattle.std.proofs.Common.{◌≡◌, ℕ, ◌+◌, ◌<◌, ◌≤◌, true, List, [], ◌∷◌, ◌++◌, length, Option, Some, None, IsTrue, refl, sym, subst, ◌∙◌, arith, length-append}
use Rattle.std.proofs.lemmas.Int.{ints}
use Rattle.std.proofs.lemmas.List.Folds.{list_all-append}
use Rattle.std.specs.Prelude.{pos, ◌≤ℤ◌, Ok, int_le}
use Rattle.std.specs.List.{list_all}
use Rattle.std.proofs.lemmas.Bool.Decides.{nat_tests}
use Rattle.std.proofs.lemmas.Bool.{and_from}
use Rattle.wsm_record.specs.declared.event.Value.{Value}
use Rattle.wsm_fold.specs.Fold.{joins, folds_of}
use Rattle.wsm_fold.specs.Accumulators.{SumsFit}
use Rattle.wsm_fold.proofs.Rows.{joins_assoc}
use Rattle.wsm_fold.proofs.Bags.{fold_by-append}
use Rattle.wsm_interval.specs.Interval.{interval, holds}
use Rattle.wsm_semantics.specs.Query.{Datum}
use Rattle.wsm_semantics.specs.Summaries.{with_folded, joined_folds}
use Rattle.wsm_program.specs.declared.instr.SectionId.TheVariants.{Update, Fire}
use Rattle.wsm_program.specs.Program.{Program, is_program}
use Rattle.wsm_program.specs.declared.program.Costs.{Costs}
use Rattle.wsm_rules.specs.Rules.{judge}
use Rattle.wsm_machine.specs.InRange.{in_range, is_word, are_folded_in}
use Rattle.wsm_machine.specs.Meaning.{record_inputs, pane_inputs, update_run, updated, plan_of}
use Rattle.wsm_machine.specs.Sound.{AreFolds, AreFoldsOf, IsDatumInRange}
use Rattle.wsm_machine.proofs.AccumulatorRanges.{accs_of_rows}
use Rattle.wsm_machine.proofs.CompleteRuns.{completes}
use Rattle.wsm_machine.proofs.EndedRuns.{folds, values_are}
use Rattle.wsm_machine.proofs.FittingSums.{sums_fit}
use Rattle.wsm_machine.proofs.Words.{updated_words, folds_words}

module _ (p : Program) where
  -- ---- bags

  folds_joined : (m n : ℕ) (xs ys : List Value) → AreFolds p m xs → AreFolds p n ys → AreFolds p (m + n) (joins p.header.kinds xs ys)
  folds_joined m n xs ys f g = record {
    rows = f.rows ++ g.rows;
    folded = list_all-append (are_folded_in p) f.rows g.rows ∙ and_from _ _ f.folded g.folded;
    words = list_all-append (list_all is_word) f.rows g.rows ∙ and_from _ _ f.words g.words;
    count = length-append f.rows g.rows ∙ (λ i. f.count i + g.count i);
    folds = fold_by-append (joins p.header.kinds) (joins_assoc p.header.kinds) xs ys f.rows g.rows f.folds g.folds;
  }

  pub folds_of_parts : (m n : ℕ) (a b : Option (List Value)) → AreFoldsOf p m a → AreFoldsOf p n b → AreFoldsOf p (m + n) (joined_folds (plan_of p) a b)
  folds_of_parts m n None None f g = omega (arith, f, g)
  folds_of_parts m n None (Some ys) f g = subst (λ k. AreFolds p k ys) (omega (arith, f)) g
  folds_of_parts m n (Some xs) None f g = subst (λ k. AreFolds p k xs) (omega (arith, g)) f
  folds_of_parts m n (Some xs) (Some ys) f g = folds_joined m n xs ys f g

  -- there is a row
  pub some_rows : (n : ℕ) (held : List Value) → AreFolds p n held → 1 ≤ n
  some_rows n held f = at_least f.rows f.count f.folds
    where
      at_least : (rows : List (List Value)) → length rows ≡ n → folds_of p.header.kinds rows ≡ Some held → 1 ≤ n
      at_least [] e h = absurd cc
      at_least (row ∷ rows) e h = omega (arith, e)

  -- ---- ranges

  few : (n : ℕ) (rows : List (List Value)) → length rows ≡ n → pos n ≤ℤ p.header.clock.records → pos (length rows) ≤ℤ p.header.clock.records
  few n rows e h = subst (λ k. pos k ≤ℤ p.header.clock.records) (sym e) h

  counted_in : (n : ℕ) → 1 ≤ n → pos n ≤ℤ p.header.clock.records → holds (interval (pos 1) p.header.clock.records) (pos n) ≡ true
  counted_in n l h = and_from (int_le (pos 1) (pos n)) (int_le (pos n) p.header.clock.records) (grind (arith, ints)) (grind (arith, ints))

  module _ (costs : Costs) (judged : judge p ≡ Ok costs) where
    -- FIRE may read a pane's key, its number of records and what its accumulators hold
    pub may_fire : (key n : ℕ) (held : List Value) → key < length p.header.schema.keys → AreFolds p n held → pos n ≤ℤ p.header.clock.records → IsTrue (in_range p Fire (pane_inputs key n held))
    may_fire key n held k f h =
        and_from _ _ (grind (arith, nat_tests)) (and_from _ _ (counted_in n (some_rows n held f) h) (accs_of_rows p f.rows held f.folded (few n f.rows f.count h) f.folds (folds_words p costs judged f.rows held f.folded f.words (few n f.rows f.count h) f.folds)))

    -- two bags are joined in 64 bits
    pub parts_fit : (m n : ℕ) (xs ys : List Value) → AreFolds p m xs → AreFolds p n ys → pos (m + n) ≤ℤ p.header.clock.records → SumsFit p.header.kinds xs ys
    parts_fit m n xs ys f g h =
        sums_fit p costs f.rows g.rows xs ys judged f.folded g.folded (subst (λ k. pos k ≤ℤ p.header.clock.records) (λ i. sym f.count i + sym g.count i) h) f.folds g.folds

    module _ (lawful : IsTrue (is_program p)) where
      -- what UPDATE gives of a record in range
      pub row_folded : (d : Datum) → IsDatumInRange p d → AreFolds p 1 (updated p d.key d.values)
      row_folded d ranged =
          let ran = update_run p d.key d.values in
          let left = folds p (record_inputs d.key d.values) 0 ran (completes p costs judged lawful Update (record_inputs d.key d.values) ranged) in
          let same : updated p d.key d.values ≡ left.0 = values_are ran.folds left.0 (updated p d.key d.values) left.1 refl in
          record {
            rows = updated p d.key d.values ∷ [];
            folded = and_from _ true (subst (λ vs. are_folded_in p vs ≡ true) (sym same) left.2) refl;
            words = and_from _ true (updated_words p d.key d.values) refl;
            count = refl;
            folds = refl;
          }

      -- a record more
      pub folds_with : (n : ℕ) (d : Datum) (o : Option (List Value)) → IsDatumInRange p d → AreFoldsOf p n o → AreFolds p (n + 1) (with_folded (plan_of p) d o)
      folds_with n d None ranged f = subst (λ k. AreFolds p k (updated p d.key d.values)) (omega (arith, f)) (row_folded d ranged)
      folds_with n d (Some held) ranged f = folds_joined n 1 held (updated p d.key d.values) f (row_folded d ranged)

      -- a record is folded in 64 bits
      pub record_fits : (n : ℕ) (held : List Value) (d : Datum) → IsDatumInRange p d → AreFolds p n held → pos (n + 1) ≤ℤ p.header.clock.records → SumsFit p.header.kinds held (updated p d.key d.values)
      record_fits n held d ranged f h = parts_fit n 1 held (updated p d.key d.values) f (row_folded d ranged) h
