-- What accumulators hold of rows that UPDATE folded has 64 bits, and is in the range that FIRE reads.
use Rattle.std.proofs.Common.{◌≡◌, ℕ, suc, ◌+◌, ◌≤◌, true, List, [], ◌∷◌, length, Option, Some, None, Ok, IsTrue, refl, subst, ap, ◌∙◌}
use Rattle.std.specs.Prelude.{pos, ◌≤ℤ◌, IfSome, slice_get}
use Rattle.std.specs.List.{list_all}
use Rattle.std.proofs.lemmas.Bool.{and_from}
use Rattle.std.proofs.lemmas.Option.{get_or_from_slice_get}
use Rattle.wsm_interval.specs.declared.interval.Interval.{Interval}
use Rattle.wsm_interval.specs.Interval.{Holds}
use Rattle.wsm_record.specs.declared.event.Value.{Value}
use Rattle.wsm_record.specs.declared.event.Value.TheVariants as values
use Rattle.wsm_record.specs.declared.words.Kind.{Kind}
use Rattle.wsm_record.specs.declared.words.Kind.TheVariants.{Sum, Min, Max, Any, All}
use Rattle.wsm_fold.specs.Fold.{folds_of}
use Rattle.wsm_program.specs.Program.{Program, is_program}
use Rattle.wsm_program.specs.declared.program.Costs.{Costs}
use Rattle.wsm_rules.specs.Rules.{values_folded, update_visits, judge}
use Rattle.wsm_machine.specs.InRange.{is_word, are_folded_in, accs_in}
use Rattle.wsm_machine.proofs.AccumulatorRanges.{plus_more, through, NumberIn, IsTruthValue, Multiplied, ValueIn, ValuesIn, counted, accs_of_rows, plus_none, from_none}
use Rattle.wsm_machine.proofs.FittingSums.{EndsFit, ends_fit, least_end, greatest_end, folded_rows}
use Rattle.wsm_machine.proofs.KnownWords.{HasWords, folded_within_words}
use Rattle.wsm_machine.proofs.Words.{is_word_number}

-- a sum, by the rule that sums of all records stay
sum_word : (m n : ℕ) (o : Option Interval) (v : Value) → n ≤ m → EndsFit (pos m) o → NumberIn (Multiplied n) o v → is_word v ≡ true
sum_word m n None v l e h = absurd h
sum_word m n (Some x) (values.Int z) l e h = is_word_number z (through (least_end m n x.lo l e.0) h.0) (through h.1 (greatest_end m n x.hi l e.1))
sum_word m n (Some x) (values.Bool b) l e h = refl
sum_word m n (Some x) (values.Enum i) l e h = refl

-- one of the numbers
number_word : (o : Option Interval) (v : Value) → IfSome o HasWords → NumberIn Holds o v → is_word v ≡ true
number_word None v w h = absurd h
number_word (Some x) (values.Int z) w h = is_word_number z (through w.0 h.0) (through h.1 w.1)
number_word (Some x) (values.Bool b) w h = refl
number_word (Some x) (values.Enum i) w h = refl

truth_word : (v : Value) → IsTruthValue v → is_word v ≡ true
truth_word (values.Bool b) h = refl
truth_word v h = absurd h

module _ (p : Program) (need : Costs) (judged : judge p ≡ Ok need) (whole : IsTrue (is_program p)) where
  value_word : (m n a : ℕ) (k : Kind) (v : Value) → p.header.clock.records ≡ pos m → n ≤ m → slice_get p.header.kinds a ≡ Some k → ValueIn k (values_folded a (update_visits p)) n v → is_word v ≡ true
  value_word m n a Sum v r l is h =
      sum_word m n (values_folded a (update_visits p)) v l
      (subst (λ z. EndsFit z (values_folded a (update_visits p))) r (ends_fit p need a judged (get_or_from_slice_get p.header.kinds a Sum Sum is))) h
  value_word m n a Min v r l is h = number_word (values_folded a (update_visits p)) v (folded_within_words p whole a) h
  value_word m n a Max v r l is h = number_word (values_folded a (update_visits p)) v (folded_within_words p whole a) h
  value_word m n a Any v r l is h = truth_word v h
  value_word m n a All v r l is h = truth_word v h

  words_from : (m n a : ℕ) (ks : List Kind) (vs : List Value) → p.header.clock.records ≡ pos m → n ≤ m → ((j : ℕ) → slice_get p.header.kinds (a + j) ≡ slice_get ks j)
      → ValuesIn (λ b. values_folded b (update_visits p)) a n ks vs → list_all is_word vs ≡ true
  words_from m n a [] [] r l at h = refl
  words_from m n a (k ∷ ks) (v ∷ vs) r l at h =
      and_from (is_word v) (list_all is_word vs)
      (value_word m n a k v r l (ap (slice_get p.header.kinds) (plus_none a) ∙ at 0) h.0)
      (words_from m n (suc a) ks vs r l (λ j. ap (slice_get p.header.kinds) (plus_more a j) ∙ at (suc j)) h.1)
  words_from m n a ks vs r l at h = absurd h

  held_words : (rows : List (List Value)) (held : List Value) → list_all (are_folded_in p) rows ≡ true → pos (length rows) ≤ℤ p.header.clock.records → folds_of p.header.kinds rows ≡ Some held → list_all is_word held ≡ true
  held_words rows held e few is =
      let records = counted p.header.clock.records (length rows) few in
      words_from records.0 (length rows) 0 p.header.kinds held records.1 records.2 (λ j. ap (slice_get p.header.kinds) (from_none j)) (folded_rows p rows held e is)

-- Where UPDATE folded each row, and there are at most as many as the program allows, what the accumulators hold is what FIRE may read.
pub held_in_range : (p : Program) (costs : Costs) (rows : List (List Value)) (held : List Value) → judge p ≡ Ok costs → IsTrue (is_program p) → IsTrue (list_all (are_folded_in p) rows)
    → pos (length rows) ≤ℤ p.header.clock.records → folds_of p.header.kinds rows ≡ Some held → IsTrue (accs_in p 0 p.header.kinds held)
held_in_range p costs rows held judged whole e few is = accs_of_rows p rows held e few is (held_words p costs judged whole rows held e few is)
