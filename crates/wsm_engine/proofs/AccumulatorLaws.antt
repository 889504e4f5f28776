-- What the accumulators of the panes that are held lie within, over every history.
use Rattle.std.proofs.Common.{◌≡◌, ℕ, suc, ◌+◌, ◌≤◌, true, List, [], ◌∷◌, length, Option, Some, None, Ok, IsTrue, refl, sym, ap, subst, ◌∙◌, arith}
use Rattle.std.proofs.lemmas.Int.{ints}
use Rattle.std.proofs.lemmas.Bool.{and_from}
use Rattle.std.proofs.lemmas.Option.{get_or_from_slice_get}
use Rattle.std.specs.Prelude.{ℤ, pos, ◌*ℤ◌, ◌≤ℤ◌, nat_eq, slice_get, slice_index_or, option_map}
use Rattle.std.specs.List.{AllByRecursion}
use Rattle.wsm_interval.specs.declared.Interval.{Interval}
use Rattle.wsm_interval.specs.Interval.{interval}
use Rattle.wsm_record.specs.declared.event.Value.{Value}
use Rattle.wsm_record.specs.declared.event.Value.TheVariants as values
use Rattle.wsm_record.specs.declared.words.Kind.{Kind}
use Rattle.wsm_record.specs.declared.words.Kind.TheVariants.{Sum, Min, Max, Any, All}
use Rattle.wsm_record.specs.declared.words.Mode.{Mode}
use Rattle.wsm_record.specs.declared.words.Mode.TheVariants.{Discarding, Accumulating, Retracting}
use Rattle.wsm_record.specs.Event.{Event}
use Rattle.wsm_windows.specs.declared.window.Shape.{Shape}
use Rattle.wsm_windows.specs.declared.window.Shape.TheVariants.{Session}
use Rattle.wsm_windows.specs.declared.place.Place.{Place}
use Rattle.wsm_semantics.specs.Firings.{firing_set}
use Rattle.wsm_semantics.specs.Kept.{Kept, kept}
use Rattle.wsm_semantics.specs.Summaries.{fired_count, summaries, pane_of}
use Rattle.wsm_semantics.specs.HeldRecords.{AtMost, total}
use Rattle.wsm_semantics.proofs.Each.{all-both}
use Rattle.wsm_semantics.proofs.HeldRecords.{each_of}
use Rattle.wsm_semantics.proofs.Summaries.{counted-fired}
use Rattle.wsm_program.specs.Program.{Program, is_program}
use Rattle.wsm_program.specs.declared.program.Costs.{Costs}
use Rattle.wsm_rules.specs.Rules.{values_folded, update_visits, judge}
use Rattle.wsm_machine.specs.InRange.{is_value_in, are_values_in}
use Rattle.wsm_machine.specs.Meaning.{query_of, plan_of, folded}
use Rattle.wsm_machine.specs.Sound.{AreFoldsOf, IsSoundEntry, AreSound}
use Rattle.wsm_machine.proofs.AccumulatorRanges.{ValueIn, ValuesIn, holds_true, plus_more}
use Rattle.wsm_machine.proofs.FittingSums.{folded_rows}
use Rattle.wsm_machine.proofs.QueryFolds.{folded_is}
use Rattle.wsm_machine.proofs.SoundAccumulators.{parts_fit}
use Rattle.wsm_machine.proofs.Words.{folds_words}
use Rattle.wsm_engine.specs.Laws.{next_set, folds_in, range_over, are_in_range, is_in_range, JoinFits, EachTwo}
use Rattle.wsm_engine.proofs.HeldByHistory.{Panes, admitted, kept_panes, kept_sound, admitted_few}

-- ---- ranges of as many records

folded_in : (k : Kind) (n : ℕ) (o : Option Interval) (v : Value) → ValueIn k o n v → is_value_in (option_map (folds_in k n) o) k v ≡ true
folded_in Sum n None v h = absurd h
folded_in Sum n (Some x) (values.Int z) h = holds_true (interval (pos n *ℤ x.lo) (pos n *ℤ x.hi)) z h
folded_in Sum n (Some x) (values.Bool b) h = absurd h
folded_in Sum n (Some x) (values.Enum i) h = absurd h
folded_in Min n None v h = absurd h
folded_in Min n (Some x) (values.Int z) h = holds_true (interval x.lo x.hi) z h
folded_in Min n (Some x) (values.Bool b) h = absurd h
folded_in Min n (Some x) (values.Enum i) h = absurd h
folded_in Max n None v h = absurd h
folded_in Max n (Some x) (values.Int z) h = holds_true (interval x.lo x.hi) z h
folded_in Max n (Some x) (values.Bool b) h = absurd h
folded_in Max n (Some x) (values.Enum i) h = absurd h
folded_in Any n None (values.Bool b) h = refl
folded_in Any n (Some x) (values.Bool b) h = refl
folded_in Any n o (values.Int z) h = absurd h
folded_in Any n o (values.Enum i) h = absurd h
folded_in All n None (values.Bool b) h = refl
folded_in All n (Some x) (values.Bool b) h = refl
folded_in All n o (values.Int z) h = absurd h
folded_in All n o (values.Enum i) h = absurd h

module _ (p : Program) where
  all_folded_in : (n a : ℕ) (ks : List Kind) (vs : List Value) → ((j : ℕ) → slice_get p.header.kinds (a + j) ≡ slice_get ks j) → ValuesIn (λ b. values_folded b (update_visits p)) a n ks vs
      → are_values_in (range_over p n) a ks vs ≡ true
  all_folded_in n a [] [] at h = refl
  all_folded_in n a [] (v ∷ vs) at h = absurd h
  all_folded_in n a (k ∷ ks) [] at h = absurd h
  all_folded_in n a (k ∷ ks) (v ∷ vs) at h =
      let is : slice_index_or p.header.kinds a Sum ≡ k = get_or_from_slice_get p.header.kinds a k Sum (ap (slice_get p.header.kinds) (plus_none a) ∙ at 0) in
      and_from _ _
      (subst (λ (l : Kind). is_value_in (option_map (folds_in l n) (values_folded a (update_visits p))) k v ≡ true) (sym is) (folded_in k n (values_folded a (update_visits p)) v h.0))
      (all_folded_in n (suc a) ks vs (λ j. ap (slice_get p.header.kinds) (plus_more a j) ∙ at (suc j)) h.1)
    where
      plus_none : (a : ℕ) → a ≡ a + 0
      plus_none a = omega arith

  -- the records of a pane that the next firing is computed over, folded as the pane holds them
  next_folds : (key : ℕ) (h : Kept) → AreFoldsOf p (fired_count p.header.mode (pane_of (plan_of p) p.header.mode key h)) (pane_of (plan_of p) p.header.mode key h).folded
      → AreFoldsOf p (length (next_set p h)) (folded p (next_set p h))
  next_folds key h f =
      subst (AreFoldsOf p (length (next_set p h))) (folded_is p (next_set p h))
      (subst (λ n. AreFoldsOf p n (pane_of (plan_of p) p.header.mode key h).folded) (counted-fired (plan_of p) p.header.mode key h) f)

  module _ (costs : Costs) (judged : judge p ≡ Ok costs) where
    in_range_of : (n : ℕ) (o : Option (List Value)) → AreFoldsOf p n o → pos n ≤ℤ p.header.clock.records → are_in_range p n o ≡ true
    in_range_of n None f few = ap (λ k. nat_eq k 0) f
    in_range_of n (Some held) f few =
        and_from _ _
        (subst (λ k. are_values_in (range_over p k) 0 p.header.kinds held ≡ true) f.count
        (all_folded_in (length f.rows) 0 p.header.kinds held (λ j. ap (slice_get p.header.kinds) (from_none j)) (folded_rows p f.rows held f.folded f.folds)))
        (folds_words p costs judged f.rows held f.folded f.words (subst (λ k. pos k ≤ℤ p.header.clock.records) (sym f.count) few) f.folds)
      where
        from_none : (j : ℕ) → 0 + j ≡ j
        from_none j = omega arith

-- ---- over a history

set_within : (m : Mode) (h : Kept) → length h.unshown ≤ length h.all → length (firing_set m h.all h.unshown) ≤ length h.all
set_within Accumulating h l = omega arith
set_within Discarding h l = l
set_within Retracting h l = omega arith

module _ (p : Program) (costs : Costs) (judged : judge p ≡ Ok costs) (whole : IsTrue (is_program p)) (past : List Event) where
  abbrev n : ℕ
  n = admitted p costs judged whole past

  sound : AreSound p n (kept_panes p costs judged whole past)
  sound = kept_sound p costs judged whole past

  abbrev panes_of : List (Place × Kept) → Panes
  panes_of es = summaries (plan_of p) p.header.mode es

  few : (m : ℕ) → m ≤ n → pos m ≤ℤ p.header.clock.records
  few m l = let most = admitted_few p costs judged whole past in omega (arith, ints, l, most)

  all_in_range : (es : List (Place × Kept)) → AllByRecursion (λ s. IsSoundEntry p s × (s.1.count ≤ n)) (panes_of es) → AllByRecursion (λ e. IsTrue (is_in_range p e.1)) es
  all_in_range [] h = tt
  all_in_range (e ∷ es) h =
      let set : length (next_set p e.1) ≤ length e.1.all = set_within p.header.mode e.1 h.0.0.pane.unshown in
      let all : length e.1.all ≤ n = h.0.1 in
      (in_range_of p costs judged (length (next_set p e.1)) (folded p (next_set p e.1)) (next_folds p e.0.key e.1 h.0.0.pane.folds) (few (length (next_set p e.1)) (omega (arith, set, all))), all_in_range es h.1)

  -- what the accumulators of each held pane hold lies in its range for as many records, in 64 bits
  pub held_in_range : AllByRecursion (λ e. IsTrue (is_in_range p e.1)) (kept (query_of p) past)
  held_in_range =
      all_in_range (kept (query_of p) past)
      (all-both (IsSoundEntry p) (λ s. s.1.count ≤ n) (λ s. IsSoundEntry p s × (s.1.count ≤ n)) (λ s a b. (a, b)) (kept_panes p costs judged whole past)
      sound.each (each_of p.header.shape n (kept_panes p costs judged whole past) sound.counts))

  with_one : (e : Place × Kept) (es : List (Place × Kept)) → AllByRecursion (IsSoundEntry p) (panes_of (e ∷ es)) → length e.1.all + total (panes_of es) ≤ n → AllByRecursion (λ f. JoinFits p e.1 f.1) es
  with_one e [] h l = tt
  with_one e (f ∷ es) h l =
      let some : length e.1.all + (length f.1.all + total (panes_of es)) ≤ n = l in
      let first : length (next_set p e.1) ≤ length e.1.all = set_within p.header.mode e.1 h.0.pane.unshown in
      let second : length (next_set p f.1) ≤ length f.1.all = set_within p.header.mode f.1 h.1.0.pane.unshown in (
        λ xs ys is js. parts_fit p costs judged (length (next_set p e.1)) (length (next_set p f.1)) xs ys
            (subst (AreFoldsOf p (length (next_set p e.1))) is (next_folds p e.0.key e.1 h.0.pane.folds))
            (subst (AreFoldsOf p (length (next_set p f.1))) js (next_folds p f.0.key f.1 h.1.0.pane.folds))
            (few (length (next_set p e.1) + length (next_set p f.1)) (omega (arith, some, first, second))),
        with_one e es (h.0, h.1.1) (omega (arith, some)),
      )

  each_two : (es : List (Place × Kept)) → AllByRecursion (IsSoundEntry p) (panes_of es) → total (panes_of es) ≤ n → EachTwo (λ e f. JoinFits p e.1 f.1) es
  each_two [] h l = tt
  each_two (e ∷ es) h l = (with_one e es h l, each_two es h.1 (omega (arith, l)))

  -- what the accumulators of two held sessions hold is joined in 64 bits
  pub sessions_join : (gap : ℤ) → p.header.shape ≡ Session gap → EachTwo (λ e f. JoinFits p e.1 f.1) (kept (query_of p) past)
  sessions_join gap session =
      each_two (kept (query_of p) past) sound.each (subst (λ (sh : Shape). AtMost sh n (kept_panes p costs judged whole past)) session sound.counts)
