-- Panes stay as wide as they were where records come in and where two are joined.
use Rattle.std.proofs.Common.{◌≡◌, Bool, ℕ, pos, List, [], Option, Some, None, length, sym, ◌∙◌}
use Rattle.std.specs.Prelude.{IfSome, IsTrue}
use Rattle.wsm_record.specs.declared.event.Value.{Value}
use Rattle.wsm_record.specs.declared.words.Kind.{Kind}
use Rattle.wsm_fold.specs.Fold.{are_of_kinds, joins}
use Rattle.wsm_fold.proofs.Rows.{are_of_kinds-joins, length-are_of_kinds}
use Rattle.wsm_semantics.specs.declared.standing.Standing.{Standing}
use Rattle.wsm_semantics.specs.declared.standing.Standing.TheVariants.{Row, Unfired, Joined}
use Rattle.wsm_semantics.specs.Query.{Datum}
use Rattle.wsm_semantics.specs.Replay.{datum}
use Rattle.wsm_semantics.specs.Summaries.{Pane, joined, joined_folds, standing_joined, standing_row, with_folded}
use Rattle.wsm_slots.specs.declared.widths.Widths.{Widths}
use Rattle.wsm_slots.specs.Panes.{CanJoin, CanJoinFolds, taking, with_one_more}
use Rattle.wsm_slots.specs.Layout.{HasWindow, IsAsWide}

joins_wide : (kinds : List Kind) (xs ys : List Value) (w : ℕ) → IsTrue (are_of_kinds kinds ys) → length xs ≡ w → length ys ≡ w → length (joins kinds xs ys) ≡ w
joins_wide kinds xs ys w types p q =
    let long = length-are_of_kinds kinds ys types in
    length-are_of_kinds kinds (joins kinds xs ys) (are_of_kinds-joins kinds xs ys (p ∙ sym q ∙ long) long) ∙ sym long ∙ q

module _ (kinds : List Kind) (values : List Value) (w : Widths) where
  folded_wide : IsTrue (are_of_kinds kinds values) → length values ≡ w.accumulators → (d : Datum) (o : Option (List Value)) → IfSome o (λ xs. length xs ≡ w.accumulators) → length (with_folded (taking kinds values) d o) ≡ w.accumulators
  folded_wide types wide d None h = wide
  folded_wide types wide d (Some xs) h = joins_wide kinds xs values w.accumulators types h wide

  pub more_wide : IsTrue (are_of_kinds kinds values) → length values ≡ w.accumulators → (o : Option (Pane (List Value))) → IfSome o (IsAsWide w) → IsAsWide w (with_one_more kinds values o)
  more_wide types wide None h = record { folds = wide; row = tt; window = tt }
  more_wide types wide (Some pane) h = record { folds = folded_wide types wide (datum 0 (pos 0) 0 (pos 0) []) pane.folded h.folds; row = h.row; window = h.window }

  folds_wide : (n : ℕ) (o p : Option (List Value)) → CanJoinFolds kinds o p → IfSome o (λ xs. length xs ≡ n) → IfSome p (λ xs. length xs ≡ n) → IfSome (joined_folds (taking kinds values) o p) (λ xs. length xs ≡ n)
  folds_wide n None p can g h = h
  folds_wide n (Some xs) None can g h = g
  folds_wide n (Some xs) (Some ys) can g h = joins_wide kinds xs ys n can.1 g h

  standing_wide : (n : ℕ) (s t : Standing) → IfSome (standing_row s) (λ xs. length xs ≡ n) → IfSome (standing_row t) (λ xs. length xs ≡ n) → IfSome (standing_row (standing_joined s t)) (λ xs. length xs ≡ n)
  standing_wide n Unfired t g h = h
  standing_wide n (Row v columns) Unfired g h = g
  standing_wide n (Row v columns) (Row w others) g h = tt
  standing_wide n (Row v columns) Joined g h = tt
  standing_wide n Joined Unfired g h = tt
  standing_wide n Joined (Row v others) g h = tt
  standing_wide n Joined Joined g h = tt

  joined_window : (b : Bool) (s t : Standing) → HasWindow b s → HasWindow b t → HasWindow b (standing_joined s t)
  joined_window b Unfired t g h = h
  joined_window b (Row v columns) Unfired g h = g
  joined_window b (Row v columns) (Row w others) g h = tt
  joined_window b (Row v columns) Joined g h = tt
  joined_window b Joined Unfired g h = tt
  joined_window b Joined (Row v others) g h = tt
  joined_window b Joined Joined g h = tt

  pub joined_wide : (one other : Pane (List Value)) → CanJoin kinds one other → IsAsWide w one → IsAsWide w other → IsAsWide w (joined (taking kinds values) one other)
  joined_wide one other can g h = record {
    folds = folds_wide w.accumulators one.folded other.folded can.folds g.folds h.folds;
    row = standing_wide w.columns one.stands other.stands g.row h.row;
    window = joined_window w.windows one.stands other.stands g.window h.window;
  }
