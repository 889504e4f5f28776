-- What a run of a program's sections comes to over a history, and what the accumulators of held panes hold.
use Rattle.std.specs.Prelude.{◌≡◌, ℕ, ◌≤◌, Bool, ◌&&◌, nat_eq, List, [], ◌∷◌, length, Option, Some, None, option_map}
use Rattle.std.specs.List.{AllByRecursion, list_all}
use Rattle.wsm_record.specs.declared.event.Value.{Value}
use Rattle.wsm_record.specs.declared.words.Kind.{Kind}
use Rattle.wsm_interval.specs.declared.Interval.{Interval}
use Rattle.wsm_interval.specs.Interval.{interval}
use Rattle.wsm_fold.specs.Fold.{times}
use Rattle.wsm_fold.specs.Accumulators.{SumsFit}
use Rattle.wsm_semantics.specs.Query.{Datum}
use Rattle.wsm_semantics.specs.Firings.{Firing, firing_set}
use Rattle.wsm_semantics.specs.Kept.{Kept}
use Rattle.wsm_program.specs.Instructions.{kind_of}
use Rattle.wsm_program.specs.Program.{Program}
use Rattle.wsm_rules.specs.Costs.{longest_path}
use Rattle.wsm_rules.specs.Rules.{values_folded, update_visits}
use Rattle.wsm_machine.specs.declared.outcome.Outcome.TheVariants.{Done}
use Rattle.wsm_machine.specs.InRange.{is_word, are_values_in}
use Rattle.wsm_machine.specs.Meaning.{where_run, update_run, fire_run, folded}

-- WHERE and UPDATE come to their ends on a record
pub record RecordEnds (p : Program) (key : ℕ) (values : List Value) : Type 0 where
  pub selects : (where_run p key values).outcome ≡ Done
  pub updates : (update_run p key values).outcome ≡ Done

-- FIRE comes to its end on a firing, which has records
pub record FiringEnds (p : Program) (f : Firing) : Type 0 where
  pub held : List Value
  pub folds : folded p f.fired ≡ Some held
  pub fires : (fire_run p f.place.key (length f.fired) held).outcome ≡ Done

-- WHERE and UPDATE take no more steps on a record than their longest paths have
pub record RecordPaths (p : Program) (key : ℕ) (values : List Value) : Type 0 where
  pub selects : (where_run p key values).steps ≤ longest_path p.selection
  pub updates : (update_run p key values).steps ≤ longest_path p.update

-- ---- accumulators

-- the records of a held pane that its next firing is computed over
abbrev pub next_set : Program → Kept → List Datum
next_set p h = firing_set p.header.mode h.all h.unshown

-- where the fold of n numbers of an interval lies
abbrev pub folds_in : Kind → ℕ → Interval → Interval
folds_in k n x = interval (times k n x.lo) (times k n x.hi)

-- where accumulator a lies over n records: the verifier knows an interval of what UPDATE folds of each
abbrev pub range_over : Program → ℕ → ℕ → Option Interval
range_over p n a = option_map (folds_in (kind_of p.header.kinds a) n) (values_folded a (update_visits p))

-- what accumulators hold of n records: nothing of none, else one value each, which lies in its range for
-- as many and has 64 bits
abbrev pub are_in_range : Program → ℕ → Option (List Value) → Bool
are_in_range p n None = nat_eq n 0
are_in_range p n (Some held) = are_values_in (range_over p n) 0 p.header.kinds held && list_all is_word held

-- what the accumulators of a held pane hold
abbrev pub is_in_range : Program → Kept → Bool
is_in_range p h = let ds = next_set p h in are_in_range p (length ds) (folded p ds)

-- what is held of one pane and of another is joined in 64 bits
abbrev pub JoinFits : Program → Kept → Kept → Type 0
JoinFits p a b = (xs ys : List Value) → folded p (next_set p a) ≡ Some xs → folded p (next_set p b) ≡ Some ys → SumsFit p.header.kinds xs ys

-- any two elements, one after the other
abbrev pub EachTwo : {A : Type 0} → (A → A → Type 0) → List A → Type 0
EachTwo R [] = Unit {0}
EachTwo R (x ∷ xs) = AllByRecursion (R x) xs × EachTwo R xs
