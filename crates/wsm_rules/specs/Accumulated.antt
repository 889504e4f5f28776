-- Sums of all records stay in 64 bits.
use Rattle.std.specs.Prelude.{◌≡◌, ℕ, Bool, true, not, List, ℤ, Option, Some, None, slice_index_or}
use Rattle.wsm_interval.specs.declared.Interval.{Interval}
use Rattle.wsm_record.specs.declared.Kind.{Kind}
use Rattle.wsm_program.specs.Instructions.{kind_of}
use Rattle.wsm_rules.specs.declared.known.Known.TheVariants.{Number}
use Rattle.wsm_rules.specs.Rules.{sum_leaves}

-- a sum of all records stays in 64 bits
abbrev pub stays : ℤ → Kind → Option Interval → Bool
stays records k None = true
stays records k (Some x) = not (sum_leaves records k (Number x))

-- the same for each accumulator
abbrev pub StayAll : ℤ → List Kind → List (Option Interval) → Type 0
StayAll records kinds folded = (a : ℕ) → stays records (kind_of kinds a) (slice_index_or folded a None) ≡ true
