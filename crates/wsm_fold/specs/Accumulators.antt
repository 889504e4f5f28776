-- Which rows of values accumulators can join.
use Rattle.std.specs.Prelude.{List, ◌∷◌, ◌+ℤ◌, FitsSigned}
use Rattle.std.specs.Int.{w64}
use Rattle.wsm_record.specs.declared.event.Value.{Value}
use Rattle.wsm_record.specs.declared.words.Kind.{Kind}
use Rattle.wsm_record.specs.declared.words.Kind.TheVariants.{Sum}
use Rattle.wsm_fold.specs.Fold.{number_of}

-- the sum of two values is a value again
abbrev pub SumFits : Kind → Value → Value → Type 0
SumFits Sum a b = FitsSigned w64 (number_of a +ℤ number_of b)
SumFits _ a b = Unit {0}

-- sums stay in 64 bits where two rows of values are joined
abbrev pub SumsFit : List Kind → List Value → List Value → Type 0
SumsFit (k ∷ ks) (a ∷ xs) (b ∷ ys) = SumFits k a b × SumsFit ks xs ys
SumsFit _ _ _ = Unit {0}
