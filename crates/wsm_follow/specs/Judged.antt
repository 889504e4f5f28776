-- What the code's candidates stand for.
use Rattle.std.specs.Prelude.{ℕ, ◌<◌, ⊤}
use Rattle.wsm_follow.specs.Choice.{Judged}
use Rattle.wsm_follow.specs.Listed.{listing}
use Rattle.wsm_follow.specs.declared.choice.Candidate.{Candidate}
use Rattle.wsm_follow.specs.declared.choice.Choice.{Choice}
use Rattle.wsm_follow.specs.declared.choice.Choice.TheVariants.{Copy, Lost, Own, Packed}

abbrev pub judged : Candidate → Judged
judged c = record { listed = listing c.listed; fits = c.fits }

-- a choice names one of so many files
abbrev pub InChoice : ℕ → Choice → Type 0
InChoice count Own = ⊤
InChoice count (Copy i) = i < count
InChoice count (Packed i) = i < count
InChoice count (Lost loss) = ⊤
