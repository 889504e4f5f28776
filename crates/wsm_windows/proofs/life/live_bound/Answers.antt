use Rattle.std.proofs.Common.{ap, ◌+◌, arith}
use Rattle.std.proofs.lemmas.Int.{ints}
use Rattle.wsm_windows.specs.Windows.{size_of}
use Rattle.wsm_windows.proofs.Bounds.{ceil_same, enough}
use Rattle.wsm_windows.proofs.life.live_bound.Goals as goal

pub starts_within-requires-in-Sliding-clause-span_high :
    goal.starts_within-requires-in-Sliding-clause-span_high
starts_within-requires-in-Sliding-clause-span_high c = let same = ap size_of c.in-Sliding.is in omega (arith, ints, same)

pub returns-in-Fixed-clause-bound : goal.returns-in-Fixed-clause-bound
returns-in-Fixed-clause-bound c = let size = ap size_of c.in-Fixed.is in rw c.in-Fixed.is (ceil_same _ _ _ _ _ c.starts_within.ensures.starts (omega (arith, ints, size)) (omega (arith, ints)))

pub returns-in-Fixed-clause-enough : goal.returns-in-Fixed-clause-enough
returns-in-Fixed-clause-enough c = λ mark ws are held. let bound = returns-in-Fixed-clause-bound c in omega (arith, bound, enough c.args.shape c.args.skew c.args.lateness mark ws c.requires.shape c.requires.skew c.requires.lateness are held)

pub returns-in-Sliding-clause-bound : goal.returns-in-Sliding-clause-bound
returns-in-Sliding-clause-bound c = let size = ap size_of c.in-Sliding.is in rw c.in-Sliding.is (ceil_same _ _ _ _ _ c.starts_within-in-Sliding.ensures.starts (omega (arith, ints, size)) (omega (arith, ints)))

pub returns-in-Sliding-clause-enough : goal.returns-in-Sliding-clause-enough
returns-in-Sliding-clause-enough c = λ mark ws are held. let bound = returns-in-Sliding-clause-bound c in omega (arith, bound, enough c.args.shape c.args.skew c.args.lateness mark ws c.requires.shape c.requires.skew c.requires.lateness are held)

pub returns-in-Session-clause-bound : goal.returns-in-Session-clause-bound
returns-in-Session-clause-bound c = rw c.in-Session.is (ap (λ n. 1 + n) (ceil_same _ _ _ _ _ c.starts_within-in-Session.ensures.starts (omega (arith, ints)) (omega (arith, ints))))

pub returns-in-Session-clause-enough : goal.returns-in-Session-clause-enough
returns-in-Session-clause-enough c = λ mark ws are held. let bound = returns-in-Session-clause-bound c in omega (arith, bound, enough c.args.shape c.args.skew c.args.lateness mark ws c.requires.shape c.requires.skew c.requires.lateness are held)
