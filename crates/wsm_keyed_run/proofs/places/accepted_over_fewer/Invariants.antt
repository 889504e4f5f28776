use Rattle.std.proofs.Common.{◌-◌, ◌<◌, ◌≤◌}
use Rattle.wsm_keyed_run.specs.Places.{IsByPlaces}
use Rattle.wsm_keyed_run.proofs.places.accepted_over_fewer.Given as goal

-- a program was accepted, and at least one place is tried
abbrev pub invariant-loop-least : goal.invariant-loop-least
invariant-loop-least l = record {
  verified : IsByPlaces l.fn.text l.verified;
  some : 1 ≤ l.least;
  few : l.most < 1000;
}

abbrev pub decreases-loop-least : goal.decreases-loop-least
decreases-loop-least l = l.most - l.least
