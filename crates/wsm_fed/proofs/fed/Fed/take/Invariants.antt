use Rattle.std.proofs.Common.{◌≡◌, false, length}
use Rattle.wsm_fed.specs.Seen.{most_of}
use Rattle.wsm_fed.proofs.FedLemmas.{Took}
use Rattle.wsm_fed.proofs.fed.Fed.take.Given as goal

-- what stands in front of the rest was taken
abbrev pub invariant-loop-end : goal.invariant-loop-end
invariant-loop-end l = record {
  took : Took l.fn.self l.fn.bytes l.self l.rest;
  given : l.self.is_given ≡ false;
  most : most_of l.self ≡ most_of l.fn.self;
}

abbrev pub decreases-loop-end : goal.decreases-loop-end
decreases-loop-end l = length l.rest
