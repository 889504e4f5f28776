use Rattle.std.proofs.Common.{◌≡◌, take}
use Rattle.wsm_doubles.specs.Chains.{hashes_of}
use Rattle.wsm_doubles.proofs.chains.Chains.of_links.Given as goal

abbrev pub invariant-loop-link : goal.invariant-loop-link
invariant-loop-link l = l.chains ≡ record { hashes = hashes_of (take l.link-index l.links); buckets = l.buckets }
