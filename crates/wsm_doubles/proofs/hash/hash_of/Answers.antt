use Rattle.std.proofs.Common.{◌∙◌, ℕ, ◌/◌, ◌^◌, ap}
use Rattle.std.specs.Hash.FoldHasher.{write}
use Rattle.wsm_doubles.specs.Entries.{hash_of}
use Rattle.wsm_doubles.proofs.hash.hash_of.Goals as goal

pub returns : goal.returns
unfolding hash_of
returns c = ap (λ (n : ℕ). n / 2 ^ 32) (c.finish.ensures ∙ (λ i. (c.write.ensures i).state) ∙ (λ i. (write (c.default-hasher.ensures i) c.args.text.now).state))
