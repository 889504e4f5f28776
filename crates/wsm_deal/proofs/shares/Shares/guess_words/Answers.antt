use Rattle.std.proofs.Common.{◌∙◌, List, ℕ, map, sym}
use Rattle.wsm_deal.proofs.DistinctKeys.{number_of_text}
use Rattle.wsm_deal.proofs.Shared.{part_at}
use Rattle.wsm_deal.proofs.shares.Shares.guess_words.Goals as goal

-- the only key with the words
pub returns-then-are : goal.returns-then-are
returns-then-are c = λ key bytes e.
    let keys = c.self.inside.names.keys in
    let names : List (List ℕ) = map (λ v. v.items) keys in
    let block = c.self.inside.block in
    let is = c.in_ok-guess.ensures names block c.self.invariant.1.0 key bytes (e ∙ sym (c.are.ensures c.if-are.true)) in
    is.2 ∙ part_at c.args.self.now names block is.0 key c.self.view_is (sym (number_of_text (λ v. v.items) keys is.0 key c.self.invariant.1.1 is.1))
