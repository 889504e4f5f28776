use Rattle.std.proofs.Common.{◌∙◌, Some, ap, refl}
use Rattle.wsm_deal.specs.KeyGuesses.{worth_of}
use Rattle.wsm_deal.proofs.KeyGuesses.{key_of_words}
use Rattle.wsm_deal.proofs.guesses.guess_of.Goals as goal

pub returns : goal.returns
returns c = λ names at text bytes e.
    (c.args.number, at ∙ ap Some (key_of_words c.args.key.now text c.words_of.result (λ i. (c.type_inv.key i).fits) bytes c.words_of.ensures (e ∙ ap worth_of c.unwrap_or.ensures)), refl)
