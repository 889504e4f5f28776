use Rattle.std.proofs.Common.{◌≡◌, ◌∙◌, List, ℕ, sym, ap, subst, [], false}
use Rattle.wsm_record.specs.Name.{repeats_after}
use Rattle.wsm_record.proofs.Lists.{position-distinct}
use Rattle.wsm_key_names.specs.Guesses.{AreGuesses}
use Rattle.wsm_key_names.proofs.names.KeyNames.guess_word_at.Goals as goal

-- the only name with the word
pub returns-then-guess-word : goal.returns-then-guess-word
returns-then-guess-word c = λ text bytes e.
    let names = c.args.self.now in
    let distinct : repeats_after [] names ≡ false = ap (repeats_after []) (sym c.self.view_is) ∙ c.self.invariant.1.0 in
    let guesses : AreGuesses names c.self.inside.guesses.guesses.items = subst (λ (l : List (List ℕ)). AreGuesses l c.self.inside.guesses.guesses.items) c.self.view_is c.self.invariant.1.1.0 in
    position-distinct names c.in_ok-guess.guess.now.number text distinct (c.in_ok-guess.ensures names guesses text bytes (e ∙ sym c.if-guess-word.true))
