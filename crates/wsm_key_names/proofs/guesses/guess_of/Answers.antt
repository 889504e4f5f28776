use Rattle.std.proofs.Common.{refl}
use Rattle.wsm_key_names.specs.declared.guesses.Guess.{Guess}
use Rattle.wsm_key_names.proofs.KeyGuesses.{guess_is, none_guessed}
use Rattle.wsm_key_names.proofs.guesses.guess_of.Goals as goal

pub returns-in-Some : goal.returns-in-Some
returns-in-Some c = λ names at.
    let guess : Guess = record { word = c.in-Some.word; number = c.args.number } in
    guess_is names c.args.name.now guess (λ i. (c.type_inv.name i).fits) at c.in-Some.ensures

pub returns-in-None : goal.returns-in-None
returns-in-None c = λ names at.
    let guess : Guess = record { word = 0; number = c.args.number } in
    none_guessed names guess refl
