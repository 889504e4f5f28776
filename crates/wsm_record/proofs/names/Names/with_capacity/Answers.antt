use Rattle.std.proofs.Common.{◌≡◌, [], refl, arith}
use Rattle.wsm_record.specs.declared.names.Guess.{Guess}
use Rattle.wsm_record.proofs.NameGuesses.{guesses_alike, none_guessed}
use Rattle.wsm_record.proofs.names.Names.with_capacity.Goals as goal

pub invariant_of-result : goal.invariant_of-result
invariant_of-result c =
    let unknown : Guess = record { word = 0; number = 0 } in
    let none : c.in_ok-texts.texts.keys ≡ [] = c.in_ok-texts.ensures.empty in
    rw none
    (omega arith, (refl, guesses_alike [] c.in_ok-guesses.guesses.items c.next_power_of_two-places.result unknown (c.in_ok-guesses.ensures.items_if_clones_equal (λ _ e. e)) (none_guessed [] unknown refl)))
