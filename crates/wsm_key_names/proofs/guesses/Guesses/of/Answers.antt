use Rattle.std.proofs.Common.{◌<◌, ◌≡◌, ◌∙◌, List, ℕ, Some, ap, arith, length, map, refl, slice_get, sym}
use Rattle.std.proofs.lemmas.Option.{slice_get-map, slice_get_read}
use Rattle.std.specs.Prelude.{option_map}
use Rattle.wsm_key_names.specs.declared.guesses.Guess.{Guess}
use Rattle.wsm_key_names.proofs.KeyGuesses.{guesses_alike}
use Rattle.wsm_key_names.proofs.guesses.Guesses.of.Goals as goal

pub loop-number-init : goal.loop-number-init
loop-number-init c =
    let unknown : Guess = record { word = 0; number = 4294967295 } in
    guesses_alike (map (λ v. v.items) c.args.names.now) _ c.in-Some.places unknown (c.in_ok-vec.ensures.items_if_clones_equal (λ _ e. e)) refl

pub loop-number-preserved : goal.loop-number-preserved
loop-number-preserved c =
    let keys = c.args.names.now in
    let names : List (List ℕ) = map (λ v. v.items) keys in
    let number = c.loop-number.number in
    let v = c.index-names-number.result in
    let within : number < length keys = omega (arith, c.loop-number-test.true, c.min-number-end.ensures) in
    let here : slice_get keys number ≡ Some v = slice_get_read keys (length keys) number v refl within c.index-names-number.is in
    let at : slice_get names number ≡ Some c.as_slice.result.now =
    slice_get-map (λ v. v.items) keys number ∙ ap (option_map (λ v. v.items)) here ∙ ap Some (sym c.as_slice.ensures.value) in
    c.add.ensures names at c.loop-number.invariant
