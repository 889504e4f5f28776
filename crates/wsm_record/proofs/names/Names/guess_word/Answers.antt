use Rattle.std.proofs.Common.{◌≡◌, ◌∙◌, List, ℕ, map, sym, ap, subst, Some, slice_get, [], false, length, get_or, refl, arith}
use Rattle.std.proofs.lemmas.Bool.{ltb-true}
use Rattle.std.proofs.lemmas.Option.{slice_get_read}
use Rattle.wsm_record.specs.Name.{repeats_after}
use Rattle.wsm_record.specs.Guesses.{AreGuesses}
use Rattle.wsm_record.proofs.Lists.{position-distinct}
use Rattle.wsm_record.proofs.Schemas.{no_repeats}
use Rattle.wsm_record.proofs.names.Names.guess_word.Goals as goal

-- the only name with the word
pub returns-then-guess-word : goal.returns-then-guess-word
returns-then-guess-word c = λ text bytes e.
    let guess = c.in_ok-guess.guess.now in
    let distinct : repeats_after [] c.args.self.now ≡ false = ap (repeats_after []) (sym c.self.view_is) ∙ no_repeats [] (map (λ v. v.items) c.self.inside.texts.keys) c.self.invariant.1.0 in
    let guesses : AreGuesses c.args.self.now c.self.inside.guesses.items = subst (λ (l : List (List ℕ)). AreGuesses l c.self.inside.guesses.items) c.self.view_is c.self.invariant.1.1 in
    let place = c.place_of.result in
    let items = c.self.inside.guesses.items in
    let within = ltb-true place (length c.deref.result.now) (sym c.in_ok-guess.ensures.lookup.0) in
    let long = ap length c.deref.ensures.value in
    let read : guess ≡ get_or items place guess = rw c.deref.ensures.value at c.in_ok-guess.ensures.lookup.1 in
    let at : slice_get items place ≡ Some guess = slice_get_read items (length items) place guess refl (omega (arith, within, long)) read in
    position-distinct c.args.self.now guess.number text distinct (guesses place guess at text bytes (e ∙ sym c.if-guess-word.true))
