use Rattle.std.proofs.Common.{◌≡◌, ◌∙◌, sym, ap, ℕ, ◌<◌, List, [], ◌∷◌, length, drop, None, refl, arith, length-drop}
use Rattle.std.proofs.lemmas.List.{nil_from_length}
use Rattle.wsm_values.specs.Rfc3339.{behind}
use Rattle.wsm_values.proofs.rfc3339.behind.Goals as goal

-- no letter stands at the front of nothing
behind-nothing : (form : List ℕ) → 0 < length form → behind form [] ≡ None
behind-nothing [] some = absurd (omega arith)
behind-nothing (letter ∷ form) some = refl

pub returns-in_default : goal.returns-in_default
returns-in_default c =
    let letters = drop c.loop-letter.letter-index c.args.form.now in
    let some : 0 < length letters = omega (arith, length-drop c.loop-letter.letter-index c.args.form.now, c.loop-letter-test.true) in
    let none = nil_from_length c.loop-letter.rest.now c.in_default.ensures.cases in
    sym (c.loop-letter.invariant ∙ ap (behind letters) none ∙ behind-nothing letters some)
