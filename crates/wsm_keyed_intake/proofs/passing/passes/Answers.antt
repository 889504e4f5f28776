use Rattle.std.proofs.Common.{◌≡◌, ◌∙◌, ℕ, List, Option, Some, None, true, ℤ, SFits, refl, rules, sym, ap, subst, to_z, of_z, w64}
use Rattle.std.proofs.lemmas.Int.{to_z-of_z}
use Rattle.std.specs.Prelude.{IfOk, option_map}
use Rattle.wsm_turns.specs.Turns.{watermark}
use Rattle.wsm_turns.specs.Known.{Passes, Remembers}
use Rattle.wsm_turns.proofs.Remembering.{remembers_on}
use Rattle.wsm_keyed_intake.specs.KeyedLog.{setting_by}
use Rattle.wsm_keyed_intake.proofs.passing.passes.Goals as goal

pub returns-in-None : goal.returns-in-None
returns-in-None c = λ clocks p all k serves remembers.
    let w = setting_by clocks p all in
    let now = c.args.identifiers.now in
    let none : option_map (λ t. t.now) c.args.identifier ≡ None = ap (λ o. option_map (λ t. t.now) o) c.in-None.is in
    subst (λ (o : Option (List ℕ)). Passes w (watermark w k.fed) now o c.args.time k.memory true) (sym none) (record {
      answer = refl;
      double = λ is. cc;
      noted = λ is later rises. remembers_on w (watermark w k.fed) later now k.memory rises remembers;
    })

pub returns-in-Some : goal.returns-in-Some
returns-in-Some c = λ clocks p all k serves remembers.
    let w = setting_by clocks p all in
    let fits : SFits w64 c.mark.result = search rules in
    let at : to_z w64 (of_z w64 c.mark.result) ≡ watermark w k.fed = to_z-of_z w64 c.mark.result fits ∙ c.mark.ensures p k.fed serves in
    let some : option_map (λ t. t.now) c.args.identifier ≡ Some c.in-Some.identifier.now = ap (λ o. option_map (λ t. t.now) o) c.in-Some.is in
    subst (λ (o : Option (List ℕ)). IfOk c.pass.result (Passes w (watermark w k.fed) c.pass.new.self o c.args.time k.memory)) (sym some)
    (subst (λ (m : ℤ). Remembers w m c.args.identifiers.now k.memory → IfOk c.pass.result (Passes w m c.pass.new.self (Some c.in-Some.identifier.now) c.args.time k.memory)) at (c.pass.ensures w k.memory) remembers)
