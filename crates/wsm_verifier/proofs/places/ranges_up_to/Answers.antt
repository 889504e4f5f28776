use Rattle.std.proofs.Common.{◌∷◌, [], ◌++◌, ◌<◌, None, length, take, sym, ap, ◌∙◌, List, Option, arith}
use Rattle.std.proofs.lemmas.List.{take_more, take_all}
use Rattle.wsm_interval.specs.declared.Interval.{Interval}
use Rattle.wsm_rules.specs.Rules.{ranges_of}
use Rattle.wsm_verifier.proofs.PlacesKept.{length-ranges_of}
use Rattle.wsm_verifier.proofs.places.ranges_up_to.Goals as goal

pub loop-accumulator-preserved : goal.loop-accumulator-preserved
loop-accumulator-preserved c =
    let n = c.loop-accumulator.accumulator in
    let all = ranges_of c.args.program.now in
    let within : n < length all = omega (arith, length-ranges_of c.args.program.now, c.requires.all) in
    c.in_ok-push.ensures.items
    ∙ ap (λ (ranges : List (Option Interval)). ranges ++ c.range.result ∷ []) c.loop-accumulator.invariant
    ∙ ap (λ (x : Option Interval). take n all ++ x ∷ []) c.range.ensures
    ∙ sym (take_more all n None within)

pub returns : goal.returns
returns c = c.loop-accumulator.invariant ∙ take_all c.loop-accumulator.accumulator (ranges_of c.args.program.now) (omega (arith, length-ranges_of c.args.program.now, c.requires.all))
