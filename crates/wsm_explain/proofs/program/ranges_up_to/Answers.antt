use Rattle.std.proofs.Common.{◌≡◌, ◌∙◌, suc, ◌+◌, [], ◌∷◌, ◌++◌, ap, map, arith}
use Rattle.std.proofs.lemmas.List.{map-append}
use Rattle.serde_json.specs.View.{view}
use Rattle.wsm_explain.specs.Json.{or_null}
use Rattle.wsm_explain.specs.Declarations.{interval_data}
use Rattle.wsm_explain.specs.Program.{ranges_up_to}
use Rattle.wsm_explain.proofs.program.ranges_up_to.Goals as goal

pub loop-accumulator-preserved : goal.loop-accumulator-preserved
loop-accumulator-preserved c =
    let value = c.in_ok-maybe_interval.field-0 in
    let n = c.loop-accumulator.accumulator in
    let ranges = ranges_up_to c.args.program.now in
    let next : suc n ≡ n + 1 = omega arith in
    ap (map view) c.in_ok-push.ensures.items
    ∙ map-append view c.loop-accumulator.list.items (value ∷ [])
    ∙ ap (λ ds. ds ++ view value ∷ []) c.loop-accumulator.invariant
    ∙ ap (λ d. ranges n ++ d ∷ []) (c.in_ok-maybe_interval.ensures ∙ ap (or_null interval_data) c.range.ensures)
    ∙ ap ranges next
