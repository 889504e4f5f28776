use Rattle.std.proofs.Common.{◌≡◌, map}
use Rattle.serde_json.specs.View.{view}
use Rattle.wsm_explain.specs.Program.{ranges_up_to}
use Rattle.wsm_explain.proofs.program.ranges_up_to.Given as goal

-- those so far
abbrev pub invariant-loop-accumulator : goal.invariant-loop-accumulator
invariant-loop-accumulator l = map view l.list.items ≡ ranges_up_to l.program l.accumulator
