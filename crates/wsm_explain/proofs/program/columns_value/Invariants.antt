use Rattle.std.proofs.Common.{◌≡◌, map}
use Rattle.serde_json.specs.View.{view}
use Rattle.wsm_explain.specs.Program.{columns_up_to}
use Rattle.wsm_explain.proofs.program.columns_value.Given as goal

-- those so far
abbrev pub invariant-loop-place : goal.invariant-loop-place
invariant-loop-place l = map view l.list.items ≡ columns_up_to l.columns l.ranges l.place
