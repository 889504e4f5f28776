use Rattle.std.proofs.Common.{◌≡◌, map, take}
use Rattle.serde_json.specs.View.{view}
use Rattle.wsm_explain.specs.Program.{kind_data}
use Rattle.wsm_explain.proofs.program.kinds_value.Given as goal

-- the values so far
abbrev pub invariant-loop-kind : goal.invariant-loop-kind
invariant-loop-kind l = map view l.list.items ≡ map kind_data (take l.kind-index l.kinds)
