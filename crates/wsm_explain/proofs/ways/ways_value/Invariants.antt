use Rattle.std.proofs.Common.{◌≡◌, map, take}
use Rattle.serde_json.specs.View.{view}
use Rattle.wsm_explain.specs.Ways.{way_data}
use Rattle.wsm_explain.proofs.ways.ways_value.Given as goal

-- the values so far
abbrev pub invariant-loop-way : goal.invariant-loop-way
invariant-loop-way l = map view l.list.items ≡ map way_data (take l.way-index l.ways)
