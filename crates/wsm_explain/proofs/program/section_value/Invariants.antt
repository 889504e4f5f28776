use Rattle.std.proofs.Common.{◌≡◌, map, take}
use Rattle.serde_json.specs.View.{view}
use Rattle.wsm_explain.specs.Program.{place_data}
use Rattle.wsm_explain.proofs.program.section_value.Given as goal

-- the values so far
abbrev pub invariant-loop-place : goal.invariant-loop-place
invariant-loop-place l = map view l.list.items ≡ map place_data (take l.place-index l.places)
