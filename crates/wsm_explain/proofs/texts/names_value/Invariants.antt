use Rattle.std.proofs.Common.{◌≡◌, map, take}
use Rattle.serde_json.specs.View.{view}
use Rattle.wsm_explain.specs.Json.{text_data}
use Rattle.wsm_explain.proofs.texts.names_value.Given as goal

-- the names so far
abbrev pub invariant-loop-number : goal.invariant-loop-number
invariant-loop-number l = map view l.list.items ≡ map text_data (take l.number l.names)
