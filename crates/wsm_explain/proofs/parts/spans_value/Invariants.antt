use Rattle.std.proofs.Common.{◌≡◌, map, take}
use Rattle.serde_json.specs.View.{view}
use Rattle.wsm_explain.specs.Parts.{span_data}
use Rattle.wsm_explain.proofs.parts.spans_value.Given as goal

-- the values so far
abbrev pub invariant-loop-span : goal.invariant-loop-span
invariant-loop-span l = map view l.list.items ≡ map (span_data l.text) (take l.span-index l.spans)
