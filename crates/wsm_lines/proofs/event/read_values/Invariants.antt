use Rattle.std.proofs.Common.{◌≡◌, drop}
use Rattle.wsm_lines.specs.Event.{values_of, values_from}
use Rattle.wsm_lines.specs.Seen.{taken_seen}
use Rattle.wsm_lines.proofs.event.read_values.Given as goal

-- the fields that are left go on from the values so far
abbrev pub invariant-loop-field : goal.invariant-loop-field
invariant-loop-field l = values_of l.fields (taken_seen l.taken) ≡ values_from l.values.items (drop l.field-index l.fields) (taken_seen l.taken)
