use Rattle.std.proofs.Common.{◌≡◌, map, take}
use Rattle.wsm_record.specs.Fields.{declared_field, field_seen}
use Rattle.wsm_row_watermarks.proofs.sources.fields_in.Given as goal

-- the fields so far
abbrev pub invariant-loop-field : goal.invariant-loop-field
invariant-loop-field l = map declared_field l.list.items ≡ map field_seen (take l.field-index l.fields)
