use Rattle.std.proofs.Common.{◌≡◌, ◌∷◌, [], drop, map}
use Rattle.wsm_record.specs.Fields.{field_seen}
use Rattle.wsm_source.specs.Binding.{columns_from}
use Rattle.wsm_source.proofs.binding.columns_of.Given as goal

abbrev pub invariant-loop-field : goal.invariant-loop-field
invariant-loop-field l =
    columns_from l.description.fields l.names.items (map field_seen (drop l.field-index l.declared))
    ≡ columns_from l.description.fields (l.description.key.at ∷ l.description.time.at ∷ []) (map field_seen l.declared)
