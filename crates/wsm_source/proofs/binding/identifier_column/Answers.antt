use Rattle.std.proofs.Common.{◌+◌, ap, sym}
use Rattle.std.proofs.lemmas.List.{length-map}
use Rattle.wsm_record.specs.Fields.{field_seen}
use Rattle.wsm_source.proofs.binding.identifier_column.Goals as goal

pub returns-clause-value : goal.returns-clause-value
returns-clause-value c = ap (λ n. n + 2) (sym (length-map c.args.declared.now field_seen))
