use Rattle.std.proofs.Common.{◌≡◌, ◌∙◌, ◌+◌, List, ℕ, Option, ap, map, sym, length}
use Rattle.std.proofs.lemmas.List.{length-map}
use Rattle.wsm_record.specs.Fields.{field_seen}
use Rattle.wsm_source.specs.Binding.{clock_column}
use Rattle.wsm_source.proofs.binding.clock_column.Goals as goal

pub returns-in-Some-clause-value : goal.returns-in-Some-clause-value
returns-in-Some-clause-value c = ap (λ n. n + 3) (sym (length-map c.args.declared.now field_seen)) ∙ ap (λ (o : Option (List ℕ)). clock_column o (map field_seen c.args.declared.now)) (sym c.in-Some.is)

pub returns-in-None-clause-value : goal.returns-in-None-clause-value
returns-in-None-clause-value c = ap (λ n. n + 2) (sym (length-map c.args.declared.now field_seen)) ∙ ap (λ (o : Option (List ℕ)). clock_column o (map field_seen c.args.declared.now)) (sym c.in-None.is)
