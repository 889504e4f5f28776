use Rattle.std.proofs.Common.{◌≡◌, ◌∙◌, Some, ap, sym, bytes_eq, position}
use Rattle.csv.specs.Records.{fields_of}
use Rattle.wsm_key_names.specs.Reading.{key_cell}
use Rattle.wsm_key_names.proofs.LearnedNames.{known_row}
use Rattle.wsm_key_names.proofs.events.NamedEvents.read.Goals as goal

pub returns-in-Some-number_of-clause-names : goal.returns-in-Some-number_of-clause-names
returns-in-Some-number_of-clause-names c = λ read.
    let old = c.args.self.now in
    let name = c.in-Some.name.now in
    let cells = fields_of c.args.row.now in
    let seen = ap (λ (r : _). r.names) c.self.view_is in
    let key : key_cell cells ≡ Some name = sym c.in-Some.ensures in
    let number = ap (position (bytes_eq name)) (sym seen) ∙ sym c.in-Some-number_of.ensures in
    c.read_numbered.ensures.names ∙ sym (known_row old.most c.args.schema.now old.names cells name c.in-Some-number_of.number key number)
