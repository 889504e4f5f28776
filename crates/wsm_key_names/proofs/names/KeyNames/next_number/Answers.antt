use Rattle.std.proofs.Common.{◌∙◌, Some, length, ap, sym}
use Rattle.std.proofs.lemmas.List.{length-map}
use Rattle.wsm_key_names.proofs.LearnedNames.{next_number}
use Rattle.wsm_key_names.proofs.names.KeyNames.next_number.Goals as goal

pub returns-clause-number : goal.returns-clause-number
returns-clause-number c =
    let added = c.in_ok-add.ensures in
    let count = c.len-number.ensures.len ∙ sym (length-map c.self.inside.names.keys (λ v. v.items)) ∙ ap (λ (l : _). length l) c.self.view_is in
    ap Some count ∙ sym (next_number c.args.self.now c.add.new.self c.args.name.now c.in_ok-add.field-0 c.requires added.new added.names)
