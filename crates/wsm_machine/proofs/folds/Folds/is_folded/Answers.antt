use Rattle.std.proofs.Common.{◌≡◌, ◌<◌, ◌∙◌, length, get_or, is_some, None, Option, ap, sym, arith, length-take}
use Rattle.std.proofs.lemmas.List.{get_or-take}
use Rattle.std.proofs.lemmas.Option.{get_or_from_slice_get}
use Rattle.wsm_record.specs.declared.event.Value.{Value}
use Rattle.wsm_machine.proofs.folds.Folds.is_folded.Goals as goal

pub returns : goal.returns
returns c o at =
    let places = c.self.inside.places in
    let within : c.args.a < c.self.inside.len = omega (arith, ap length c.self.view_is, length-take c.self.inside.len places) in
    let none : Option Value = None in
    let read : get_or places c.args.a none ≡ o = sym (get_or-take c.self.inside.len places c.args.a none within) ∙ ap (λ l. get_or l c.args.a none) c.self.view_is ∙ get_or_from_slice_get c.args.self.now c.args.a o none at in
    c.is_some.ensures ∙ ap is_some read
