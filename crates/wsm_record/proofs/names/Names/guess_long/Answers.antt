use Rattle.std.proofs.Common.{◌≡◌, ◌∙◌, map, sym, ap, [], false}
use Rattle.wsm_record.specs.Name.{repeats_after}
use Rattle.wsm_record.proofs.Lists.{position-distinct}
use Rattle.wsm_record.proofs.Schemas.{no_repeats}
use Rattle.wsm_record.proofs.names.Names.guess_long.Goals as goal

-- the name of a guess that has the bytes
pub returns-then-has : goal.returns-then-has
returns-then-has c =
    let distinct : repeats_after [] c.args.self.now ≡ false = ap (repeats_after []) (sym c.self.view_is) ∙ no_repeats [] (map (λ v. v.items) c.self.inside.texts.keys) c.self.invariant.1.0 in
    position-distinct c.args.self.now c.in_ok-guess.guess.now.number c.args.text.now distinct (c.has.ensures c.if-has.true)
