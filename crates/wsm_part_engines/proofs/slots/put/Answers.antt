use Rattle.std.proofs.Common.{None, ◌∙◌}
use Rattle.std.proofs.lemmas.List.{get_or-set_other, get_or-set_same}
use Rattle.wsm_part_engines.proofs.slots.put.Goals as goal

pub returns-clause-put : goal.returns-clause-put
returns-clause-put c =
    let slots = c.args.slots.now.items in
    record {
      one = get_or-set_same slots c.args.part c.replace.new.self None c.requires ∙ c.replace.ensures.after;
      others = λ other ne. get_or-set_other slots c.args.part other c.replace.new.self None ne;
    }
