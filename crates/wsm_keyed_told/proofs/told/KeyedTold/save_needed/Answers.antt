use Rattle.wsm_part_programs.specs.Names.{of_names}
use Rattle.wsm_log_text.proofs.NeededEvents.{some_in}
use Rattle.wsm_keyed_told.specs.Staying.{CutsAll}
use Rattle.wsm_keyed_told.proofs.told.KeyedTold.save_needed.Goals as goal

pub returns-in_ok-add_list-in-Some-clause-serves : goal.returns-in_ok-add_list-in-Some-clause-serves
returns-in_ok-add_list-in-Some-clause-serves c = λ p past serves.
    let here = some_in (λ k. CutsAll p k past) c.args.self.now.staying c.in-Some.staying c.in-Some.is serves.staying in
    record {
      lawful = serves.lawful;
      panes = serves.panes;
      parts = serves.parts;
      staying = λ all named. c.in_ok-add_list-in-Some.ensures.cuts (of_names p all) past (here all named);
    }

pub returns-in_ok-add_list-in-Some-clause-saved : goal.returns-in_ok-add_list-in-Some-clause-saved
returns-in_ok-add_list-in-Some-clause-saved c = λ p past serves kept all named.
    let here = some_in (λ k. CutsAll p k past) c.args.self.now.staying c.in-Some.staying c.in-Some.is serves.staying in
    c.in_ok-add_list-in-Some.ensures.listed (of_names p all) past (here all named)
