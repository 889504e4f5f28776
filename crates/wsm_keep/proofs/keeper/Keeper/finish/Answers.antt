use Rattle.std.proofs.Common.{map, ap, ◌∙◌}
use Rattle.wsm_keep.specs.Staying.{row_of}
use Rattle.wsm_keep.specs.Holds.{selected_in}
use Rattle.wsm_keep.proofs.Cuts.{end_is, end_selected}
use Rattle.wsm_keep.proofs.keeper.Keeper.finish.Goals as goal

pub returns-clause-texts : goal.returns-clause-texts
returns-clause-texts c = λ q rows lawful fits. ap (map row_of) c.in_ok-append.ensures ∙ end_is q c.cut.new.self rows (c.in_ok-cut.ensures.cut q rows lawful fits)

pub returns-clause-selected : goal.returns-clause-selected
returns-clause-selected c = λ q rows lawful fits panes. ap selected_in c.in_ok-append.ensures ∙ end_selected q c.cut.new.self rows (c.in_ok-cut.ensures.cut q rows lawful fits) panes
