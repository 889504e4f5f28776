use Rattle.std.proofs.Common.{◌∙◌}
use Rattle.wsm_machine.specs.Steps.{setting_of, at}
use Rattle.wsm_machine.proofs.Returns.{result_of_where, result_of_fire}
use Rattle.wsm_machine.proofs.frame.Frame.is_result.Goals as goal

pub returns-in-Where : goal.returns-in-Where
returns-in-Where c place =
    c.are_types.ensures ∙ result_of_where (setting_of c.args.setting.now) (at place c.args.self.now) c.cells-cells.result.now c.in-Where.is c.cells-cells.ensures.lowest_first

pub returns-in-Fire : goal.returns-in-Fire
returns-in-Fire c place =
    c.are_row.ensures ∙ result_of_fire (setting_of c.args.setting.now) (at place c.args.self.now) c.cells-cells.result.now c.in-Fire.is c.cells-cells.ensures.lowest_first
