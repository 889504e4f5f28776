-- A program that states another budget is one still.
use Rattle.std.proofs.Common.{Bool, ◌&&◌, IsTrue, arith}
use Rattle.std.proofs.lemmas.Grind.{common_steps}
use Rattle.wsm_program.specs.declared.program.Costs.{Costs}
use Rattle.wsm_program.specs.Program.{Program, stating, is_clock, is_firing, is_row, is_budget, is_header, is_section, is_program}
use Rattle.wsm_record.specs.Schema.{is_schema}

-- the last of five tests is another that holds as well
exchanged : (a b c d e f rest : Bool) → IsTrue ((a && (b && (c && (d && e)))) && rest) → IsTrue f → IsTrue ((a && (b && (c && (d && f)))) && rest)
exchanged a b c d e f rest h l = grind (arith, common_steps)

pub lawful_stating : (p : Program) (b : Costs) → IsTrue (is_program p) → IsTrue (is_budget b) → IsTrue (is_program (stating p b))
unfolding is_program is_header is_section
lawful_stating p b h l =
    let sections = is_section p.header p.selection && (is_section p.header p.update && is_section p.header p.fire) in
    exchanged (is_schema p.header.schema) (is_clock p.header) (is_firing p.header) (is_row p.header) (is_budget p.header.budget) (is_budget b) sections h l
