use Rattle.std.proofs.Common.{ap}
use Rattle.wsm_program.specs.Program.{Header}
use Rattle.wsm_program.specs.View.{header_of}
use Rattle.wsm_rules.proofs.Lawful.{lawful_seen}
use Rattle.wsm_keyed_intake.specs.KeyedLog.{setting_by}
use Rattle.wsm_keyed_intake.proofs.passing.identifiers_of.Goals as goal

pub new-requires : goal.new-requires
new-requires c = (lawful_seen c.args.parts.now.program (header_of c.header-header.result.now) c.header-header.ensures.header c.header-header.ensures.lawful).shape

pub returns-clause-none : goal.returns-clause-none
returns-clause-none c = λ clocks all mark.
    let same = c.header-header.ensures.header in
    c.new.ensures (setting_by clocks c.args.parts.now.program all) mark (ap (λ (h : Header). h.clock) same) (ap (λ (h : Header). h.shape) same)
