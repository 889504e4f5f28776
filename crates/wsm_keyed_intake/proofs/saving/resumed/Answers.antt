use Rattle.std.proofs.Common.{ap}
use Rattle.wsm_program.specs.Program.{Header}
use Rattle.wsm_program.specs.View.{header_of}
use Rattle.wsm_rules.proofs.Lawful.{lawful_seen}
use Rattle.wsm_keyed_intake.specs.KeyedLog.{setting_by}
use Rattle.wsm_keyed_intake.proofs.saving.resumed.Goals as goal

pub resume-requires : goal.resume-requires
resume-requires c = (lawful_seen c.args.parts.now.program (header_of c.header-header.result.now) c.header-header.ensures.header c.header-header.ensures.lawful).shape

pub returns : goal.returns
returns c = λ clocks all mark memory recalls.
    let same = c.header-header.ensures.header in
    c.resume.ensures (setting_by clocks c.args.parts.now.program all) mark memory (ap (λ (h : Header). h.clock) same) (ap (λ (h : Header). h.shape) same) recalls
