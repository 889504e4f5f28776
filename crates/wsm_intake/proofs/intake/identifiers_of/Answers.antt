use Rattle.std.proofs.Common.{◌∙◌, ap}
use Rattle.wsm_program.specs.Program.{Header, Program}
use Rattle.wsm_program.specs.View.{header_of}
use Rattle.wsm_rules.proofs.Lawful.{lawful_seen}
use Rattle.wsm_intake.specs.Turns.{setting_by}
use Rattle.wsm_intake.proofs.intake.identifiers_of.Goals as goal

pub new-requires : goal.new-requires
new-requires c = (lawful_seen c.program.result.now (header_of c.header-header.result.now) c.header-header.ensures.header c.header-header.ensures.lawful).shape

pub returns : goal.returns
returns c = λ clocks mark.
    let same = c.header-header.ensures.header ∙ ap (λ (p : Program). p.header) c.program.ensures.program in
    c.new.ensures (setting_by clocks c.args.verified.now) mark (ap (λ (h : Header). h.clock) same) (ap (λ (h : Header). h.shape) same)
