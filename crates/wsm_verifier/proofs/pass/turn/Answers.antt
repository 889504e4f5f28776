use Rattle.std.proofs.Common.{suc, ◌&&◌, ap, sym, ◌∙◌, length, set, length-set}
use Rattle.std.specs.Prelude.{nat_eq}
use Rattle.wsm_rules.specs.Labels.{Reached}
use Rattle.wsm_program.specs.Instructions.{goes_on, bad_jump, is_bad, lead_on, target_of}
use Rattle.wsm_verifier.specs.Trying.{setting_of}
use Rattle.wsm_rules.proofs.AcceptedPlaces.{passes}
use Rattle.wsm_verifier.proofs.pass.turn.Goals as goal

-- a jump leads to a later place
pub carry-requires-clause-jumps : goal.carry-requires-clause-jumps
carry-requires-clause-jumps c =
    let jumps = (passes (setting_of c.args.setting.now) c.args.place c.args.instr (Reached c.in-Ok.state) c.in-Ok.ensures.passed).2.jumps in
    ap (λ e. is_bad (length (set c.args.labels.now c.args.place c.replace-label.new.dest)) c.args.place (target_of e)) c.edges.ensures
    ∙ ap (λ n. bad_jump n c.args.place c.args.instr) (length-set c.args.labels.now c.args.place c.replace-label.new.dest ∙ sym c.requires.length) ∙ jumps

-- the last instruction goes on to no next place
pub carry-requires-clause-ends : goal.carry-requires-clause-ends
carry-requires-clause-ends c =
    let ends = (passes (setting_of c.args.setting.now) c.args.place c.args.instr (Reached c.in-Ok.state) c.in-Ok.ensures.passed).2.ends in
    ap (λ e. lead_on e && nat_eq (suc c.args.place) (length (set c.args.labels.now c.args.place c.replace-label.new.dest))) c.edges.ensures
    ∙ ap (λ n. goes_on c.args.instr && nat_eq (suc c.args.place) n) (length-set c.args.labels.now c.args.place c.replace-label.new.dest ∙ sym c.requires.length) ∙ ends
