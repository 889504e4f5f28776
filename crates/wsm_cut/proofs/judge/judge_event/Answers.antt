use Rattle.std.proofs.Common.{◌∙◌, SFits, w64, to_z-of_z, ap}
use Rattle.std.specs.Prelude.{is_none}
use Rattle.wsm_engine.specs.declared.reply.Reply.{Reply}
use Rattle.wsm_machine.specs.Meaning.{query_of}
use Rattle.wsm_cut.proofs.Judging.{none_is}
use Rattle.wsm_cut.proofs.judge.judge_event.Goals as goal

pub returns : goal.returns
returns c = λ p rows replied before after.
    let first : SFits w64 c.args.before = c.ranges.before in
    let next : SFits w64 c.args.mark = c.ranges.mark in
    c.judge_told.ensures (query_of p) rows (none_is c.args.reply.now.refusal c.is_none-is_taken.result c.is_none-is_taken.ensures ∙ ap (λ (r : Reply). is_none r.refusal) replied) (ap (λ (r : Reply). r.selected) replied) (to_z-of_z first ∙ before) (to_z-of_z next ∙ after)
