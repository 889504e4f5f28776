use Rattle.std.proofs.Common.{◌∙◌, cond, Some, None, SFits, w64, to_z-of_z}
use Rattle.std.specs.Prelude.{int_lt}
use Rattle.wsm_record.specs.Event.{event_of}
use Rattle.wsm_keep.specs.Holds.{read}
use Rattle.wsm_keep.specs.Staying.{events_in}
use Rattle.wsm_cut.specs.Judge.{what_told}
use Rattle.wsm_cut.proofs.Judging.{what_there}
use Rattle.wsm_cut.proofs.judge.judge_told.Goals as goal

pub returns : goal.returns
returns c = λ q rows taken selected before after.
    let e = event_of c.args.event.now in
    let first : SFits w64 c.args.before = c.ranges.before in
    let next : SFits w64 c.args.mark = c.ranges.mark in
    let from = to_z-of_z first ∙ before in
    let to = to_z-of_z next ∙ after in
    record {
      what = c.what_told.ensures ∙ (λ i. what_told (selected i) (taken i) e) ∙ what_there q (events_in read rows) e;
      rise = c.rise_between.ensures ∙ (λ i. cond (int_lt (from i) (to i)) (Some (from i)) None);
      mark = to;
    }
