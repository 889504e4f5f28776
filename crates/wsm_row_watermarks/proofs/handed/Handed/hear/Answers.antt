use Rattle.std.proofs.Common.{◌∙◌, Bool, SFits, ap, rules, w64}
use Rattle.std.proofs.lemmas.Int.{to_z-of_z}
use Rattle.wsm_record.specs.Event.{event_of}
use Rattle.wsm_row_watermarks.specs.Latest.{latest_with}
use Rattle.wsm_row_watermarks.proofs.Hearing.{decided, later_behind}
use Rattle.wsm_row_watermarks.proofs.handed.Handed.hear.Goals as goal

pub returns-clause-serves : goal.returns-clause-serves
returns-clause-serves c = λ w past serves.
    let old = c.args.self.now in
    let whole_old : SFits w64 old.first = search rules in
    let whole_new : SFits w64 c.first_behind-self.result = search rules in
    let same_old = to_z-of_z w64 old.first whole_old in
    let same_new = to_z-of_z w64 c.first_behind-self.result whole_new in
    let before = serves.marks.first in
    let behind = c.first_behind-self.ensures w.clock past cc in
    record {
      declared = serves.declared;
      shape = serves.shape;
      marks = decided w old.shape old.schema old.admission c.decide-answer.new.self old.first _ (event_of c.args.event.now) c.decide-answer.result past serves.shape serves.declared
          (same_new ∙ behind) c.decide-answer.ensures serves.marks;
      latest = later_behind w old.shape old.schema old.admission c.decide-answer.new.self old.first (event_of c.args.event.now) c.decide-answer.result past old.latest c.latest_behind-self.result
          serves.shape serves.declared c.decide-answer.ensures serves.marks serves.latest
          (c.latest_behind-self.ensures ∙ ap (λ (b : Bool). latest_with old.latest (event_of c.args.event.now) b) c.is_err.ensures.value);
    }
