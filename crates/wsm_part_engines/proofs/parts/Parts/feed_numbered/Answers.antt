use Rattle.std.proofs.Common.{rules, ◌≡◌, ◌∙◌, IfOk, length, sym, ap, subst}
use Rattle.wsm_record.specs.Event.{Event, event_of}
use Rattle.wsm_part_engines.specs.Answers.{IsSelected}
use Rattle.wsm_part_engines.specs.Fits.{by_number}
use Rattle.wsm_part_engines.proofs.parts.Parts.feed_numbered.Goals as goal

pub returns-in-Record-None-default-default-clause-selected : goal.returns-in-Record-None-default-default-clause-selected
returns-in-Record-None-default-default-clause-selected c =
    let block = length c.args.self.now.program.header.schema.keys in
    let same : by_number block 0 (event_of c.args.event.now) ≡ event_of c.args.event.now = search rules in
    subst (λ (e : Event). IfOk c.feed-in-Record-None-default-default.result (λ r. IsSelected c.args.self.now e r.selected)) same c.feed-in-Record-None-default-default.ensures.selected

pub returns-in-Watermark-clause-selected : goal.returns-in-Watermark-clause-selected
returns-in-Watermark-clause-selected c =
    let block = length c.args.self.now.program.header.schema.keys in
    let same : by_number block 0 (event_of c.args.event.now) ≡ event_of c.args.event.now = ap (λ x. by_number block 0 (event_of x)) c.in-Watermark.is ∙ sym (ap event_of c.in-Watermark.is) in
    subst (λ (e : Event). IfOk c.feed-in-Watermark.result (λ r. IsSelected c.args.self.now e r.selected)) same c.feed-in-Watermark.ensures.selected
