use Rattle.std.proofs.Common.{◌≡◌, ◌∙◌, [], map, SFits, to_z, of_z, to_z-of_z, w64, ap, subst}
use Rattle.wsm_record.specs.Event.{event_of}
use Rattle.wsm_program.specs.Program.{Program}
use Rattle.wsm_head.specs.StandsFor.{program_with}
use Rattle.wsm_log_text.specs.Needed.{fed_all}
use Rattle.wsm_keyed_told.specs.Resuming.{IsLeft}
use Rattle.wsm_keyed_told.specs.Tells.{Serves}
use Rattle.wsm_keyed_told.proofs.told.KeyedTold.resume.Goals as goal

pub of-told-requires-clause-lawful : goal.of-told-requires-clause-lawful
of-told-requires-clause-lawful c = (rw c.in-Some.is at c.in_ok-parts.ensures).lawful

pub of-told-requires-clause-panes : goal.of-told-requires-clause-panes
of-told-requires-clause-panes c = (rw c.in-Some.is at c.in_ok-parts.ensures).panes

pub of-told-requires-clause-fits : goal.of-told-requires-clause-fits
of-told-requires-clause-fits c = (rw c.in-Some.is at c.in_ok-parts.ensures).fits

pub returns : goal.returns
returns c =
    let records = c.args.records in
    let p = program_with records c.args.self.parts.program in
    let events = map event_of c.args.events.now in
    let past = fed_all [] events in
    let fits : SFits w64 records = c.ranges.records in
    let back : to_z w64 (of_z w64 records) ≡ records = to_z-of_z fits in
    let parts = c.in-Some.parts in
    let own : program_with (to_z w64 (of_z w64 records)) c.into_program.result ≡ p = λ i. program_with (back i) (c.into_program.ensures i) in
    let left : IsLeft p c.args.left events parts = subst (λ (m : Program). IsLeft m c.args.left events parts) own (rw c.in-Some.is at c.in_ok-parts.ensures) in
    let kept = c.keep.ensures.serves parts.program c.of-told.ensures.serves in
    let taken_all = c.in_ok-take_all.ensures parts.program [] kept in
    record {
      admitted = left.admitted;
      many = left.many;
      fewer = left.fewer;
      serves = subst (λ (m : Program). Serves m c.take_all.new.self past) left.program taken_all.0;
      names = taken_all.1 ∙ ap (λ t. t.names) c.keep.ensures.others ∙ c.of-told.ensures.names;
    }
