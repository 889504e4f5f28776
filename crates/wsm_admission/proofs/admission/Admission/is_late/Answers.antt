use Rattle.std.proofs.Common.{rules, ap, sym, ◌∙◌, SFits, w64}
use Rattle.std.proofs.lemmas.Int.{to_z-of_z}
use Rattle.wsm_admission.specs.Clock.{is_late, is_late_by}
use Rattle.wsm_admission.specs.Admission.{State}
use Rattle.wsm_admission.proofs.SourceMarks.{first_is_live}
use Rattle.wsm_admission.proofs.admission.Admission.is_late.Goals as goal

pub returns : goal.returns
returns c =
    let lateness_fits : SFits w64 c.self.inside.clock.lateness = search rules in
    let mark_fits : SFits w64 c.self.inside.mark = search rules in
    let time = to_z-of_z w64 c.args.time c.ranges.time in
    let lateness = to_z-of_z w64 c.self.inside.clock.lateness lateness_fits in
    let mark = to_z-of_z w64 c.self.inside.mark mark_fits in
    first_is_live c.args.shape.now _ _ _ c.live_windows_of.result c.next.result c.next.new.self c.is_none.result c.live_windows_of.ensures.list c.next.ensures.steps c.is_none.ensures
    ∙ (λ i. is_late_by (sym c.if-not-self.false i) c.args.shape.now (lateness i) (mark i) (time i))
    ∙ ap (λ (s : State). is_late s.clock c.args.shape.now s.mark c.args.time) c.self.view_is
