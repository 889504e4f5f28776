use Rattle.std.proofs.Common.{rules, ◌≡◌, subst, ap, sym, ◌∙◌, SFits, w64}
use Rattle.std.proofs.lemmas.Int.{to_z-of_z}
use Rattle.std.specs.Prelude.{slice_set}
use Rattle.wsm_admission.specs.Clock.{least}
use Rattle.wsm_admission.specs.Admission.{State, IsInRange}
use Rattle.wsm_admission.proofs.FittedHistory.{range_raised}
use Rattle.wsm_admission.proofs.admission.Admission.raise.Goals as goal

pub invariant_of-self : goal.invariant_of-self
invariant_of-self c =
    let a = c.self.inside in
    let mark_fits : SFits w64 c.least-self-inside.result = search rules in
    let marks : c.set.new.self ≡ slice_set a.marks c.args.source c.args.time = c.set.ensures ∙ ap (slice_set a.marks c.args.source) (to_z-of_z w64 c.args.time c.ranges.time) in
    let mark = to_z-of_z w64 c.least-self-inside.result mark_fits ∙ c.least-self-inside.ensures ∙ ap least marks in
    let s : State = record { clock = a.clock; marks = a.marks; mark = a.mark; admitted = a.admitted; late = a.late; refused = a.refused } in
    subst IsInRange (λ i. record s { marks = sym marks i; mark = sym mark i }) (range_raised s c.args.source c.args.time c.self.invariant c.requires.time)
