use Rattle.std.proofs.Common.{◌≡◌, Some, None, sym, ap, ◌∙◌, ℤ, ◌<ℤ◌, SFits, w64, rules, to_z-of_z, arith}
use Rattle.std.specs.Int.{int_max}
use Rattle.std.specs.Prelude.{slice_get}
use Rattle.std.specs.FinMap as map
use Rattle.wsm_panes.specs.Held.{entries_of}
use Rattle.wsm_slots.specs.Walk.{first_past, place_due, place_found}
use Rattle.wsm_firing.proofs.Jumps.{goes_past, less_from, not_due_yet}
use Rattle.wsm_firing.proofs.finding.first_to_fire.Goals as goal

pub returns-in-Some-clause-next : goal.returns-in-Some-clause-next
returns-in-Some-clause-next c =
    let es = entries_of c.args.held.now in
    let expired : SFits w64 c.args.expired = c.ranges.expired in
    let old : SFits w64 c.args.old = c.ranges.old in
    let new : SFits w64 c.args.new = c.ranges.new in
    let most : SFits w64 c.max.result = search rules in
    let end : SFits w64 c.in-Some.spot.place.end = search rules in
    let max_is : c.max.result ≡ int_max c.args.old c.args.expired = simp to_z-of_z at c.max.ensures.value in
    let late : c.args.expired <ℤ c.in-Some.spot.place.end = less_from _ _ (simp to_z-of_z at c.if-spot-expired.true) in
    let due : place_due c.args.new (slice_get es 0) ≡ Some c.in-Some.spot.place = sym (simp to_z-of_z at c.first_due.ensures.place) ∙ ap place_found (sym c.rebuilt_found.ensures ∙ c.in-Some.is) in
    let none : place_due c.args.expired (slice_get es 0) ≡ None = not_due_yet c.args.expired c.args.new (slice_get es 0) c.in-Some.spot.place due late in
    let past : place_found c.first_due_after.result ≡ place_due c.args.new (first_past c.max.result es) = simp to_z-of_z at c.first_due_after.ensures.place in
    goes_past c.args.expired c.args.old c.args.new es 0 (place_found c.rebuilt_found-in-Some.result) (map.entries_sorted c.args.held.now.panes) none (omega arith) (ap place_found c.rebuilt_found-in-Some.ensures ∙ past ∙ ap (λ (t : ℤ). place_due c.args.new (first_past t es)) max_is)
