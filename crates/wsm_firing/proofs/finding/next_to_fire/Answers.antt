use Rattle.std.proofs.Common.{◌≡◌, ◌+◌, ◌≤ℤ◌, None, Some, Option, List, true, false, true≢false, refl, sym, ap, subst, ◌∙◌, ℤ, SFits, w64, rules, to_z-of_z}
use Rattle.std.specs.Int.{int_max}
use Rattle.std.specs.Prelude.{IfSome, slice_get}
use Rattle.std.specs.Option.{is_some}
use Rattle.wsm_record.specs.declared.event.Value.{Value}
use Rattle.wsm_semantics.specs.Summaries.{Pane}
use Rattle.wsm_slots.specs.declared.spot.Spot.{Spot}
use Rattle.std.specs.FinMap as map
use Rattle.wsm_windows.specs.declared.place.Place.{Place}
use Rattle.wsm_panes.specs.Held.{IsSpot, entries_of}
use Rattle.wsm_slots.specs.Walk.{first_past, place_due, place_found}
use Rattle.wsm_ring.proofs.Rings.{not_less_from}
use Rattle.wsm_firing.proofs.Walk.{next_behind}
use Rattle.wsm_firing.proofs.Jumps.{due_later, expires_before, goes_next, goes_past}
use Rattle.wsm_firing.proofs.finding.next_to_fire.Goals as goal

-- a place that is found by a limit is found by a later one
still : (expired new : ℤ) (e : Option (Place × Pane (List Value))) (r : Option Spot) → expired ≤ℤ new → is_some r ≡ true → place_found r ≡ place_due expired e → place_found r ≡ place_due new e
still expired new e None order some is = absurd (true≢false (sym some))
still expired new e (Some s) order some is = sym (due_later expired new e s.place order (sym is))

nothing : (r : Option Spot) → is_some r ≡ false → place_found r ≡ None
nothing None none = refl
nothing (Some s) none = absurd (true≢false none)

pub returns-then-spot-expired-clause-next : goal.returns-then-spot-expired-clause-next
returns-then-spot-expired-clause-next c = λ i pane at.
    let es = entries_of c.args.held.now in
    let new : SFits w64 c.args.new = c.ranges.new in
    goes_next c.args.expired c.args.old c.args.new es (i + 1) (place_found c.next_due.result)
    ((simp to_z-of_z at c.next_due.ensures.place) ∙ next_behind c.args.new es i (c.args.spot.place, pane) (map.entries_sorted c.args.held.now.panes) at)

pub returns-then-is_some-clause-next : goal.returns-then-is_some-clause-next
returns-then-is_some-clause-next c = λ i pane at.
    let es = entries_of c.args.held.now in
    let expired : SFits w64 c.args.expired = c.ranges.expired in
    let new : SFits w64 c.args.new = c.ranges.new in
    let order : c.args.expired ≤ℤ c.args.new = c.requires.order in
    let is : place_found c.next_due-next.result ≡ place_due c.args.expired (slice_get es (i + 1)) = (simp to_z-of_z at c.next_due-next.ensures.place) ∙ next_behind c.args.expired es i (c.args.spot.place, pane) (map.entries_sorted c.args.held.now.panes) at in
    goes_next c.args.expired c.args.old c.args.new es (i + 1) (place_found c.next_due-next.result)
    (still c.args.expired c.args.new (slice_get es (i + 1)) c.next_due-next.result order (sym c.is_some.ensures ∙ c.if-is_some.true) is)

pub returns-clause-next : goal.returns-clause-next
returns-clause-next c = λ i pane at.
    let es = entries_of c.args.held.now in
    let sorted = map.entries_sorted c.args.held.now.panes in
    let expired : SFits w64 c.args.expired = c.ranges.expired in
    let old : SFits w64 c.args.old = c.ranges.old in
    let new : SFits w64 c.args.new = c.ranges.new in
    let end : SFits w64 c.args.spot.place.end = search rules in
    let most : SFits w64 c.max.result = search rules in
    let by : c.args.spot.place.end ≤ℤ c.args.expired = not_less_from _ _ (simp to_z-of_z at c.if-spot-expired.false) in
    let max_is : c.max.result ≡ int_max c.args.old c.args.expired = simp to_z-of_z at c.max.ensures.value in
    let is : place_found c.next_due-next.result ≡ place_due c.args.expired (slice_get es (i + 1)) = (simp to_z-of_z at c.next_due-next.ensures.place) ∙ next_behind c.args.expired es i (c.args.spot.place, pane) sorted at in
    let none : place_due c.args.expired (slice_get es (i + 1)) ≡ None = sym is ∙ nothing c.next_due-next.result (sym c.is_some.ensures ∙ c.if-is_some.false) in
    let past : place_found c.first_due_after.result ≡ place_due c.args.new (first_past c.max.result es) = simp to_z-of_z at c.first_due_after.ensures.place in
    goes_past c.args.expired c.args.old c.args.new es (i + 1) (place_found c.rebuilt_found.result) sorted none
    (expires_before c.args.expired c.args.old c.args.new es i (c.args.spot.place, pane) sorted at by)
    (ap place_found c.rebuilt_found.ensures ∙ past ∙ ap (λ (t : ℤ). place_due c.args.new (first_past t es)) max_is)

pub returns-clause-spot : goal.returns-clause-spot
returns-clause-spot c = subst (λ (x : Option Spot). IfSome x (IsSpot c.args.held.now)) (sym c.rebuilt_found.ensures) c.first_due_after.ensures.spot
