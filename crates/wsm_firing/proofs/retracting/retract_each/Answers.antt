use Rattle.std.proofs.Common.{◌≡◌, ◌+◌, ◌≤◌, ◌∷◌, [], ◌++◌, ℤ, ℕ, List, map, length, refl, sym, ap, subst, ◌∙◌, SFits, w64, to_z, of_z, to_z-of_z, arith, rules}
use Rattle.std.specs.FinMap as panes
use Rattle.wsm_windows.specs.declared.window.Window.{Window}
use Rattle.wsm_windows.specs.declared.place.Place.{Place}
use Rattle.wsm_windows.specs.Places.{at}
use Rattle.wsm_machine.specs.Meaning.{plan_of, query_of}
use Rattle.wsm_panes.specs.Held.{entries_of}
use Rattle.wsm_firing.specs.ByRecord.{AreInOrder}
use Rattle.wsm_firing.proofs.InOrder.{later}
use Rattle.wsm_firing.proofs.RetractAt.{number_at, number_in_turn, withdrawn_at, withdrawn_in_turn, withdrawn_nowhere}
use Rattle.wsm_firing.proofs.RetractWalk.{HasPut, Written, puts_all, puts_first, puts_next, room_left}
use Rattle.wsm_firing.proofs.retracting.retract_each.Goals as goal
use Rattle.wsm_firing.proofs.retracting.retract_each.Goals.{After-at-place}

-- what is withdrawn at the windows that are left, and how many panes fire there
abbrev written_at : (c : After-at-place) → List Place → Written
written_at c places = withdrawn_at (plan_of c.args.verified.now) (query_of c.args.verified.now) (to_z w64 (of_z w64 c.args.mark)) places (entries_of c.args.held.now)

abbrev count_at : (c : After-at-place) → List Place → ℕ
count_at c places = number_at (plan_of c.args.verified.now) (query_of c.args.verified.now) (to_z w64 (of_z w64 c.args.mark)) places (entries_of c.args.held.now)

record InTurn (c : After-at-place) : Type 0 where
  order : AreInOrder (map (at c.args.key) c.next.new.self)
  written : written_at c (map (at c.args.key) c.loop-window.window-iterator) ≡ written_at c (c.at-place.result ∷ []) ++ written_at c (map (at c.args.key) c.next.new.self)
  number : count_at c (map (at c.args.key) c.loop-window.window-iterator) ≡ count_at c (c.at-place.result ∷ []) + count_at c (map (at c.args.key) c.next.new.self)

in_turn : (c : After-at-place) → InTurn c
in_turn c =
    let p = plan_of c.args.verified.now in let q = query_of c.args.verified.now in let es = entries_of c.args.held.now in let sorted = panes.entries_sorted c.args.held.now.panes in
    let mark : ℤ = to_z w64 (of_z w64 c.args.mark) in
    let place : Place = at c.args.key c.in-Some.window in let ps : List Place = map (at c.args.key) c.next.new.self in
    let order : AreInOrder (place ∷ ps) = subst (λ (ws : List Window). AreInOrder (map (at c.args.key) ws)) c.in-Some.ensures.steps c.loop-window.invariant.order in
    let steps : map (at c.args.key) c.loop-window.window-iterator ≡ place ∷ ps = ap (map (at c.args.key)) c.in-Some.ensures.steps in
    let here : place ≡ c.at-place.result = sym c.at-place.ensures in
    record {
      order = order.1;
      written =
          ap (λ places. withdrawn_at p q mark places es) steps ∙ withdrawn_in_turn p q mark place es sorted ps (later place ps order.0)
          ∙ ap (λ (r : Place). withdrawn_at p q mark (r ∷ []) es ++ withdrawn_at p q mark ps es) here;
      number =
          ap (λ places. number_at p q mark places es) steps ∙ number_in_turn p q mark place es sorted ps (later place ps order.0)
          ∙ ap (λ (r : Place). number_at p q mark (r ∷ []) es + number_at p q mark ps es) here;
    }

pub loop-window-init : goal.loop-window-init
loop-window-init c =
    let p = plan_of c.args.verified.now in let q = query_of c.args.verified.now in let es = entries_of c.args.held.now in
    let mark : ℤ = to_z w64 (of_z w64 c.args.mark) in
    let same : c.into_iter-window-iterator.result ≡ c.args.windows = c.into_iter-window-iterator.ensures.into_iter_gives in
    let all : List Place = map (at c.args.key) c.args.windows in
    record {
      order = subst (λ (ws : List Window). AreInOrder (map (at c.args.key) ws)) (sym same) c.requires.order;
      room = refl;
      so_far =
          subst (λ (ws : List Window). HasPut c.args.rows.now.written c.args.rows.now.written (withdrawn_at p q mark (map (at c.args.key) ws) es) (withdrawn_at p q mark all es) (number_at p q mark (map (at c.args.key) ws) es) (number_at p q mark all es)) (sym same)
          (puts_first c.args.rows.now.written (withdrawn_at p q mark all es) (number_at p q mark all es));
    }

pub retract_at-requires : goal.retract_at-requires
retract_at-requires c =
    let p = plan_of c.args.verified.now in let q = query_of c.args.verified.now in let es = entries_of c.args.held.now in
    let mark_fits : SFits w64 c.args.mark = c.ranges.mark in
    let turn = in_turn (goal.at.retract_at-requires c).After-at-place in
    let all : length c.args.rows.now.written + number_at p q c.args.mark (map (at c.args.key) c.args.windows) es ≤ c.args.rows.now.room = omega (arith, c.requires.room) in
    let left = room_left c.loop-window.invariant.so_far c.args.rows.now.room (simp to_z-of_z all) in
    record { room = omega (arith, left, turn.number, c.loop-window.invariant.room) }

pub loop-window-preserved : goal.loop-window-preserved
loop-window-preserved c =
    let turn = in_turn (goal.at.loop-window-preserved c).After-at-place in
    record {
      order = turn.order;
      room = c.retract_at.ensures.room ∙ c.loop-window.invariant.room;
      so_far = puts_next c.loop-window.invariant.so_far c.retract_at.new.rows.written _ _ _ _ turn.written turn.number c.retract_at.ensures.rows;
    }

pub returns : goal.returns
returns c = record {
  room = search rules;
  rows = let p = plan_of c.args.verified.now in let q = query_of c.args.verified.now in let es = entries_of c.args.held.now in
      let mark : ℤ = to_z w64 (of_z w64 c.args.mark) in let mark_fits : SFits w64 c.args.mark = c.ranges.mark in
      let none : withdrawn_at p q mark (map (at c.args.key) c.loop-window.window-iterator) es ≡ [] =
      ap (λ (ws : List Window). withdrawn_at p q mark (map (at c.args.key) ws) es) c.in-None.ensures.steps.0 ∙ withdrawn_nowhere p q mark es in
      simp to_z-of_z at (puts_all c.loop-window.invariant.so_far none);
}
