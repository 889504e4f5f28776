use Rattle.std.proofs.Common.{rules, ◌+◌, ◌≤◌, ◌∷◌, [], ℕ, map, length, ap, subst, SFits, w64, to_z-of_z, arith}
use Rattle.wsm_windows.specs.Places.{at}
use Rattle.wsm_machine.specs.Meaning.{plan_of, query_of}
use Rattle.wsm_panes.specs.Held.{entries_of}
use Rattle.wsm_firing.specs.Retracting.{AreWithdrawn}
use Rattle.wsm_firing.proofs.Entered.{AreAlike, alike_in_session, alike_in_windows}
use Rattle.wsm_firing.proofs.RetractAt.{number_at}
use Rattle.wsm_firing.proofs.RetractWalk.{Written}
use Rattle.wsm_firing.proofs.retracting.retract_entered.Goals as goal
use Rattle.wsm_firing.proofs.retracting.retract_entered.Goals.{After-at-place, After-windows_of_record-windows}

in_session : (c : After-at-place) → AreAlike c.args.verified.now c.args.arrival.mark c.args.arrival.key c.args.arrival.time c.args.alone (entries_of c.args.held.now) c.requires.entered (c.at-place.result ∷ [])
in_session c = alike_in_session c.args.verified.now c.args.arrival.mark c.args.arrival.key c.args.arrival.time c.args.alone (entries_of c.args.held.now) c.requires.entered c.in-Some.window c.at-place.result c.in-Some.is c.at-place.ensures

in_windows : (c : After-windows_of_record-windows) → AreAlike c.args.verified.now c.args.arrival.mark c.args.arrival.key c.args.arrival.time c.args.alone (entries_of c.args.held.now) c.requires.entered (map (at c.args.arrival.key) c.windows_of_record-windows.result)
in_windows c =
    let mark : SFits w64 c.args.arrival.mark = search rules in let time : SFits w64 c.args.arrival.time = search rules in
    alike_in_windows c.args.verified.now c.args.arrival.mark c.args.arrival.key c.args.arrival.time c.args.alone (entries_of c.args.held.now) c.requires.entered c.windows_of_record-windows.result c.in-None.is (simp to_z-of_z at c.windows_of_record-windows.ensures.list)

pub retract_at-requires : goal.retract_at-requires
retract_at-requires c =
    let p = c.args.verified.now in let es = entries_of c.args.held.now in
    let mark : SFits w64 c.args.arrival.mark = search rules in
    let alike = in_session (goal.at.retract_at-requires c).After-at-place in
    let room : length c.args.rows.now.written + number_at (plan_of p) (query_of p) c.args.arrival.mark (c.at-place.result ∷ []) es ≤ c.args.rows.now.room = omega (arith, c.requires.room, ap length alike.firings) in
    record { room = simp to_z-of_z room }

pub retract_each-requires-clause-room : goal.retract_each-requires-clause-room
retract_each-requires-clause-room c =
    let p = c.args.verified.now in let es = entries_of c.args.held.now in
    let mark : SFits w64 c.args.arrival.mark = search rules in
    let alike = in_windows (goal.at.retract_each-requires-clause-room c).After-windows_of_record-windows in
    let room : length c.args.rows.now.written + number_at (plan_of p) (query_of p) c.args.arrival.mark (map (at c.args.arrival.key) c.windows_of_record-windows.result) es ≤ c.args.rows.now.room = omega (arith, c.requires.room, ap length alike.firings) in
    simp to_z-of_z room

pub returns-in-Some : goal.returns-in-Some
returns-in-Some c = record {
  room = c.retract_at.ensures.room;
  rows = let mark : SFits w64 c.args.arrival.mark = search rules in
      let alike = in_session (goal.at.returns-in-Some c).After-at-place in
      subst (λ (x : Written × ℕ). AreWithdrawn c.args.rows.now.written c.retract_at.new.rows.written x.0 x.1) (λ i. (alike.withdrawn i, length (alike.firings i))) (simp to_z-of_z at c.retract_at.ensures.rows);
}

pub returns-in-None : goal.returns-in-None
returns-in-None c = record {
  room = c.retract_each.ensures.room;
  rows = let mark : SFits w64 c.args.arrival.mark = search rules in
      let alike = in_windows (goal.at.returns-in-None c).After-windows_of_record-windows in
      subst (λ (x : Written × ℕ). AreWithdrawn c.args.rows.now.written c.retract_each.new.rows.written x.0 x.1) (λ i. (alike.withdrawn i, length (alike.firings i))) (simp to_z-of_z at c.retract_each.ensures.rows);
}
