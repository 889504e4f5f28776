use Rattle.std.proofs.Common.{rules, ◌≡◌, ◌∷◌, [], ◌++◌, ℕ, map, sym, ap, subst, ◌∙◌, SFits, w64, to_z-of_z, length}
use Rattle.wsm_windows.specs.Places.{at}
use Rattle.wsm_semantics.specs.Summaries.{fires}
use Rattle.wsm_machine.specs.Meaning.{query_of}
use Rattle.wsm_panes.specs.Held.{entries_of}
use Rattle.wsm_firing.specs.Tally.{nothing, tally_with}
use Rattle.wsm_firing.specs.Firing.{CanAdd, rows_of}
use Rattle.wsm_firing.specs.ByRecord.{fires_by_record, kind_at}
use Rattle.wsm_firing.proofs.Entered.{AreAlike, alike_in_session, alike_in_windows}
use Rattle.wsm_firing.proofs.operator.WindowOperator.fire_entered.Goals as goal
use Rattle.wsm_firing.proofs.operator.WindowOperator.fire_entered.Goals.{After-at-place, After-windows_of_record-windows}

-- what fires at the record's session is what fires by the record
in_session : (c : After-at-place) → AreAlike c.args.verified.now c.args.arrival.mark c.args.arrival.key c.args.arrival.time c.args.alone (entries_of c.args.self.now.state.held) c.requires.entered (c.at-place.result ∷ [])
in_session c = alike_in_session c.args.verified.now c.args.arrival.mark c.args.arrival.key c.args.arrival.time c.args.alone (entries_of c.args.self.now.state.held) c.requires.entered c.in-Some.window c.at-place.result c.in-Some.is c.at-place.ensures

-- what fires at the windows of the record's time is what fires by the record
in_windows : (c : After-windows_of_record-windows) → AreAlike c.args.verified.now c.args.arrival.mark c.args.arrival.key c.args.arrival.time c.args.alone (entries_of c.args.self.now.state.held) c.requires.entered (map (at c.args.arrival.key) c.windows_of_record-windows.result)
in_windows c =
    let mark : SFits w64 c.args.arrival.mark = search rules in let time : SFits w64 c.args.arrival.time = search rules in
    alike_in_windows c.args.verified.now c.args.arrival.mark c.args.arrival.key c.args.arrival.time c.args.alone (entries_of c.args.self.now.state.held) c.requires.entered c.windows_of_record-windows.result c.in-None.is (simp to_z-of_z at c.windows_of_record-windows.ensures.list)

pub fire_at-requires : goal.fire_at-requires
fire_at-requires c = record {
  ready = c.requires.can.ready;
  can = let p = c.args.verified.now in
      let mark_fits : SFits w64 c.args.arrival.mark = search rules in
      let alike = in_session (goal.at.fire_at-requires c).After-at-place in
      let all = fires_by_record p c.args.arrival.mark c.args.arrival.key c.args.arrival.time (entries_of c.args.self.now.state.held) in
      let room : ℕ = c.args.self.now.state.rows.room in let written : ℕ = length c.args.self.now.state.rows.written in
      simp to_z-of_z (subst (λ fs. CanAdd p room written c.none-tally.result fs) (sym alike.firings) (subst (λ t. CanAdd p room written t all) (sym c.none-tally.ensures) c.requires.can.can));
}

pub returns-in-Some : goal.returns-in-Some
returns-in-Some c =
    let p = c.args.verified.now in
    let mark_fits : SFits w64 c.args.arrival.mark = search rules in let time_fits : SFits w64 c.args.arrival.time = search rules in
    let alike = in_session (goal.at.returns-in-Some c).After-at-place in
    record {
      panes = simp to_z-of_z at c.fire_at.ensures.panes ∙ alike.panes;
      keeps = c.fire_at.ensures.keeps;
      tells = c.fire_at.ensures.tells;
      rows = simp to_z-of_z at c.fire_at.ensures.rows ∙ ap (λ fs. c.args.self.now.state.rows.written ++ rows_of p fs) alike.firings;
      room = c.fire_at.ensures.room;
      tally = simp to_z-of_z at c.fire_at.ensures.tally ∙ (λ i. tally_with p (c.none-tally.ensures i) (alike.firings i));
    }

pub fire_each-requires-clause-can : goal.fire_each-requires-clause-can
fire_each-requires-clause-can c = record {
  ready = c.requires.can.ready;
  can =
      let mark_fits : SFits w64 c.args.arrival.mark = search rules in
      let alike = in_windows (goal.at.fire_each-requires-clause-can c).After-windows_of_record-windows in
      simp to_z-of_z (subst (CanAdd c.args.verified.now c.args.self.now.state.rows.room (length c.args.self.now.state.rows.written) nothing) (sym alike.firings) c.requires.can.can);
}

pub returns-in-None : goal.returns-in-None
returns-in-None c =
    let p = c.args.verified.now in
    let mark_fits : SFits w64 c.args.arrival.mark = search rules in let time_fits : SFits w64 c.args.arrival.time = search rules in
    let alike = in_windows (goal.at.returns-in-None c).After-windows_of_record-windows in
    let some = fires (query_of p) (kind_at (query_of p) c.args.arrival.mark (map (at c.args.arrival.key) c.windows_of_record-windows.result)) (entries_of c.args.self.now.state.held) in
    let rows : c.fire_each.new.self.state.rows.written ≡ c.args.self.now.state.rows.written ++ rows_of p some = simp to_z-of_z at c.fire_each.ensures.rows in
    let tally : c.fire_each.result ≡ tally_with p nothing some = simp to_z-of_z at c.fire_each.ensures.tally in
    record {
      panes = simp to_z-of_z at c.fire_each.ensures.panes ∙ alike.panes;
      keeps = c.fire_each.ensures.keeps;
      tells = c.fire_each.ensures.tells;
      rows = rows ∙ ap (λ fs. c.args.self.now.state.rows.written ++ rows_of p fs) alike.firings;
      room = c.fire_each.ensures.room;
      tally = tally ∙ ap (tally_with p nothing) alike.firings;
    }
