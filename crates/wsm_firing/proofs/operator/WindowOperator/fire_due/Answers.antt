use Rattle.std.proofs.Common.{◌≡◌, ◌+◌, ◌+ℤ◌, ◌≤ℤ◌, ◌∷◌, [], ℤ, ℕ, List, refl, sym, ap, subst, ◌∙◌, IsTrue, SFits, w64, to_z, of_z, to_z-of_z, rules, arith, length}
use Rattle.std.proofs.lemmas.Int.{ints, fits_signed_from_abs}
use Rattle.std.specs.Prelude.{option_map}
use Rattle.std.specs.FinMap as map
use Rattle.wsm_record.specs.declared.event.Value.{Value}
use Rattle.wsm_windows.specs.Windows.{IsSpan}
use Rattle.wsm_semantics.specs.Summaries.{Pane}
use Rattle.wsm_program.specs.Program.{Program, Header, is_program}
use Rattle.wsm_program.specs.View.{header_of}
use Rattle.wsm_rules.proofs.Lawful as lawful_programs
use Rattle.wsm_machine.specs.Meaning.{plan_of, query_of}
use Rattle.wsm_panes.specs.Held.{IsKept, IsSpot, entries_of}
use Rattle.wsm_slots.specs.Walk.{place_found}
use Rattle.wsm_firing.specs.ByWatermark.{fires_by_watermark}
use Rattle.wsm_firing.specs.Firing.{CanAdd}
use Rattle.wsm_firing.specs.Due.{fired_by}
use Rattle.wsm_firing.specs.Fires.{IsRun}
use Rattle.wsm_firing.specs.Streams.{Tells}
use Rattle.wsm_firing.specs.declared.fire.Due.{Due}
use Rattle.wsm_firing.specs.declared.operator.WindowOperator.{WindowOperator}
use Rattle.wsm_firing.proofs.Spots.{spot_in, spot_kept}
use Rattle.wsm_firing.proofs.StandingRows.{tells_none, tells_on}
use Rattle.wsm_firing.proofs.Ready.{ready_on}
use Rattle.wsm_firing.proofs.Walk.{fired_first, some_same}
use Rattle.wsm_firing.proofs.LeftToFire.{ComesTo, first, kept_on, tally_all}
use Rattle.wsm_firing.proofs.WatermarkWalk.{kind, HasPassed, as_passed, walks_on, ends_behind_all, ends_at_none, is_held, is_still_held, still_there, is_placed, stays, can_fire, has_fired}
use Rattle.wsm_firing.proofs.operator.WindowOperator.fire_due.Goals as goal
use Rattle.wsm_firing.proofs.operator.WindowOperator.fire_due.Goals.{in-Some-watermark_kind, in_default-watermark_kind, After-last_expired-expired, After-watermark_kind}

-- what ends after the last time that expires is live
expires : (c : After-last_expired-expired) → to_z w64 (of_z w64 c.args.new) ≤ℤ (to_z w64 (of_z w64 c.last_expired-expired.result) +ℤ (query_of c.args.verified.now).clock.lateness)
expires c =
    let new : ℤ = to_z w64 (of_z w64 c.args.new) in let late : ℤ = to_z w64 (of_z w64 c.last_expired-expired.result) in
    let late_fits : SFits w64 c.last_expired-expired.result = search rules in let new_fits : SFits w64 c.args.new = c.ranges.new in
    let span : IsSpan c.header-header.result.now.clock.lateness = subst (λ (h : Header). IsSpan h.clock.lateness) (sym c.header-header.ensures.header) (lawful_programs.lawful c.program.result.now c.header-header.ensures.lawful).lateness in
    let wait : SFits w64 c.header-header.result.now.clock.lateness = fits_signed_from_abs w64 c.header-header.result.now.clock.lateness (grind (arith, ints, span.low, span.high)) in
    let header : header_of c.header-header.result.now ≡ c.args.verified.now.header = c.header-header.ensures.header ∙ ap (λ (p : Program). p.header) c.program.ensures.program in
    let by : new ≤ℤ (late +ℤ c.header-header.result.now.clock.lateness) = simp to_z-of_z (simp to_z-of_z at c.last_expired-expired.ensures.late) in
    subst (λ (h : Header). new ≤ℤ (late +ℤ h.clock.lateness)) header by

-- the pane's kind is the definition's
kind_is : (c : After-watermark_kind) → c.watermark_kind.result ≡ kind c.args.verified.now (to_z w64 (of_z w64 c.args.old)) (to_z w64 (of_z w64 c.args.new)) c.in-Some.spot.place c.pane-pane.result
kind_is c =
    let header : header_of c.header-header.result.now ≡ c.args.verified.now.header = c.header-header.ensures.header ∙ ap (λ (p : Program). p.header) c.program.ensures.program in
    c.watermark_kind.ensures (query_of c.args.verified.now) (ap (λ (h : Header). h.mode) (sym header)) (ap (λ (h : Header). h.clock.lateness) (sym header))

pub last_expired-expired-requires : goal.last_expired-expired-requires
last_expired-expired-requires c =
    let span : IsSpan c.header-header.result.now.clock.lateness = subst (λ (h : Header). IsSpan h.clock.lateness) (sym c.header-header.ensures.header) (lawful_programs.lawful c.program.result.now c.header-header.ensures.lawful).lateness in
    let wait : SFits w64 c.header-header.result.now.clock.lateness = fits_signed_from_abs w64 c.header-header.result.now.clock.lateness (grind (arith, ints, span.low, span.high)) in
    simp to_z-of_z (record { lateness = span })

pub loop-init : goal.loop-init
loop-init c =
    let p = c.args.verified.now in let es = entries_of c.args.self.now.state.held in let room : ℕ = c.args.self.now.state.rows.room in
    let old : ℤ = to_z w64 (of_z w64 c.args.old) in let new : ℤ = to_z w64 (of_z w64 c.args.new) in
    let late : ℤ = to_z w64 (of_z w64 c.last_expired-expired.result) in let expires = expires (goal.at.loop-init c).After-last_expired-expired in
    let old_fits : SFits w64 c.args.old = c.ranges.old in let new_fits : SFits w64 c.args.new = c.ranges.new in
    let all = fires_by_watermark p old new es in
    let comes : ComesTo p room c.args.self.now.state.rows.written c.none-tally.result c.args.self.now.state.rows.written all all = simp to_z-of_z (first p room (length c.args.self.now.state.rows.written) c.none-tally.result c.args.self.now.state.rows.written _ c.none-tally.ensures refl c.requires.can.can) in
    let none_passed : HasPassed p old new es c.args.self.now.state.rows.written room 0 es c.none-tally.result c.args.self.now.state.rows.written = record { fired = refl; comes = comes } in
    record {
      keeps = record { keys = refl; shape = refl; live = refl; widths = refl };
      tells = tells_none c.args.self.now.state.streams es;
      room = refl;
      spot = c.first_to_fire-next.ensures.spot;
      walked = walks_on late _ 0 expires (omega arith) none_passed c.first_to_fire-next.ensures.next;
    }

pub pane-pane-requires : goal.pane-pane-requires
pane-pane-requires c = record {
  there = is_held c.loop.invariant.walked (ap place_found c.in-Some.is) (map.entries_sorted c.loop.self.state.held.panes);
  lies = spot_in c.loop.self.state.held c.loop.next c.in-Some.spot c.loop.invariant.spot c.in-Some.is;
}

pub watermark_kind-requires-clause-lateness : goal.watermark_kind-requires-clause-lateness
watermark_kind-requires-clause-lateness c =
    subst (λ (h : Header). IsSpan h.clock.lateness) (sym c.header-header.ensures.header) (lawful_programs.lawful c.program.result.now c.header-header.ensures.lawful).lateness

pub watermark_kind-requires-clause-placed : goal.watermark_kind-requires-clause-placed
watermark_kind-requires-clause-placed c =
    let walked = c.loop.invariant.walked in let is = ap place_found c.in-Some.is in let found = c.pane-pane.ensures in
    let sorted = map.entries_sorted c.args.self.now.state.held.panes in let in_order = map.entries_sorted c.loop.self.state.held.panes in
    is_placed walked is in_order found sorted c.requires.placed

pub run-ran-requires : goal.run-ran-requires
run-ran-requires c =
    let p = c.args.verified.now in
    let walked = c.loop.invariant.walked in let is = ap place_found c.in-Some.is in let found = c.pane-pane.ensures in
    let sorted = map.entries_sorted c.args.self.now.state.held.panes in let in_order = map.entries_sorted c.loop.self.state.held.panes in
    let kind_is = kind_is (goal.at.run-ran-requires c).After-watermark_kind in
    (can_fire walked is in_order found sorted (sym kind_is ∙ c.in-Some-watermark_kind.is)).each.0

pub fire-requires-clause-ready : goal.fire-requires-clause-ready
fire-requires-clause-ready c =
    ready_on c.args.verified.now c.args.self.now.state.held c.loop.self.state.held c.args.self.now.state.streams c.loop.self.state.streams c.loop.invariant.keeps c.loop.invariant.tells c.requires.can.ready

pub fire-requires-clause-held : goal.fire-requires-clause-held
fire-requires-clause-held c = record {
  there = is_held c.loop.invariant.walked (ap place_found c.in-Some.is) (map.entries_sorted c.loop.self.state.held.panes);
  lies = spot_in c.loop.self.state.held c.loop.next c.in-Some.spot c.loop.invariant.spot c.in-Some.is;
}

pub fire-requires-clause-run : goal.fire-requires-clause-run
fire-requires-clause-run c = λ h found.
    let due : Due = record { kind = c.in-Some-watermark_kind.kind; spot = c.in-Some.spot } in
    subst (λ (x : Pane (List Value)). IsRun c.args.verified.now due x (option_map (λ cells. cells.now) c.run-ran.result.row) c.run-ran.result.steps)
    (some_same (sym c.pane-pane.ensures ∙ found)) c.run-ran.ensures.ran

pub fire-requires-clause-can : goal.fire-requires-clause-can
fire-requires-clause-can c = λ h found_here.
    let p = c.args.verified.now in let rows = c.loop.self.state.rows in
    let walked = c.loop.invariant.walked in let is = ap place_found c.in-Some.is in let found = c.pane-pane.ensures in
    let sorted = map.entries_sorted c.args.self.now.state.held.panes in let in_order = map.entries_sorted c.loop.self.state.held.panes in
    let kind_is = kind_is (goal.at.fire-requires-clause-can c).After-watermark_kind in
    let can = can_fire walked is in_order found sorted (sym kind_is ∙ c.in-Some-watermark_kind.is) in
    let same : c.pane-pane.result ≡ h = some_same (sym found ∙ found_here) in
    let due : Pane (List Value) → _ = fired_by p.header.mode (record { kind = c.in-Some-watermark_kind.kind; spot = c.in-Some.spot }) in
    subst (λ (x : ℕ × Pane (List Value)). CanAdd p x.0 (length rows.written) c.loop.tally (due x.1 ∷ [])) (λ i. (sym c.loop.invariant.room i, same i)) can

pub next_to_fire-next-requires-clause-held : goal.next_to_fire-next-requires-clause-held
next_to_fire-next-requires-clause-held c = record {
  there = let p = c.args.verified.now in let es = entries_of c.args.self.now.state.held in let then = c.match-watermark_kind in
      let old : ℤ = to_z w64 (of_z w64 c.args.old) in let new : ℤ = to_z w64 (of_z w64 c.args.new) in
      let walked = c.loop.invariant.walked in let is = ap place_found c.in-Some.is in let found = c.pane-pane.ensures in
      let sorted = map.entries_sorted c.args.self.now.state.held.panes in let in_order = map.entries_sorted c.loop.self.state.held.panes in
      let kind_is = kind_is (goal.at.next_to_fire-next-requires-clause-held c).After-watermark_kind in
      let fired : entries_of then.self.state.held ≡ fired_first (plan_of p) (query_of p) (kind p old new) (walked.passed + 1) es = elim then.branch [
        | in-Some-watermark_kind w ↦ ap (λ (o : WindowOperator). entries_of o.state.held) w.self-is ∙ (w.fire.ensures c.pane-pane.result found).panes ∙ (has_fired walked is in_order found sorted (sym kind_is ∙ w.in-Some-watermark_kind.is)).fired
        | in_default-watermark_kind w ↦ ap (λ (o : WindowOperator). entries_of o.state.held) w.self-is ∙ (stays walked is in_order found sorted (sym kind_is ∙ w.in_default-watermark_kind.is)).fired
      ] in
      is_still_held walked is in_order fired (map.entries_sorted then.self.state.held.panes);
  lies = let found = c.pane-pane.ensures in let then = c.match-watermark_kind in
      let spot = c.in-Some.spot in
      let now = spot_in c.loop.self.state.held c.loop.next spot c.loop.invariant.spot c.in-Some.is in
      elim then.branch [
        | in-Some-watermark_kind w ↦ subst (λ (o : WindowOperator). IsSpot o.state.held spot) (sym w.self-is) (spot_kept c.loop.self.state.held w.fire.new.self.held spot (w.fire.ensures c.pane-pane.result found).keeps now)
        | in_default-watermark_kind w ↦ subst (λ (o : WindowOperator). IsSpot o.state.held spot) (sym w.self-is) now
      ];
}

pub loop-preserved : goal.loop-preserved
loop-preserved c =
    let p = c.args.verified.now in let es = entries_of c.args.self.now.state.held in let room : ℕ = c.args.self.now.state.rows.room in
    let old : ℤ = to_z w64 (of_z w64 c.args.old) in let new : ℤ = to_z w64 (of_z w64 c.args.new) in
    let late : ℤ = to_z w64 (of_z w64 c.last_expired-expired.result) in let expires = expires (goal.at.loop-preserved c).After-last_expired-expired in
    let walked = c.loop.invariant.walked in let is = ap place_found c.in-Some.is in let found = c.pane-pane.ensures in
    let sorted = map.entries_sorted c.args.self.now.state.held.panes in let in_order = map.entries_sorted c.loop.self.state.held.panes in
    let kind_is = kind_is (goal.at.loop-preserved c).After-watermark_kind in
    let then = c.match-watermark_kind in
    let passed : HasPassed p old new es c.args.self.now.state.rows.written room (walked.passed + 1) (entries_of then.self.state.held) then.tally then.self.state.rows.written = elim then.branch [
      | in-Some-watermark_kind w ↦
          as_passed (ap (λ (o : WindowOperator). entries_of o.state.held) w.self-is ∙ (w.fire.ensures c.pane-pane.result found).panes) (w.tally-is ∙ (w.fire.ensures c.pane-pane.result found).tally) (ap (λ (o : WindowOperator). o.state.rows.written) w.self-is ∙ (w.fire.ensures c.pane-pane.result found).rows)
          (has_fired walked is in_order found sorted (sym kind_is ∙ w.in-Some-watermark_kind.is))
      | in_default-watermark_kind w ↦ as_passed (ap (λ (o : WindowOperator). entries_of o.state.held) w.self-is) w.tally-is (ap (λ (o : WindowOperator). o.state.rows.written) w.self-is) (stays walked is in_order found sorted (sym kind_is ∙ w.in_default-watermark_kind.is))
    ] in
    let there = still_there walked is in_order passed.fired in
    let goes_on = walks_on late _ (walked.passed + 1) expires (omega (arith, walked.onward)) passed (c.next_to_fire-next.ensures.next walked.passed there.0 there.1) in
    elim then.branch [
      | in-Some-watermark_kind w ↦
          record {
            keeps = subst (λ (o : WindowOperator). IsKept c.args.self.now.state.held o.state.held) (sym w.self-is) (kept_on c.args.self.now.state.held c.loop.self.state.held w.fire.new.self.held c.loop.invariant.keeps (w.fire.ensures c.pane-pane.result found).keeps);
            tells =
                subst (λ (o : WindowOperator). Tells c.args.self.now.state.streams o.state.streams es (entries_of o.state.held)) (sym w.self-is)
                (tells_on c.args.self.now.state.streams c.loop.self.state.streams w.fire.new.self.streams es (entries_of c.loop.self.state.held) (entries_of w.fire.new.self.held) c.loop.invariant.tells (w.fire.ensures c.pane-pane.result found).tells);
            room = ap (λ (o : WindowOperator). o.state.rows.room) w.self-is ∙ (w.fire.ensures c.pane-pane.result found).room ∙ c.loop.invariant.room;
            spot = c.next_to_fire-next.ensures.spot;
            walked = goes_on;
          }
      | in_default-watermark_kind w ↦
          record {
            keeps = subst (λ (o : WindowOperator). IsKept c.args.self.now.state.held o.state.held) (sym w.self-is) c.loop.invariant.keeps;
            tells = subst (λ (o : WindowOperator). Tells c.args.self.now.state.streams o.state.streams es (entries_of o.state.held)) (sym w.self-is) c.loop.invariant.tells;
            room = ap (λ (o : WindowOperator). o.state.rows.room) w.self-is ∙ c.loop.invariant.room;
            spot = c.next_to_fire-next.ensures.spot;
            walked = goes_on;
          }
    ]

pub returns-after-loop : goal.returns-after-loop
returns-after-loop c =
    let old_fits : SFits w64 c.args.old = c.ranges.old in let new_fits : SFits w64 c.args.new = c.ranges.new in
    let all = ends_behind_all c.loop.invariant.walked (omega arith) in
    record {
      panes = simp to_z-of_z at all.panes;
      keeps = c.loop.invariant.keeps;
      tells = c.loop.invariant.tells;
      rows = simp to_z-of_z at all.rows;
      room = c.loop.invariant.room;
      tally = simp to_z-of_z at (all.tally ∙ sym (tally_all c.args.verified.now _));
    }

pub returns-in_default : goal.returns-in_default
returns-in_default c =
    let p = c.args.verified.now in
    let old_fits : SFits w64 c.args.old = c.ranges.old in let new_fits : SFits w64 c.args.new = c.ranges.new in
    let whole : IsTrue (is_program p) = subst (λ (p : Program). IsTrue (is_program p)) c.program.ensures.program c.header-header.ensures.lawful in
    let all = ends_at_none c.loop.invariant.walked (lawful_programs.lawful p whole).lateness.low (map.entries_sorted c.args.self.now.state.held.panes) (ap place_found c.in_default.is) in
    record {
      panes = simp to_z-of_z at all.panes;
      keeps = c.loop.invariant.keeps;
      tells = c.loop.invariant.tells;
      rows = simp to_z-of_z at all.rows;
      room = c.loop.invariant.room;
      tally = simp to_z-of_z at (all.tally ∙ sym (tally_all c.args.verified.now _));
    }
