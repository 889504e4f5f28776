use Rattle.std.proofs.Common.{◌≡◌, ◌+◌, ◌≤◌, ◌+ℤ◌, ◌≤ℤ◌, ℤ, refl, sym, ap, subst, ◌∙◌, length, IsTrue, SFits, w64, to_z, of_z, to_z-of_z, rules, arith}
use Rattle.std.proofs.lemmas.Int.{ints, fits_signed_from_abs}
use Rattle.std.specs.FinMap as map
use Rattle.std.specs.Option.{is_some}
use Rattle.wsm_windows.specs.Windows.{IsSpan}
use Rattle.wsm_semantics.specs.Summaries.{kind_by_watermark}
use Rattle.wsm_program.specs.Program.{Program, Header, is_program}
use Rattle.wsm_program.specs.View.{header_of}
use Rattle.wsm_rules.proofs.Lawful as lawful_programs
use Rattle.wsm_machine.specs.Meaning.{query_of}
use Rattle.wsm_panes.specs.Held.{entries_of}
use Rattle.wsm_slots.specs.Walk.{place_found}
use Rattle.wsm_firing.specs.TurnRows.{Rows}
use Rattle.wsm_firing.specs.ByWatermark.{fires_by_watermark}
use Rattle.wsm_firing.proofs.RetractWalk.{HasPassed, comes_to, ends_behind_all, ends_at_none, has_room, is_held, is_placed, puts, puts_first, stays, there}
use Rattle.wsm_firing.proofs.Spots.{spot_in}
use Rattle.wsm_firing.proofs.retracting.retract_due.Goals as goal
use Rattle.wsm_firing.proofs.retracting.retract_due.Goals.{After-last_expired-expired, After-watermark_kind, then-is_some, else-is_some}

-- what ends after the last time that expires is live
expires : (c : After-last_expired-expired) → to_z w64 (of_z w64 c.args.new) ≤ℤ (to_z w64 (of_z w64 c.last_expired-expired.result) +ℤ (query_of c.args.verified.now).clock.lateness)
expires c =
    let new : ℤ = to_z w64 (of_z w64 c.args.new) in let late : ℤ = to_z w64 (of_z w64 c.last_expired-expired.result) in
    let late_fits : SFits w64 c.last_expired-expired.result = search rules in let new_fits : SFits w64 c.args.new = c.ranges.new in
    let span : IsSpan c.header-header.result.now.clock.lateness = subst (λ (h : Header). IsSpan h.clock.lateness) (sym c.header-header.ensures.header) (lawful_programs.lawful c.program.result.now c.header-header.ensures.lawful).lateness in
    let wait : SFits w64 c.header-header.result.now.clock.lateness = fits_signed_from_abs w64 c.header-header.result.now.clock.lateness (grind (arith, ints, span.low, span.high)) in
    let header : header_of c.header-header.result.now ≡ c.args.verified.now.header = c.header-header.ensures.header ∙ ap (λ (p : Program). p.header) c.program.ensures.program in
    let by : new ≤ℤ (late +ℤ c.header-header.result.now.clock.lateness) = simp to_z-of_z (simp to_z-of_z at c.last_expired-expired.ensures.late) in
    subst (λ (h : Header). new ≤ℤ (late +ℤ h.clock.lateness)) header by

-- the pane's kind is the definition's
kind_is : (c : After-watermark_kind) → c.watermark_kind.result ≡ kind_by_watermark (query_of c.args.verified.now) (to_z w64 (of_z w64 c.args.old)) (to_z w64 (of_z w64 c.args.new)) c.in-Some.spot.place c.pane-pane.result
kind_is c =
    let header : header_of c.header-header.result.now ≡ c.args.verified.now.header = c.header-header.ensures.header ∙ ap (λ (p : Program). p.header) c.program.ensures.program in
    c.watermark_kind.ensures (query_of c.args.verified.now) (ap (λ (h : Header). h.mode) (sym header)) (ap (λ (h : Header). h.clock.lateness) (sym header))

pub last_expired-expired-requires : goal.last_expired-expired-requires
last_expired-expired-requires c =
    let span : IsSpan c.header-header.result.now.clock.lateness = subst (λ (h : Header). IsSpan h.clock.lateness) (sym c.header-header.ensures.header) (lawful_programs.lawful c.program.result.now c.header-header.ensures.lawful).lateness in
    let wait : SFits w64 c.header-header.result.now.clock.lateness = fits_signed_from_abs w64 c.header-header.result.now.clock.lateness (grind (arith, ints, span.low, span.high)) in
    simp to_z-of_z (record { lateness = span })

pub loop-init : goal.loop-init
loop-init c =
    let late : ℤ = to_z w64 (of_z w64 c.last_expired-expired.result) in
    record {
      room = refl;
      spot = c.first_to_fire-next.ensures.spot;
      walked = comes_to late _ 0 (expires (goal.at.loop-init c).After-last_expired-expired) (omega arith) (puts_first c.args.rows.now.written _ _) c.first_to_fire-next.ensures.next;
    }

pub pane-pane-requires : goal.pane-pane-requires
pane-pane-requires c = record {
  there = is_held c.loop.invariant.walked (ap place_found c.in-Some.is) (map.entries_sorted c.args.held.now.panes);
  lies = spot_in c.args.held.now c.loop.next c.in-Some.spot c.loop.invariant.spot c.in-Some.is;
}

pub next_to_fire-next-requires-clause-held : goal.next_to_fire-next-requires-clause-held
next_to_fire-next-requires-clause-held c = record {
  there = is_held c.loop.invariant.walked (ap place_found c.in-Some.is) (map.entries_sorted c.args.held.now.panes);
  lies = spot_in c.args.held.now c.loop.next c.in-Some.spot c.loop.invariant.spot c.in-Some.is;
}

pub watermark_kind-requires-clause-lateness : goal.watermark_kind-requires-clause-lateness
watermark_kind-requires-clause-lateness c =
    subst (λ (h : Header). IsSpan h.clock.lateness) (sym c.header-header.ensures.header) (lawful_programs.lawful c.program.result.now c.header-header.ensures.lawful).lateness

pub watermark_kind-requires-clause-placed : goal.watermark_kind-requires-clause-placed
watermark_kind-requires-clause-placed c = is_placed c.loop.invariant.walked (ap place_found c.in-Some.is) (map.entries_sorted c.args.held.now.panes) c.pane-pane.ensures c.requires.placed

pub retract-requires : goal.retract-requires
retract-requires c =
    let fires = ap is_some (sym (kind_is (goal.at.retract-requires c).After-watermark_kind)) ∙ sym c.is_some.ensures ∙ c.if-is_some.true in
    let old_fits : SFits w64 c.args.old = c.ranges.old in let new_fits : SFits w64 c.args.new = c.ranges.new in
    let room : length c.args.rows.now.written + length (fires_by_watermark c.args.verified.now c.args.old c.args.new (entries_of c.args.held.now)) ≤ c.args.rows.now.room = omega (arith, c.requires.room) in
    let next = has_room c.loop.invariant.walked (ap place_found c.in-Some.is) (map.entries_sorted c.args.held.now.panes) c.pane-pane.ensures fires c.args.rows.now.room (simp to_z-of_z room) in
    record { room = omega (arith, next, c.loop.invariant.room) }

pub loop-preserved : goal.loop-preserved
loop-preserved c =
    let p = c.args.verified.now in let es = entries_of c.args.held.now in let before = c.args.rows.now.written in
    let old : ℤ = to_z w64 (of_z w64 c.args.old) in let new : ℤ = to_z w64 (of_z w64 c.args.new) in
    let late : ℤ = to_z w64 (of_z w64 c.last_expired-expired.result) in let expires = expires (goal.at.loop-preserved c).After-last_expired-expired in
    let walked = c.loop.invariant.walked in let is = ap place_found c.in-Some.is in let found = c.pane-pane.ensures in let sorted = map.entries_sorted c.args.held.now.panes in
    let same : is_some (kind_by_watermark (query_of p) old new c.in-Some.spot.place c.pane-pane.result) ≡ c.is_some.result = ap is_some (sym (kind_is (goal.at.loop-preserved c).After-watermark_kind)) ∙ sym c.is_some.ensures in
    let passed : HasPassed p old new es before (walked.passed + 1) c.if-is_some.rows.written = elim c.if-is_some.branch [
      | then-is_some w ↦
          subst (λ (v : Rows). HasPassed p old new es before (walked.passed + 1) v.written) (sym w.rows-is)
          (puts walked is sorted found (same ∙ w.if-is_some.true) w.retract.new.rows.written (w.retract.ensures.rows c.in-Some.spot.place refl))
      | else-is_some w ↦ subst (λ (v : Rows). HasPassed p old new es before (walked.passed + 1) v.written) (sym w.rows-is) (stays walked is sorted found (same ∙ w.if-is_some.false))
    ] in
    record {
      room = elim c.if-is_some.branch [
        | then-is_some w ↦ ap (λ (v : Rows). v.room) w.rows-is ∙ w.retract.ensures.room ∙ c.loop.invariant.room
        | else-is_some w ↦ ap (λ (v : Rows). v.room) w.rows-is ∙ c.loop.invariant.room
      ];
      spot = c.next_to_fire-next.ensures.spot;
      walked = comes_to late _ (walked.passed + 1) expires (omega (arith, walked.onward)) passed (c.next_to_fire-next.ensures.next walked.passed c.pane-pane.result (there walked is sorted found));
    }

pub returns-after-loop : goal.returns-after-loop
returns-after-loop c = record {
  room = c.loop.invariant.room;
  rows = let old_fits : SFits w64 c.args.old = c.ranges.old in let new_fits : SFits w64 c.args.new = c.ranges.new in
      simp to_z-of_z at (ends_behind_all c.loop.invariant.walked (omega arith));
}

pub returns-in_default : goal.returns-in_default
returns-in_default c = record {
  room = c.loop.invariant.room;
  rows = let old_fits : SFits w64 c.args.old = c.ranges.old in let new_fits : SFits w64 c.args.new = c.ranges.new in
      let whole : IsTrue (is_program c.args.verified.now) = subst (λ (p : Program). IsTrue (is_program p)) c.program.ensures.program c.header-header.ensures.lawful in
      simp to_z-of_z at (ends_at_none c.loop.invariant.walked (lawful_programs.lawful c.args.verified.now whole).lateness.low (map.entries_sorted c.args.held.now.panes) (ap place_found c.in_default.is));
}
