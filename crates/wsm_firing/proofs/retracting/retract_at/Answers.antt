use Rattle.std.proofs.Common.{◌≡◌, Some, true, refl, sym, ap, ◌∙◌, SFits, w64, to_z-of_z, arith, rules}
use Rattle.std.specs.FinMap as map
use Rattle.std.specs.Option.{is_some}
use Rattle.std.specs.FinMap.Entries.{find}
use Rattle.wsm_windows.specs.Places.{place_cmp}
use Rattle.wsm_semantics.specs.Firings.{kind_on_record}
use Rattle.wsm_machine.specs.Meaning.{plan_of, query_of}
use Rattle.wsm_panes.specs.Held.{entries_of}
use Rattle.wsm_slots.specs.Walk.{place_found}
use Rattle.wsm_firing.proofs.RetractAt.{one_at, put_none, put_one, put_quiet}
use Rattle.wsm_firing.proofs.Walk.{none_found, spot_found}
use Rattle.wsm_firing.proofs.Spots.{spot_in}
use Rattle.wsm_firing.proofs.retracting.retract_at.Goals as goal
use Rattle.wsm_firing.proofs.retracting.retract_at.Goals.{After-is_some, After-pane-pane, In-Some}

-- the spot that was found is that of the place, where a pane is held
found : (c : In-Some) → (c.in-Some.spot.place ≡ c.args.place) × (is_some (find place_cmp c.args.place (entries_of c.args.held.now)) ≡ true)
found c = spot_found c.args.place (find place_cmp c.args.place (entries_of c.args.held.now)) c.in-Some.spot.place (sym c.find.ensures.place ∙ ap place_found c.in-Some.is)

there : (c : After-pane-pane) → c.in-Some.spot.place ≡ c.args.place → find place_cmp c.args.place (entries_of c.args.held.now) ≡ Some c.pane-pane.result
there c at = ap (λ r. find place_cmp r (entries_of c.args.held.now)) (sym at) ∙ c.pane-pane.ensures

fires_is : (c : After-is_some) → is_some (kind_on_record (query_of c.args.verified.now) c.args.mark c.args.place.end c.pane-pane.result.unshown) ≡ c.is_some.result
fires_is c =
    let mark : SFits w64 c.args.mark = c.ranges.mark in
    ap is_some (ap (kind_on_record (query_of c.args.verified.now) c.args.mark c.args.place.end) (sym c.unshown.ensures) ∙ sym (simp to_z-of_z at c.record_kind.ensures)) ∙ sym c.is_some.ensures

pub returns-in_default : goal.returns-in_default
returns-in_default c = record {
  room = refl;
  rows = let p = c.args.verified.now in let es = entries_of c.args.held.now in
      put_none (plan_of p) (query_of p) c.args.mark c.args.place es (map.entries_sorted c.args.held.now.panes) (none_found c.args.place (find place_cmp c.args.place es) (sym c.find.ensures.place ∙ ap place_found c.in_default.is)) c.args.rows.now.written;
}

pub retract-requires : goal.retract-requires
retract-requires c =
    let p = c.args.verified.now in let es = entries_of c.args.held.now in
    let at = (found (goal.at.retract-requires c).In-Some).0 in
    let mark : SFits w64 c.args.mark = c.ranges.mark in
    let fires = fires_is (goal.at.retract-requires c).After-is_some ∙ c.if-is_some.true in
    let one = one_at (plan_of p) (query_of p) c.args.mark c.args.place es (map.entries_sorted c.args.held.now.panes) c.pane-pane.result (there (goal.at.retract-requires c).After-pane-pane at) fires in
    record { room = omega (arith, c.requires.room, one) }

pub returns-then-is_some : goal.returns-then-is_some
returns-then-is_some c = record {
  room = c.retract.ensures.room;
  rows = let p = c.args.verified.now in let es = entries_of c.args.held.now in
      let at = (found (goal.at.returns-then-is_some c).In-Some).0 in
      let fires = fires_is (goal.at.returns-then-is_some c).After-is_some ∙ c.if-is_some.true in
      put_one (plan_of p) (query_of p) c.args.mark c.args.place es (map.entries_sorted c.args.held.now.panes) c.pane-pane.result (there (goal.at.returns-then-is_some c).After-pane-pane at) fires
      c.args.rows.now.written c.retract.new.rows.written (c.retract.ensures.rows c.args.place refl);
}

pub returns-else-is_some : goal.returns-else-is_some
returns-else-is_some c = record {
  room = refl;
  rows = let p = c.args.verified.now in let es = entries_of c.args.held.now in
      let at = (found (goal.at.returns-else-is_some c).In-Some).0 in
      let quiet = fires_is (goal.at.returns-else-is_some c).After-is_some ∙ c.if-is_some.false in
      put_quiet (plan_of p) (query_of p) c.args.mark c.args.place es (map.entries_sorted c.args.held.now.panes) c.pane-pane.result (there (goal.at.returns-else-is_some c).After-pane-pane at) quiet c.args.rows.now.written;
}

pub pane-pane-requires : goal.pane-pane-requires
pane-pane-requires c = record {
  there = search rules;
  lies = spot_in c.args.held.now c.find.result c.in-Some.spot c.find.ensures.spot c.in-Some.is;
}
