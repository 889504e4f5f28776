use Rattle.std.proofs.Common.{◌≡◌, ◌∷◌, [], List, Some, true, refl, sym, ap, subst, ◌∙◌, ◌++◌, SFits, w64, to_z-of_z, length}
use Rattle.std.specs.FinMap as map
use Rattle.std.specs.Option.{is_some}
use Rattle.std.specs.FinMap.Entries.{find, put}
use Rattle.wsm_record.specs.declared.event.Value.{Value}
use Rattle.wsm_windows.specs.declared.window.PaneKind.{PaneKind}
use Rattle.wsm_windows.specs.declared.place.Place.{Place}
use Rattle.wsm_windows.specs.Places.{place_cmp}
use Rattle.wsm_semantics.specs.Summaries.{Fired, Pane, fired_count, fired_pane}
use Rattle.wsm_semantics.specs.Firings.{kind_on_record}
use Rattle.wsm_program.specs.Program.{Program}
use Rattle.wsm_machine.specs.Meaning.{plan_of, query_of}
use Rattle.wsm_panes.specs.Held.{entries_of}
use Rattle.wsm_slots.specs.Walk.{place_found}
use Rattle.wsm_firing.specs.Tally.{tally_with}
use Rattle.wsm_firing.specs.Firing.{CanAdd, rows_of}
use Rattle.wsm_firing.proofs.StandingRows.{tells_none}
use Rattle.wsm_firing.proofs.AtPlace.{Fires, none_there, no_kind, with_kind}
use Rattle.wsm_firing.proofs.LeftToFire.{no_rows, no_tally}
use Rattle.wsm_firing.proofs.Walk.{none_found, spot_found, some_same}
use Rattle.wsm_firing.proofs.Spots.{spot_in}
use Rattle.wsm_firing.proofs.operator.WindowOperator.fire_called.Goals as goal
use Rattle.wsm_firing.proofs.operator.WindowOperator.fire_called.Goals.{In-Some, After-record_kind, In-Some-record_kind}

-- the spot that was found is that of the place, where a pane is held
found : (c : In-Some) → (c.in-Some.spot.place ≡ c.args.place) × (is_some (find place_cmp c.args.place (entries_of c.args.self.now.state.held)) ≡ true)
found c = spot_found c.args.place (find place_cmp c.args.place (entries_of c.args.self.now.state.held)) c.in-Some.spot.place (sym c.find.ensures.place ∙ ap place_found c.in-Some.is)

held_there : (c : In-Some) → is_some (find place_cmp c.in-Some.spot.place (entries_of c.args.self.now.state.held)) ≡ true
held_there c = let spot = found c in subst (λ r. is_some (find place_cmp r (entries_of c.args.self.now.state.held)) ≡ true) (sym spot.0) spot.1

kind_is : (c : After-record_kind) → kind_on_record (query_of c.args.verified.now) c.args.mark c.args.place.end c.pane-pane.result.unshown ≡ c.record_kind.result
kind_is c = let mark : SFits w64 c.args.mark = c.ranges.mark in ap (kind_on_record (query_of c.args.verified.now) c.args.mark c.args.place.end) (sym c.unshown.ensures) ∙ sym (simp to_z-of_z at c.record_kind.ensures)

-- the firing of the pane at a place
abbrev firing : Program → PaneKind → Place → Pane (List Value) → Fired (List Value)
firing p kind place h = record { kind = kind; place = place; count = fired_count p.header.mode h; folded = h.folded }

-- what fires at the place
fires : (c : In-Some-record_kind) → c.in-Some.spot.place ≡ c.args.place → kind_on_record (query_of c.args.verified.now) c.args.mark c.args.place.end c.pane-pane.result.unshown ≡ c.record_kind.result →
    Fires (plan_of c.args.verified.now) (query_of c.args.verified.now) c.args.mark c.args.place (entries_of c.args.self.now.state.held) (map.entries_sorted c.args.self.now.state.held.panes) (firing c.args.verified.now c.in-Some-record_kind.kind c.args.place c.pane-pane.result ∷ [])
    (put place_cmp c.args.place (fired_pane (plan_of c.args.verified.now) c.args.verified.now.header.mode c.args.place (Some c.in-Some-record_kind.kind) c.pane-pane.result) (entries_of c.args.self.now.state.held))
fires c at is =
    let p = c.args.verified.now in let es = entries_of c.args.self.now.state.held in
    let there : find place_cmp c.args.place es ≡ Some c.pane-pane.result = ap (λ r. find place_cmp r es) (sym at) ∙ c.pane-pane.ensures in
    with_kind (plan_of p) (query_of p) c.args.mark c.args.place es (map.entries_sorted c.args.self.now.state.held.panes) c.pane-pane.result there c.in-Some-record_kind.kind (is ∙ c.in-Some-record_kind.is)

pub returns-in_default : goal.returns-in_default
returns-in_default c =
    let p = c.args.verified.now in let held = c.args.self.now.state.held in let es = entries_of held in
    let none = none_there (plan_of p) (query_of p) c.args.mark c.args.place es (map.entries_sorted held.panes) (none_found c.args.place (find place_cmp c.args.place es) (sym c.find.ensures.place ∙ ap place_found c.in_default.is)) in
    record {
      panes = sym none.panes;
      keeps = record { keys = refl; shape = refl; live = refl; widths = refl };
      tells = tells_none c.args.self.now.state.streams es;
      rows = no_rows p c.args.self.now.state.rows.written _ none.firings;
      room = refl;
      tally = no_tally p c.args.tally.now _ none.firings;
    }

pub pane-pane-requires : goal.pane-pane-requires
pane-pane-requires c = record {
  there = held_there (goal.at.pane-pane-requires c).In-Some;
  lies = spot_in c.args.self.now.state.held c.find.result c.in-Some.spot c.find.ensures.spot c.in-Some.is;
}

pub fire_held-requires-clause-held : goal.fire_held-requires-clause-held
fire_held-requires-clause-held c = record {
  there = held_there (goal.at.fire_held-requires-clause-held c).In-Some;
  lies = spot_in c.args.self.now.state.held c.find.result c.in-Some.spot c.find.ensures.spot c.in-Some.is;
}

pub fire_held-requires-clause-can : goal.fire_held-requires-clause-can
fire_held-requires-clause-can c = λ h held.
    let p = c.args.verified.now in
    let at = (found (goal.at.fire_held-requires-clause-can c).In-Some).0 in
    let one = fires (goal.at.fire_held-requires-clause-can c).In-Some-record_kind at (kind_is (goal.at.fire_held-requires-clause-can c).After-record_kind) in
    let same : c.pane-pane.result ≡ h = some_same (sym c.pane-pane.ensures ∙ held) in
    subst (λ (x : Place × Pane (List Value)). CanAdd p c.args.self.now.state.rows.room (length c.args.self.now.state.rows.written) c.args.tally.now (firing p c.in-Some-record_kind.kind x.0 x.1 ∷ []))
    (λ i. (sym at i, same i))
    (subst (λ (fs : List (Fired (List Value))). CanAdd p c.args.self.now.state.rows.room (length c.args.self.now.state.rows.written) c.args.tally.now fs) one.firings c.requires.can)

pub returns-in-Some-record_kind : goal.returns-in-Some-record_kind
returns-in-Some-record_kind c =
    let p = c.args.verified.now in let kind = c.in-Some-record_kind.kind in let h = c.pane-pane.result in let es = entries_of c.args.self.now.state.held in
    let at = (found (goal.at.returns-in-Some-record_kind c).In-Some).0 in
    let one = fires (goal.at.returns-in-Some-record_kind c).In-Some-record_kind at (kind_is (goal.at.returns-in-Some-record_kind c).After-record_kind) in
    let mark : SFits w64 c.args.mark = c.ranges.mark in
    let one_fired = c.fire_held.ensures h c.pane-pane.ensures in
    record {
      panes = one_fired.panes ∙ ap (λ (r : Place). put place_cmp r (fired_pane (plan_of p) p.header.mode r (Some kind) h) es) at ∙ sym one.panes;
      keeps = one_fired.keeps;
      tells = one_fired.tells;
      rows =
          one_fired.rows
          ∙ ap (λ (r : Place). c.args.self.now.state.rows.written ++ rows_of p (firing p kind r h ∷ [])) at
          ∙ ap (λ (fs : List (Fired (List Value))). c.args.self.now.state.rows.written ++ rows_of p fs) (sym one.firings);
      room = one_fired.room;
      tally =
          one_fired.tally
          ∙ ap (λ (r : Place). tally_with p c.args.tally.now (firing p kind r h ∷ [])) at
          ∙ ap (λ (fs : List (Fired (List Value))). tally_with p c.args.tally.now fs) (sym one.firings);
    }

pub returns-in_default-record_kind : goal.returns-in_default-record_kind
returns-in_default-record_kind c =
    let p = c.args.verified.now in let es = entries_of c.args.self.now.state.held in
    let mark : SFits w64 c.args.mark = c.ranges.mark in
    let at = (found (goal.at.returns-in_default-record_kind c).In-Some).0 in
    let there : find place_cmp c.args.place es ≡ Some c.pane-pane.result = ap (λ r. find place_cmp r es) (sym at) ∙ c.pane-pane.ensures in
    let is = kind_is (goal.at.returns-in_default-record_kind c).After-record_kind ∙ c.in_default-record_kind.is in
    let none = no_kind (plan_of p) (query_of p) c.args.mark c.args.place es (map.entries_sorted c.args.self.now.state.held.panes) c.pane-pane.result there is in
    record {
      panes = sym none.panes;
      keeps = record { keys = refl; shape = refl; live = refl; widths = refl };
      tells = tells_none c.args.self.now.state.streams es;
      rows = no_rows p c.args.self.now.state.rows.written _ none.firings;
      room = refl;
      tally = no_tally p c.args.tally.now _ none.firings;
    }
