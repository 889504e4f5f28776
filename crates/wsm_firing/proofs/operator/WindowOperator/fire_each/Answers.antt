use Rattle.std.proofs.Common.{◌≡◌, ◌∷◌, [], ◌++◌, ℤ, ℕ, None, List, map, length, refl, sym, ap, subst, ◌∙◌, SFits, w64, to_z, of_z, to_z-of_z}
use Rattle.std.specs.List.{AllByRecursion}
use Rattle.std.specs.FinMap as panes
use Rattle.wsm_record.specs.declared.event.Value.{Value}
use Rattle.wsm_windows.specs.declared.window.Window.{Window}
use Rattle.wsm_windows.specs.declared.place.Place.{Place}
use Rattle.wsm_windows.specs.Places.{at}
use Rattle.wsm_semantics.specs.declared.out_row.OutRow.{OutRow}
use Rattle.wsm_semantics.specs.Summaries.{Fired, Pane, all_fired, fires}
use Rattle.wsm_semantics.proofs.Each.{all-any}
use Rattle.wsm_machine.specs.Meaning.{plan_of, query_of}
use Rattle.wsm_panes.specs.Held.{entries_of}
use Rattle.wsm_firing.specs.declared.tally.Tally.{Tally}
use Rattle.wsm_firing.specs.Tally.{tally_with}
use Rattle.wsm_firing.specs.Firing.{CanAdd, rows_of}
use Rattle.wsm_firing.specs.ByRecord.{AreInOrder, kind_at}
use Rattle.wsm_firing.proofs.StandingRows.{tells_none, tells_on}
use Rattle.wsm_firing.proofs.Ready.{ready_on}
use Rattle.wsm_firing.proofs.SameKinds.{none_fires, none_fired}
use Rattle.wsm_firing.proofs.InOrder.{later}
use Rattle.wsm_firing.proofs.InTurn.{fired_in_turn, fires_in_turn}
use Rattle.wsm_firing.proofs.LeftToFire.{ComesTo, first, can_add, next, last_tally, last_rows, kept_on, tally_all}
use Rattle.wsm_firing.proofs.operator.WindowOperator.fire_each.Goals as goal

pub loop-window-init : goal.loop-window-init
loop-window-init c =
    let p = c.args.verified.now in let q = query_of p in let es = entries_of c.args.self.now.state.held in
    let mark : ℤ = to_z w64 (of_z w64 c.args.mark) in let mark_fits : SFits w64 c.args.mark = c.ranges.mark in
    let all : List (Fired (List Value)) = fires q (kind_at q mark (map (at c.args.key) c.args.windows)) es in
    let room : ℕ = c.args.self.now.state.rows.room in
    let same : c.into_iter-window-iterator.result ≡ c.args.windows = c.into_iter-window-iterator.ensures.into_iter_gives in
    record {
      order = subst (λ (ws : List Window). AreInOrder (map (at c.args.key) ws)) (sym same) c.requires.order;
      panes = ap (λ (ws : List Window). all_fired (plan_of p) q (kind_at q mark (map (at c.args.key) ws)) es) same;
      keeps = record { keys = refl; shape = refl; live = refl; widths = refl };
      tells = tells_none c.args.self.now.state.streams es;
      room = refl;
      comes =
          subst (λ (ws : List Window). ComesTo p room c.args.self.now.state.rows.written c.none-tally.result c.args.self.now.state.rows.written (fires q (kind_at q mark (map (at c.args.key) ws)) es) all) (sym same)
          (simp to_z-of_z (first p room (length c.args.self.now.state.rows.written) c.none-tally.result c.args.self.now.state.rows.written _ c.none-tally.ensures refl c.requires.can.can));
    }

pub fire_at-requires : goal.fire_at-requires
fire_at-requires c = record {
  ready = ready_on c.args.verified.now c.args.self.now.state.held c.loop-window.self.state.held c.args.self.now.state.streams c.loop-window.self.state.streams c.loop-window.invariant.keeps c.loop-window.invariant.tells c.requires.can.ready;
  can = let p = c.args.verified.now in let q = query_of p in let es = entries_of c.args.self.now.state.held in
      let mark : ℤ = to_z w64 (of_z w64 c.args.mark) in let mark_fits : SFits w64 c.args.mark = c.ranges.mark in
      let all : List (Fired (List Value)) = fires q (kind_at q mark (map (at c.args.key) c.args.windows)) es in
      let room : ℕ = c.args.self.now.state.rows.room in
      let now = entries_of c.loop-window.self.state.held in let sorted = panes.entries_sorted c.loop-window.self.state.held.panes in
      let place : Place = at c.args.key c.in-Some.window in let ps : List Place = map (at c.args.key) c.next.new.self in
      let order : AreInOrder (place ∷ ps) = subst (λ (ws : List Window). AreInOrder (map (at c.args.key) ws)) c.in-Some.ensures.steps c.loop-window.invariant.order in
      let behind = later place ps order.0 in
      let some : List (Fired (List Value)) = fires q (kind_at q mark (place ∷ [])) now in
      let left : List (Fired (List Value)) = fires q (kind_at q mark ps) (all_fired (plan_of p) q (kind_at q mark (place ∷ [])) now) in
      let comes : ComesTo p room c.args.self.now.state.rows.written c.loop-window.tally c.loop-window.self.state.rows.written (some ++ left) all =
      subst (λ fs. ComesTo p room c.args.self.now.state.rows.written c.loop-window.tally c.loop-window.self.state.rows.written fs all)
      (ap (λ (ws : List Window). fires q (kind_at q mark (map (at c.args.key) ws)) now) c.in-Some.ensures.steps ∙ fires_in_turn (plan_of p) q mark place ps behind now sorted) c.loop-window.invariant.comes in
      let can : CanAdd p room (length c.loop-window.self.state.rows.written) c.loop-window.tally some = can_add p room c.args.self.now.state.rows.written c.loop-window.tally c.loop-window.self.state.rows.written some left all comes in
      subst (λ (r : Place). CanAdd p c.loop-window.self.state.rows.room (length c.loop-window.self.state.rows.written) c.loop-window.tally (fires q (kind_at q mark (r ∷ [])) now)) (sym c.at-place.ensures)
      (subst (λ (n : ℕ). CanAdd p n (length c.loop-window.self.state.rows.written) c.loop-window.tally some) (sym c.loop-window.invariant.room) can);
}

pub loop-window-preserved : goal.loop-window-preserved
loop-window-preserved c =
    let p = c.args.verified.now in let q = query_of p in let es = entries_of c.args.self.now.state.held in
    let mark : ℤ = to_z w64 (of_z w64 c.args.mark) in let mark_fits : SFits w64 c.args.mark = c.ranges.mark in
    let all : List (Fired (List Value)) = fires q (kind_at q mark (map (at c.args.key) c.args.windows)) es in
    let room : ℕ = c.args.self.now.state.rows.room in
    let now = entries_of c.loop-window.self.state.held in let sorted = panes.entries_sorted c.loop-window.self.state.held.panes in
    let place : Place = at c.args.key c.in-Some.window in let ps : List Place = map (at c.args.key) c.next.new.self in
    let order : AreInOrder (place ∷ ps) = subst (λ (ws : List Window). AreInOrder (map (at c.args.key) ws)) c.in-Some.ensures.steps c.loop-window.invariant.order in
    let behind = later place ps order.0 in
    let some : List (Fired (List Value)) = fires q (kind_at q mark (place ∷ [])) now in
    let left : List (Fired (List Value)) = fires q (kind_at q mark ps) (all_fired (plan_of p) q (kind_at q mark (place ∷ [])) now) in
    let comes : ComesTo p room c.args.self.now.state.rows.written c.loop-window.tally c.loop-window.self.state.rows.written (some ++ left) all =
    subst (λ fs. ComesTo p room c.args.self.now.state.rows.written c.loop-window.tally c.loop-window.self.state.rows.written fs all)
    (ap (λ (ws : List Window). fires q (kind_at q mark (map (at c.args.key) ws)) now) c.in-Some.ensures.steps ∙ fires_in_turn (plan_of p) q mark place ps behind now sorted) c.loop-window.invariant.comes in
    let fired : entries_of c.fire_at.new.self.state.held ≡ all_fired (plan_of p) q (kind_at q mark (place ∷ [])) now =
    c.fire_at.ensures.panes ∙ ap (λ (r : Place). all_fired (plan_of p) q (kind_at q mark (r ∷ [])) now) c.at-place.ensures in
    let tally : c.fire_at.new.tally ≡ tally_with p c.loop-window.tally some =
    c.fire_at.ensures.tally ∙ ap (λ (r : Place). tally_with p c.loop-window.tally (fires q (kind_at q mark (r ∷ [])) now)) c.at-place.ensures in
    let rows : c.fire_at.new.self.state.rows.written ≡ c.loop-window.self.state.rows.written ++ rows_of p some =
    c.fire_at.ensures.rows ∙ ap (λ (r : Place). c.loop-window.self.state.rows.written ++ rows_of p (fires q (kind_at q mark (r ∷ [])) now)) c.at-place.ensures in
    record {
      order = order.1;
      panes =
          ap (all_fired (plan_of p) q (kind_at q mark ps)) fired
          ∙ sym (fired_in_turn (plan_of p) q mark place ps behind now)
          ∙ sym (ap (λ (ws : List Window). all_fired (plan_of p) q (kind_at q mark (map (at c.args.key) ws)) now) c.in-Some.ensures.steps)
          ∙ c.loop-window.invariant.panes;
      keeps = kept_on c.args.self.now.state.held c.loop-window.self.state.held c.fire_at.new.self.state.held c.loop-window.invariant.keeps c.fire_at.ensures.keeps;
      tells = tells_on c.args.self.now.state.streams c.loop-window.self.state.streams c.fire_at.new.self.state.streams es now (entries_of c.fire_at.new.self.state.held) c.loop-window.invariant.tells c.fire_at.ensures.tells;
      room = c.fire_at.ensures.room ∙ c.loop-window.invariant.room;
      comes =
          subst (λ (t : Tally). ComesTo p room c.args.self.now.state.rows.written t c.fire_at.new.self.state.rows.written (fires q (kind_at q mark ps) (entries_of c.fire_at.new.self.state.held)) all) (sym tally)
          (subst (λ (rs : List OutRow). ComesTo p room c.args.self.now.state.rows.written (tally_with p c.loop-window.tally some) rs (fires q (kind_at q mark ps) (entries_of c.fire_at.new.self.state.held)) all) (sym rows)
          (subst (λ fs. ComesTo p room c.args.self.now.state.rows.written (tally_with p c.loop-window.tally some) (c.loop-window.self.state.rows.written ++ rows_of p some) (fires q (kind_at q mark ps) fs) all) (sym fired)
          (next p room c.args.self.now.state.rows.written c.loop-window.tally c.loop-window.self.state.rows.written some left all comes)));
    }

pub returns : goal.returns
returns c =
    let p = c.args.verified.now in let q = query_of p in
    let mark : ℤ = to_z w64 (of_z w64 c.args.mark) in let mark_fits : SFits w64 c.args.mark = c.ranges.mark in
    let now = entries_of c.loop-window.self.state.held in let kind : List Window → Place → Pane (List Value) → _ = λ ws. kind_at q mark (map (at c.args.key) ws) in
    let all : List (Fired (List Value)) = fires q (kind c.args.windows) (entries_of c.args.self.now.state.held) in
    let room : ℕ = c.args.self.now.state.rows.room in
    let still : AllByRecursion (λ e. kind [] e.0 e.1 ≡ None) now = all-any (λ e. kind [] e.0 e.1 ≡ None) (λ e. refl) now in
    let none : fires q (kind c.loop-window.window-iterator) now ≡ [] = ap (λ (ws : List Window). fires q (kind ws) now) c.in-None.ensures.steps.0 ∙ none_fires (plan_of p) q (kind []) now still in
    record {
      panes =
          simp to_z-of_z at
          (sym (none_fired (plan_of p) q (kind []) now still) ∙ sym (ap (λ (ws : List Window). all_fired (plan_of p) q (kind ws) now) c.in-None.ensures.steps.0) ∙ c.loop-window.invariant.panes);
      keeps = c.loop-window.invariant.keeps;
      tells = c.loop-window.invariant.tells;
      rows = simp to_z-of_z at (last_rows p room c.args.self.now.state.rows.written c.loop-window.tally c.loop-window.self.state.rows.written _ all none c.loop-window.invariant.comes);
      room = c.loop-window.invariant.room;
      tally = simp to_z-of_z at (last_tally p room c.args.self.now.state.rows.written c.loop-window.tally c.loop-window.self.state.rows.written _ all none c.loop-window.invariant.comes ∙ sym (tally_all p all));
    }
