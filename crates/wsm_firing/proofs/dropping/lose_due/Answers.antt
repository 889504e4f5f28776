use Rattle.std.proofs.Common.{◌≡◌, ◌+◌, ◌≤◌, ◌∷◌, [], ℤ, ℕ, Some, None, true, drop, length, refl, sym, ap, subst, ◌∙◌, SFits, w64, to_z, of_z, to_z-of_z, arith, length-drop}
use Rattle.std.proofs.lemmas.List.{drop_all}
use Rattle.std.specs.Prelude.{slice_get}
use Rattle.std.specs.List.{cons_option}
use Rattle.std.specs.Option.{is_some}
use Rattle.std.specs.FinMap.Entries.{find}
use Rattle.std.specs.FinMap as map
use Rattle.wsm_windows.specs.declared.place.Place.{Place}
use Rattle.wsm_windows.specs.Places.{place_cmp}
use Rattle.wsm_panes.specs.Held.{entries_of}
use Rattle.wsm_slots.specs.Walk.{place_due, place_found}
use Rattle.wsm_semantics.specs.Summaries.{Pane}
use Rattle.wsm_firing.specs.Streams.{IsTold, standing_rows}
use Rattle.wsm_firing.proofs.Past.{left, none_goes, next_goes}
use Rattle.wsm_firing.proofs.StandingRows.{Folded, Panes, row_at, few_rows}
use Rattle.wsm_firing.proofs.Walk.{rest_at, held_due, entry_found, due_behind, past_end}
use Rattle.wsm_firing.proofs.Spots.{spot_in}
use Rattle.wsm_firing.proofs.dropping.lose_due.Goals as goal
use Rattle.wsm_firing.proofs.dropping.lose_due.Goals.{In-Some, After-pane}

-- the pane that is due, as the walk comes to it
due : (c : In-Some) → place_due (to_z w64 (of_z w64 c.args.limit)) (slice_get (entries_of c.args.held.now) c.loop.counter) ≡ Some c.in-Some.spot.place
due c = sym c.loop.invariant.next ∙ ap place_found c.in-Some.is

is_held : (c : In-Some) → is_some (find place_cmp c.in-Some.spot.place (entries_of c.args.held.now)) ≡ true
is_held c = held_due (to_z w64 (of_z w64 c.args.limit)) (entries_of c.args.held.now) c.loop.counter c.in-Some.spot.place (map.entries_sorted c.args.held.now.panes) (due c)

there : (c : After-pane) → place_due (to_z w64 (of_z w64 c.args.limit)) (slice_get (entries_of c.args.held.now) c.loop.counter) ≡ Some c.in-Some.spot.place → slice_get (entries_of c.args.held.now) c.loop.counter ≡ Some (c.in-Some.spot.place, c.pane.result)
there c due = entry_found (to_z w64 (of_z w64 c.args.limit)) (entries_of c.args.held.now) c.loop.counter c.in-Some.spot.place (map.entries_sorted c.args.held.now.panes) due c.pane.result c.pane.ensures

pub loop-init : goal.loop-init
loop-init c =
    let limit : ℤ = to_z w64 (of_z w64 c.args.limit) in
    record { told = λ relation told. told; alike = record { form = refl; room = refl }; past = refl; spot = c.first_due-next.ensures.spot; next = c.first_due-next.ensures.place }

pub pane-requires : goal.pane-requires
pane-requires c = record {
  there = is_held (goal.at.pane-requires c).In-Some;
  lies = spot_in c.args.held.now c.loop.next c.in-Some.spot c.loop.invariant.spot c.in-Some.is;
}

pub next_due-next-requires : goal.next_due-next-requires
next_due-next-requires c = record {
  there = is_held (goal.at.next_due-next-requires c).In-Some;
  lies = spot_in c.args.held.now c.loop.next c.in-Some.spot c.loop.invariant.spot c.in-Some.is;
}

pub lose-requires : goal.lose-requires
lose-requires c =
    let es = entries_of c.args.held.now in let i : ℕ = c.loop.counter in
    let e : Place × Pane Folded = (c.in-Some.spot.place, c.pane.result) in
    let split : drop i es ≡ e ∷ drop (i + 1) es = rest_at es i e (there (goal.at.lose-requires c).After-pane (due (goal.at.lose-requires c).In-Some)) in
    let can = c.requires.tells in
    record {
      before = can.before;
      rest = standing_rows (drop (i + 1) es);
      told = subst (λ (fs : Panes). IsTold c.loop.streams can.before (standing_rows fs)) split (c.loop.invariant.told can.before can.told);
      within = record {
        few_before = omega (arith, can.few_before, c.loop.invariant.alike.room);
        few_now =
            let few : length (cons_option (row_at e.1) (standing_rows (drop (i + 1) es))) ≤ length (drop i es) = subst (λ (fs : Panes). length (standing_rows fs) ≤ length (drop i es)) split (few_rows (drop i es)) in
            omega (arith, few, length-drop i es, can.few, c.loop.invariant.alike.room);
      };
    }

pub loop-preserved : goal.loop-preserved
loop-preserved c =
    let es = entries_of c.args.held.now in let i : ℕ = c.loop.counter in let sorted = map.entries_sorted c.args.held.now.panes in
    let limit : ℤ = to_z w64 (of_z w64 c.args.limit) in
    let e : Place × Pane Folded = (c.in-Some.spot.place, c.pane.result) in
    let due = due (goal.at.loop-preserved c).In-Some in
    let at = there (goal.at.loop-preserved c).After-pane due in
    record {
      told = λ relation told. c.lose.ensures.told relation (standing_rows (drop (i + 1) es)) (subst (λ (fs : Panes). IsTold c.loop.streams relation (standing_rows fs)) (rest_at es i e at) (c.loop.invariant.told relation told));
      alike = record { form = c.lose.ensures.alike.form ∙ c.loop.invariant.alike.form; room = c.lose.ensures.alike.room ∙ c.loop.invariant.alike.room };
      past = c.loop.invariant.past ∙ next_goes limit es i e at (past_end limit es i e.0 sorted due);
      spot = c.next_due-next.ensures.spot;
      next = c.next_due-next.ensures.place ∙ due_behind limit es i e.0 sorted due;
    }

pub returns-in_default : goal.returns-in_default
returns-in_default c =
    let es = entries_of c.args.held.now in let i : ℕ = c.loop.counter in let sorted = map.entries_sorted c.args.held.now.panes in
    let limit : ℤ = to_z w64 (of_z w64 c.args.limit) in
    record {
      alike = c.loop.invariant.alike;
      told = λ relation told.
          let fits : SFits w64 c.args.limit = c.ranges.limit in
          let none : place_due limit (slice_get es i) ≡ None = sym c.loop.invariant.next ∙ ap place_found c.in_default.is in
          let all : left limit es ≡ drop i es = c.loop.invariant.past ∙ none_goes limit es i sorted none in
          subst (λ (fs : Panes). IsTold c.loop.streams relation (standing_rows fs)) (sym (simp to_z-of_z at all)) (c.loop.invariant.told relation told);
    }

pub returns-after-loop : goal.returns-after-loop
returns-after-loop c =
    let es = entries_of c.args.held.now in let i : ℕ = c.loop.counter in let sorted = map.entries_sorted c.args.held.now.panes in
    let limit : ℤ = to_z w64 (of_z w64 c.args.limit) in
    record {
      alike = c.loop.invariant.alike;
      told = λ relation told.
          let fits : SFits w64 c.args.limit = c.ranges.limit in
          let gone : drop i es ≡ [] = drop_all i es (omega arith) in
          let all : left limit es ≡ drop i es = c.loop.invariant.past ∙ ap (left limit) gone ∙ sym gone in
          subst (λ (fs : Panes). IsTold c.loop.streams relation (standing_rows fs)) (sym (simp to_z-of_z at all)) (c.loop.invariant.told relation told);
    }
