-- What is kept of a history is kept of it without records whose windows were dropped, at other turns.
use Rattle.std.proofs.Common.{◌≡◌, ℕ, Bool, true, false, cond, List, [], ◌∷◌, map, ℤ, pos, ◌≤ℤ◌, Option, Some, None, refl, sym, ap, subst, ◌∙◌}
use Rattle.std.specs.Prelude.{filter, option_map}
use Rattle.std.specs.List.{AllByRecursion}
use Rattle.wsm_record.specs.declared.words.Mode.{Mode}
use Rattle.wsm_record.specs.Modes.{is_over_all}
use Rattle.wsm_record.specs.Event.{Event, Record}
use Rattle.wsm_windows.specs.Windows.{IsShape}
use Rattle.wsm_windows.specs.declared.place.Place.{Place}
use Rattle.wsm_semantics.specs.Query.{Datum, Query, SessionsByEvent, mark}
use Rattle.wsm_semantics.specs.Panes.{held, is_live_at, panes}
use Rattle.wsm_semantics.specs.Firings as Firings
use Rattle.wsm_semantics.specs.Firings.{firing_set, firings_so_far}
use Rattle.wsm_semantics.specs.StandingFirings.{candidates, greatest_of}
use Rattle.wsm_semantics.specs.Kept.{Stands, Unfired, Firing, Joined, Kept, stands_by, stands_in, kept_in, kept}
use Rattle.wsm_semantics.specs.Summaries as tables
use Rattle.wsm_semantics.specs.Summaries.{Plan, with_folded, columns, kept_window, folded_of, standing_of, pane_of, summaries}
use Rattle.wsm_semantics.specs.ByKey.{at_turn, pane_at, firing_at}
use Rattle.wsm_semantics.specs.FromWatermark.{begun_at, Step, Times, whole, rest, is_beyond, MayLeaveOut, IsSettled}
use Rattle.wsm_semantics.proofs.Lists.{all-each, filter-all, length_each}
use Rattle.wsm_semantics.proofs.Each.{map-each, map-map}
use Rattle.wsm_semantics.proofs.ShownPanes.{IsPane, each_pane, unshown_of}
use Rattle.wsm_semantics.proofs.Moves.{Own, greatest_moved}
use Rattle.wsm_semantics.proofs.Counted.{is_pane_at}
use Rattle.wsm_semantics.proofs.ImageFirings.{Image, IsOfBoth, of_both, unshown_alike}
use Rattle.wsm_semantics.proofs.ImageStanding.{Told, candidates_alike, held_alike}
use Rattle.wsm_semantics.proofs.StepTurns.{turn}
use Rattle.wsm_semantics.proofs.StepImage.{Lacks, begun, image_at, told_at}
use Rattle.wsm_semantics.proofs.LaterTurns.{is_new}
use Rattle.wsm_semantics.proofs.LaterFirings.{WithRoom, lacks_old}
use Rattle.wsm_semantics.proofs.LaterSettled.{held_settled, live_late}
use Rattle.wsm_semantics.proofs.LaterLaw.{beyond_serves, beyond_live}

-- ---- at other turns

module _ (f : ℕ → ℕ) where
  abbrev stands_at : Stands → Stands
  stands_at Unfired = Unfired
  stands_at (Firing window fired) = Firing window (map (at_turn f) fired)
  stands_at Joined = Joined

  abbrev kept_at : Kept → Kept
  kept_at h = record { all = map (at_turn f) h.all; unshown = map (at_turn f) h.unshown; stands = stands_at h.stands }

  stands_turned : (gs : List Firings.Firing) (o : Option Firings.Firing) → stands_by (map (firing_at f) gs) (option_map (firing_at f) o) ≡ stands_at (stands_by gs o)
  stands_turned [] o = refl
  stands_turned (g ∷ gs) None = refl
  stands_turned (g ∷ gs) (Some h) = refl

  -- which are folded to the same
  module _ {X : Type 0} (plan : Plan X) (mode : Mode) where
    more_turned : (d : Datum) (o : Option X) → with_folded plan (at_turn f d) o ≡ with_folded plan d o
    more_turned d None = refl
    more_turned d (Some x) = refl

    folded_turned : (ds : List Datum) → folded_of plan (map (at_turn f) ds) ≡ folded_of plan ds
    folded_turned [] = refl
    folded_turned (d ∷ ds) = ap (λ (o : Option X). Some (with_folded plan (at_turn f d) o)) (folded_turned ds) ∙ ap Some (more_turned d (folded_of plan ds))

    standing_turned : (key : ℕ) (s : Stands) → standing_of plan mode key (stands_at s) ≡ standing_of plan mode key s
    standing_turned key Unfired = refl
    standing_turned key (Firing window fired) = λ i. tables.Row (kept_window mode window) (columns plan key (length_each (at_turn f) fired i) (folded_turned fired i))
    standing_turned key Joined = refl

    firing_set_turned : (mode : Mode) (all unshown : List Datum) → firing_set mode (map (at_turn f) all) (map (at_turn f) unshown) ≡ map (at_turn f) (firing_set mode all unshown)
    firing_set_turned mode all unshown = elim (is_over_all mode) as (λ b. cond b (map (at_turn f) all) (map (at_turn f) unshown) ≡ map (at_turn f) (cond b all unshown)) [ true ↦ refl | false ↦ refl ]

    pane_turned : (key : ℕ) (h : Kept) → pane_of plan mode key (kept_at h) ≡ pane_of plan mode key h
    pane_turned key h = λ i. record {
      count = length_each (at_turn f) h.all i;
      unshown = length_each (at_turn f) h.unshown i;
      folded = (ap (folded_of plan) (firing_set_turned mode h.all h.unshown) ∙ folded_turned (firing_set mode h.all h.unshown)) i;
      stands = standing_turned key h.stands i;
    }

    summaries_turned : (es : List (Place × Kept)) → summaries plan mode (map (λ e. (e.0, kept_at e.1)) es) ≡ summaries plan mode es
    summaries_turned [] = refl
    summaries_turned (e ∷ es) = λ i. (e.0, pane_turned e.0.key e.1 i) ∷ summaries_turned es i

-- ---- where what was left out is settled

module _ (q : Query) (ok : IsShape q.shape) (timely : SessionsByEvent q) (low : pos 0 ≤ℤ q.clock.lateness) (records : ℤ) (x : Times) (steps : List Step) (may : MayLeaveOut q q.clock.start records x steps) (settled : IsSettled q x (mark q (whole steps []))) where
  abbrev start : ℤ
  start = q.clock.start

  abbrev anew : Query
  anew = begun_at start records q

  abbrev late : Place → Bool
  late = is_beyond x

  abbrev May : List Step → Type 0
  May = MayLeaveOut q start records x

  abbrev H : List Event
  H = whole steps []

  abbrev R : List Event
  R = rest steps []

  abbrev f : ℕ → ℕ
  f = turn [] [] 0 steps

  abbrev MayHere : List Step → Type 0
  MayHere = WithRoom q start records May [] []

  lacks : Lacks q start records late (is_new x) MayHere [] [] 0
  lacks = lacks_old q ok timely start records x late May [] [] 0 (beyond_serves q ok records x)

  abbrev o : Own
  o = begun q start records

  abbrev here : Image q o
  here = image_at q start records late (is_new x) MayHere [] [] 0 lacks steps

  both : Told q o here H R
  both = told_at q start records late (is_new x) MayHere [] [] 0 lacks steps (may, may.2)

  -- an event that does nothing
  abbrev idle : Event
  idle = Record None (pos 0) []

  kept_same : (y : Place × List Datum) → IsOfBoth q o here H R y → kept_in q H (pane_at f y) ≡ (y.0, kept_at f (kept_in anew R y).1)
  kept_same y is =
      let gs : List Firings.Firing = candidates anew y.0 y.1 (firings_so_far anew R) in
      let unshown : unshown_of q H y.0 (map (at_turn f) y.1) ≡ map (at_turn f) (unshown_of anew R y.0 y.1) =
      unshown_alike q o here H R both.fired idle idle y (record { counts = is.counts; counts_there = is.counts_there; first = is.first; second = is.second }) in
      let stands : stands_in q H y.0 (map (at_turn f) y.1) ≡ stands_at f (stands_in anew R y.0 y.1) =
      ap (λ (fs : List Firings.Firing). stands_by fs (greatest_of fs)) (candidates_alike q o here H R both.fired y is)
      ∙ ap (stands_by (map (firing_at f) gs)) (greatest_moved here.moves gs)
      ∙ stands_turned f gs (greatest_of gs) in
      λ i. (y.0, record { all = map (at_turn f) y.1; unshown = unshown i; stands = stands i })

  pub kept_settled : kept q H ≡ map (λ e. (e.0, kept_at f e.1)) (kept anew R)
  kept_settled =
      let ys : List (Place × List Datum) = held anew R in
      let late_anew : filter (is_pane_at late) ys ≡ ys =
      live_late anew late R (mark anew R) ((beyond_live q ok records x).second steps may (mark anew R) (subst (IsSettled q x) (sym both.marks) settled)) in
      let each : AllByRecursion (IsOfBoth q o here H R) (filter (is_pane_at late) ys) =
      of_both q o here H R (held q H) ys (held_alike q o here H R both)
      (filter-all (IsPane q H) (λ y. is_live_at q (mark q H) y.0) (panes q H) (each_pane q H)) (filter-all (IsPane anew R) (λ y. is_live_at anew (mark anew R) y.0) (panes anew R) (each_pane anew R)) in
      ap (map (kept_in q H)) (held_settled q ok timely low start records x late May [] [] 0 (beyond_serves q ok records x) (beyond_live q ok records x) steps (may, may.2) settled)
      ∙ map-map (kept_in q H) (pane_at f) ys
      ∙ map-each (λ y. kept_in q H (pane_at f y)) (λ y. (y.0, kept_at f (kept_in anew R y).1)) ys
      (all-each (IsOfBoth q o here H R) (λ y. kept_in q H (pane_at f y) ≡ (y.0, kept_at f (kept_in anew R y).1)) ys kept_same (subst (AllByRecursion (IsOfBoth q o here H R)) late_anew each))
      ∙ sym (map-map (λ e. (e.0, kept_at f e.1)) (kept_in anew R) ys)

  pub summaries_settled : {X : Type 0} (plan : Plan X) → summaries plan q.mode (kept q H) ≡ summaries plan q.mode (kept anew R)
  summaries_settled plan = ap (summaries plan q.mode) kept_settled ∙ summaries_turned f plan q.mode (kept anew R)
