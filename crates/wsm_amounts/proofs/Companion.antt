-- The query that discards, with what a record comes to as its one column: it selects the same records, so its panes are the same; and
-- where windows don't merge, what it writes of some windows that were dropped is what the records of their panes come to.
use Rattle.std.proofs.Common.{◌≡◌, ℕ, Bool, true, false, ◌&&◌, cond, List, [], ◌∷◌, ◌++◌, map, ℤ, pos, ◌+ℤ◌, Some, None, refl, sym, ap, ◌∙◌}
use Rattle.std.proofs.lemmas.Bool.{and_parts, and_from}
use Rattle.std.specs.List.{list_any}
use Rattle.std.specs.Ordering.{eq_by_cmp}
use Rattle.wsm_record.specs.declared.cell.Cell.TheVariants as cells
use Rattle.wsm_record.specs.declared.words.Mode.TheVariants.{Discarding}
use Rattle.wsm_record.specs.declared.words.Form.TheVariants.{Panes}
use Rattle.wsm_record.specs.Event.{Event, Record, Watermark}
use Rattle.wsm_windows.specs.Windows.{IsShape}
use Rattle.wsm_windows.specs.declared.place.Place.{Place}
use Rattle.wsm_windows.specs.Places.{place_cmp, window_of}
use Rattle.wsm_windows.proofs.Places.{tie_is}
use Rattle.wsm_semantics.specs.Query.{Query, Datum, SessionsByEvent, mark, selected, selection_of}
use Rattle.wsm_semantics.specs.Panes.{contents, panes, places}
use Rattle.wsm_semantics.specs.Firings.{Firing, firings_so_far}
use Rattle.wsm_semantics.specs.FromWatermark.{HasNoSessions}
use Rattle.wsm_semantics.specs.Amounts.{sum_of, amount_written, Amount, amount_of, AddsAmounts, AmountsAddUp}
use Rattle.wsm_semantics.proofs.Lists.{all-each}
use Rattle.wsm_semantics.proofs.Decided.{no_less}
use Rattle.wsm_semantics.proofs.Tables.{among, is_sorted-with_contents}
use Rattle.wsm_semantics.proofs.Assigned.{IsAssigned, tied}
use Rattle.wsm_semantics.proofs.AssignedStep.{grid_of}
use Rattle.wsm_semantics.proofs.Each.{as_true, all-any, list_any-more, same_answers, some_of}
use Rattle.wsm_semantics.proofs.PanesOrder.{contents_of, panes_of, places_of}
use Rattle.wsm_semantics.proofs.ShownPanes.{IsPane, each_pane, found}
use Rattle.wsm_semantics.proofs.FiringsSoFar.{IsFiring, each_firing}
use Rattle.wsm_semantics.proofs.FiredOnce.{sorted_distinct}
use Rattle.wsm_semantics.proofs.StandsTurn.{AreDistinct}
use Rattle.wsm_semantics.proofs.AssignedTurns.{same_shown}
use Rattle.wsm_semantics.proofs.KeptLaw as kept_law
use Rattle.wsm_semantics.proofs.Sums.{sum_of-each, sum_of-none}
use Rattle.wsm_semantics.proofs.Amounts.{fired_sum, written_sum}
use Rattle.wsm_amounts.proofs.Sums.{sum_of-one, sum_of-turned}
use Rattle.wsm_amounts.proofs.WholePanes.{AreGone, pane_amount}

-- ---- the panes of a query are distinct

pub distinct_panes : (q : Query) (past : List Event) → AreDistinct (map (λ x. x.0) (panes q past))
distinct_panes q past = sorted_distinct (panes q past) (as_true _ (is_sorted-with_contents (contents q past) (places q past)))

-- the pane at a place
pub at_place : (q : Query) (past : List Event) (p : Place) (z : ℤ) → sum_of (λ x. cond (eq_by_cmp place_cmp p x.0) z (pos 0)) (panes q past) ≡ cond (list_any (λ x. eq_by_cmp place_cmp p x.0) (panes q past)) z (pos 0)
at_place q past p z =
    sum_of-one (IsPane q past) (λ x. eq_by_cmp place_cmp p x.0) z (λ x y _ _ h k. sym (tie_is p x.0 h) ∙ tie_is p y.0 k) (panes q past) (each_pane q past) (distinct_panes q past)

-- ---- a query that discards

module _ (q : Query) (ok : IsShape q.shape) (timely : SessionsByEvent q) (assigned : IsAssigned q.shape) (discarding : q.mode ≡ Discarding) (panes_alone : q.form ≡ Panes) (c : ℕ) (amount : Amount) (adds : AddsAmounts q c amount)
    (law : AmountsAddUp q c amount) (none : HasNoSessions q) (past : List Event) (here : Place → Bool) where
  abbrev f : Datum → ℤ
  f = amount_of amount

  -- a pane of these windows, at the place of a firing
  abbrev meets : Firing → Place × List Datum → Bool
  meets g x = here x.0 && eq_by_cmp place_cmp x.0 g.place

  found_here : (g : Firing) → IsFiring q past g → list_any (meets g) (panes q past) ≡ here g.place
  found_here g h =
      let at_home : h.home ≡ g.place = same_shown q.shape assigned h.home g.place h.shown in
      let placed : among g.place (places q past) ≡ true = ap (λ (p : Place). among p (places q past)) (sym at_home) ∙ h.placed in
      same_answers (list_any (meets g) (panes q past)) (here g.place)
      (λ k.
      let (x, _, both) = some_of (IsPane q past) (meets g) (panes q past) (each_pane q past) k in
      let parts = and_parts (here x.0) (eq_by_cmp place_cmp x.0 g.place) both in
      ap here (sym (tie_is x.0 g.place parts.1)) ∙ parts.0)
      (λ k.
      list_any-more (IsPane q past) (λ x. eq_by_cmp place_cmp g.place x.0) (meets g)
      (λ x _ tie. and_from (here x.0) (eq_by_cmp place_cmp x.0 g.place) (ap here (sym (tie_is g.place x.0 tie)) ∙ k) (tied x.0 g.place (sym (tie_is g.place x.0 tie))))
      (panes q past) (each_pane q past) (found q past g.place placed))

  one_firing : (g : Firing) → IsFiring q past g → fired_sum f here g ≡ sum_of (λ x. cond (meets g x) (sum_of f g.fired) (pos 0)) (panes q past)
  one_firing g h =
      sym
      (sum_of-one (IsPane q past) (meets g) (sum_of f g.fired)
      (λ x y _ _ k l. tie_is x.0 g.place (and_parts (here x.0) _ k).1 ∙ sym (tie_is y.0 g.place (and_parts (here y.0) _ l).1)) (panes q past) (each_pane q past) (distinct_panes q past)
      ∙ ap (λ (b : Bool). cond b (sum_of f g.fired) (pos 0)) (found_here g h))

  -- the firings of a pane
  of_pane : (x : Place × List Datum) → AreGone q past here → IsPane q past x → sum_of (λ g. cond (meets g x) (sum_of f g.fired) (pos 0)) (firings_so_far q past) ≡ pane_amount amount here x
  of_pane x gone is =
      elim (here x.0) as (λ b. here x.0 ≡ b → sum_of (λ g. cond (b && eq_by_cmp place_cmp x.0 g.place) (sum_of f g.fired) (pos 0)) (firings_so_far q past) ≡ cond b (sum_of f x.1) (pos 0)) [
        | true ↦ λ h.
            let grid = grid_of q ok assigned past x.0 is.1 in
            sym (written_sum q c amount adds (eq_by_cmp place_cmp x.0) panes_alone discarding past)
            ∙ (law.windows none past x.0.key grid.0 (window_of x.0) grid.1).dropped (no_less (mark q past) (x.0.end +ℤ q.clock.lateness) (gone x is h))
            ∙ ap (sum_of f) (sym is.0)
        | false ↦ λ _. sum_of-none (firings_so_far q past)
      ] refl

  pub of_discarding : AreGone q past here → amount_written q past c here ≡ sum_of (pane_amount amount here) (panes q past)
  of_discarding gone =
      written_sum q c amount adds here panes_alone discarding past
      ∙ sum_of-each (fired_sum f here) (λ g. sum_of (λ x. cond (meets g x) (sum_of f g.fired) (pos 0)) (panes q past)) (firings_so_far q past)
      (all-each (IsFiring q past) (λ g. fired_sum f here g ≡ sum_of (λ x. cond (meets g x) (sum_of f g.fired) (pos 0)) (panes q past)) (firings_so_far q past) one_firing (each_firing q (kept_law.places q ok timely) past))
      ∙ sum_of-turned (λ g x. cond (meets g x) (sum_of f g.fired) (pos 0)) (firings_so_far q past) (panes q past)
      ∙ sum_of-each (λ x. sum_of (λ g. cond (meets g x) (sum_of f g.fired) (pos 0)) (firings_so_far q past)) (pane_amount amount here) (panes q past)
      (all-each (IsPane q past) (λ x. sum_of (λ g. cond (meets g x) (sum_of f g.fired) (pos 0)) (firings_so_far q past) ≡ pane_amount amount here x) (panes q past) (λ x is. of_pane x gone is) (each_pane q past))

-- ---- the query that discards beside another

abbrev pub discarded : Query → Amount → Query
discarded q amount = record q { mode = Discarding; form = Panes; row = λ key ds. Some (cells.Int (sum_of (amount_of amount) ds) ∷ []) }

pub discarded_adds : (q : Query) (amount : Amount) → AddsAmounts (discarded q amount) 0 amount
discarded_adds q amount past e = all-any _ (λ f. refl) _

selects_same : (q : Query) (amount : Amount) (past : List Event) (e : Event) → selection_of (discarded q amount) past e ≡ selection_of q past e
selects_same q amount past (Record None time values) = refl
selects_same q amount past (Record (Some key) time values) = refl
selects_same q amount past (Watermark source time) = refl

pub selected_same : (q : Query) (amount : Amount) (past : List Event) → selected (discarded q amount) past ≡ selected q past
selected_same q amount [] = refl
selected_same q amount (e ∷ past) = λ i. selects_same q amount past e i ++ selected_same q amount past i

pub panes_same : (q : Query) (amount : Amount) (past : List Event) → panes (discarded q amount) past ≡ panes q past
panes_same q amount past = ap (panes_of q) (selected_same q amount past)

pub contents_same : (q : Query) (amount : Amount) (past : List Event) (p : Place) → contents (discarded q amount) past p ≡ contents q past p
contents_same q amount past p = ap (λ (ds : List Datum). contents_of q ds p) (selected_same q amount past)

pub places_same : (q : Query) (amount : Amount) (past : List Event) → places (discarded q amount) past ≡ places q past
places_same q amount past = ap (places_of q.shape q.clock.lateness) (selected_same q amount past)
