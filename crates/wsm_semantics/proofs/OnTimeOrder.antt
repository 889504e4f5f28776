-- What a watermark fires on time after two histories of which one is the other in another order: the
-- same, where each pane that comes to its end fires the same bag of records.
use Rattle.std.proofs.Common.{◌≡◌, ℕ, Bool, true, false, ◌&&◌, cond, List, [], ◌∷◌, map, length, ℤ, ◌+ℤ◌, Option, Some, None, refl, sym, ap, subst, ◌∙◌}
use Rattle.std.specs.Prelude.{filter, filter_map, option_map, int_lt, int_le, nat_lt}
use Rattle.std.specs.List.{AllByRecursion, cons_option}
use Rattle.wsm_record.specs.declared.event.Value.{Value}
use Rattle.wsm_record.specs.Event.{Event, Record, Watermark}
use Rattle.wsm_record.specs.declared.words.Mode.{Mode}
use Rattle.wsm_record.specs.declared.words.Mode.TheVariants.{Discarding, Accumulating, Retracting}
use Rattle.wsm_windows.specs.declared.window.PaneKind.{PaneKind}
use Rattle.wsm_windows.specs.declared.window.PaneKind.TheVariants.{Early, OnTime, Late, Final}
use Rattle.wsm_windows.specs.Life.{is_due}
use Rattle.wsm_windows.specs.Windows.{IsShape}
use Rattle.wsm_windows.specs.declared.place.Place.{Place}
use Rattle.wsm_windows.specs.Places.{window_of}
use Rattle.wsm_semantics.specs.declared.out_row.OutRow.TheVariants.{Pane}
use Rattle.wsm_semantics.specs.Query.{Datum, datum, Query, mark, selected}
use Rattle.wsm_semantics.specs.Panes.{contents, panes}
use Rattle.wsm_semantics.specs.Firings.{Firing, firing_of, firing_set, holds, is_enough, kind_on, row_of}
use Rattle.wsm_semantics.specs.Order.{judged, Permuted, IgnoresOrder, is_on_time, on_time, all_rises, InPairs, SameFiring, SameOnTime, OrderLaw}
use Rattle.wsm_semantics.proofs.Lists.{all-each, filter_map_none}
use Rattle.wsm_semantics.proofs.Each.{filter_map-map}
use Rattle.wsm_semantics.proofs.ShownPanes.{IsPane, each_pane, unshown_of, does, firings_are, kind-watermark}
use Rattle.wsm_semantics.proofs.Effects.{by_record, selects_none}
use Rattle.wsm_semantics.proofs.Turns.{panes-same}
use Rattle.wsm_semantics.proofs.ReorderedRecords.{Shuffled, Through, shuffled-sym, same_length, same_bag}
use Rattle.wsm_semantics.proofs.PanesOrder.{same_contents, same_panes}
use Rattle.wsm_semantics.proofs.ReorderedHistories.{same_mark, same_mark_after, judged_told, said_all, said_reordered, selected_said, SameRises, same_rises, pairs_each}

-- ---- lists of what is given

abbrev kept_if : {B : Type 0} → (B → Bool) → Option B → Option B
kept_if p None = None
kept_if p (Some y) = cond (p y) (Some y) None

filter-filter_map : {A B : Type 0} (p : B → Bool) (g : A → Option B) (xs : List A) → filter p (filter_map g xs) ≡ filter_map (λ x. kept_if p (g x)) xs
filter-filter_map p g [] = refl
filter-filter_map p g (x ∷ xs) =
    elim (g x) as (λ o. filter p (cons_option o (filter_map g xs)) ≡ cons_option (kept_if p o) (filter_map (λ y. kept_if p (g y)) xs)) [
      | None ↦ filter-filter_map p g xs
      | Some y ↦ elim (p y) as (λ b. cond b (y ∷ filter p (filter_map g xs)) (filter p (filter_map g xs)) ≡ cons_option (cond b (Some y) None) (filter_map (λ z. kept_if p (g z)) xs)) [
        | true ↦ ap (λ ys. y ∷ ys) (filter-filter_map p g xs)
        | false ↦ filter-filter_map p g xs
      ]
    ]

-- both nothing, or related
abbrev BothOr : {B C : Type 0} → (B → C → Type 0) → Option B → Option C → Type 0
BothOr R None None = Unit {0}
BothOr R None (Some z) = ⊥
BothOr R (Some y) None = ⊥
BothOr R (Some y) (Some z) = R y z

pairs_given : {A B C : Type 0} (R : B → C → Type 0) (f : A → Option B) (g : A → Option C) (xs : List A) → AllByRecursion (λ x. BothOr R (f x) (g x)) xs → InPairs R (filter_map f xs) (filter_map g xs)
pairs_given R f g [] h = tt
pairs_given R f g (x ∷ xs) h =
    elim (f x) as (λ o. BothOr R o (g x) → InPairs R (cons_option o (filter_map f xs)) (cons_option (g x) (filter_map g xs))) [
      | None ↦ elim (g x) as (λ m. BothOr R None m → InPairs R (filter_map f xs) (cons_option m (filter_map g xs))) [
        | None ↦ λ _. pairs_given R f g xs h.1
        | Some z ↦ λ k. absurd k
      ]
      | Some y ↦ elim (g x) as (λ m. BothOr R (Some y) m → InPairs R (y ∷ filter_map f xs) (cons_option m (filter_map g xs))) [
        | None ↦ λ k. absurd k
        | Some z ↦ λ k. (k, pairs_given R f g xs h.1)
      ]
    ] h.0

-- ---- what fires on time

-- what a pane's row is computed over
abbrev pub set_of : Query → List Event → Place × List Datum → List Datum
set_of q past x = firing_set q.mode x.1 (unshown_of q past x.0 x.1)

abbrev firing_on_time : ℕ → Place → List Datum → List Datum → Firing
firing_on_time n p all set = record { turn = n; kind = OnTime; place = p; contents = all; fired = set }

-- what fires on time where the pane comes to its end
abbrev timely_by : ℕ → Bool → Place → List Datum → List Datum → Option Firing
timely_by n due p all set = cond (due && nat_lt 0 (length set)) (Some (firing_on_time n p all set)) None

-- what a pane fires on time
abbrev timely : Query → List Event → Event → Place × List Datum → Option Firing
timely q past e x = timely_by (length past) (is_due (window_of x.0) (mark q past) (mark q (e ∷ past))) x.0 x.1 (set_of q past x)

picks : (n : ℕ) (due last : Bool) (p : Place) (all set : List Datum) →
    kept_if (λ f. is_on_time f.kind) (firing_of n p all set (cond due (Some OnTime) (cond last (Some Final) None)))
    ≡ cond due (Some (record { turn = n; kind = OnTime; place = p; contents = all; fired = set })) None
picks n true last p all set = refl
picks n false true p all set = refl
picks n false false p all set = refl

on_time_is : (q : Query) (past : List Event) (o : Option ℕ) (t : ℤ) → on_time q past (Watermark o t) ≡ filter_map (timely q past (Watermark o t)) (panes q past)
on_time_is q past o t =
    let w : Event = Watermark o t in
    ap (filter (λ f. is_on_time f.kind)) (firings_are q past w ∙ ap (filter_map (does q past w)) (panes-same q past w (selects_none q past o t)))
    ∙ filter-filter_map (λ f. is_on_time f.kind) (does q past w) (panes q past)
    ∙ ap (λ (g : Place × List Datum → Option Firing). filter_map g (panes q past)) (λ i x. (ap (λ (k : Option PaneKind). kept_if (λ f. is_on_time f.kind) (firing_of (length past) x.0 x.1 (set_of q past x) k)) (kind-watermark q past o t x.0 x.1) ∙ picks (length past)
    (is_due (window_of x.0) (mark q past) (mark q (w ∷ past)) && nat_lt 0 (length (set_of q past x)))
    ((int_lt (mark q past) (x.0.end +ℤ q.clock.lateness) && int_le (x.0.end +ℤ q.clock.lateness) (mark q (w ∷ past))) && nat_lt 0 (length (unshown_of q past x.0 x.1)))
    x.0 x.1 (set_of q past x)) i)

-- a record fires nothing on time
not_on_time : (n : ℕ) (has later early late : Bool) (p : Place) (all set : List Datum) →
    kept_if (λ f. is_on_time f.kind) (firing_of n p all set (cond has (cond later (cond early (Some Early) None) (cond late (Some Late) None)) None)) ≡ None
not_on_time n false later early late p all set = refl
not_on_time n true true true late p all set = refl
not_on_time n true true false late p all set = refl
not_on_time n true false early true p all set = refl
not_on_time n true false early false p all set = refl

none_on_time : (q : Query) (past : List Event) (k : Option ℕ) (t : ℤ) (vs : List Value) → on_time q past (Record k t vs) ≡ []
none_on_time q past k t vs =
    let e : Event = Record k t vs in
    ap (filter (λ f. is_on_time f.kind)) (firings_are q past e)
    ∙ filter-filter_map (λ f. is_on_time f.kind) (does q past e) (panes q (e ∷ past))
    ∙ filter_map_none (λ x. kept_if (λ f. is_on_time f.kind) (does q past e x)) (panes q (e ∷ past)) (λ x.
    let unshown : List Datum = unshown_of q past x.0 x.1 in
    by_record q past (λ y. kept_if (λ f. is_on_time f.kind) (firing_of (length past) x.0 x.1 (set_of q past x) (kind_on q y x.0 x.1 unshown)) ≡ None)
    refl
    (λ k t vs. not_on_time (length past) (holds (datum (length past) (mark q past) k t vs) x.1) (int_lt (mark q past) x.0.end) (is_enough q.early (length unshown)) (is_enough q.late (length unshown)) x.0 x.1 (set_of q past x))
    k t vs)

both_timely : (m n : ℕ) (later by : Bool) (p : Place) (all set all_other set_other : List Datum) → Shuffled all all_other → (later ≡ true → Shuffled set set_other) →
    BothOr SameFiring (timely_by m (later && by) p all set) (timely_by n (later && by) p all_other set_other)
both_timely m n false by p all set all_other set_other h k = tt
both_timely m n true false p all set all_other set_other h k = tt
both_timely m n true true p all set all_other set_other h k =
    subst (λ (c : ℕ). BothOr SameFiring (timely_by m true p all set) (cond (nat_lt 0 c) (Some (firing_on_time n p all_other set_other)) None)) (same_length set set_other (k refl))
    (elim (nat_lt 0 (length set)) as (λ b. BothOr SameFiring (cond b (Some (firing_on_time m p all set)) None) (cond b (Some (firing_on_time n p all_other set_other)) None)) [
      | true ↦ record { kind = refl; place = refl; contents = same_bag all all_other h; fired = same_bag set set_other (k refl) }
      | false ↦ tt
    ])

-- the rows of firings that are the same
same_rows : (q : Query) → IgnoresOrder q → (fs gs : List Firing) → InPairs SameFiring fs gs → filter_map (row_of q) fs ≡ filter_map (row_of q) gs
same_rows q ignores [] [] h = refl
same_rows q ignores [] (g ∷ gs) h = absurd h
same_rows q ignores (f ∷ fs) [] h = absurd h
same_rows q ignores (f ∷ fs) (g ∷ gs) h =
    let kind = h.0.kind in
    let place = h.0.place in
    let row = ap (λ (p : Place). q.row p.key f.fired) place ∙ ignores g.place.key f.fired g.fired h.0.fired in
    λ i. cons_option (option_map (Pane (kind i) (place i).key (window_of (place i))) (row i)) (same_rows q ignores fs gs h.1 i)

module _ (q : Query) (ok : IsShape q.shape) where
  -- the selected records are the same bag
  pub same_selected : (past other : List Event) → Permuted q past other → Shuffled (selected q past) (selected q other)
  same_selected past other r =
      Through (selected q past) (said_all q (judged q past)) (selected q other) (selected_said q past)
      (Through (said_all q (judged q past)) (said_all q (judged q other)) (selected q other) (said_reordered q (judged q past) (judged q other) r (judged_told q past)) (shuffled-sym (selected q other) (said_all q (judged q other)) (selected_said q other)))

  -- each pane that ends after the watermark has the same bag to fire
  abbrev pub FiresSame : List Event → List Event → Type 0
  FiresSame past other = (p : Place) → int_lt (mark q past) p.end ≡ true → Shuffled (set_of q past (p, contents q past p)) (set_of q other (p, contents q other p))

  -- what a pane of the other history fires on time, between two marks
  abbrev at_marks : ℤ × ℤ → List Event → Place → Option Firing
  at_marks ms other p = timely_by (length other) (is_due (window_of p) ms.0 ms.1) p (contents q other p) (set_of q other (p, contents q other p))

  module _ (past other : List Event) (r : Permuted q past other) (same : FiresSame past other) where
    module _ (o : Option ℕ) (t : ℤ) where
      abbrev w : Event
      w = Watermark o t

      fires_both : (p : Place) → BothOr SameFiring (timely q past w (p, contents q past p)) (timely q other w (p, contents q other p))
      fires_both p =
          subst (λ (ms : ℤ × ℤ). BothOr SameFiring (timely q past w (p, contents q past p)) (at_marks ms other p)) (λ i. (same_mark q past other r i, same_mark_after q past other w r i))
          (both_timely (length past) (length other) (int_lt (mark q past) p.end) (int_le p.end (mark q (w ∷ past))) p _ _ _ _ (same_contents q p (selected q past) (selected q other) (same_selected past other r)) (same p))

      each_fires : (x : Place × List Datum) → IsPane q past x → BothOr SameFiring (timely q past w x) (timely q other w (x.0, contents q other x.0))
      each_fires x pane = subst (λ (all : List Datum). BothOr SameFiring (timely q past w (x.0, all)) (timely q other w (x.0, contents q other x.0))) (sym pane.0) (fires_both x.0)

      same_at_watermark : InPairs SameFiring (on_time q past w) (on_time q other w)
      same_at_watermark =
          let other_panes : panes q other ≡ map (λ x. (x.0, contents q other x.0)) (panes q past) = same_panes q ok (selected q past) (selected q other) (same_selected past other r) in
          let other_is : on_time q other w ≡ filter_map (λ x. timely q other w (x.0, contents q other x.0)) (panes q past) =
          on_time_is q other o t ∙ ap (filter_map (timely q other w)) other_panes ∙ filter_map-map (timely q other w) (λ x. (x.0, contents q other x.0)) (panes q past) in
          subst (λ (fs : List Firing). InPairs SameFiring fs (on_time q other w)) (sym (on_time_is q past o t))
          (subst (InPairs SameFiring (filter_map (timely q past w) (panes q past))) (sym other_is)
          (pairs_given SameFiring (timely q past w) (λ x. timely q other w (x.0, contents q other x.0)) (panes q past)
          (all-each (IsPane q past) (λ x. BothOr SameFiring (timely q past w x) (timely q other w (x.0, contents q other x.0))) (panes q past) each_fires (each_pane q past))))

    pub same_on_time : (e : Event) → InPairs SameFiring (on_time q past e) (on_time q other e)
    same_on_time (Watermark o t) = same_at_watermark o t
    same_on_time (Record k t vs) =
        subst (λ (fs : List Firing). InPairs SameFiring fs (on_time q other (Record k t vs))) (sym (none_on_time q past k t vs))
        (subst (InPairs SameFiring []) (sym (none_on_time q other k t vs)) tt)

  -- where panes fire the same bags, the law of order holds
  pub order_law : ((past other : List Event) → Permuted q past other → FiresSame past other) → IgnoresOrder q → OrderLaw q
  order_law same ignores past other r =
      pairs_each (SameRises q) (SameOnTime q)
      (λ a b is.
      let fires : InPairs SameFiring (on_time q a.0 a.1) (on_time q b.0 b.1) =
      subst (λ (e : Event). InPairs SameFiring (on_time q a.0 a.1) (on_time q b.0 e)) is.1 (same_on_time a.0 b.0 is.0 (same a.0 b.0 is.0) a.1) in
      record {
        event = is.1;
        mark = same_mark_after q a.0 b.0 a.1 is.0 ∙ ap (λ (e : Event). mark q (e ∷ b.0)) is.1;
        firings = fires;
        rows = same_rows q ignores (on_time q a.0 a.1) (on_time q b.0 b.1) fires;
      })
      (all_rises q past) (all_rises q other) (same_rises q past other r)

-- in accumulating mode panes fire all of their records, and so in retracting mode
abbrev pub FiresAll : Mode → Type 0
FiresAll Discarding = ⊥
FiresAll Accumulating = Unit {0}
FiresAll Retracting = Unit {0}

pub fires_all : (q : Query) → FiresAll q.mode → (ok : IsShape q.shape) → (past other : List Event) → Permuted q past other → FiresSame q ok past other
fires_all q fires ok past other r p _ = by_mode q.mode fires where
  by_mode : (m : Mode) → FiresAll m → Shuffled (firing_set m (contents q past p) (unshown_of q past p (contents q past p))) (firing_set m (contents q other p) (unshown_of q other p (contents q other p)))
  by_mode Discarding h = absurd h
  by_mode Accumulating h = same_contents q p (selected q past) (selected q other) (same_selected q ok past other r)
  by_mode Retracting h = same_contents q p (selected q past) (selected q other) (same_selected q ok past other r)
