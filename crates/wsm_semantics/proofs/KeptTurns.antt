-- What is kept after a turn and what fires, of any query: by what was kept of the held panes. What does
-- nothing leaves what is kept.
use Rattle.std.proofs.Common.{◌≡◌, ℕ, ◌<◌, Bool, true, false, ◌&&◌, ◌||◌, not, List, [], ◌∷◌, ◌++◌, map, length, ℤ, ◌+ℤ◌, Option, Some, None, refl, sym, ap, ◌∙◌, append-nil}
use Rattle.std.proofs.lemmas.Bool.{and_parts}
use Rattle.std.specs.Prelude.{filter, nat_eq, int_lt}
use Rattle.std.specs.List.{AllByRecursion, list_any}
use Rattle.std.proofs.Math.Bool.{or-false}
use Rattle.wsm_record.specs.declared.event.Value.{Value}
use Rattle.wsm_record.specs.declared.words.Mode.{Mode}
use Rattle.wsm_record.specs.Event.{Event, Record}
use Rattle.wsm_windows.specs.declared.window.PaneKind.{PaneKind}
use Rattle.wsm_windows.specs.declared.place.Place.{Place}
use Rattle.wsm_windows.specs.declared.window.Shape.{Shape}
use Rattle.wsm_windows.specs.declared.window.Shape.TheVariants.{Fixed, Sliding, Session}
use Rattle.wsm_windows.specs.Places.{window_of}
use Rattle.wsm_admission.specs.Clock.{admitted_count, is_late, is_late_by}
use Rattle.wsm_admission.proofs.Taken.{taken_record}
use Rattle.wsm_semantics.specs.Query.{Query, Datum, SessionsByEvent, Nothing, effect_of, selection, mark, verdict_on, datum}
use Rattle.wsm_semantics.specs.Panes.{places, is_there, stands_in as is_inside, contents, panes, held, is_live_at}
use Rattle.wsm_semantics.specs.Firings.{Firing, firings, firings_so_far, firing_of, firing_set, holds, is_shown, shows}
use Rattle.wsm_semantics.specs.StandingFirings.{candidates, greatest_of}
use Rattle.wsm_semantics.specs.Kept.{Kept, kept, kept_in, fires, fired_kept, all_fired, stands_by, stands_in}
use Rattle.wsm_semantics.proofs.Lists.{filter-all, all-each, filter_same}
use Rattle.wsm_semantics.proofs.Tables.{among, kept_of}
use Rattle.wsm_semantics.proofs.Each.{all-any, map-each, map-map, filter_map-each, filter_map-filter, filter_map-map, list_any-none}
use Rattle.wsm_semantics.proofs.MergedRecords.{Below, unlike}
use Rattle.wsm_semantics.proofs.LiveRecords.{live_inside}
use Rattle.wsm_semantics.proofs.Effects.{nothing_stays}
use Rattle.wsm_semantics.proofs.Turns.{held-same, firings-nothing}
use Rattle.wsm_semantics.proofs.ShownPanes.{IsPane, each_pane, does, firings_are, kind_of, unshown_of, unshown_by, unshown-after}
use Rattle.wsm_semantics.proofs.FiringsSoFar.{PlacesLaw, shows_own}
use Rattle.wsm_semantics.proofs.StandsTurn.{stands-after}

-- what a pane keeps, by its parts
pub kept_is : (h g : Kept) → h.all ≡ g.all → h.unshown ≡ g.unshown → h.stands ≡ g.stands → h ≡ g
kept_is h g all unshown stands i = record { all = all i; unshown = unshown i; stands = stands i }

fired_is : (mode : Mode) (p : Place) (k : Option PaneKind) (h g : Kept) → g.all ≡ h.all → g.unshown ≡ unshown_by k h.unshown → g.stands ≡ (fired_kept mode p k h).stands → g ≡ fired_kept mode p k h
fired_is mode p None h g all unshown stands = kept_is g h all unshown stands
fired_is mode p (Some k) h g all unshown stands = kept_is g (fired_kept mode p (Some k) h) all unshown stands

module _ (q : Query) (law : PlacesLaw q) (past : List Event) (e : Event) where
  kept_at : (p : Place) → among p (places q (e ∷ past)) ≡ true → let c = contents q (e ∷ past) p in kept_of q (e ∷ past) p c ≡ fired_kept q.mode p (kind_of q past e p c) (kept_of q past p c)
  kept_at p placed =
      let c : List Datum = contents q (e ∷ past) p in
      fired_is q.mode p (kind_of q past e p c) (kept_of q past p c) (kept_of q (e ∷ past) p c) refl (unshown-after q past e (shows_own q law (e ∷ past)) p placed) (sym (stands-after q law past e p placed))

  -- what is kept of a pane after a turn
  kept_pane : (x : Place × List Datum) → IsPane q (e ∷ past) x → kept_in q (e ∷ past) x ≡ (x.0, fired_kept q.mode x.0 (kind_of q past e x.0 x.1) (kept_in q past x).1)
  kept_pane x is =
      (λ i. (x.0, kept_of q (e ∷ past) x.0 (is.0 i)))
      ∙ (λ i. (x.0, kept_at x.0 is.1 i))
      ∙ sym (λ i. (x.0, fired_kept q.mode x.0 (kind_of q past e x.0 (is.0 i)) (kept_of q past x.0 (is.0 i))))

  module _ (kind : Place → Kept → Option PaneKind) (agrees : (x : Place × List Datum) → IsPane q (e ∷ past) x → kind_of q past e x.0 x.1 ≡ kind x.0 (kept_in q past x).1) where
    -- what is kept of some panes after a turn
    pub kept_by_turn : (es : List (Place × List Datum)) → AllByRecursion (IsPane q (e ∷ past)) es → map (kept_in q (e ∷ past)) es ≡ all_fired q kind (map (kept_in q past) es)
    kept_by_turn es each =
        let fired : Place × Kept → Place × Kept = λ y. (y.0, fired_kept q.mode y.0 (kind y.0 y.1) y.1) in
        map-each (kept_in q (e ∷ past)) (λ x. fired (kept_in q past x)) es
        (all-each (IsPane q (e ∷ past)) (λ x. kept_in q (e ∷ past) x ≡ fired (kept_in q past x)) es
        (λ x is. kept_pane x is ∙ ap (λ (k : Option PaneKind). (x.0, fired_kept q.mode x.0 k (kept_in q past x).1)) (agrees x is)) each)
        ∙ sym (map-map fired (kept_in q past) es)

    -- what fires is what the held panes fire as, where no other does
    pub firings_by_turn : (live : Place → Bool) → ((x : Place × List Datum) → IsPane q (e ∷ past) x → live x.0 ≡ false → kind_of q past e x.0 x.1 ≡ None) →
        firings q past e ≡ fires q (length past) kind (map (kept_in q past) (filter (λ x. live x.0) (panes q (e ∷ past))))
    firings_by_turn live dead =
        let fires_as : Place × Kept → Option Firing = λ y. firing_of (length past) y.0 y.1.all (firing_set q.mode y.1.all y.1.unshown) (kind y.0 y.1) in
        let on : List (Place × List Datum) = filter (λ x. live x.0) (panes q (e ∷ past)) in
        firings_are q past e
        ∙ sym (filter_map-filter (does q past e) (λ x. live x.0) (panes q (e ∷ past))
        (all-each (IsPane q (e ∷ past)) (λ x. live x.0 ≡ false → does q past e x ≡ None) (panes q (e ∷ past)) (λ x is h. ap (firing_of (length past) x.0 x.1 (firing_set q.mode x.1 (unshown_of q past x.0 x.1))) (dead x is h)) (each_pane q (e ∷ past))))
        ∙ filter_map-each (does q past e) (λ x. fires_as (kept_in q past x)) on
        (all-each (IsPane q (e ∷ past)) (λ x. does q past e x ≡ fires_as (kept_in q past x)) on (λ x is. ap (firing_of (length past) x.0 x.1 (firing_set q.mode x.1 (unshown_of q past x.0 x.1))) (agrees x is))
        (filter-all (IsPane q (e ∷ past)) (λ x. live x.0) (panes q (e ∷ past)) (each_pane q (e ∷ past))))
        ∙ sym (filter_map-map fires_as (kept_in q past) on)

-- ---- what changes nothing

-- none of some earlier records came on the turn
pub none_of_turn : (n : ℕ) (ds : List Datum) → Below n ds → list_any (λ d. nat_eq d.turn n) ds ≡ false
none_of_turn n ds h = list_any-none (λ d. nat_eq d.turn n) ds (all-each (λ d. d.turn < n) (λ d. nat_eq d.turn n ≡ false) ds (λ d k. unlike d.turn n k) h)

module _ (q : Query) (past : List Event) where
  -- what does nothing leaves what is kept
  pub kept-nothing : (e : Event) → effect_of q past e ≡ Nothing → kept q (e ∷ past) ≡ kept q past
  kept-nothing e none =
      ap (map (kept_in q (e ∷ past))) (held-same q past e (ap selection none) (nothing_stays q past e none))
      ∙ map-each (kept_in q (e ∷ past)) (kept_in q past) (held q past) (all-any (λ x. kept_in q (e ∷ past) x ≡ kept_in q past x) alike (held q past))
    where
      silent : firings q past e ≡ []
      silent = firings-nothing q past e none

      unshown_alike : (x : Place × List Datum) → unshown_of q (e ∷ past) x.0 x.1 ≡ unshown_of q past x.0 x.1
      unshown_alike x =
          filter_same _ _ (λ d. ap not (ap (λ (fs : List Firing). is_shown q past x.0 d || list_any (λ f. shows q.shape x.0 f.place && holds d f.contents) fs) silent ∙ or-false (is_shown q past x.0 d))) x.1

      stands_alike : (x : Place × List Datum) → stands_in q (e ∷ past) x.0 x.1 ≡ stands_in q past x.0 x.1
      stands_alike x =
          ap (λ (fs : List Firing). stands_by (candidates q x.0 x.1 fs) (greatest_of (candidates q x.0 x.1 fs)))
          (ap (λ (fs : List Firing). firings_so_far q past ++ fs) silent ∙ append-nil (firings_so_far q past))

      alike : (x : Place × List Datum) → kept_in q (e ∷ past) x ≡ kept_in q past x
      alike x = λ i. (x.0, record { all = x.1; unshown = unshown_alike x i; stands = stands_alike x i })

  -- an admitted record isn't late
  pub comes_in_time : (k : ℕ) (t : ℤ) (vs : List Value) → verdict_on q past (Record (Some k) t vs) ≡ None → is_late q.clock q.shape (mark q past) t ≡ false
  comes_in_time k t vs taken = (taken_record q.clock q.shape q.declared (mark q past) (admitted_count q.clock q.shape q.declared past) (Some k) t vs taken).prompt

  -- one of a session isn't by its own time
  pub prompt : SessionsByEvent q → (gap : ℤ) → q.shape ≡ Session gap → (k : ℕ) (t : ℤ) (vs : List Value) → verdict_on q past (Record (Some k) t vs) ≡ None → int_lt (t +ℤ q.clock.lateness) (mark q past) ≡ false
  prompt timely gap is k t vs taken = ap (λ (by : Bool). is_late_by by q.shape q.clock.lateness (mark q past) t) (sym (timely gap is)) ∙ comes_in_time k t vs taken

  -- the windows that it stands in are live at the watermark
  pub lives_there : SessionsByEvent q → (k : ℕ) (t : ℤ) (vs : List Value) → verdict_on q past (Record (Some k) t vs) ≡ None → (p : Place) → is_there q p (datum (length past) (mark q past) k t vs) ≡ true → is_live_at q (mark q past) p ≡ true
  lives_there timely k t vs taken p there = by_shape q.shape refl (and_parts _ _ there).1 where
    by_shape : (s : Shape) → q.shape ≡ s → is_inside s q.clock.lateness (window_of p) (datum (length past) (mark q past) k t vs) ≡ true → is_live_at q (mark q past) p ≡ true
    by_shape (Fixed size) is h = (and_parts _ _ h).1
    by_shape (Sliding size period) is h = (and_parts _ _ h).1
    by_shape (Session gap) is h = live_inside (mark q past) t q.clock.lateness (window_of p) (prompt timely gap is k t vs taken) h
