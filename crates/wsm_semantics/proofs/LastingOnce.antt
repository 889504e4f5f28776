-- No firing lasts twice: each stands for one pane, and what stood for a pane that was dropped stands for
-- no other.
use Rattle.std.proofs.Common.{◌≡◌, Bool, true, false, cond, not, List, [], ◌∷◌, ◌++◌, map, ℤ, pos, ◌≤ℤ◌, Some, None, refl, sym, ap, subst, ◌∙◌}
use Rattle.std.proofs.lemmas.Bool.{true≢false, false_from_ne_true, not-true}
use Rattle.std.specs.Prelude.{filter, nat_eq}
use Rattle.std.specs.List.{AllByRecursion, cons_option, list_any}
use Rattle.wsm_record.specs.Event.{Event}
use Rattle.wsm_windows.specs.declared.window.Shape.{Shape}
use Rattle.wsm_windows.specs.declared.window.Shape.TheVariants.{Fixed, Sliding, Session}
use Rattle.wsm_windows.specs.Windows.{IsShape}
use Rattle.wsm_windows.specs.declared.place.Place.{Place}
use Rattle.wsm_semantics.specs.Query.{Query, Datum, SessionsByEvent, mark, selected, selection_of}
use Rattle.wsm_semantics.specs.Panes.{places, is_there, is_live_at, contents, panes, held}
use Rattle.wsm_semantics.specs.Firings.{Firing, shows, firings_so_far}
use Rattle.wsm_semantics.specs.StandingFirings.{standing}
use Rattle.wsm_semantics.specs.Retractions.{standing_for, panes_before_drops, is_same}
use Rattle.wsm_semantics.specs.LastingRows.{AreOnce, standing_dropped, stood_at_drop, lasting}
use Rattle.wsm_semantics.proofs.Lists.{filter-all, all-each}
use Rattle.wsm_semantics.proofs.Tables.{among, is_sorted-with_contents}
use Rattle.wsm_semantics.proofs.Assigned.{IsAssigned}
use Rattle.wsm_semantics.proofs.Each.{all-append, all-both, as_true, filter_map-all, passed}
use Rattle.wsm_semantics.proofs.Within.{wider}
use Rattle.wsm_semantics.proofs.ShownPanes.{IsPane, each_pane}
use Rattle.wsm_semantics.proofs.FiringsSoFar.{stays_firing, one_home, shows_back, shows_on}
use Rattle.wsm_semantics.proofs.StandsTurn.{AreDistinct}
use Rattle.wsm_semantics.proofs.FiredOnce.{sorted_distinct}
use Rattle.wsm_semantics.proofs.AssignedTurns.{still_placed}
use Rattle.wsm_semantics.proofs.SessionTurns.{DeadStay, dead_stays}
use Rattle.wsm_semantics.proofs.KeptLaw.{places as places_law, gap_is_long}
use Rattle.wsm_semantics.proofs.StandsStill.{CanStand, can_stand, if_some, same_contents}
use Rattle.wsm_semantics.proofs.LastingLaw.{live_still}

-- ---- lists

abbrev Differ : Firing → Firing → Type 0
Differ f g = is_same f g ≡ false

once-append : (fs gs : List Firing) → AreOnce fs → AreOnce gs → AllByRecursion (λ f. AllByRecursion (Differ f) gs) fs → AreOnce (fs ++ gs)
once-append [] gs h k apart = k
once-append (f ∷ fs) gs h k apart = (all-append (Differ f) fs gs h.0 apart.0, once-append fs gs h.1 k apart.1)

-- the places of a table's entries
abbrev Apart : {A : Type 0} → List (Place × A) → Type 0
Apart [] = Unit {0}
Apart (e ∷ es) = AllByRecursion (λ r. e.0 ≡ r.0 → ⊥) es × Apart es

of_places : {A : Type 0} (p : Place) (es : List (Place × A)) → AllByRecursion (λ r. p ≡ r → ⊥) (map (λ e. e.0) es) → AllByRecursion (λ r. p ≡ r.0 → ⊥) es
of_places p [] h = tt
of_places p (e ∷ es) h = (h.0, of_places p es h.1)

apart_places : {A : Type 0} (es : List (Place × A)) → AreDistinct (map (λ e. e.0) es) → Apart es
apart_places [] h = tt
apart_places (e ∷ es) h = (of_places e.0 es h.0, apart_places es h.1)

apart_filter : {A : Type 0} (t : Place × A → Bool) (es : List (Place × A)) → Apart es → Apart (filter t es)
apart_filter t [] h = tt
apart_filter t (e ∷ es) h =
    elim (t e) as (λ b. Apart (cond b (e ∷ filter t es) (filter t es))) [
      | true ↦ (filter-all (λ r. e.0 ≡ r.0 → ⊥) t es h.0, apart_filter t es h.1)
      | false ↦ apart_filter t es h.1
    ]

-- ---- where firings stand

-- the pane that has a firing's records
record Has (q : Query) (past : List Event) (f : Firing) (p : Place) : Type 0 where
  pub placed : among p (places q past) ≡ true
  pub stands : CanStand q past p (contents q past p) f

-- it is live at a mark, or not
abbrev IsIn : Query → List Event → ℤ → Bool → Firing → Type 0
IsIn q past mark live f = (p : Place) × Has q past f p × (is_live_at q mark p ≡ live)

module _ (q : Query) (ok : IsShape q.shape) (timely : SessionsByEvent q) (low : pos 0 ≤ℤ q.clock.lateness) where
  has_one : (past : List Event) (f g : Firing) (p r : Place) → Has q past f p → Has q past g r → is_same f g ≡ true → p ≡ r
  has_one past f g p r h k same =
      let alike = same_contents q (places_law q ok timely) past f g h.stands.fired k.stands.fired same in
      one_home q (places_law q ok timely) past p r h.placed k.placed
      (shows_on q.shape p f.place r h.stands.shown (shows_back q.shape r f.place (ap (shows q.shape r) alike.0 ∙ k.stands.shown)))
      f.contents h.stands.fired.filled h.stands.fired.part h.stands.inside
      (λ d m. k.stands.inside d (ap (λ (xs : List Datum). list_any (λ x. nat_eq x.turn d.turn) xs) (sym alike.1) ∙ m))

  -- a firing in a pane that is live and one in a pane that isn't differ
  differ : (past : List Event) (m : ℤ) (f g : Firing) → IsIn q past m false f → IsIn q past m true g → Differ f g
  differ past m f g (p, h, dead) (r, k, live) =
      false_from_ne_true (is_same f g) (λ same. true≢false (sym live ∙ sym (ap (is_live_at q m) (has_one past f g p r h k same)) ∙ dead))

  standing_has : (past : List Event) (y : Place × List Datum) → IsPane q past y → (f : Firing) → standing q (firings_so_far q past) y.0 y.1 ≡ Some f → Has q past f y.0
  standing_has past y pane f is =
      let can : CanStand q past y.0 y.1 f = if_some (CanStand q past y.0 y.1) (standing q (firings_so_far q past) y.0 y.1) f (can_stand q (places_law q ok timely) past y.0 y.1) is in
      record { placed = pane.1; stands = subst (λ (ds : List Datum). CanStand q past y.0 ds f) pane.0 can }

  -- those that stand for some panes differ
  once_standing : (past : List Event) (ps : List (Place × List Datum)) → AllByRecursion (IsPane q past) ps → Apart ps → AreOnce (standing_for q past ps)
  once_standing past [] each apart = tt
  once_standing past (y ∷ ps) each apart =
      let rest : AreOnce (standing_for q past ps) = once_standing past ps each.1 apart.1 in
      elim (standing q (firings_so_far q past) y.0 y.1) as (λ o. standing q (firings_so_far q past) y.0 y.1 ≡ o → AreOnce (cons_option o (standing_for q past ps))) [
        | None ↦ λ _. rest
        | Some f ↦ λ is. (
          filter_map-all (λ x. IsPane q past x × (y.0 ≡ x.0 → ⊥)) (Differ f) (λ x. standing q (firings_so_far q past) x.0 x.1)
              (λ x other g stands. false_from_ne_true (is_same f g) (λ same. other.1 (has_one past f g y.0 x.0 (standing_has past y each.0 f is) (standing_has past x other.0 g stands) same)))
              ps (all-both (IsPane q past) (λ x. y.0 ≡ x.0 → ⊥) (λ x. IsPane q past x × (y.0 ≡ x.0 → ⊥)) (λ x a b. (a, b)) ps each.1 apart.0),
          rest,
        )
      ] refl

  -- each in its pane
  standing_in : (past : List Event) (m : ℤ) (live : Bool) (ps : List (Place × List Datum)) → AllByRecursion (IsPane q past) ps → AllByRecursion (λ y. is_live_at q m y.0 ≡ live) ps → AllByRecursion (IsIn q past m live) (standing_for q past ps)
  standing_in past m live ps each at =
      filter_map-all (λ y. IsPane q past y × (is_live_at q m y.0 ≡ live)) (IsIn q past m live) (λ y. standing q (firings_so_far q past) y.0 y.1)
      (λ y pane f is. (y.0, standing_has past y pane.0 f is, pane.1))
      ps (all-both (IsPane q past) (λ y. is_live_at q m y.0 ≡ live) (λ y. IsPane q past y × (is_live_at q m y.0 ≡ live)) (λ y a b. (a, b)) ps each at)

  apart_panes : (past : List Event) → Apart (panes q past)
  apart_panes past = apart_places (panes q past) (sorted_distinct (panes q past) (as_true _ (is_sorted-with_contents (contents q past) (places q past))))

  -- ---- after an event

  dead_placed : DeadStay q
  dead_placed past e p placed dead = of_shape q.shape refl where
    of_shape : (shape : Shape) → q.shape ≡ shape → among p (places q (e ∷ past)) ≡ true
    of_shape (Fixed size) is = still_placed q ok (subst IsAssigned (sym is) tt) past e p placed
    of_shape (Sliding size period) is = still_placed q ok (subst IsAssigned (sym is) tt) past e p placed
    of_shape (Session gap) is = dead_stays q timely gap is (gap_is_long q gap is ok) past e p placed dead

  -- what was in a pane that isn't live is in it still
  still_in : (past : List Event) (e : Event) (f : Firing) → IsIn q past (mark q past) false f → IsIn q (e ∷ past) (mark q past) false f
  still_in past e f (p, h, dead) = (
    p,
    record {
      placed = dead_placed past e p h.placed dead;
      stands = record {
        fired = stays_firing q (places_law q ok timely) past e f h.stands.fired;
        shown = h.stands.shown;
        inside = λ d m. wider (is_there q p) (is_there q p) (λ x k. k) (selection_of q past e) (selected q past) d (h.stands.inside d m);
      };
    },
    dead,
  )

  later : (past : List Event) (e : Event) (f : Firing) → IsIn q (e ∷ past) (mark q past) false f → IsIn q (e ∷ past) (mark q (e ∷ past)) false f
  later past e f (p, h, dead) =
      (p, h, false_from_ne_true (is_live_at q (mark q (e ∷ past)) p) (λ live. true≢false (sym (live_still q ok timely low past e p live) ∙ dead)))

  module _ (past : List Event) (e : Event) where
    abbrev on : List (Place × List Datum)
    on = panes_before_drops q past e

    abbrev gone : Place × List Datum → Bool
    gone y = not (is_live_at q (mark q (e ∷ past)) y.0)

    on_panes : AllByRecursion (IsPane q (e ∷ past)) on
    on_panes = filter-all (IsPane q (e ∷ past)) (λ y. is_live_at q (mark q past) y.0) (panes q (e ∷ past)) (each_pane q (e ∷ past))

    -- those that stood for what is dropped were in panes that were live, and aren't
    dropped_live : AllByRecursion (IsIn q (e ∷ past) (mark q past) true) (standing_dropped q past e)
    dropped_live =
        standing_in (e ∷ past) (mark q past) true (filter gone on) (filter-all (IsPane q (e ∷ past)) gone on on_panes)
        (filter-all (λ y. is_live_at q (mark q past) y.0 ≡ true) gone on (passed (λ y. is_live_at q (mark q past) y.0) (panes q (e ∷ past))))

    dropped_dead : AllByRecursion (IsIn q (e ∷ past) (mark q (e ∷ past)) false) (standing_dropped q past e)
    dropped_dead =
        standing_in (e ∷ past) (mark q (e ∷ past)) false (filter gone on) (filter-all (IsPane q (e ∷ past)) gone on on_panes)
        (all-each (λ y. gone y ≡ true) (λ y. is_live_at q (mark q (e ∷ past)) y.0 ≡ false) (filter gone on) (λ y h. not-true _ h) (passed gone on))

    dropped_once : AreOnce (standing_dropped q past e)
    dropped_once =
        once_standing (e ∷ past) (filter gone on) (filter-all (IsPane q (e ∷ past)) gone on on_panes)
        (apart_filter gone on (apart_filter (λ y. is_live_at q (mark q past) y.0) (panes q (e ∷ past)) (apart_panes (e ∷ past))))

  -- those that stood for what was dropped
  dead_each : (past : List Event) → AllByRecursion (IsIn q past (mark q past) false) (stood_at_drop q past)
  dead_each [] = tt
  dead_each (e ∷ past) =
      all-append (IsIn q (e ∷ past) (mark q (e ∷ past)) false) (stood_at_drop q past) (standing_dropped q past e)
      (all-each (IsIn q past (mark q past) false) (IsIn q (e ∷ past) (mark q (e ∷ past)) false) (stood_at_drop q past) (λ f h. later past e f (still_in past e f h)) (dead_each past))
      (dropped_dead past e)

  -- those in panes that aren't live differ from those in panes that are
  all_differ : (past : List Event) (m : ℤ) (fs gs : List Firing) → AllByRecursion (IsIn q past m false) fs → AllByRecursion (IsIn q past m true) gs → AllByRecursion (λ f. AllByRecursion (Differ f) gs) fs
  all_differ past m fs gs h k =
      all-each (IsIn q past m false) (λ f. AllByRecursion (Differ f) gs) fs (λ f dead. all-each (IsIn q past m true) (Differ f) gs (λ g live. differ past m f g dead live) k) h

  drops_once : (past : List Event) → AreOnce (stood_at_drop q past)
  drops_once [] = tt
  drops_once (e ∷ past) =
      once-append (stood_at_drop q past) (standing_dropped q past e) (drops_once past) (dropped_once past e)
      (all_differ (e ∷ past) (mark q past) (stood_at_drop q past) (standing_dropped q past e)
      (all-each (IsIn q past (mark q past) false) (IsIn q (e ∷ past) (mark q past) false) (stood_at_drop q past) (λ f h. still_in past e f h) (dead_each past))
      (dropped_live past e))

  -- no firing lasts twice
  pub lasting_once : (past : List Event) → AreOnce (lasting q past)
  lasting_once past =
      let each : AllByRecursion (IsPane q past) (held q past) = filter-all (IsPane q past) (λ y. is_live_at q (mark q past) y.0) (panes q past) (each_pane q past) in
      once-append (stood_at_drop q past) (standing_for q past (held q past)) (drops_once past)
      (once_standing past (held q past) each (apart_filter (λ y. is_live_at q (mark q past) y.0) (panes q past) (apart_panes past)))
      (all_differ past (mark q past) (stood_at_drop q past) (standing_for q past (held q past)) (dead_each past)
      (standing_in past (mark q past) true (held q past) each (passed (λ y. is_live_at q (mark q past) y.0) (panes q past))))
