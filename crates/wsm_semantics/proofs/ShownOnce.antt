-- Discarding, for windows of any shape and any triggers and lateness, after any history: a selected
-- record is in one firing set where it is shown and in none where it isn't, and for each of its
-- windows that was dropped in exactly one.
use Rattle.std.proofs.Common.{◌≡◌, ℕ, zero, suc, ◌≤◌, Bool, true, false, ◌&&◌, ◌||◌, cond, List, [], ◌∷◌, ◌++◌, map, length, ℤ, pos, ◌+ℤ◌, ◌≤ℤ◌, Some, refl, sym, ap, subst, ◌∙◌, ⊎_elim, arith}
use Rattle.std.proofs.lemmas.Bool.{true≢false, and_parts, and_from, or_cases, or_left, or_right}
use Rattle.std.proofs.lemmas.List.Elements.{All-contains, All-contains_itself, All-filter, filter_passes}
use Rattle.std.specs.Prelude.{Contains, filter, flat_map, int_lt}
use Rattle.std.specs.List.{AllByRecursion}
use Rattle.std.specs.Ordering.{eq_by_cmp}
use Rattle.wsm_record.specs.declared.words.Mode.TheVariants.{Discarding}
use Rattle.wsm_record.specs.Event.{Event, Record}
use Rattle.wsm_windows.specs.declared.window.Window.{Window}
use Rattle.wsm_windows.specs.declared.window.Shape.{Shape}
use Rattle.wsm_windows.specs.declared.window.Shape.TheVariants.{Fixed, Sliding, Session}
use Rattle.wsm_windows.specs.Windows.{has_inside, windows_of, IsShape}
use Rattle.wsm_windows.specs.Life.{is_live}
use Rattle.wsm_windows.specs.declared.place.Place.{Place}
use Rattle.wsm_windows.specs.Places.{place_cmp, at}
use Rattle.wsm_windows.proofs.Places.{tie_is}
use Rattle.wsm_semantics.specs.Query.{Query, Datum, SessionsByEvent, mark, selected, selection_of, datum}
use Rattle.wsm_semantics.specs.Panes.{windows_among, places, is_there, stands_in}
use Rattle.wsm_semantics.specs.Firings.{is_shown}
use Rattle.wsm_semantics.specs.FiringSets.{StandsIn, IsDropped, FiresOnce}
use Rattle.wsm_semantics.proofs.Decided.{not_less}
use Rattle.wsm_semantics.proofs.Tables.{among}
use Rattle.wsm_semantics.proofs.Assigned.{IsAssigned, contains_among, stands, on_grid, own}
use Rattle.wsm_semantics.proofs.AssignedStep.{places-assigned}
use Rattle.wsm_semantics.proofs.Each.{itself, list_any-append}
use Rattle.wsm_semantics.proofs.SessionStep.{among_places, mine, new_inside, places_more}
use Rattle.wsm_semantics.proofs.ShownPanes.{ShowsOwn}
use Rattle.wsm_semantics.proofs.FiringsSoFar.{shows_own}
use Rattle.wsm_semantics.proofs.KeptTurns.{prompt as comes_promptly}
use Rattle.wsm_semantics.proofs.Effects.{selects_one}
use Rattle.wsm_semantics.proofs.KeptLaw as kept_law
use Rattle.wsm_semantics.proofs.KeptLaw.{gap_is_long}
use Rattle.wsm_semantics.proofs.FiredOnce.{once_if, fired_where_shown}
use Rattle.wsm_semantics.proofs.DroppedShown.{NewHaveRecord, dropped_shown}

-- ---- a place that is new with a record has it

new_assigned : (q : Query) (ok : IsShape q.shape) (assigned : IsAssigned q.shape) → NewHaveRecord q
new_assigned q ok assigned past k t vs taken selects p placed away =
    let d : Datum = datum (length past) (mark q past) k t vs in
    let at_its : List Place = stands q.shape q.clock.lateness ok assigned d in
    let selection : selection_of q past (Record (Some k) t vs) ≡ d ∷ [] = selects_one q past k t vs taken selects in
    let parts : among p (places q (Record (Some k) t vs ∷ past)) ≡ (among p at_its || among p (places q past)) =
    ap (among p) (places-assigned q ok assigned (Record (Some k) t vs ∷ past) ∙ (λ i. flat_map (stands q.shape q.clock.lateness ok assigned) (selection i ++ selected q past)))
    ∙ list_any-append (eq_by_cmp place_cmp p) at_its (flat_map (stands q.shape q.clock.lateness ok assigned) (selected q past))
    ∙ ap (λ (ps : List Place). among p at_its || among p ps) (sym (places-assigned q ok assigned past)) in
    ⊎_elim
    (λ mine. absurd (true≢false (sym mine ∙ own q.shape q.clock.lateness ok assigned p (on_grid q.shape q.clock.lateness ok assigned p d mine) d ∙ away)))
    (λ others. others)
    (or_cases _ _ (sym parts ∙ placed))

new_session : (q : Query) → SessionsByEvent q → (gap : ℤ) → q.shape ≡ Session gap → pos 1 ≤ℤ gap → NewHaveRecord q
new_session q timely gap is long past k t vs taken selects p placed away =
    let d : Datum = datum (length past) (mark q past) k t vs in
    let prompt : int_lt (t +ℤ q.clock.lateness) (mark q past) ≡ false = comes_promptly q past timely gap is k t vs taken in
    ⊎_elim
    (λ tie. absurd (true≢false (sym (new_inside q gap is long past d prompt (omega arith)) ∙ ap (λ (r : Place). is_there q r d) (sym (tie_is p (mine q gap is long past d prompt) tie)) ∙ away)))
    (λ others. among_places q gap is long past p ∙ (and_parts _ _ others).1)
    (or_cases _ _ (sym (places_more q gap is long past d prompt (omega arith) (Record (Some k) t vs) refl (selects_one q past k t vs taken selects) p) ∙ placed))

pub new_have : (q : Query) → IsShape q.shape → SessionsByEvent q → (shape : Shape) → q.shape ≡ shape → NewHaveRecord q
new_have q ok timely (Fixed size) is = new_assigned q ok (subst IsAssigned (sym is) tt)
new_have q ok timely (Sliding size period) is = new_assigned q ok (subst IsAssigned (sym is) tt)
new_have q ok timely (Session gap) is = new_session q timely gap is (gap_is_long q gap is ok)

-- ---- where a record stands

-- what is true of those that pass is true of one that is contained and passes
of_passed : {A : Type 0} (P : A → Type 0) (t : A → Bool) (xs : List A) (x : A) → AllByRecursion P (filter t xs) → Contains xs x → t x ≡ true → P x
of_passed P t [] x all (k, less, is) passes = absurd (omega arith)
of_passed P t (y ∷ ys) x all (zero, less, is) passes =
    subst P is (subst (λ (b : Bool). AllByRecursion P (cond b (y ∷ filter t ys) (filter t ys))) (ap t is ∙ passes) all).0
of_passed P t (y ∷ ys) x all (suc k, less, is) passes =
    of_passed P t ys x
    (elim (t y) as (λ b. AllByRecursion P (cond b (y ∷ filter t ys) (filter t ys)) → AllByRecursion P (filter t ys)) [ true ↦ λ h. h.1 | false ↦ λ h. h ] all)
    (k, omega arith, is) passes

-- a place of one of some records is among the places of all
placed_among : (places_of : Datum → List Place) (ds : List Datum) (d : Datum) (p : Place) → Contains ds d → among p (places_of d) ≡ true → among p (flat_map places_of ds) ≡ true
placed_among places_of [] d p (i, less, is) h = absurd (omega arith)
placed_among places_of (x ∷ xs) d p (zero, less, is) h =
    list_any-append (eq_by_cmp place_cmp p) (places_of x) (flat_map places_of xs) ∙ or_left _ _ (ap (λ (y : Datum). among p (places_of y)) is ∙ h)
placed_among places_of (x ∷ xs) d p (suc i, less, is) h =
    list_any-append (eq_by_cmp place_cmp p) (places_of x) (flat_map places_of xs) ∙ or_right _ _ (placed_among places_of xs d p (i, omega arith, is) h)

of_grid : (size period l : ℤ) (d : Datum) (w : Window) → Contains (filter (λ v. is_live v l d.mark) (windows_of size period d.time)) w → (has_inside d.time w && is_live w l d.mark) ≡ true
of_grid size period l d w h =
    let live : Window → Bool = λ v. is_live v l d.mark in
    let xs : List Window = windows_of size period d.time in
    and_from _ _
    (All-contains (λ v. has_inside d.time v ≡ true) xs w (filter_passes (has_inside d.time) _) (All-contains (Contains xs) (filter live xs) w (All-filter live (Contains xs) xs (All-contains_itself xs)) h))
    (All-contains (λ v. live v ≡ true) (filter live xs) w (filter_passes live xs) h)

-- a record stands in each of its windows
inside : (s : Shape) (l : ℤ) (ds : List Datum) (d : Datum) (w : Window) → Contains (windows_among s l ds d) w → stands_in s l w d ≡ true
inside (Fixed size) l ds d w h = of_grid size size l d w h
inside (Sliding size period) l ds d w h = of_grid size period l d w h
inside (Session gap) l ds d w h = All-contains (λ v. has_inside d.time v ≡ true) _ w (filter_passes (has_inside d.time) _) h

-- ---- the law

module _ (q : Query) (ok : IsShape q.shape) (timely : SessionsByEvent q) where
  owns : (past : List Event) → ShowsOwn q past
  owns = shows_own q (kept_law.places q ok timely)

  -- in any mode a record of a window that was dropped was shown
  pub shown_when_dropped : (past : List Event) (d : Datum) (w : Window) → StandsIn q past d w → IsDropped q past w → is_shown q past (at d.key w) d ≡ true
  shown_when_dropped past d w stands dropped =
      let p : Place = at d.key w in
      let ds : List Datum = selected q past in
      let placed : among p (places q past) ≡ true =
      placed_among (λ x. map (at x.key) (windows_among q.shape q.clock.lateness ds x)) ds d p stands.is_selected (contains_among d.key (windows_among q.shape q.clock.lateness ds d) w stands.is_among) in
      let there : is_there q p d ≡ true = λ i. itself d.key i && inside q.shape q.clock.lateness ds d w stands.is_among i in
      of_passed (λ x. is_shown q past p x ≡ true) (is_there q p) ds d
      (dropped_shown q timely owns (new_have q ok timely q.shape refl) past p placed (not_less (mark q past) (w.end +ℤ q.clock.lateness) dropped))
      stands.is_selected there

  pub fires_once : q.mode ≡ Discarding → FiresOnce q
  fires_once discarding = record {
    where_shown = λ past p d. fired_where_shown q discarding owns past p d;
    at_most = λ past p d.
        subst (λ (n : ℕ). n ≤ 1) (sym (fired_where_shown q discarding owns past p d))
        (elim (is_shown q past p d) as (λ b. once_if b ≤ 1) [ true ↦ omega arith | false ↦ omega arith ]);
    once_dropped = λ past d w stands dropped.
        fired_where_shown q discarding owns past (at d.key w) d ∙ ap once_if (shown_when_dropped past d w stands dropped);
  }
