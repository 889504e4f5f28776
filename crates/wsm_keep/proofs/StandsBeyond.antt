-- Where a time parts no session, a firing that stands for a session begins beyond it where the session does.
use Rattle.std.proofs.Common.{◌≡◌, ℕ, Bool, true, false, ◌&&◌, cond, List, [], ◌∷◌, map, ℤ, pos, ◌≤ℤ◌, suc, Option, Some, inl, inr, refl, sym, ap, subst, ◌∙◌, arith}
use Rattle.std.proofs.lemmas.Int.{ints}
use Rattle.std.proofs.lemmas.Bool.{true≢false, and_parts, or_left, false_from_ne_true}
use Rattle.std.specs.Prelude.{filter, int_lt, nat_eq}
use Rattle.std.specs.List.{AllByRecursion, list_any}
use Rattle.std.specs.Option.{IfSome}
use Rattle.wsm_record.specs.Event.{Event}
use Rattle.wsm_windows.specs.declared.window.Window.{Window}
use Rattle.wsm_windows.specs.declared.window.Shape.TheVariants.{Session}
use Rattle.wsm_windows.specs.declared.place.Place.{Place}
use Rattle.wsm_windows.specs.Places.{window_of}
use Rattle.wsm_windows.specs.Windows.{IsShape, has_inside}
use Rattle.wsm_semantics.specs.Query.{Datum, Query, SessionsByEvent, selected}
use Rattle.wsm_semantics.specs.Sessions.{sessions}
use Rattle.wsm_semantics.specs.Panes.{contents, is_there, of_key}
use Rattle.wsm_semantics.specs.Firings.{Firing, firings_so_far, holds, shows}
use Rattle.wsm_semantics.specs.StandingFirings.{candidates, greatest_of, is_within, standing}
use Rattle.wsm_semantics.specs.FromWatermark.{PartsNoSession, Times, is_beyond}
use Rattle.wsm_semantics.proofs.Lists.{IsNonEmpty, all-each, filter-all}
use Rattle.wsm_semantics.proofs.Each.{all_of, all-both, all-passed, itself, list_any-filter, passed, some_of}
use Rattle.wsm_semantics.proofs.EventTurns.{greatest_is}
use Rattle.wsm_semantics.proofs.FiringsSoFar.{IsFiring, each_firing, first_of, shows_key}
use Rattle.wsm_semantics.proofs.KeptLaw as kept_law
use Rattle.wsm_semantics.proofs.KeptLaw.{gap_is_long}
use Rattle.wsm_semantics.proofs.Counted.{fired_at}
use Rattle.wsm_semantics.proofs.Given.{all-of_map, of_passed}
use Rattle.wsm_semantics.proofs.LaterFirings.{finds_late}
use Rattle.wsm_semantics.proofs.LaterPanes.{beyond_lates}
use Rattle.wsm_semantics.proofs.LaterSessions.{AreBeside, begins_beyond, beyond-sessions, is_past}
use Rattle.wsm_semantics.proofs.MergedRecords.{holds-filter, selected_falls}
use Rattle.wsm_semantics.proofs.SessionPlaces.{one_of, sessions_of}
use Rattle.wsm_semantics.proofs.Sessions.{sessions_apart}
use Rattle.wsm_semantics.proofs.SessionStep.{among_places}
use Rattle.wsm_semantics.proofs.SessionTimes.{IsOneOf, covered, inside_is, one_inside}
use Rattle.wsm_semantics.proofs.ShownPanes.{IsPane}
use Rattle.wsm_semantics.proofs.Turns.{inside_there}
use Rattle.wsm_semantics.proofs.Within.{IsPart, within}
use Rattle.wsm_keep.proofs.BeyondTimes.{begin_later}

-- ---- lists

each_one : (ws vs : List Window) → ((w : Window) → IsOneOf w ws → IsOneOf w vs) → AllByRecursion (λ w. IsOneOf w vs) ws
each_one [] vs within = tt
each_one (w ∷ ws) vs within = (within w (inl refl), each_one ws vs (λ u one. within u (inr one)))

if_some : {A : Type 0} (P : A → Type 0) (o : Option A) (x : A) → IfSome o P → o ≡ Some x → P x
if_some P o x h is = subst (λ (o : Option _). IfSome o P) is h

-- a record of a part, by what is known of all and of the part
first_held : (P Q : Datum → Type 0) (sel xs : List Datum) → AllByRecursion P sel → AllByRecursion Q xs → IsPart sel xs → IsNonEmpty xs → (d : Datum) × P d × Q d × (holds d xs ≡ true)
first_held P Q sel xs all own part (d, rest, is) =
    let each : AllByRecursion P xs = subst (AllByRecursion P) (sym part) (filter-all P (λ d. holds d xs) sel all) in
    (d, (subst (AllByRecursion P) is each).0, (subst (AllByRecursion Q) is own).0, ap (holds d) is ∙ or_left _ _ (itself d.turn))

-- ---- times of sessions that a time doesn't part

module _ (gap : ℤ) (long : pos 1 ≤ℤ gap) (x : ℤ) where
  -- a session that doesn't begin beyond it has no later time
  none_later : (ts : List ℤ) → AreBeside gap long x (sessions gap ts) → (w : Window) → IsOneOf w (sessions gap ts) → int_lt x w.start ≡ false → AllByRecursion (λ u. has_inside u w ≡ true → int_lt x u ≡ false) ts
  none_later ts beside w one early =
      let new : List ℤ = filter (is_past x) ts in
      let ws : List Window = sessions gap ts in
      let same : filter (begins_beyond gap long x) ws ≡ sessions gap new = beyond-sessions gap long x ts beside ∙ all_of (begins_beyond gap long x) (sessions gap new) (begin_later gap x new (passed (is_past x) ts)) in
      all-each (λ u. is_past x u ≡ true → list_any (has_inside u) (sessions gap new) ≡ true) (λ u. has_inside u w ≡ true → int_lt x u ≡ false) ts
      (λ u in_new inside. false_from_ne_true (int_lt x u)
      (λ late.
      let both : list_any (λ v. begins_beyond gap long x v && has_inside u v) ws ≡ true = sym (list_any-filter (has_inside u) (begins_beyond gap long x) ws) ∙ ap (list_any (has_inside u)) same ∙ in_new late in
      let (v, is, h) = some_of (λ v. IsOneOf v ws) (λ v. begins_beyond gap long x v && has_inside u v) ws (each_one ws ws (λ _ one. one)) both in
      let parts = and_parts (begins_beyond gap long x v) (has_inside u v) h in
      let own : v ≡ w = one_inside gap long ws (sessions_apart gap long ts) u v w is one parts.1 inside in
      true≢false (sym parts.0 ∙ ap (λ (y : Window). int_lt x y.start) own ∙ early)))
      (of_passed (λ u. list_any (has_inside u) (sessions gap new) ≡ true) (is_past x) ts (covered gap long new))

begins_sooner : (x start t : ℤ) → int_lt x t ≡ false → start ≤ℤ t → int_lt x start ≡ false
begins_sooner x start t h k = grind (arith, ints)

module _ (q : Query) (gap : ℤ) (is : q.shape ≡ Session gap) (ok : IsShape q.shape) (timely : SessionsByEvent q) (x : Times) (past : List Event) where
  abbrev late : Firing → Bool
  late = fired_at (is_beyond x)

  abbrev stands : Place × List Datum → Option Firing
  stands y = standing q (firings_so_far q past) y.0 y.1

  -- beyond the time
  module _ (y : Place × List Datum) (pane : IsPane q past y) where
    beyond : is_beyond x y.0 ≡ true → IfSome (stands y) (λ g. late g ≡ true)
    beyond here =
        let fs : List Firing = filter late (firings_so_far q past) in
        subst (λ (cs : List Firing). IfSome (greatest_of cs) (λ g. late g ≡ true))
        (sym ((finds_late q ok timely x (is_beyond x) (beyond_lates x)).standing past y.0 y.1 here pane.1 pane.0))
        (greatest_is (λ g. late g ≡ true) (candidates q y.0 y.1 fs) (filter-all (λ g. late g ≡ true) (λ g. shows q.shape y.0 g.place && is_within g.contents y.1) fs (passed late (firings_so_far q past))))

    pub stands_beyond : is_beyond x y.0 ≡ true → (g : Firing) → stands y ≡ Some g → late g ≡ true
    stands_beyond here g h = if_some (λ g. late g ≡ true) (stands y) g (beyond here) h

    -- or not
    module _ (parts : PartsNoSession q x past) (early : is_beyond x y.0 ≡ false) where
      abbrev long : pos 1 ≤ℤ gap
      long = gap_is_long q gap is ok

      abbrev key : ℕ
      key = y.0.key

      abbrev IsEarly : Datum → Type 0
      IsEarly d = nat_eq d.key key ≡ true → has_inside d.time (window_of y.0) ≡ true → int_lt (x key) d.time ≡ false

      all_early : AllByRecursion IsEarly (selected q past)
      all_early =
          let own : List Datum = of_key key (selected q past) in
          of_passed (λ d. has_inside d.time (window_of y.0) ≡ true → int_lt (x key) d.time ≡ false) (λ d. nat_eq d.key key) (selected q past)
          (all-of_map (λ u. has_inside u (window_of y.0) ≡ true → int_lt (x key) u ≡ false) (λ (d : Datum). d.time) own
          (none_later gap long (x key) (map (λ (d : Datum). d.time) own) (parts gap is key) (window_of y.0)
          (one_of y.0 key (sessions_of gap (selected q past) key) (sym (among_places q gap is long past y.0) ∙ pane.1)) early))

      abbrev may : Firing → Bool
      may g = shows q.shape y.0 g.place && is_within g.contents y.1

      firing_early : (g : Firing) → IsFiring q past g → may g ≡ true → late g ≡ false
      firing_early g firing h =
          let (shown, inside) = and_parts (shows q.shape y.0 g.place) (is_within g.contents y.1) h in
          let sel : List Datum = selected q past in
          let IsKnown : Datum → Type 0 = λ d. (holds d (contents q past y.0) ≡ is_there q y.0 d) × IsEarly d in
          let all : AllByRecursion IsKnown sel =
          all-both (λ d. holds d (contents q past y.0) ≡ is_there q y.0 d) IsEarly IsKnown (λ d a b. (a, b)) sel (holds-filter (is_there q y.0) sel (selected_falls q past)) all_early in
          let own : AllByRecursion (λ d. is_there q g.place d ≡ true) g.contents =
          subst (AllByRecursion (λ d. is_there q g.place d ≡ true)) (sym firing.whole) (passed (is_there q g.place) (selected q (first_of (suc g.turn) past))) in
          let (d, known, in_g, held) = first_held IsKnown (λ d. is_there q g.place d ≡ true) sel g.contents all own firing.part firing.filled in
          let there : is_there q y.0 d ≡ true = sym known.0 ∙ ap (holds d) (sym pane.0) ∙ within g.contents y.1 inside d held in
          let time : int_lt (x key) d.time ≡ false = known.1 (and_parts _ _ there).0 (inside_there q y.0 d there) in
          let since : g.place.start ≤ℤ d.time = (inside_is d.time (window_of g.place) (inside_there q g.place d in_g)).0 in
          ap (λ (k : ℕ). int_lt (x k) g.place.start) (sym (shows_key q.shape y.0 g.place shown)) ∙ begins_sooner (x key) g.place.start d.time time since

      pub stands_early : (g : Firing) → stands y ≡ Some g → late g ≡ false
      stands_early g h =
          let fs : List Firing = firings_so_far q past in
          if_some (λ g. late g ≡ false) (stands y) g
          (greatest_is (λ g. late g ≡ false) (candidates q y.0 y.1 fs) (all-passed (IsFiring q past) (λ g. late g ≡ false) may firing_early fs (each_firing q (kept_law.places q ok timely) past))) h
