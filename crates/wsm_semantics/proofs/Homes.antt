-- Where the records of a firing are now: in one pane, which starts no later than its window. So a record of a pane that
-- begins late enough was shown by firings of such panes alone.
use Rattle.std.proofs.Common.{◌≡◌, Bool, true, ◌&&◌, ◌||◌, List, [], ◌∷◌, ℤ, pos, ◌≤ℤ◌, ◌<ℤ◌, Some, refl, sym, ap, subst, ◌∙◌, arith}
use Rattle.std.proofs.lemmas.Int.{ints}
use Rattle.std.proofs.lemmas.Bool.{and_parts, and_from}
use Rattle.std.specs.Prelude.{filter}
use Rattle.std.specs.List.{AllByRecursion, list_any}
use Rattle.wsm_record.specs.Event.{Event}
use Rattle.wsm_windows.specs.declared.window.Shape.{Shape}
use Rattle.wsm_windows.specs.declared.window.Shape.TheVariants.{Fixed, Sliding, Session}
use Rattle.wsm_windows.specs.Windows.{IsShape}
use Rattle.wsm_windows.specs.declared.place.Place.{Place}
use Rattle.wsm_windows.specs.Places.{window_of}
use Rattle.wsm_windows.proofs.Places.{tie_is}
use Rattle.wsm_semantics.specs.Query.{Datum, Query, SessionsByEvent, datum, selected}
use Rattle.wsm_semantics.specs.Panes.{is_there, places, contents, panes}
use Rattle.wsm_semantics.specs.Firings.{Firing, firings, firings_so_far, holds, is_shown, shows}
use Rattle.wsm_semantics.proofs.Lists.{filter-all, all-each}
use Rattle.wsm_semantics.proofs.Decided.{inside_itself}
use Rattle.wsm_semantics.proofs.Tables.{among}
use Rattle.wsm_semantics.proofs.Each.{itself, and_of, passed, all-any, all-append, all-both, all-swap, filter_map-all, list_any-append, list_any-each, list_any-filter, some_of}
use Rattle.wsm_semantics.proofs.Turns.{inside_there}
use Rattle.wsm_semantics.proofs.MergedRecords.{selected_falls, holds-filter}
use Rattle.wsm_semantics.proofs.ShownPanes.{does, firings_are}
use Rattle.wsm_semantics.proofs.FiringsSoFar.{PlacesLaw, IsFiring, IsFilled, fires_as, stays_firing, stays_home, new_firing, new_home, each_filled, shows_back, shows_on, shows_key}
use Rattle.wsm_semantics.proofs.SessionTimes.{inside_is}
use Rattle.wsm_semantics.proofs.SessionPlaces.{there_is, in_window, has_record}
use Rattle.wsm_semantics.proofs.SessionStep.{among_places}
use Rattle.wsm_semantics.proofs.KeptLaw as kept_law
use Rattle.wsm_semantics.proofs.KeptLaw.{gap_is_long}

-- ---- which of some are found

pub list_any-found : {A : Type 0} (P : A → Type 0) (t u : A → Bool) → ((x : A) → P x → t x ≡ true → u x ≡ true) → (xs : List A) → AllByRecursion P xs → list_any t xs ≡ list_any t (filter u xs)
list_any-found P t u within xs each =
    list_any-each t (λ x. u x && t x) xs (all-each P (λ x. t x ≡ (u x && t x)) xs (λ x p. sym (and_of (u x) (t x) (within x p))) each)
    ∙ sym (list_any-filter t u xs)

-- a record is shown where one of all firings shows it
pub shown_by_all : (q : Query) (past : List Event) (p : Place) (d : Datum) → is_shown q past p d ≡ list_any (λ f. shows q.shape p f.place && holds d f.contents) (firings_so_far q past)
shown_by_all q [] p d = refl
shown_by_all q (e ∷ past) p d =
    let t : Firing → Bool = λ f. shows q.shape p f.place && holds d f.contents in
    ap (λ (b : Bool). b || list_any t (firings q past e)) (shown_by_all q past p d)
    ∙ sym (list_any-append t (firings_so_far q past) (firings q past e))

between : (start t end : ℤ) → start ≤ℤ t → t <ℤ end → start <ℤ end
between start t end h k = omega (arith, ints)

-- a firing whose records are now in a pane that starts no later
pub record IsHome (q : Query) (past : List Event) (f : Firing) : Type 0 where
  pub firing : IsFiring q past f
  pub first : firing.home.start ≤ℤ f.place.start

module _ (q : Query) (ok : IsShape q.shape) (timely : SessionsByEvent q) where
  abbrev law : PlacesLaw q
  law = kept_law.places q ok timely

  -- a place that has the records of another starts no later
  starts_first : (past : List Event) (p r : Place) → among p (places q past) ≡ true → shows q.shape r p ≡ true → ((d : Datum) → is_there q p d ≡ true → is_there q r d ≡ true) → r.start ≤ℤ p.start
  starts_first past p r placed shown within = of_shape q.shape refl where
    alike : r ≡ p → r.start ≤ℤ p.start
    alike same = let e : r.start ≡ p.start = ap (λ (s : Place). s.start) same in omega (arith, ints)

    of_shape : (shape : Shape) → q.shape ≡ shape → r.start ≤ℤ p.start
    of_shape (Fixed size) is = alike (tie_is r p (sym (ap (λ (s : Shape). shows s r p) is) ∙ shown))
    of_shape (Sliding size period) is = alike (tie_is r p (sym (ap (λ (s : Shape). shows s r p) is) ∙ shown))
    of_shape (Session gap) is =
        let long : pos 1 ≤ℤ gap = gap_is_long q gap is ok in
        let (y, unit, in_p) = some_of (λ (d : Datum). Unit {0}) (in_window p) (selected q past) (all-any (λ (d : Datum). Unit {0}) (λ d. tt) (selected q past)) (has_record gap (selected q past) long p (sym (among_places q gap is long past p) ∙ placed)) in
        let inside = inside_is y.time (window_of p) (and_parts _ _ in_p).1 in
        let d : Datum = datum 0 (pos 0) p.key p.start [] in
        let there : is_there q p d ≡ true = there_is q gap is p d ∙ and_from _ _ (itself p.key) (inside_itself p.start p.end (between p.start y.time p.end inside.0 inside.1)) in
        (inside_is p.start (window_of r) (inside_there q r d (within d there))).0

  earlier : (r h p : ℤ) → r ≤ℤ h → h ≤ℤ p → r ≤ℤ p
  earlier r h p k l = omega (arith, ints)

  pub stays_first : (past : List Event) (e : Event) (f : Firing) → IsHome q past f → IsHome q (e ∷ past) f
  stays_first past e f h =
      let home : Place = h.firing.home in
      let (r, placed, shown, inside) = law.stays past e home h.firing.placed in
      record {
        firing = stays_firing q law past e f h.firing;
        first = subst (λ (p : Place). p.start ≤ℤ f.place.start) (sym (stays_home q law past e f h.firing)) (earlier r.start home.start f.place.start (starts_first past home r h.firing.placed shown inside) h.first);
      }

  new_first : (past : List Event) (e : Event) (x : Place × List Datum) → IsFilled q (e ∷ past) x → (f : Firing) → does q past e x ≡ Some f → IsHome q (e ∷ past) f
  new_first past e x filled f is =
      let at_x : f.place.start ≡ x.0.start = ap (λ (p : Place). p.start) (fires_as q past e x.0 x.1 f is).place in
      let begins : x.0.start ≤ℤ f.place.start = omega (arith, ints) in
      record { firing = new_firing q law past e x filled f is; first = subst (λ (p : Place). p.start ≤ℤ f.place.start) (sym (new_home q law past e x filled f is)) begins }

  pub each_home : (past : List Event) → AllByRecursion (IsHome q past) (firings_so_far q past)
  each_home [] = tt
  each_home (e ∷ past) =
      all-append (IsHome q (e ∷ past)) (firings_so_far q past) (firings q past e)
      (all-each (IsHome q past) (IsHome q (e ∷ past)) (firings_so_far q past) (stays_first past e) (each_home past))
      (subst (AllByRecursion (IsHome q (e ∷ past))) (sym (firings_are q past e))
      (filter_map-all (IsFilled q (e ∷ past)) (IsHome q (e ∷ past)) (does q past e) (new_first past e) (panes q (e ∷ past)) (each_filled q law (e ∷ past))))

  -- a record of a pane of now was shown by firings of windows alone that start no sooner
  module _ (late : Place → Bool) (past : List Event) (e : Event) (p : Place) (placed : among p (places q (e ∷ past)) ≡ true) (later : (r : Place) → p.key ≡ r.key → p.start ≤ℤ r.start → late r ≡ true) where
    abbrev IsShownBy : Datum → Type 0
    IsShownBy d = is_shown q past p d ≡ list_any (λ f. shows q.shape p f.place && holds d f.contents) (filter (λ f. late f.place) (firings_so_far q past))

    shown_late : (d : Datum) → is_there q p d ≡ true → ((r : Place) → holds d (contents q (e ∷ past) r) ≡ is_there q r d) → IsShownBy d
    shown_late d in_p held_by =
        shown_by_all q past p d
        ∙ list_any-found (IsHome q (e ∷ past)) (λ f. shows q.shape p f.place && holds d f.contents) (λ f. late f.place)
        (λ f h k.
        let (s, hd) = and_parts (shows q.shape p f.place) (holds d f.contents) k in
        let home : Place = h.firing.home in
        let in_home : is_there q home d ≡ true = sym (held_by home) ∙ h.firing.inside d hd in
        let same : p ≡ home = law.apart (e ∷ past) p home placed h.firing.placed (shows_on q.shape p f.place home s (shows_back q.shape home f.place h.firing.shown)) d in_p in_home in
        later f.place (shows_key q.shape p f.place s) (let first : home.start ≤ℤ f.place.start = h.first in let begins : p.start ≡ home.start = ap (λ (r : Place). r.start) same in omega (arith, ints)))
        (firings_so_far q past)
        (all-each (IsHome q past) (IsHome q (e ∷ past)) (firings_so_far q past) (stays_first past e) (each_home past))

    pub shown_by_late : AllByRecursion IsShownBy (contents q (e ∷ past) p)
    shown_by_late =
        let ds : List Datum = selected q (e ∷ past) in
        all-both (λ d. is_there q p d ≡ true) (λ d. (r : Place) → holds d (contents q (e ∷ past) r) ≡ is_there q r d) IsShownBy shown_late
        (contents q (e ∷ past) p)
        (passed (is_there q p) ds)
        (filter-all (λ d. (r : Place) → holds d (contents q (e ∷ past) r) ≡ is_there q r d) (is_there q p) ds (all-swap (λ r d. holds d (contents q (e ∷ past) r) ≡ is_there q r d) ds (λ r. holds-filter (is_there q r) ds (selected_falls q (e ∷ past)))))
