-- The panes of two bags of records that are the same: the same places, each with the same bag.
use Rattle.std.proofs.Common.{◌≡◌, ℕ, Bool, true, false, ◌&&◌, ◌||◌, cond, List, ◌++◌, map, ℤ, Some, None, refl, sym, ap, ◌∙◌}
use Rattle.std.specs.Prelude.{filter, flat_map, nat_eq, option_map}
use Rattle.std.specs.Ordering.{eq_by_cmp}
use Rattle.std.specs.FinMap.Entries.{same_entries}
use Rattle.wsm_windows.specs.declared.window.Shape.{Shape}
use Rattle.wsm_windows.specs.declared.window.Shape.TheVariants.{Fixed, Sliding, Session}
use Rattle.wsm_windows.specs.Windows.{has_inside, IsShape}
use Rattle.wsm_windows.specs.Life.{is_live, live_windows_of}
use Rattle.wsm_windows.specs.declared.window.Window.{Window}
use Rattle.wsm_windows.specs.declared.place.Place.{Place}
use Rattle.wsm_windows.specs.Places.{place_cmp, at, window_of}
use Rattle.wsm_windows.proofs.Places.{places_total, places_exact}
use Rattle.wsm_semantics.specs.Query.{Query, Datum}
use Rattle.wsm_semantics.specs.Sessions.{with_time, rising, sessions_of_rising}
use Rattle.wsm_semantics.specs.Panes.{of_key, is_there, stands_in, windows_among, with_contents}
use Rattle.wsm_semantics.proofs.Tables.{among, find-with_contents, is_sorted-with_contents, keyed, find-keyed, is_sorted-keyed}
use Rattle.wsm_semantics.proofs.Each.{list_any-append}
use Rattle.wsm_semantics.proofs.SessionPlaces.{places-sessions}
use Rattle.wsm_semantics.proofs.ReorderedRecords.{Shuffled, Empty, With, Swapped, Through, AgreeOn, same_filter}
use Rattle.wsm_semantics.proofs.SessionOrder.{with_time-swap}

-- the places of some selected records
abbrev pub places_of : Shape → ℤ → List Datum → List Place
places_of shape l ds = flat_map (λ d. map (at d.key) (windows_among shape l ds d)) ds

abbrev pub contents_of : Query → List Datum → Place → List Datum
contents_of q ds p = filter (is_there q p) ds

-- the panes of some selected records
abbrev pub panes_of : Query → List Datum → List (Place × List Datum)
panes_of q ds = with_contents (contents_of q ds) (places_of q.shape q.clock.lateness ds)

-- ---- windows assigned by time alone

swapped_or : (a b c : Bool) → (a || (b || c)) ≡ (b || (a || c))
swapped_or true true c = refl
swapped_or true false c = refl
swapped_or false b c = refl

among_bag : (f : ℕ → ℤ → ℤ → List Place) (p : Place) (ds es : List Datum) → Shuffled ds es → among p (flat_map (λ d. f d.key d.mark d.time) ds) ≡ among p (flat_map (λ d. f d.key d.mark d.time) es)
among_bag f p _ _ Empty = refl
among_bag f p _ _ (With d e ds es key mark time values h) =
    list_any-append (eq_by_cmp place_cmp p) (f d.key d.mark d.time) (flat_map (λ d. f d.key d.mark d.time) ds)
    ∙ (λ i. among p (f (key i) (mark i) (time i)) || among_bag f p ds es h i)
    ∙ sym (list_any-append (eq_by_cmp place_cmp p) (f e.key e.mark e.time) (flat_map (λ d. f d.key d.mark d.time) es))
among_bag f p _ _ (Swapped d e ds) =
    let rest : List Place = flat_map (λ d. f d.key d.mark d.time) ds in
    list_any-append (eq_by_cmp place_cmp p) (f d.key d.mark d.time) (f e.key e.mark e.time ++ rest)
    ∙ ap (λ (b : Bool). among p (f d.key d.mark d.time) || b) (list_any-append (eq_by_cmp place_cmp p) (f e.key e.mark e.time) rest)
    ∙ swapped_or (among p (f d.key d.mark d.time)) (among p (f e.key e.mark e.time)) (among p rest)
    ∙ ap (λ (b : Bool). among p (f e.key e.mark e.time) || b) (sym (list_any-append (eq_by_cmp place_cmp p) (f d.key d.mark d.time) rest))
    ∙ sym (list_any-append (eq_by_cmp place_cmp p) (f e.key e.mark e.time) (f d.key d.mark d.time ++ rest))
among_bag f p _ _ (Through ds es fs h k) = among_bag f p ds es h ∙ among_bag f p es fs k

-- ---- sessions

rising_bag : (ds es : List Datum) → Shuffled ds es → rising (map (λ x. x.time) ds) ≡ rising (map (λ x. x.time) es)
rising_bag _ _ Empty = refl
rising_bag _ _ (With d e ds es key mark time values h) = λ i. with_time (time i) (rising_bag ds es h i)
rising_bag _ _ (Swapped d e ds) = with_time-swap d.time e.time (rising (map (λ x. x.time) ds))
rising_bag _ _ (Through ds es fs h k) = rising_bag ds es h ∙ rising_bag es fs k

of_key_agrees : (key : ℕ) → AgreeOn (λ d. nat_eq d.key key) (λ d. nat_eq d.key key)
of_key_agrees key d e k m t v = ap (λ (n : ℕ). nat_eq n key) k

-- ---- places and panes

pub among_same : (shape : Shape) (l : ℤ) → IsShape shape → (p : Place) (ds es : List Datum) → Shuffled ds es → among p (places_of shape l ds) ≡ among p (places_of shape l es)
among_same (Fixed size) l ok p ds es h = among_bag (λ k m t. map (at k) (live_windows_of (Fixed size) t l m)) p ds es h
among_same (Sliding size period) l ok p ds es h = among_bag (λ k m t. map (at k) (live_windows_of (Sliding size period) t l m)) p ds es h
among_same (Session gap) l ok p ds es h =
    places-sessions gap ds ok.period_low p
    ∙ ap (λ (ts : List ℤ). among p (map (at p.key) (sessions_of_rising gap ts)))
    (rising_bag (of_key p.key ds) (of_key p.key es) (same_filter (λ d. nat_eq d.key p.key) (λ d. nat_eq d.key p.key) (of_key_agrees p.key) ds es h))
    ∙ sym (places-sessions gap es ok.period_low p)

stands_alike : (shape : Shape) (l : ℤ) (w : Window) (d e : Datum) → d.mark ≡ e.mark → d.time ≡ e.time → stands_in shape l w d ≡ stands_in shape l w e
stands_alike (Fixed size) l w d e m t = λ i. has_inside (t i) w && is_live w l (m i)
stands_alike (Sliding size period) l w d e m t = λ i. has_inside (t i) w && is_live w l (m i)
stands_alike (Session gap) l w d e m t = λ i. has_inside (t i) w

pub there_agrees : (q : Query) (p : Place) → AgreeOn (is_there q p) (is_there q p)
there_agrees q p d e k m t v = λ i. nat_eq (k i) p.key && stands_alike q.shape q.clock.lateness (window_of p) d e m t i

pub same_contents : (q : Query) (p : Place) (ds es : List Datum) → Shuffled ds es → Shuffled (contents_of q ds p) (contents_of q es p)
same_contents q p = same_filter (is_there q p) (is_there q p) (there_agrees q p)

-- the panes of the one are those of the other, each with its own records
pub same_panes : (q : Query) → IsShape q.shape → (ds es : List Datum) → Shuffled ds es → panes_of q es ≡ map (λ x. (x.0, contents_of q es x.0)) (panes_of q ds)
same_panes q ok ds es h =
    same_entries place_cmp places_total places_exact (panes_of q es) (keyed (λ p _. contents_of q es p) (panes_of q ds))
    (is_sorted-with_contents (contents_of q es) (places_of q.shape q.clock.lateness es))
    (is_sorted-keyed (λ p _. contents_of q es p) (panes_of q ds) (is_sorted-with_contents (contents_of q ds) (places_of q.shape q.clock.lateness ds)))
    (λ p.
    find-with_contents (contents_of q es) p (places_of q.shape q.clock.lateness es)
    ∙ ap (λ (b : Bool). cond b (Some (contents_of q es p)) None) (sym (among_same q.shape q.clock.lateness ok p ds es h))
    ∙ gate (among p (places_of q.shape q.clock.lateness ds)) (contents_of q es p) (contents_of q ds p)
    ∙ ap (option_map (λ _. contents_of q es p)) (sym (find-with_contents (contents_of q ds) p (places_of q.shape q.clock.lateness ds)))
    ∙ sym (find-keyed (λ p _. contents_of q es p) p (panes_of q ds)))
  where
    gate : (b : Bool) (x y : List Datum) → cond b (Some x) None ≡ option_map (λ (_ : List Datum). x) (cond b (Some y) None)
    gate true x y = refl
    gate false x y = refl
