-- What is known of each held pane, whatever the shape of windows: its key is declared, its window is
-- one that a time can stand in, lives and starts no further ahead of the watermark than the skew, and
-- it has at least one record, each of them selected, of its key and inside its window.
use Rattle.std.proofs.Common.{◌≡◌, ℕ, ◌<◌, ◌≤◌, true, List, [], ◌∷◌, length, ℤ, pos, ◌+ℤ◌, ◌≤ℤ◌, ◌<ℤ◌, refl, sym, subst, ◌∙◌, arith}
use Rattle.std.proofs.lemmas.Int.{ints, clamps}
use Rattle.std.proofs.lemmas.Bool.{and_parts, eqb-true}
use Rattle.std.specs.Prelude.{filter, int_lt}
use Rattle.std.specs.Int.{int_max, int_min}
use Rattle.std.specs.List.{AllByRecursion}
use Rattle.wsm_record.specs.Event.{Event}
use Rattle.wsm_windows.specs.declared.window.Window.{Window}
use Rattle.wsm_windows.specs.declared.window.Shape.{Shape}
use Rattle.wsm_windows.specs.declared.window.Shape.TheVariants.{Fixed, Sliding, Session}
use Rattle.wsm_windows.specs.Windows.{window, greatest_span, greatest_time, size_of, IsShape, IsTime, IsPlaced, IsWindowOf, IsWindowOfShape}
use Rattle.wsm_windows.specs.declared.place.Place.{Place}
use Rattle.wsm_windows.specs.Places.{window_of}
use Rattle.wsm_admission.specs.Clock.{admitted_count}
use Rattle.wsm_semantics.specs.Query.{Query, SessionsByEvent, Datum, mark, selected}
use Rattle.wsm_semantics.specs.Sessions.{sessions, ends_by, starts_from, links, session_of}
use Rattle.wsm_semantics.specs.Panes.{of_key, places, is_there, contents, panes, held, is_live_at}
use Rattle.wsm_semantics.proofs.Lists.{IsNonEmpty, filter-all, all-each}
use Rattle.wsm_semantics.proofs.Turns.{inside_there}
use Rattle.wsm_semantics.proofs.Tables.{among}
use Rattle.wsm_semantics.proofs.Assigned.{IsAssigned}
use Rattle.wsm_semantics.proofs.AssignedStep.{grid_of}
use Rattle.wsm_semantics.proofs.Each.{passed, all-append, all-both, all-passed, map-all}
use Rattle.wsm_semantics.proofs.ShownPanes.{IsPane, each_pane}
use Rattle.wsm_semantics.proofs.Sessions.{sessions-more}
use Rattle.wsm_semantics.proofs.SessionTimes.{IsOneOf, of-all, inside_is}
use Rattle.wsm_semantics.proofs.SessionPlaces.{one_of, times_of, sessions_of}
use Rattle.wsm_semantics.proofs.SessionStep.{among_places}
use Rattle.wsm_semantics.proofs.KeptLaw as kept_law
use Rattle.wsm_semantics.proofs.KeptLaw.{gap_is_long}
use Rattle.wsm_semantics.proofs.SelectedRecords.{IsSelected, each_selected, selected_count}
use Rattle.wsm_semantics.proofs.ManyKeys.{length-filter}

-- ---- where windows lie

-- the window lies between a time and a gap after another
abbrev pub LiesIn : ℤ → ℤ → Window → Type 0
LiesIn low top w = (low ≤ℤ w.start) × (w.end ≤ℤ top)

both_lie : (low top : ℤ) (w v : Window) → LiesIn low top w → LiesIn low top v → LiesIn low top (window (int_min w.start v.start) (int_max w.end v.end))
both_lie low top w v h k =
    let a : low ≤ℤ w.start = h.0 in
    let b : w.end ≤ℤ top = h.1 in
    let c : low ≤ℤ v.start = k.0 in
    let d : v.end ≤ℤ top = k.1 in
    (omega (arith, ints, clamps), omega (arith, ints, clamps))

module _ (gap : ℤ) (long : pos 1 ≤ℤ gap) (low high : ℤ) where
  joined_lies : (t : ℤ) (ws : List Window) → LiesIn low (high +ℤ gap) (window t (t +ℤ gap)) → AllByRecursion (LiesIn low (high +ℤ gap)) ws → LiesIn low (high +ℤ gap) (session_of gap t ws)
  joined_lies t [] h all = h
  joined_lies t (w ∷ ws) h all = both_lie low (high +ℤ gap) w (session_of gap t ws) all.0 (joined_lies t ws h all.1)

  one_lies : (t : ℤ) → low ≤ℤ t → t ≤ℤ high → LiesIn low (high +ℤ gap) (window t (t +ℤ gap))
  one_lies t h k = (h, omega (arith, ints))

  -- sessions lie between the least time and a gap after the greatest
  pub sessions_lie : (ts : List ℤ) → AllByRecursion (λ t. (low ≤ℤ t) × (t ≤ℤ high)) ts → AllByRecursion (LiesIn low (high +ℤ gap)) (sessions gap ts)
  sessions_lie [] h = tt
  sessions_lie (t ∷ ts) h =
      let Lies : Window → Type 0 = LiesIn low (high +ℤ gap) in
      let ws : List Window = sessions gap ts in
      let old : AllByRecursion Lies ws = sessions_lie ts h.1 in
      subst (AllByRecursion Lies) (sym (sessions-more gap long t ts))
      (all-append Lies (filter (ends_by t) ws) _
      (filter-all Lies (ends_by t) ws old)
      (joined_lies t (filter (links gap t) ws) (one_lies t h.0.0 h.0.1) (filter-all Lies (links gap t) ws old), filter-all Lies (starts_from (t +ℤ gap)) ws old))

grid_placed : (size period u t : ℤ) (w : Window) → size ≤ℤ greatest_span → IsWindowOf size period u w → IsTime t → w.start ≤ℤ t → t <ℤ w.end → IsPlaced w
grid_placed size period u t w most grid time from until =
    let end : w.end ≡ w.start +ℤ size = grid.end in
    let low : pos 0 ≤ℤ t = time.low in
    let high : t ≤ℤ greatest_time = time.high in
    record { apart = omega (arith, ints); low = omega (arith, ints); high = omega (arith, ints) }

session_placed : (gap t : ℤ) (w : Window) → gap ≤ℤ greatest_span → LiesIn (pos 0) (greatest_time +ℤ gap) w → w.start ≤ℤ t → t <ℤ w.end → IsPlaced w
session_placed gap t w most lies from until =
    let a : pos 0 ≤ℤ w.start = lies.0 in
    let b : w.end ≤ℤ (greatest_time +ℤ gap) = lies.1 in
    record { apart = omega (arith, ints); low = omega (arith, ints); high = omega (arith, ints) }

-- ---- of any shape

-- a pane that is held, after a history
pub record IsHeldPane (q : Query) (past : List Event) (e : Place × List Datum) : Type 0 where
  pub key : e.0.key < length q.declared.keys
  pub place : IsPlaced (window_of e.0)
  pub live : mark q past <ℤ (e.0.end +ℤ q.clock.lateness)
  pub near : e.0.start ≤ℤ (mark q past +ℤ q.clock.skew)
  pub placed : among e.0 (places q past) ≡ true
  pub has : e.1 ≡ contents q past e.0
  pub filled : 1 ≤ length e.1
  pub count : length e.1 ≤ admitted_count q.clock q.shape q.declared past
  pub records : AllByRecursion (IsSelected q (mark q past)) e.1
  pub there : AllByRecursion (λ d. is_there q e.0 d ≡ true) e.1

lives : (mark l end : ℤ) → int_lt mark (end +ℤ l) ≡ true → mark <ℤ (end +ℤ l)
lives mark l end h = grind (arith, ints)

no_later : (start t most : ℤ) → start ≤ℤ t → t ≤ℤ most → start ≤ℤ most
no_later start t most h k = omega (arith, ints)

module _ (q : Query) (ok : IsShape q.shape) (timely : SessionsByEvent q) (past : List Event) where
  -- the times of a key's selected records
  times_in_range : (gap : ℤ) (k : ℕ) (ds : List Datum) → AllByRecursion (IsSelected q (mark q past)) ds → AllByRecursion (λ t. (pos 0 ≤ℤ t) × (t ≤ℤ greatest_time)) (times_of gap ds k)
  times_in_range gap k ds h =
      map-all (λ t. (pos 0 ≤ℤ t) × (t ≤ℤ greatest_time)) (λ x. x.time) (of_key k ds)
      (all-each (IsSelected q (mark q past)) (λ x. (pos 0 ≤ℤ x.time) × (x.time ≤ℤ greatest_time)) (of_key k ds) (λ x s. (s.time.low, s.time.high))
      (filter-all (IsSelected q (mark q past)) _ ds h))

  -- a place with a record is one that a time can stand in
  in_range : (p : Place) → among p (places q past) ≡ true → (t : ℤ) → IsTime t → p.start ≤ℤ t → t <ℤ p.end → IsPlaced (window_of p)
  in_range p placed t time from until = pick q.shape refl where
    pick : (s : Shape) → q.shape ≡ s → IsPlaced (window_of p)
    pick (Fixed size) is =
        let assigned : IsAssigned q.shape = subst IsAssigned (sym is) tt in
        let (u, grid) = grid_of q ok assigned past p placed in
        grid_placed size size u t (window_of p) (subst (λ s. size_of s ≤ℤ greatest_span) is ok.size_high) (subst (λ s. IsWindowOfShape s u (window_of p)) is grid) time from until
    pick (Sliding size period) is =
        let assigned : IsAssigned q.shape = subst IsAssigned (sym is) tt in
        let (u, grid) = grid_of q ok assigned past p placed in
        grid_placed size period u t (window_of p) (subst (λ s. size_of s ≤ℤ greatest_span) is ok.size_high) (subst (λ s. IsWindowOfShape s u (window_of p)) is grid) time from until
    pick (Session gap) is =
        let long : pos 1 ≤ℤ gap = gap_is_long q gap is ok in
        let ds : List Datum = selected q past in
        let one : IsOneOf (window_of p) (sessions_of gap ds p.key) = one_of p p.key (sessions_of gap ds p.key) (sym (among_places q gap is long past p) ∙ placed) in
        session_placed gap t (window_of p) (subst (λ s. size_of s ≤ℤ greatest_span) is ok.size_high)
        (of-all (LiesIn (pos 0) (greatest_time +ℤ gap)) (window_of p) (sessions_of gap ds p.key)
        (sessions_lie gap long (pos 0) greatest_time (times_of gap ds p.key) (times_in_range gap p.key ds (each_selected q past))) one)
        from until

  one_held : (e : Place × List Datum) → IsPane q past e → IsNonEmpty e.1 → is_live_at q (mark q past) e.0 ≡ true → IsHeldPane q past e
  one_held e pane (d, rest, is) live =
      let Selected : Datum → Type 0 = IsSelected q (mark q past) in
      let here : AllByRecursion (λ x. is_there q e.0 x ≡ true) e.1 = subst (AllByRecursion (λ x. is_there q e.0 x ≡ true)) (sym pane.0) (passed (is_there q e.0) (selected q past)) in
      let chosen : AllByRecursion Selected e.1 = subst (AllByRecursion Selected) (sym pane.0) (filter-all Selected (is_there q e.0) (selected q past) (each_selected q past)) in
      let first : is_there q e.0 d ≡ true = (subst (AllByRecursion (λ x. is_there q e.0 x ≡ true)) is here).0 in
      let known : Selected d = (subst (AllByRecursion Selected) is chosen).0 in
      let parts = and_parts _ _ first in
      let inside : (e.0.start ≤ℤ d.time) × (d.time <ℤ e.0.end) = inside_is d.time (window_of e.0) (inside_there q e.0 d first) in
      record {
        key = subst (λ (k : ℕ). k < length q.declared.keys) (eqb-true d.key e.0.key parts.0) known.key;
        place = in_range e.0 pane.1 d.time known.time inside.0 inside.1;
        live = lives (mark q past) q.clock.lateness e.0.end live;
        near = no_later e.0.start d.time (mark q past +ℤ q.clock.skew) inside.0 known.near;
        placed = pane.1;
        has = pane.0;
        filled = subst (λ (ds : List Datum). 1 ≤ length ds) (sym is) (omega arith);
        count = let most = selected_count q past in let less = length-filter (is_there q e.0) (selected q past) in subst (λ (ds : List Datum). length ds ≤ admitted_count q.clock q.shape q.declared past) (sym pane.0) (omega arith);
        records = chosen;
        there = here;
      }

  -- of each pane that is held
  pub held_panes : AllByRecursion (IsHeldPane q past) (held q past)
  held_panes =
      let Filled : Place × List Datum → Type 0 = λ e. IsPane q past e × IsNonEmpty e.1 in
      all-passed Filled (IsHeldPane q past) (λ e. is_live_at q (mark q past) e.0) (λ e h live. one_held e h.0 h.1 live) (panes q past)
      (all-both (IsPane q past) (λ e. IsNonEmpty e.1) Filled (λ e a b. (a, b)) (panes q past) (each_pane q past) ((kept_law.places q ok timely).filled past))
