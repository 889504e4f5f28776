-- How many panes there are, whatever the shape of windows: for each declared key at most the windows
-- that can be live at once. So it is of the panes that are held, and of those that a record was just
-- put into.
use Rattle.std.proofs.Common.{◌≡◌, ℕ, ◌<◌, ◌≤◌, true, List, ◌∷◌, map, length, ℤ, pos, ◌+ℤ◌, ◌≤ℤ◌, Some, None, refl, sym, ap, subst, ◌∙◌}
use Rattle.std.specs.Prelude.{All, nat_eq}
use Rattle.std.specs.List.{AllByRecursion}
use Rattle.std.proofs.lemmas.Bool.{eqb-true}
use Rattle.wsm_record.specs.declared.event.Value.{Value}
use Rattle.wsm_record.specs.Event.{Event, Record}
use Rattle.wsm_windows.specs.declared.window.Window.{Window}
use Rattle.wsm_windows.specs.declared.window.Shape.{Shape}
use Rattle.wsm_windows.specs.declared.window.Shape.TheVariants.{Fixed, Sliding, Session}
use Rattle.wsm_windows.specs.Windows.{IsShape, IsRising, IsWindowOf, IsWindowOfShape}
use Rattle.wsm_windows.specs.Life.{live_bound, AreOfOneKey, IsHeld, IsOnGrid}
use Rattle.wsm_windows.proofs.Bounds.{enough}
use Rattle.wsm_windows.specs.declared.place.Place.{Place}
use Rattle.wsm_windows.specs.Places.{at, window_of}
use Rattle.wsm_admission.specs.Clock.{IsWithinLimits}
use Rattle.wsm_semantics.specs.Query.{Query, SessionsByEvent, Datum, mark, verdict_on, selected, datum}
use Rattle.wsm_semantics.specs.Panes.{places, held}
use Rattle.wsm_semantics.specs.HeldBounds.{most_panes}
use Rattle.wsm_semantics.specs.Kept.{kept, kept_in, entered}
use Rattle.wsm_semantics.proofs.Lists.{filter-all, all-each, length_each}
use Rattle.wsm_semantics.proofs.Tables.{among, is_sorted-held}
use Rattle.wsm_semantics.proofs.Assigned.{IsAssigned}
use Rattle.wsm_semantics.proofs.AssignedStep.{grid_of}
use Rattle.wsm_semantics.proofs.Each.{passed, all-both, as_true, map-all}
use Rattle.wsm_semantics.proofs.Sessions.{sessions_apart}
use Rattle.wsm_semantics.proofs.SessionTimes.{IsOneOf}
use Rattle.wsm_semantics.proofs.SessionPlaces.{one_of, times_of, sessions_of}
use Rattle.wsm_semantics.proofs.SessionStep.{among_places}
use Rattle.wsm_semantics.proofs.KeptLaw.{gap_is_long, enters}
use Rattle.wsm_semantics.proofs.ManyKeys.{all-is, at_key, windows_at, AreInOrder, in_order, in_order-filter, length_by_keys, rising_windows, apart_windows}
use Rattle.wsm_semantics.proofs.HeldPanes.{IsHeldPane, held_panes}

module _ (q : Query) (ok : IsShape q.shape) (timely : SessionsByEvent q) (within : IsWithinLimits q.clock) (past : List Event) where
  -- the held panes of a key
  abbrev of_one : ℕ → List (Place × List Datum)
  of_one k = at_key k (held q past)

  of_key_all : (k : ℕ) → AllByRecursion (λ e. (e.0.key ≡ k) × IsHeldPane q past e) (of_one k)
  of_key_all k =
      all-both (λ e. nat_eq e.0.key k ≡ true) (IsHeldPane q past) (λ e. (e.0.key ≡ k) × IsHeldPane q past e) (λ e key pane. (eqb-true e.0.key k key, pane)) (of_one k)
      (passed (λ e. nat_eq e.0.key k) (held q past))
      (filter-all (IsHeldPane q past) (λ e. nat_eq e.0.key k) (held q past) (held_panes q ok timely past))

  ordered : (k : ℕ) → AreInOrder (of_one k)
  ordered k = in_order-filter (λ e. nat_eq e.0.key k) (held q past) (in_order (held q past) (as_true _ (is_sorted-held q past)))

  module _ (k : ℕ) (size period : ℤ) (grid : (e : Place × List Datum) → among e.0 (places q past) ≡ true → (u : ℤ) × IsWindowOf size period u (window_of e.0)) where
    grid_windows : All (IsOnGrid size period) (windows_at (of_one k)) × IsRising (windows_at (of_one k))
    grid_windows = (
      all-is (IsOnGrid size period) (windows_at (of_one k))
          (map-all (IsOnGrid size period) (λ e. window_of e.0) (of_one k)
          (all-each (λ e. (e.0.key ≡ k) × IsHeldPane q past e) (λ e. IsOnGrid size period (window_of e.0)) (of_one k)
          (λ e h. let (u, is) = grid e h.1.placed in record { k = is.k; start = is.start; end = is.end }) (of_key_all k))),
      rising_windows k size (of_one k) (ordered k)
          (all-each (λ e. (e.0.key ≡ k) × IsHeldPane q past e) (λ e. (e.0.key ≡ k) × (e.0.end ≡ e.0.start +ℤ size)) (of_one k)
          (λ e h. let (u, is) = grid e h.1.placed in (h.0, is.end)) (of_key_all k)),
    )

  -- the held windows of a key are windows of one key
  windows_of_key : (k : ℕ) → AreOfOneKey q.shape (windows_at (of_one k))
  windows_of_key k = pick q.shape refl where
    pick : (s : Shape) → q.shape ≡ s → AreOfOneKey s (windows_at (of_one k))
    pick (Fixed size) is =
        grid_windows k size size (λ e placed. let (u, grid) = grid_of q ok (subst IsAssigned (sym is) tt) past e.0 placed in (u, subst (λ s. IsWindowOfShape s u (window_of e.0)) is grid))
    pick (Sliding size period) is =
        grid_windows k size period (λ e placed. let (u, grid) = grid_of q ok (subst IsAssigned (sym is) tt) past e.0 placed in (u, subst (λ s. IsWindowOfShape s u (window_of e.0)) is grid))
    pick (Session gap) is =
        let long : pos 1 ≤ℤ gap = gap_is_long q gap is ok in
        let ds : List Datum = selected q past in
        let ws : List Window = sessions_of gap ds k in
        apart_windows k gap long ws (sessions_apart gap long (times_of gap ds k)) (of_one k) (ordered k)
        (all-each (λ e. (e.0.key ≡ k) × IsHeldPane q past e) (λ e. (e.0.key ≡ k) × IsOneOf (window_of e.0) ws) (of_one k)
        (λ e h. (h.0, one_of e.0 k ws (ap (λ (j : ℕ). among e.0 (map (at j) (sessions_of gap ds j))) (sym h.0) ∙ sym (among_places q gap is long past e.0) ∙ h.1.placed)))
        (of_key_all k))

  -- no more panes of a key are held than windows can be live at once
  pub held_at_key : (k : ℕ) → length (at_key k (held q past)) ≤ live_bound q.shape q.clock.skew q.clock.lateness
  held_at_key k =
      subst (λ (n : ℕ). n ≤ live_bound q.shape q.clock.skew q.clock.lateness) (length_each (λ e. window_of e.0) (of_one k))
      (enough q.shape q.clock.skew q.clock.lateness (mark q past) (windows_at (of_one k)) ok
      (record { low = within.skew_from; high = within.skew_to })
      (record { low = within.lateness_from; high = within.lateness_to })
      (windows_of_key k)
      (all-is (IsHeld q.clock.skew q.clock.lateness (mark q past)) (windows_at (of_one k))
      (map-all (IsHeld q.clock.skew q.clock.lateness (mark q past)) (λ e. window_of e.0) (of_one k)
      (all-each (λ e. (e.0.key ≡ k) × IsHeldPane q past e) (λ e. IsHeld q.clock.skew q.clock.lateness (mark q past) (window_of e.0)) (of_one k)
      (λ e h. record { live = h.1.live; near = h.1.near }) (of_key_all k)))))

  -- no more panes are held than that for each key
  pub held_bounded : length (held q past) ≤ most_panes q
  held_bounded =
      length_by_keys (length q.declared.keys) (live_bound q.shape q.clock.skew q.clock.lateness) (held q past)
      (all-each (IsHeldPane q past) (λ e. e.0.key < length q.declared.keys) (held q past) (λ e pane. pane.key) (held_panes q ok timely past))
      held_at_key

  pub kept_bounded : length (kept q past) ≤ most_panes q
  kept_bounded = subst (λ (n : ℕ). n ≤ most_panes q) (sym (length_each (kept_in q past) (held q past))) held_bounded

-- ---- a record that is put in

module _ (q : Query) (ok : IsShape q.shape) (timely : SessionsByEvent q) (within : IsWithinLimits q.clock) (past : List Event) (k : ℕ) (t : ℤ) (vs : List Value) (taken : verdict_on q past (Record (Some k) t vs) ≡ None) (selects : q.selects k vs ≡ true) where
  -- as many panes as are held with it
  pub length_entered : length (entered q.shape q.clock.lateness (datum (length past) (mark q past) k t vs) (kept q past)) ≡ length (held q (Record (Some k) t vs ∷ past))
  length_entered = ap length (enters q ok timely past k t vs taken selects) ∙ length_each (kept_in q past) (held q (Record (Some k) t vs ∷ past))

  -- right after a record is put in, before anything fires
  pub entered_bounded : length (entered q.shape q.clock.lateness (datum (length past) (mark q past) k t vs) (kept q past)) ≤ most_panes q
  entered_bounded = subst (λ (n : ℕ). n ≤ most_panes q) (sym length_entered) (held_bounded q ok timely within (Record (Some k) t vs ∷ past))
