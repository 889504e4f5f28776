-- What the panes that a record is linked to keep, put together: the records of the session that it
-- comes into.
use Rattle.std.proofs.Common.{◌≡◌, ℕ, Bool, true, false, ◌&&◌, ◌||◌, cond, not, List, [], ◌∷◌, map, ℤ, pos, ◌+ℤ◌, ◌≤ℤ◌, T, Some, None, refl, sym, ap, subst, ◌∙◌, arith}
use Rattle.std.proofs.lemmas.Int.{ints}
use Rattle.std.proofs.lemmas.Bool.{true≢false, and_parts}
use Rattle.std.specs.Prelude.{filter, int_lt, nat_eq}
use Rattle.std.specs.Int.{int_max, int_min}
use Rattle.std.specs.List.{AllByRecursion, list_any}
use Rattle.std.specs.Ordering.{eq_by_cmp, is_lt, int_cmp, nat_cmp, ordering_then}
use Rattle.std.specs.declared.cmp.Ordering.TheVariants.{Less, Equal, Greater}
use Rattle.std.specs.FinMap.Entries.{find, is_sorted, below_all}
use Rattle.std.proofs.Math.Bool.{and-false, or-false}
use Rattle.wsm_record.specs.Event.{Event}
use Rattle.wsm_windows.specs.declared.window.Window.{Window}
use Rattle.wsm_windows.specs.declared.window.Shape.{Shape}
use Rattle.wsm_windows.specs.declared.window.Shape.TheVariants.{Session}
use Rattle.wsm_windows.specs.Windows.{window, has_inside}
use Rattle.wsm_windows.specs.declared.place.Place.{Place}
use Rattle.wsm_windows.specs.Places.{place_cmp, at}
use Rattle.wsm_windows.proofs.Places.{tie_is}
use Rattle.wsm_semantics.specs.Query.{Query, Datum, selected}
use Rattle.wsm_semantics.specs.Sessions.{sessions, links, session_of}
use Rattle.wsm_semantics.specs.Panes.{of_key, is_there, contents}
use Rattle.wsm_semantics.specs.Firings.{is_shown, shows}
use Rattle.wsm_semantics.specs.Kept.{Kept, kept_in, merged, session_with, joined_to, joined_all, with_record}
use Rattle.wsm_semantics.proofs.Lists.{all-each, filter_same}
use Rattle.wsm_semantics.proofs.Tables.{among}
use Rattle.wsm_semantics.proofs.Each.{itself, all-any, filter-each, filter-filter, none_of}
use Rattle.wsm_semantics.proofs.MergedRecords.{selected_falls, merged-filter}
use Rattle.wsm_semantics.proofs.FiringsSoFar.{shown_alike}
use Rattle.wsm_semantics.proofs.Sessions.{StartFrom, AreApart}
use Rattle.wsm_semantics.proofs.SessionTimes.{covered, inside_is, inside_of_joined, none_after}
use Rattle.wsm_semantics.proofs.SessionPlaces.{there_is, times_of, sessions_of}

-- a table of some windows of a key
abbrev pub at_each : (Place → List Datum) → ℕ → List Window → List (Place × List Datum)
at_each c k ws = map (λ w. (at k w, c (at k w))) ws

pub find-at_each : (c : Place → List Datum) (p : Place) (k : ℕ) (ws : List Window) → find place_cmp p (at_each c k ws) ≡ cond (among p (map (at k) ws)) (Some (c p)) None
find-at_each c p k [] = refl
find-at_each c p k (w ∷ ws) =
    elim (eq_by_cmp place_cmp p (at k w)) as (λ b. eq_by_cmp place_cmp p (at k w) ≡ b → cond b (Some (c (at k w))) (find place_cmp p (at_each c k ws)) ≡ cond (b || among p (map (at k) ws)) (Some (c p)) None) [
      | true ↦ λ e. ap (λ (x : Place). Some (c x)) (sym (tie_is p (at k w) e))
      | false ↦ λ e. find-at_each c p k ws
    ] refl

both_true : (a b : Bool) → T a → T b → T (a && b)
both_true true b h k = k
both_true false b h k = absurd h

module _ (gap : ℤ) (long : pos 1 ≤ℤ gap) (c : Place → List Datum) (k : ℕ) where
  sooner_ends : (w v : Window) → w.end ≤ℤ v.start → (v.start +ℤ gap) ≤ℤ v.end → T (is_lt (place_cmp (at k w) (at k v)))
  sooner_ends w v h lasts =
      let e : int_lt w.end v.end ≡ true = grind (arith, ints) in
      subst (λ (b : Bool). T (is_lt (ordering_then (cond b Less (cond (int_lt v.end w.end) Greater Equal)) (ordering_then (int_cmp w.start v.start) (nat_cmp k k))))) (sym e) tt

  below_each : (w : Window) (ws : List Window) → StartFrom w.end ws → AreApart gap ws → T (below_all place_cmp (at k w) (at_each c k ws))
  below_each w [] f a = tt
  below_each w (v ∷ ws) f a = both_true _ _ (sooner_ends w v f.0 a.0) (below_each w ws f.1 a.2)

  -- sessions that lie apart are in the order of places
  pub is_sorted-at_each : (ws : List Window) → AreApart gap ws → T (is_sorted place_cmp (at_each c k ws))
  is_sorted-at_each [] a = tt
  is_sorted-at_each (w ∷ ws) a = both_true _ _ (below_each w ws a.1 a.2) (is_sorted-at_each ws a.2)

-- what holds of the times of a key holds of its records
of_times : (P : ℤ → Type 0) (k : ℕ) (ds : List Datum) → AllByRecursion P (map (λ x. x.time) (of_key k ds)) → AllByRecursion (λ x. nat_eq x.key k ≡ true → P x.time) ds
of_times P k [] h = tt
of_times P k (x ∷ ds) h =
    let rest : List Datum = of_key k ds in
    elim (nat_eq x.key k) as (λ b. nat_eq x.key k ≡ b → AllByRecursion P (map (λ y. y.time) (cond b (x ∷ rest) rest)) → (nat_eq x.key k ≡ true → P x.time) × AllByRecursion (λ y. nat_eq y.key k ≡ true → P y.time) ds) [
      | true ↦ λ e all. (λ _. all.0, of_times P k ds all.1)
      | false ↦ λ e all. ((λ t. absurd (true≢false (sym t ∙ e))), of_times P k ds all)
    ] refl h

-- for sessions, shown is shown by a firing of the key
pub shown_by_key : (q : Query) (gap : ℤ) → q.shape ≡ Session gap → (past : List Event) (p r : Place) (d : Datum) → p.key ≡ r.key → is_shown q past p d ≡ is_shown q past r d
shown_by_key q gap is past p r d e = shown_alike q past p r d (subst (λ (s : Shape). shows s p r ≡ true) (sym is) (ap (nat_eq p.key) (sym e) ∙ itself p.key))

-- of the key, and inside one of the windows
abbrev pub is_in_any : ℕ → List Window → Datum → Bool
is_in_any k ws x = nat_eq x.key k && list_any (has_inside x.time) ws

module _ (q : Query) (gap : ℤ) (is : q.shape ≡ Session gap) (long : pos 1 ≤ℤ gap) (past : List Event) (k : ℕ) (p : Place) (key : k ≡ p.key) where
  abbrev ds : List Datum
  ds = selected q past

  abbrev new : Datum → Bool
  new x = not (is_shown q past p x)

  -- what the panes of some windows of the key keep
  abbrev pub kept_at : List Window → List (Place × Kept)
  kept_at ws = map (kept_in q past) (at_each (contents q past) k ws)

  -- what is kept are the records of the windows, all and unshown
  record KeepsOf (h : Kept) (ws : List Window) : Type 0 where
    pub all : h.all ≡ filter (is_in_any k ws) ds
    pub unshown : h.unshown ≡ filter (λ x. is_in_any k ws x && new x) ds

  one_pane : (w : Window) → KeepsOf (kept_in q past (at k w, contents q past (at k w))).1 (w ∷ [])
  one_pane w =
      let same : (x : Datum) → is_there q (at k w) x ≡ is_in_any k (w ∷ []) x = λ x. there_is q gap is (at k w) x ∙ ap (λ (b : Bool). nat_eq x.key k && b) (sym (or-false (has_inside x.time w))) in
      record {
        all = filter_same _ _ same ds;
        unshown = filter-filter (λ x. not (is_shown q past (at k w) x)) (is_there q (at k w)) ds
            ∙ filter_same _ _ (λ x i. same x i && not (shown_by_key q gap is past (at k w) p x key i)) ds;
      }

  spread : (a i j : Bool) → ((a && (i || false)) || (a && j)) ≡ (a && (i || j))
  spread true true j = refl
  spread true false j = refl
  spread false i j = refl

  spread_new : (a i j n : Bool) → (((a && (i || false)) && n) || ((a && j) && n)) ≡ ((a && (i || j)) && n)
  spread_new true true true true = refl
  spread_new true true true false = refl
  spread_new true true false true = refl
  spread_new true true false false = refl
  spread_new true false j n = refl
  spread_new false i j n = refl

  not_both : (w : Window) (ws : List Window) → StartFrom w.end ws → (x : Datum) → is_in_any k (w ∷ []) x ≡ true → is_in_any k ws x ≡ false
  not_both w ws from x h =
      let inside : has_inside x.time w ≡ true = sym (or-false (has_inside x.time w)) ∙ (and_parts _ _ h).1 in
      ap (λ (b : Bool). nat_eq x.key k && b) (none_after x.time w.end (inside_is x.time w inside).1 ws from)
      ∙ and-false (nat_eq x.key k)

  two_panes : (a b : Kept) (w : Window) (ws : List Window) → StartFrom w.end ws → KeepsOf a (w ∷ []) → KeepsOf b ws → KeepsOf (joined_to a (Some b)) (w ∷ ws)
  two_panes a b w ws from ka kb = record {
    all = (λ i. merged (ka.all i) (kb.all i))
        ∙ merged-filter (is_in_any k (w ∷ [])) (is_in_any k ws) (not_both w ws from) ds (selected_falls q past)
        ∙ filter_same _ _ (λ x. spread (nat_eq x.key k) (has_inside x.time w) (list_any (has_inside x.time) ws)) ds;
    unshown = (λ i. merged (ka.unshown i) (kb.unshown i))
        ∙ merged-filter (λ x. is_in_any k (w ∷ []) x && new x) (λ x. is_in_any k ws x && new x)
        (λ x h. ap (λ (c : Bool). c && new x) (not_both w ws from x (and_parts _ _ h).0)) ds (selected_falls q past)
        ∙ filter_same _ _ (λ x. spread_new (nat_eq x.key k) (has_inside x.time w) (list_any (has_inside x.time) ws) (new x)) ds;
  }

  all_panes : (w : Window) (ws : List Window) → AreApart gap (w ∷ ws) → KeepsOf (joined_to (kept_in q past (at k w, contents q past (at k w))).1 (joined_all (kept_at ws))) (w ∷ ws)
  all_panes w [] a = one_pane w
  all_panes w (v ∷ ws) a = two_panes _ _ w (v ∷ ws) a.1 (one_pane w) (all_panes v ws a.2)

  -- a record put to what the panes keep
  pub all_panes_with : (d : Datum) (ws : List Window) → AreApart gap ws →
      ((with_record d (joined_all (kept_at ws))).all ≡ d ∷ filter (is_in_any k ws) ds) × ((with_record d (joined_all (kept_at ws))).unshown ≡ d ∷ filter (λ x. is_in_any k ws x && new x) ds)
  all_panes_with d [] a = (
    ap (λ (xs : List Datum). d ∷ xs) (sym (none_of (is_in_any k []) ds (all-any (λ x. is_in_any k [] x ≡ false) (λ x. and-false (nat_eq x.key k)) ds))),
    ap (λ (xs : List Datum). d ∷ xs) (sym (none_of (λ x. is_in_any k [] x && new x) ds (all-any (λ x. (is_in_any k [] x && new x) ≡ false) (λ x. ap (λ (b : Bool). b && new x) (and-false (nat_eq x.key k))) ds))),
  )
  all_panes_with d (w ∷ ws) a =
      let h : KeepsOf (joined_to (kept_in q past (at k w, contents q past (at k w))).1 (joined_all (kept_at ws))) (w ∷ ws) = all_panes w ws a in
      (ap (λ (xs : List Datum). d ∷ xs) h.all, ap (λ (xs : List Datum). d ∷ xs) h.unshown)

  -- the session that a record comes into
  pub session_with-is : (d : Datum) → d.key ≡ k → (ws : List Window) → session_with gap d (kept_at ws) ≡ at d.key (session_of gap d.time ws)
  session_with-is d e [] = refl
  session_with-is d e (w ∷ ws) = ap (λ (r : Place). at d.key (window (int_min w.start r.start) (int_max w.end r.end))) (session_with-is d e ws)

  -- the records of the joined session are those of the sessions that it joins
  pub joined_contents : (t : ℤ) →
      filter (is_there q (at k (session_of gap t (filter (links gap t) (sessions_of gap ds k))))) ds ≡ filter (is_in_any k (filter (links gap t) (sessions_of gap ds k))) ds
  joined_contents t =
      let times : List ℤ = times_of gap ds k in
      let ws : List Window = filter (links gap t) (sessions gap times) in
      filter-each (is_there q (at k (session_of gap t ws))) (is_in_any k ws) ds
      (all-each (λ x. nat_eq x.key k ≡ true → list_any (has_inside x.time) (sessions gap times) ≡ true) (λ x. is_there q (at k (session_of gap t ws)) x ≡ is_in_any k ws x) ds
      (λ x h. there_is q gap is (at k (session_of gap t ws)) x ∙ elim (nat_eq x.key k) as (λ b. nat_eq x.key k ≡ b → (b && has_inside x.time (session_of gap t ws)) ≡ (b && list_any (has_inside x.time) ws)) [
        | true ↦ λ e. inside_of_joined gap long t x.time times (h e)
        | false ↦ λ e. refl
      ] refl)
      (of_times (λ u. list_any (has_inside u) (sessions gap times) ≡ true) k ds (covered gap long times)))
