-- A record put into its session: which panes are held then, and which windows each key has.
use Rattle.std.proofs.Common.{◌≡◌, ◌<◌, ◌≤◌, ◌+◌, ℕ, suc, Bool, true, false, cond, List, [], ◌∷◌, map, length, length-append, ◌⊎◌, ◌||◌, ℤ, pos, ◌+ℤ◌, ◌≤ℤ◌, Option, refl, sym, ap, subst, ◌∙◌, inl, inr, arith}
use Rattle.std.proofs.lemmas.Bool.{or_left, or_right, cases_Bool, lt-ltb}
use Rattle.std.proofs.lemmas.Bool.Decides.{nat_tests}
use Rattle.std.specs.Prelude.{not, filter, nat_eq, nat_lt}
use Rattle.std.specs.List.{list_any}
use Rattle.std.specs.Option.{is_some}
use Rattle.std.specs.FinMap.{FinMap, contains_key, entries, len, len-entries, entries-insert, insert, retain_keys, get-entries, entries_sorted}
use Rattle.std.specs.FinMap.Entries.{put, find, where_key, is_sorted, length-put}
use Rattle.wsm_windows.specs.declared.window.Window.{Window}
use Rattle.wsm_windows.specs.Windows.{window}
use Rattle.wsm_windows.specs.declared.place.Place.{Place}
use Rattle.wsm_windows.specs.Places.{place_cmp, at, window_of}
use Rattle.wsm_windows.proofs.Places.{places_total}
use Rattle.wsm_semantics.specs.Query.{Datum}
use Rattle.wsm_semantics.specs.Kept.{is_linked}
use Rattle.wsm_semantics.specs.Replay.{datum}
use Rattle.wsm_semantics.specs.Sessions.{links, ends_by, starts_from, session_of, sessions, with_session}
use Rattle.wsm_semantics.specs.Summaries.{Pane, Plan, joined_all, linked, merged_session, session_with, with_record}
use Rattle.wsm_semantics.proofs.Lists.{filter_same, length_each, none_pass}
use Rattle.wsm_semantics.proofs.Each.{map-map, as_true}
use Rattle.wsm_semantics.proofs.Sessions.{AreApart, sessions-more, sessions_apart}
use Rattle.wsm_semantics.proofs.SessionOrder.{begins}
use Rattle.wsm_slots.specs.Panes.{windows_of_key}
use Rattle.wsm_list.proofs.Tables.{entries_kept}
use Rattle.wsm_slots.proofs.Order.{to_T}
use Rattle.wsm_list.proofs.Parts.{entered_windows, linked_places, other_windows, put_other, session_is}

-- where there is room for the entries with one more, it is there or there is room for it
finds_or_fits : {X : Type 0} (most : ℕ) (p : Place) (v : X) (es : List (Place × X)) → is_sorted place_cmp es ≡ true → length (put place_cmp p v es) ≤ most → (is_some (find place_cmp p es) ≡ true) ⊎ (length es < most)
finds_or_fits most p v es sorted h = chosen (is_some (find place_cmp p es)) (rw (length-put place_cmp places_total p v es (to_T _ sorted)) at h) where
  chosen : (b : Bool) → cond b (length es) (length es + 1) ≤ most → (b ≡ true) ⊎ (length es < most)
  chosen true k = inl refl
  chosen false k = inr (omega arith)

windows_back : (k : ℕ) (ws : List Window) → map window_of (map (at k) ws) ≡ ws
windows_back k [] = refl
windows_back k (w ∷ ws) = ap (λ (vs : List Window). w ∷ vs) (windows_back k ws)

module _ {X : Type 0} (plan : Plan X) (gap : ℤ) (key : ℕ) (t : ℤ) (m : FinMap place_cmp (Pane X)) (ws : List Window) (agree : windows_of_key key (entries m) ≡ ws) where
  abbrev it : Datum
  it = datum 0 (pos 0) key t []

  pub parts_at : (vs : List Window) → vs ≡ filter (links gap t) ws → map (λ e. e.0) (linked gap it (entries m)) ≡ map (at key) vs
  parts_at vs e = linked_places gap it (entries m) ∙ ap (λ us. map (at key) (filter (links gap t) us)) agree ∙ ap (map (at key)) (sym e)

  linked_windows : map (λ e. window_of e.0) (linked gap it (entries m)) ≡ filter (links gap t) ws
  linked_windows =
      sym (map-map window_of (λ (e : Place × Pane X). e.0) (linked gap it (entries m))) ∙ ap (map window_of) (parts_at (filter (links gap t) ws) refl) ∙ windows_back key (filter (links gap t) ws)

  pub session_place : session_with gap it (linked gap it (entries m)) ≡ at key (session_of gap t (filter (links gap t) ws))
  session_place = session_is gap it (linked gap it (entries m)) ∙ ap (λ us. at key (session_of gap t us)) linked_windows

  -- the panes that it isn't linked to, with the one that it comes into
  pub record Puts (left : FinMap place_cmp (Pane X)) (p : Place) (pane : Option (Pane X)) (v : Pane X) : Type 0 where
    pub left_is : left ≡ retain_keys m (λ p. not (is_linked gap it p))
    pub place_is : p ≡ at key (session_of gap t (filter (links gap t) ws))
    pub pane_is : pane ≡ joined_all plan (linked gap it (entries m))
    pub value_is : v ≡ with_record plan it pane

  module _ (left : FinMap place_cmp (Pane X)) (p : Place) (pane : Option (Pane X)) (v : Pane X) (puts : Puts left p pane v) where
    put_is_merged : put place_cmp p v (entries left) ≡ merged_session plan gap it (entries m)
    put_is_merged = λ i. put place_cmp
        ((puts.place_is ∙ sym session_place) i)
        ((puts.value_is ∙ ap (with_record plan it) puts.pane_is) i)
        ((ap entries puts.left_is ∙ entries_kept m (λ p. not (is_linked gap it p))) i)

    pub merged_is : entries (insert left p v) ≡ merged_session plan gap it (entries m)
    merged_is = entries-insert places_total left p v ∙ put_is_merged

    pub merged_fits : (most : ℕ) → length (merged_session plan gap it (entries m)) ≤ most → (contains_key left p ≡ true) ⊎ (len left < most)
    merged_fits most fits = elim (finds_or_fits most p v (entries left) (as_true _ (entries_sorted left)) (subst (λ es. length es ≤ most) (sym put_is_merged) fits)) [
      | inl there ↦ inl (ap is_some (get-entries left p) ∙ there)
      | inr less ↦ inr (omega (arith, less, len-entries left))
    ]

  -- the windows of a key that isn't the record's stay
  pub merged_others : (k : ℕ) → nat_eq key k ≡ false → windows_of_key k (merged_session plan gap it (entries m)) ≡ windows_of_key k (entries m)
  merged_others k other =
      put_other gap it k (session_with gap it (linked gap it (entries m))) (with_record plan it (joined_all plan (linked gap it (entries m)))) (ap (λ (p : Place). nat_eq k p.key) session_place ∙ turned key k other) (where_key place_cmp (λ p. not (is_linked gap it p)) (entries m))
      ∙ other_windows gap it k other (entries m)
    where
      turned : (j k : ℕ) → nat_eq j k ≡ false → nat_eq k j ≡ false
      turned j k h = grind (arith, nat_tests)

  module _ (long : pos 1 ≤ℤ gap) (times : List ℤ) (fits : ws ≡ sessions gap times) where
    apart_now : AreApart gap ws
    apart_now = subst (AreApart gap) (sym fits) (sessions_apart gap long times)

    apart_then : AreApart gap (with_session gap t ws)
    apart_then = subst (AreApart gap) (sessions-more gap long t times ∙ ap (with_session gap t) (sym fits)) (sessions_apart gap long (t ∷ times))

    pub merged_windows : windows_of_key key (merged_session plan gap it (entries m)) ≡ with_session gap t ws
    merged_windows =
        let v = with_record plan it (joined_all plan (linked gap it (entries m))) in
        let rest = where_key place_cmp (λ p. not (is_linked gap it p)) (entries m) in
        ap (λ p. windows_of_key key (put place_cmp p v rest)) (session_place ∙ ap (λ us. at key (session_of gap t (filter (links gap t) us))) (sym agree))
        ∙ entered_windows gap long it v (entries m) (as_true _ (entries_sorted m)) (subst (AreApart gap) (sym agree) apart_now) (subst (λ us. AreApart gap (with_session gap t us)) (sym agree) apart_then)
        ∙ ap (with_session gap t) agree

    -- where there is room for the key's sessions with the record, there was before, or it is linked to one
    pub admits_it : (most : ℕ) → length (filter (λ e. nat_eq e.0.key key) (merged_session plan gap it (entries m))) ≤ most → (nat_lt (length ws) most || list_any (links gap t) ws) ≡ true
    admits_it most live = elim (cases_Bool (list_any (links gap t) ws)) [
      | inl some ↦ or_right (nat_lt (length ws) most) _ some
      | inr none ↦
          let begun = begins gap long t ws apart_now (none_pass (links gap t) ws none) in
          let ended = filter (ends_by t) ws in
          let later = filter (starts_from (t +ℤ gap)) ws in
          let before : length ws ≡ length ended + length later = ap length begun.0 ∙ length-append ended later in
          let after : length (with_session gap t ws) ≡ length ended + suc (length later) = ap length begun.1 ∙ length-append ended (window t (t +ℤ gap) ∷ later) in
          let counted : length (windows_of_key key (merged_session plan gap it (entries m))) ≡ length (with_session gap t ws) = ap length merged_windows in
          let same : length (windows_of_key key (merged_session plan gap it (entries m))) ≡ length (filter (λ e. nat_eq e.0.key key) (merged_session plan gap it (entries m))) =
          length_each (λ e. window_of e.0) (filter (λ e. nat_eq key e.0.key) (merged_session plan gap it (entries m))) ∙ ap length (filter_same (λ e. nat_eq key e.0.key) (λ e. nat_eq e.0.key key) (λ e. either key e.0.key) (merged_session plan gap it (entries m))) in
          or_left _ (list_any (links gap t) ws) (lt-ltb (length ws) most (omega (arith, live, before, after, counted, same)))
    ] where
      either : (j k : ℕ) → nat_eq j k ≡ nat_eq k j
      either j k = grind (arith, nat_tests)
