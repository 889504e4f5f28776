-- A table without the panes that a record is linked to: they are taken out one after the other.
use Rattle.std.proofs.Common.{◌≡◌, Bool, T, true, false, cond, List, [], ◌∷◌, map, ℤ, Some, None, refl, sym, ap, subst, ◌∙◌, inl, inr}
use Rattle.std.proofs.lemmas.Bool.{true≢false, and_parts, cases_Bool}
use Rattle.std.specs.Prelude.{not, filter}
use Rattle.std.specs.List.{AllByRecursion}
use Rattle.std.specs.Ordering.{eq_by_cmp, is_lt}
use Rattle.std.specs.Cmp.{tied_itself}
use Rattle.std.specs.FinMap.{FinMap, entries, get, remove, retain_keys, get-remove, get-retain_keys, get-entries, entries_sorted, same_map}
use Rattle.std.specs.FinMap.Entries.{find, find-where_key, is_sorted, is_sorted-where_key}
use Rattle.wsm_windows.specs.declared.place.Place.{Place}
use Rattle.wsm_windows.specs.Places.{place_cmp}
use Rattle.wsm_windows.proofs.Places.{places_total, places_exact, tie_is}
use Rattle.wsm_semantics.specs.Query.{Datum}
use Rattle.wsm_semantics.specs.Kept.{is_linked}
use Rattle.wsm_semantics.proofs.Each.{passed, as_true}
use Rattle.wsm_list.proofs.Tables.{alike}
use Rattle.wsm_semantics.proofs.Assigned.{tied}

module _ {X : Type 0} (gap : ℤ) (d : Datum) (m : FinMap place_cmp X) where
  abbrev far : Place → Bool
  far p = not (is_linked gap d p)

  -- a place that it is linked to has its pane among those
  found_linked : (q : Place) → is_linked gap d q ≡ true → get m q ≡ find place_cmp q (filter (λ e. is_linked gap d e.0) (entries m))
  found_linked q h =
      get-entries m q ∙ sym (find-where_key place_cmp (is_linked gap d) q (alike (is_linked gap d) q) (entries m) ∙ ap (λ b. cond b (find place_cmp q (entries m)) None) h)

  pub none_left : filter (λ e. is_linked gap d e.0) (entries m) ≡ [] → m ≡ retain_keys m far
  none_left none = same_map places_total places_exact _ _ (λ q. sym (get-retain_keys m far q (alike far q) ∙ stays q (is_linked gap d q) refl)) where
    stays : (q : Place) (b : Bool) → is_linked gap d q ≡ b → cond (far q) (get m q) None ≡ get m q
    stays q true h = ap (λ b. cond (not b) (get m q) None) h ∙ sym (found_linked q h ∙ ap (find place_cmp q) none)
    stays q false h = ap (λ b. cond (not b) (get m q) None) h

  module _ (p : Place) (v : X) (is : filter (λ e. is_linked gap d e.0) (entries m) ≡ (p, v) ∷ []) where
    one_linked : is_linked gap d p ≡ true
    one_linked = (subst (AllByRecursion (λ (e : Place × X). is_linked gap d e.0 ≡ true)) is (passed (λ e. is_linked gap d e.0) (entries m))).0

    pub one_found : get m p ≡ Some v
    one_found = found_linked p one_linked ∙ ap (find place_cmp p) is ∙ ap (λ b. cond b (Some v) None) (tied p p refl)

    pub one_left : remove m p ≡ retain_keys m far
    one_left = same_map places_total places_exact _ _ (λ q. get-remove places_total m p q ∙ sides q (eq_by_cmp place_cmp q p) refl ∙ sym (get-retain_keys m far q (alike far q))) where
      sides : (q : Place) (b : Bool) → eq_by_cmp place_cmp q p ≡ b → cond (eq_by_cmp place_cmp q p) None (get m q) ≡ cond (far q) (get m q) None
      sides q true h =
          let at_p : is_linked gap d q ≡ true = ap (is_linked gap d) (tie_is q p h) ∙ one_linked in
          ap (λ b. cond b None (get m q)) h ∙ sym (ap (λ b. cond (not b) (get m q) None) at_p)
      sides q false h = ap (λ b. cond b None (get m q)) h ∙ unlinked (is_linked gap d q) refl where
        unlinked : (b : Bool) → is_linked gap d q ≡ b → get m q ≡ cond (far q) (get m q) None
        unlinked true l = found_linked q l ∙ ap (find place_cmp q) is ∙ ap (λ b. cond b (Some v) None) h ∙ sym (ap (λ b. cond (not b) (get m q) None) l)
        unlinked false l = sym (ap (λ b. cond (not b) (get m q) None) l)

  module _ (p r : Place) (v w : X) (is : filter (λ e. is_linked gap d e.0) (entries m) ≡ (p, v) ∷ (r, w) ∷ []) where
    both_linked : (is_linked gap d p ≡ true) × (is_linked gap d r ≡ true)
    both_linked = let h = subst (AllByRecursion (λ (e : Place × X). is_linked gap d e.0 ≡ true)) is (passed (λ e. is_linked gap d e.0) (entries m)) in (h.0, h.1.0)

    -- places come in order, so the second is not the first
    apart_two : eq_by_cmp place_cmp r p ≡ false
    apart_two =
        let sorted = subst (λ (es : List (Place × X)). T (is_sorted place_cmp es)) is (is_sorted-where_key place_cmp (is_linked gap d) (entries m) (entries_sorted m)) in
        first_less p r (and_parts _ _ (and_parts _ _ (as_true _ sorted)).0).0
      where
        first_less : (p r : Place) → is_lt (place_cmp p r) ≡ true → eq_by_cmp place_cmp r p ≡ false
        first_less p r h = elim (cases_Bool (eq_by_cmp place_cmp r p)) [
          | inl tie ↦ absurd (true≢false (sym h ∙ ap (λ (q : Place). is_lt (place_cmp p q)) (tie_is r p tie) ∙ ap is_lt (tied_itself places_total p)))
          | inr other ↦ other
        ]

    pub first_found : get m p ≡ Some v
    first_found = found_linked p both_linked.0 ∙ ap (find place_cmp p) is ∙ ap (λ b. cond b (Some v) (find place_cmp p ((r, w) ∷ []))) (tied p p refl)

    pub second_in : get m r ≡ Some w
    second_in =
        found_linked r both_linked.1 ∙ ap (find place_cmp r) is ∙ ap (λ b. cond b (Some v) (find place_cmp r ((r, w) ∷ []))) apart_two ∙ ap (λ b. cond b (Some w) None) (tied r r refl)

    pub second_found : get (remove m p) r ≡ Some w
    second_found = get-remove places_total m p r ∙ ap (λ b. cond b None (get m r)) apart_two ∙ second_in

    pub both_left : remove (remove m p) r ≡ retain_keys m far
    both_left = same_map places_total places_exact _ _ (λ q.
        get-remove places_total (remove m p) r q
        ∙ ap (λ o. cond (eq_by_cmp place_cmp q r) None o) (get-remove places_total m p q)
        ∙ sides q (eq_by_cmp place_cmp q r) (eq_by_cmp place_cmp q p) refl refl
        ∙ sym (get-retain_keys m far q (alike far q)))
      where
        sides : (q : Place) (b c : Bool) → eq_by_cmp place_cmp q r ≡ b → eq_by_cmp place_cmp q p ≡ c
            → cond (eq_by_cmp place_cmp q r) None (cond (eq_by_cmp place_cmp q p) None (get m q)) ≡ cond (far q) (get m q) None
        sides q true c h k =
            let at_r : is_linked gap d q ≡ true = ap (is_linked gap d) (tie_is q r h) ∙ both_linked.1 in
            ap (λ b. cond b None (cond (eq_by_cmp place_cmp q p) None (get m q))) h ∙ sym (ap (λ b. cond (not b) (get m q) None) at_r)
        sides q false true h k =
            let at_p : is_linked gap d q ≡ true = ap (is_linked gap d) (tie_is q p k) ∙ both_linked.0 in
            (λ i. cond (h i) None (cond (k i) None (get m q))) ∙ sym (ap (λ b. cond (not b) (get m q) None) at_p)
        sides q false false h k = (λ i. cond (h i) None (cond (k i) None (get m q))) ∙ unlinked (is_linked gap d q) refl where
          unlinked : (b : Bool) → is_linked gap d q ≡ b → get m q ≡ cond (far q) (get m q) None
          unlinked true l = found_linked q l ∙ ap (find place_cmp q) is ∙ (λ i. cond (k i) (Some v) (cond (h i) (Some w) None)) ∙ sym (ap (λ b. cond (not b) (get m q) None) l)
          unlinked false l = sym (ap (λ b. cond (not b) (get m q) None) l)

-- ---- entries by their places

module _ {X : Type 0} where
  pub no_entry : (ls : List (Place × X)) → map (λ e. e.0) ls ≡ [] → ls ≡ []
  no_entry [] h = refl
  no_entry (e ∷ ls) h = absurd (cc)

  pub one_entry : (ls : List (Place × X)) (p : Place) → map (λ e. e.0) ls ≡ p ∷ [] → (v : X) × (ls ≡ (p, v) ∷ [])
  one_entry [] p h = absurd (cc)
  one_entry (e ∷ ls) p h = (e.1, λ i. (heads h i, e.1) ∷ no_entry ls (tails h) i) where
    heads : e.0 ∷ map (λ (f : Place × X). f.0) ls ≡ p ∷ [] → e.0 ≡ p
    heads k = cc

    tails : e.0 ∷ map (λ (f : Place × X). f.0) ls ≡ p ∷ [] → map (λ (f : Place × X). f.0) ls ≡ []
    tails k = cc

  pub two_entries : (ls : List (Place × X)) (p r : Place) → map (λ e. e.0) ls ≡ p ∷ r ∷ [] → (v : X) × ((w : X) × (ls ≡ (p, v) ∷ (r, w) ∷ []))
  two_entries [] p r h = absurd (cc)
  two_entries (e ∷ ls) p r h = let rest = one_entry ls r (tails h) in (e.1, (rest.0, λ i. (heads h i, e.1) ∷ rest.1 i)) where
    heads : e.0 ∷ map (λ (f : Place × X). f.0) ls ≡ p ∷ r ∷ [] → e.0 ≡ p
    heads k = cc

    tails : e.0 ∷ map (λ (f : Place × X). f.0) ls ≡ p ∷ r ∷ [] → map (λ (f : Place × X). f.0) ls ≡ r ∷ []
    tails k = cc
