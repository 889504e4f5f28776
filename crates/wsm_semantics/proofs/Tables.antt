-- What a look-up in a table of panes finds, and in what is kept of them.
use Rattle.std.proofs.Common.{◌≡◌, ◌⊎◌, inl, inr, Bool, true, false, ◌&&◌, ◌||◌, cond, List, [], ◌∷◌, map, T, Option, Some, None, refl, sym, ap, subst, ◌∙◌}
use Rattle.std.specs.Prelude.{option_map}
use Rattle.std.specs.List.{list_any}
use Rattle.std.specs.Ordering.{eq_by_cmp, ordering_then, is_lt}
use Rattle.std.specs.declared.cmp.Ordering.{Ordering}
use Rattle.std.specs.declared.cmp.Ordering.TheVariants.{Less, Equal, Greater}
use Rattle.std.specs.FinMap.Entries.{find, is_sorted, below_all, find-put, find-where_key, is_sorted-put, is_sorted-where_key}
use Rattle.wsm_record.specs.Event.{Event}
use Rattle.wsm_semantics.specs.Query.{Query, Datum, mark}
use Rattle.wsm_windows.proofs.Places.{places_total, places_exact, tie_is}
use Rattle.wsm_windows.specs.declared.place.Place.{Place}
use Rattle.wsm_windows.specs.Places.{place_cmp}
use Rattle.wsm_semantics.specs.Panes.{places, contents, panes, held, is_live_at, with_contents}
use Rattle.wsm_semantics.specs.Kept.{Kept, kept_in, kept}

pub cases_Ordering : (r : Ordering) → (r ≡ Less) ⊎ (r ≡ Equal) ⊎ (r ≡ Greater)
cases_Ordering Less = inl refl
cases_Ordering Equal = inr (inl refl)
cases_Ordering Greater = inr (inr refl)

pub ordering_then_equal : (a b : Ordering) → ordering_then a b ≡ Equal → (a ≡ Equal) × (b ≡ Equal)
ordering_then_equal Less b e = absurd (cc)
ordering_then_equal Equal b e = (refl, e)
ordering_then_equal Greater b e = absurd (cc)

abbrev pub among : Place → List Place → Bool
among p ps = list_any (eq_by_cmp place_cmp p) ps

pub is_sorted-with_contents : (c : Place → List Datum) (ps : List Place) → T (is_sorted place_cmp (with_contents c ps))
is_sorted-with_contents c [] = tt
is_sorted-with_contents c (p ∷ ps) = is_sorted-put place_cmp places_total p (c p) (with_contents c ps) (is_sorted-with_contents c ps)

-- places that tie have the same contents
pub find-with_contents : (c : Place → List Datum) (q : Place) (ps : List Place) → find place_cmp q (with_contents c ps) ≡ cond (among q ps) (Some (c q)) None
find-with_contents c q [] = refl
find-with_contents c q (p ∷ ps) =
    find-put place_cmp places_total q p (c p) (with_contents c ps)
    ∙ elim (eq_by_cmp place_cmp q p) as (λ b. eq_by_cmp place_cmp q p ≡ b → cond b (Some (c p)) (find place_cmp q (with_contents c ps)) ≡ cond (b || among q ps) (Some (c q)) None) [
      | true ↦ λ e. ap (λ x. Some (c x)) (sym (tie_is q p e))
      | false ↦ λ e. find-with_contents c q ps
    ] refl

-- what a look-up in the held panes finds
pub find-held : (q : Query) (past : List Event) (p : Place) → find place_cmp p (held q past) ≡ cond (is_live_at q (mark q past) p) (cond (among p (places q past)) (Some (contents q past p)) None) None
find-held q past p =
    find-where_key place_cmp (is_live_at q (mark q past)) p (λ x tie. ap (is_live_at q (mark q past)) (sym (places_exact p x tie))) (panes q past)
    ∙ ap (λ (o : Option (List Datum)). cond (is_live_at q (mark q past) p) o None) (find-with_contents (contents q past) p (places q past))

pub is_sorted-held : (q : Query) (past : List Event) → T (is_sorted place_cmp (held q past))
is_sorted-held q past = is_sorted-where_key place_cmp (is_live_at q (mark q past)) (panes q past) (is_sorted-with_contents (contents q past) (places q past))

-- ---- tables whose values go by the place too

module _ {A B : Type 0} (f : Place → A → B) where
  abbrev pub keyed : List (Place × A) → List (Place × B)
  keyed es = map (λ e. (e.0, f e.0 e.1)) es

  pub find-keyed : (p : Place) (es : List (Place × A)) → find place_cmp p (keyed es) ≡ option_map (f p) (find place_cmp p es)
  find-keyed p [] = refl
  find-keyed p (e ∷ es) =
      elim (eq_by_cmp place_cmp p e.0) as (λ b. eq_by_cmp place_cmp p e.0 ≡ b → cond b (Some (f e.0 e.1)) (find place_cmp p (keyed es)) ≡ option_map (f p) (cond b (Some e.1) (find place_cmp p es))) [
        | true ↦ λ t. ap (λ (x : Place). Some (f x e.1)) (sym (tie_is p e.0 t))
        | false ↦ λ t. find-keyed p es
      ] refl

  below-keyed : (p : Place) (es : List (Place × A)) → below_all place_cmp p (keyed es) ≡ below_all place_cmp p es
  below-keyed p [] = refl
  below-keyed p (e ∷ es) = ap (λ (b : Bool). is_lt (place_cmp p e.0) && b) (below-keyed p es)

  sorted-keyed : (es : List (Place × A)) → is_sorted place_cmp (keyed es) ≡ is_sorted place_cmp es
  sorted-keyed [] = refl
  sorted-keyed (e ∷ es) = λ i. below-keyed e.0 es i && sorted-keyed es i

  pub is_sorted-keyed : (es : List (Place × A)) → T (is_sorted place_cmp es) → T (is_sorted place_cmp (keyed es))
  is_sorted-keyed es h = subst T (sym (sorted-keyed es)) h

module _ (q : Query) (past : List Event) where
  -- what is kept of a place with some records
  abbrev pub kept_of : Place → List Datum → Kept
  kept_of p all = (kept_in q past (p, all)).1

  pub is_sorted-kept : T (is_sorted place_cmp (kept q past))
  is_sorted-kept = is_sorted-keyed kept_of (held q past) (is_sorted-held q past)

  -- what a look-up in what is kept finds
  pub find-kept : (p : Place) → find place_cmp p (kept q past) ≡ cond (is_live_at q (mark q past) p) (cond (among p (places q past)) (Some (kept_of p (contents q past p))) None) None
  find-kept p =
      find-keyed kept_of p (held q past)
      ∙ ap (option_map (kept_of p)) (find-held q past p)
      ∙ mapped (is_live_at q (mark q past) p) (among p (places q past))
    where
      mapped : (live placed : Bool) → option_map (kept_of p) (cond live (cond placed (Some (contents q past p)) None) None) ≡ cond live (cond placed (Some (kept_of p (contents q past p))) None) None
      mapped true true = refl
      mapped true false = refl
      mapped false placed = refl
