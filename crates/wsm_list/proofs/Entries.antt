-- Edits of a sorted list of entries, and what they do to the map that it stands for.
use Rattle.std.proofs.Common.{◌≡◌, ◌≢◌, ℕ, ◌<◌, ◌≤◌, List, length, get_or, true, false, Some, refl, sym, ap, subst, ◌∙◌, arith}
use Rattle.std.specs.declared.cmp.Ordering.{Ordering}
use Rattle.std.specs.declared.cmp.Ordering.TheVariants.{Less, Equal, Greater}
use Rattle.std.specs.Ordering.{is_gt}
use Rattle.std.specs.FinMap.{find, is_sorted}
use Rattle.std.proofs.lemmas.List.{get_or_default}
use Rattle.wsm_list.specs.Search.{IsAt, before}
use Rattle.wsm_list.proofs.Sorted.{find_over, put_over, reaches, stops}
use Rattle.wsm_windows.proofs.Places.{places_total, places_exact}
use Rattle.wsm_windows.specs.declared.place.Place.{Place}
use Rattle.wsm_windows.specs.Places.{place_cmp}

no_gt : (r : Ordering) → r ≢ Greater → is_gt r ≡ false
no_gt Less h = refl
no_gt Equal h = refl
no_gt Greater h = absurd (h refl)

-- the entry at the place
pub at_here : {P : Type 0} (es : List (Place × P)) (i : ℕ) (d : Place × P) (q : Place) → is_sorted place_cmp es ≡ true → i < length es → place_cmp q (get_or es i d).0 ≡ Equal → IsAt es q i
at_here es i d q sorted within tie =
    let same : (get_or es i d).0 ≡ q = sym (places_exact q _ tie) in
    let stop : before place_cmp q es ≤ i = stops place_cmp es i d q within (no_gt _ (λ e. let bad : Equal ≡ Greater = sym tie ∙ e in cc)) in
    let come : i ≤ before place_cmp q es = reaches place_cmp places_total es i d q (rw sorted tt) within tie in
    let here : i ≡ before place_cmp q es = omega arith in
    record {
      within = within;
      stops = here;
      same = λ e. ap (λ x. x.0) (get_or_default es i e d within) ∙ same;
      finds = λ e. find_here es i e q here within (ap (λ x. x.0) (get_or_default es i e d within) ∙ same);
      puts = λ pane. sym (rw here (put_over place_cmp places_total es d q pane (subst (λ n. n < length es) here within) (subst (λ n. (get_or es n d).0 ≡ q) here same)));
    } where
      find_here : {P : Type 0} (es : List (Place × P)) (i : ℕ) (e : Place × P) (q : Place) → i ≡ before place_cmp q es → i < length es → (get_or es i e).0 ≡ q → find place_cmp q es ≡ Some (get_or es i e).1
      find_here es i e q here within same =
          subst (λ n. find place_cmp q es ≡ Some (get_or es n e).1) (sym here) (find_over place_cmp places_total es e q (subst (λ n. n < length es) here within) (subst (λ n. (get_or es n e).0 ≡ q) here same))
