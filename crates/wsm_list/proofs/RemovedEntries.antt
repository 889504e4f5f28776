-- An entry taken out of a sorted list: those at other places are left.
use Rattle.std.proofs.Common.{◌≡◌, ◌<◌, ℕ, zero, suc, true, false, cond, List, [], ◌∷◌, length, get_or, Some, None, refl, sym, ap, subst, ◌∙◌, arith}
use Rattle.std.proofs.lemmas.Bool.{true≢false}
use Rattle.std.specs.Prelude.{not, filter}
use Rattle.std.specs.List.{AllByRecursion, remove}
use Rattle.std.specs.Option.{is_some}
use Rattle.std.specs.Ordering.{eq_by_cmp, is_eq, is_lt}
use Rattle.std.specs.declared.cmp.Ordering.{Ordering}
use Rattle.std.specs.declared.cmp.Ordering.TheVariants.{Less, Equal, Greater}
use Rattle.std.specs.FinMap.Entries.{find, is_sorted}
use Rattle.wsm_windows.specs.declared.place.Place.{Place}
use Rattle.wsm_windows.specs.Places.{place_cmp}
use Rattle.wsm_windows.proofs.Places.{tie_is}
use Rattle.wsm_semantics.proofs.Each.{all_of}
use Rattle.wsm_semantics.proofs.Lists.{all-each}
use Rattle.wsm_semantics.proofs.ManyKeys.{AreInOrder, Precedes, in_order}
use Rattle.wsm_list.specs.Recorded.{is_other}
use Rattle.wsm_semantics.proofs.Assigned.{tied}

below_apart : (o : Ordering) → is_lt o ≡ true → not (is_eq o) ≡ true
below_apart Less h = refl
below_apart Equal h = absurd (true≢false (sym h))
below_apart Greater h = absurd (true≢false (sym h))

-- a place that comes before another is another, and so is that
other_behind : (p r : Place) → Precedes p r → is_other p r ≡ true
other_behind p r h = below_apart (place_cmp p r) h

other_before : (p r : Place) → Precedes p r → is_other r p ≡ true
other_before p r h =
    elim (eq_by_cmp place_cmp r p) as (λ b. eq_by_cmp place_cmp r p ≡ b → not b ≡ true) [
      | true ↦ λ tie. absurd (true≢false (sym (other_behind p r h) ∙ ap not (tied p r (sym (tie_is r p tie)))))
      | false ↦ λ apart. refl
    ] refl

module _ {X : Type 0} (place : Place) where
  pub none_out : (es : List (Place × X)) → find place_cmp place es ≡ None → es ≡ filter (λ e. is_other place e.0) es
  none_out [] h = refl
  none_out (e ∷ es) h =
      elim (is_eq (place_cmp place e.0)) as (λ b. cond b (Some e.1) (find place_cmp place es) ≡ None → e ∷ es ≡ cond (not b) (e ∷ filter (λ e. is_other place e.0) es) (filter (λ e. is_other place e.0) es)) [
        | true ↦ λ found. absurd (true≢false (ap is_some found))
        | false ↦ λ none. ap (λ fs. e ∷ fs) (none_out es none)
      ] h

  out_at : (es : List (Place × X)) (i : ℕ) (d : Place × X) → AreInOrder es → i < length es → (get_or es i d).0 ≡ place → remove es i ≡ filter (λ e. is_other place e.0) es
  out_at [] i d order h is = absurd (omega (arith, h))
  out_at (e ∷ es) zero d order h is =
      sym (ap (λ b. cond (not b) (e ∷ filter (λ e. is_other place e.0) es) (filter (λ e. is_other place e.0) es)) (tied place e.0 (sym is))
      ∙ all_of (λ e. is_other place e.0) es (all-each (λ f. Precedes e.0 f.0) (λ f. is_other place f.0 ≡ true) es (λ f before. other_behind place f.0 (subst (λ p. Precedes p f.0) is before)) order.0))
  out_at (e ∷ es) (suc i) d order h is =
      ap (λ fs. e ∷ fs) (out_at es i d order.1 (omega (arith, h)) is)
      ∙ sym (ap (λ b. cond b (e ∷ filter (λ e. is_other place e.0) es) (filter (λ e. is_other place e.0) es)) (other_before e.0 place (subst (Precedes e.0) is (each_at es i order.0 (omega (arith, h))))))
    where
      each_at : (fs : List (Place × X)) (j : ℕ) → AllByRecursion (λ f. Precedes e.0 f.0) fs → j < length fs → Precedes e.0 (get_or fs j d).0
      each_at [] j all h = absurd (omega (arith, h))
      each_at (f ∷ fs) zero all h = all.0
      each_at (f ∷ fs) (suc j) all h = each_at fs j all.1 (omega (arith, h))

  pub one_out : (es : List (Place × X)) (i : ℕ) (d : Place × X) → is_sorted place_cmp es ≡ true → i < length es → (get_or es i d).0 ≡ place → remove es i ≡ filter (λ e. is_other place e.0) es
  one_out es i d sorted h is = out_at es i d (in_order es sorted) h is
