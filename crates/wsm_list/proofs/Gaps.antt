-- Where a place would go in a sorted list that lacks one of its entries.
use Rattle.std.proofs.Common.{◌≡◌, ◌≢◌, ◌<◌, ◌≤◌, ◌+◌, ℕ, zero, suc, true, false, None, List, [], ◌∷◌, get_or, length, refl, sym, ap, ◌∙◌, inl, inr, arith}
use Rattle.std.proofs.lemmas.Bool.{true≢false, cases_Bool}
use Rattle.std.proofs.lemmas.Bool.Decides.{nat_tests}
use Rattle.std.proofs.lemmas.Cmp.{tied_itself, upto}
use Rattle.std.specs.Prelude.{IsSome, nat_lt}
use Rattle.std.specs.List.{remove}
use Rattle.std.specs.Option.{is_some}
use Rattle.std.specs.Ordering.{is_gt, is_lt}
use Rattle.std.specs.declared.cmp.Ordering.{Ordering}
use Rattle.std.specs.declared.cmp.Ordering.TheVariants.{Less, Equal, Greater}
use Rattle.std.specs.FinMap.Entries.{find, is_sorted}
use Rattle.wsm_windows.specs.declared.place.Place.{Place}
use Rattle.wsm_windows.specs.Places.{place_cmp}
use Rattle.wsm_windows.proofs.Places.{places_exact, places_total}
use Rattle.wsm_semantics.proofs.ManyKeys.{AreInOrder}
use Rattle.wsm_list.specs.Search.{before, IsAt, IsGapFor}
use Rattle.wsm_slots.proofs.Order.{Decides-eq_place, eq_place}
use Rattle.wsm_list.proofs.Entries.{at_here}
use Rattle.wsm_list.proofs.Sorted.{before_within, find_absent, put_between}
use Rattle.wsm_list.proofs.StoredEdits.{is_found}

-- what is before another isn't past it
pub not_behind : (o : Ordering) → is_lt o ≡ true → is_gt o ≡ false
not_behind Less h = refl
not_behind Equal h = absurd (true≢false (sym h))
not_behind Greater h = absurd (true≢false (sym h))

module _ {X : Type 0} (q : Place) where
  -- one of those that the scan passes is gone
  pub before_past : (es : List (Place × X)) (i : ℕ) → i < before place_cmp q es → before place_cmp q (remove es i) + 1 ≡ before place_cmp q es
  before_past [] i h = absurd (omega (arith, h))
  before_past (e ∷ es) zero h = elim (cases_Bool (is_gt (place_cmp q e.0))) [
    | inl past ↦ rw past (omega arith)
    | inr stays ↦ absurd (let none = rw stays at h in omega (arith, none))
  ]
  before_past (e ∷ es) (suc i) h = elim (cases_Bool (is_gt (place_cmp q e.0))) [
    | inl past ↦ let rest = before_past es i (let less = rw past at h in omega (arith, less)) in rw past (omega (arith, rest))
    | inr stays ↦ absurd (let none = rw stays at h in omega (arith, none))
  ]

  -- one of the others is gone
  next_stays : (e : Place × X) (es : List (Place × X)) → AreInOrder (e ∷ es) → is_gt (place_cmp q e.0) ≡ false → before place_cmp q es ≡ 0
  next_stays e [] order stays = refl
  next_stays e (f ∷ fs) order stays = rw (upto places_total q e.0 f.0 stays (not_behind _ order.0.0)) refl

  pub before_left : (es : List (Place × X)) (i : ℕ) → AreInOrder es → i < length es → before place_cmp q es ≤ i → before place_cmp q (remove es i) ≡ before place_cmp q es
  before_left [] i order within h = absurd (omega (arith, within))
  before_left (e ∷ es) zero order within h = elim (cases_Bool (is_gt (place_cmp q e.0))) [
    | inl past ↦ absurd (let more = rw past at h in omega (arith, more))
    | inr stays ↦ rw stays (next_stays e es order stays)
  ]
  before_left (e ∷ es) (suc i) order within h = elim (cases_Bool (is_gt (place_cmp q e.0))) [
    | inl past ↦ rw past (ap suc (before_left es i order.1 (omega (arith, within)) (let less = rw past at h in omega (arith, less))))
    | inr stays ↦ rw stays refl
  ]

  -- a place that isn't there would go where the scan stops
  pub gap_absent : (es : List (Place × X)) → is_sorted place_cmp es ≡ true → find place_cmp q es ≡ None → IsGapFor es q (before place_cmp q es)
  gap_absent [] sorted absent = record { within = omega arith; stops = refl; absent = refl; puts = λ pane. refl }
  gap_absent (e ∷ es) sorted absent =
      let others : before place_cmp q (e ∷ es) < length (e ∷ es) → (get_or (e ∷ es) (before place_cmp q (e ∷ es)) e).0 ≢ q = λ within is.
      let at = at_here (e ∷ es) (before place_cmp q (e ∷ es)) e q sorted within (ap (place_cmp q) is ∙ tied_itself places_total q) in
      true≢false (sym (is_found (e ∷ es) _ q at) ∙ ap is_some absent) in
      record {
        within = before_within place_cmp (e ∷ es) q;
        stops = refl;
        absent = absent;
        puts = λ pane. sym (put_between place_cmp places_total places_exact (e ∷ es) e q pane others);
      }

  -- a place other than that of the entry where the scan stops isn't there
  pub gap_other : (es : List (Place × X)) → is_sorted place_cmp es ≡ true → ((d : Place × X) → before place_cmp q es < length es → (get_or es (before place_cmp q es) d).0 ≢ q) → IsGapFor es q (before place_cmp q es)
  gap_other [] sorted other = gap_absent [] sorted refl
  gap_other (e ∷ es) sorted other = gap_absent (e ∷ es) sorted (find_absent place_cmp places_total places_exact (e ∷ es) e q (rw sorted tt) (other e))

  -- the scan for a place that is there stops at it
  pub found_at : (es : List (Place × X)) → is_sorted place_cmp es ≡ true → IsSome (find place_cmp q es) → IsAt es q (before place_cmp q es)
  found_at [] sorted some = absurd (true≢false (sym some))
  found_at (e ∷ es) sorted some = elim (cases_Bool (nat_lt (before place_cmp q (e ∷ es)) (length (e ∷ es)))) [
    | inl less ↦
        let within : before place_cmp q (e ∷ es) < length (e ∷ es) = grind (arith, nat_tests) in
        let place = (get_or (e ∷ es) (before place_cmp q (e ∷ es)) e).0 in
        elim (cases_Bool (eq_place place q)) [
          | inl same ↦ at_here (e ∷ es) (before place_cmp q (e ∷ es)) e q sorted within (ap (place_cmp q) ((Decides-eq_place place q).0 same) ∙ tied_itself places_total q)
          | inr apart ↦ absurd (missing (λ inside is. true≢false (sym ((Decides-eq_place place q).1 is) ∙ apart)))
        ]
    | inr more ↦ absurd (missing (λ inside is. let past : length (e ∷ es) ≤ before place_cmp q (e ∷ es) = grind (arith, nat_tests) in omega (arith, inside, past)))
  ] where
    missing : (before place_cmp q (e ∷ es) < length (e ∷ es) → (get_or (e ∷ es) (before place_cmp q (e ∷ es)) e).0 ≢ q) → ⊥
    missing other = true≢false (sym some ∙ ap is_some (find_absent place_cmp places_total places_exact (e ∷ es) e q (rw sorted tt) other))
