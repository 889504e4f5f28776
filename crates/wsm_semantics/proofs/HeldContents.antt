-- How many records panes have: the sessions that are held have together no more than were admitted,
-- as no record lies in two.
use Rattle.std.proofs.Common.{◌≡◌, suc, ◌+◌, ◌≤◌, Bool, true, false, ◌||◌, cond, List, [], ◌∷◌, length, ℤ, refl, sym, ap, subst, ◌∙◌, arith}
use Rattle.std.proofs.lemmas.Bool.{true≢false, and_parts, eqb-true}
use Rattle.std.proofs.lemmas.List.Sums.{sum_by-cons}
use Rattle.std.specs.Prelude.{filter, nat_eq, unsigned_abs}
use Rattle.std.specs.List.{AllByRecursion, list_any, sum_by}
use Rattle.std.specs.Cmp.{tied_itself}
use Rattle.std.specs.Ordering.{is_lt}
use Rattle.wsm_record.specs.Event.{Event}
use Rattle.wsm_windows.specs.declared.window.Shape.{Shape}
use Rattle.wsm_windows.specs.declared.window.Shape.TheVariants.{Session}
use Rattle.wsm_windows.specs.Windows.{IsShape}
use Rattle.wsm_windows.specs.declared.place.Place.{Place}
use Rattle.wsm_windows.specs.Places.{place_cmp}
use Rattle.wsm_windows.proofs.Places.{places_total}
use Rattle.wsm_admission.specs.Clock.{admitted_count}
use Rattle.wsm_admission.proofs.Taken.{admitted_count-le}
use Rattle.wsm_semantics.specs.Query.{Query, SessionsByEvent, Datum, selected}
use Rattle.wsm_semantics.specs.Panes.{places, is_there, held}
use Rattle.wsm_semantics.specs.Firings.{shows}
use Rattle.wsm_semantics.proofs.Lists.{all-each}
use Rattle.wsm_semantics.proofs.Tables.{among, is_sorted-held}
use Rattle.wsm_semantics.proofs.Each.{as_true, itself}
use Rattle.wsm_semantics.proofs.KeptLaw as kept_law
use Rattle.wsm_semantics.proofs.SelectedRecords.{selected_count}
use Rattle.wsm_semantics.proofs.ManyKeys.{Precedes, AreInOrder, in_order, length-filter}
use Rattle.wsm_semantics.proofs.HeldPanes.{IsHeldPane, held_panes}

-- ---- sums of lengths

module _ {A : Type 0} where
  -- of tests of which no two pass, the elements that pass the one or the other
  either_passes : (p r : A → Bool) → ((x : A) → p x ≡ true → r x ≡ false) → (xs : List A) → length (filter p xs) + length (filter r xs) ≤ length (filter (λ x. p x || r x) xs)
  either_passes p r apart [] = omega arith
  either_passes p r apart (x ∷ xs) =
      let more : List A = filter (λ y. p y || r y) xs in
      let rest : length (filter p xs) + length (filter r xs) ≤ length more = either_passes p r apart xs in
      elim (p x) as (λ b. p x ≡ b → length (cond b (x ∷ filter p xs) (filter p xs)) + length (cond (r x) (x ∷ filter r xs) (filter r xs)) ≤ length (cond (b || r x) (x ∷ more) more)) [
        | true ↦ λ passes. subst (λ (b : Bool). suc (length (filter p xs)) + length (cond b (x ∷ filter r xs) (filter r xs)) ≤ suc (length more)) (sym (apart x passes)) (omega arith)
        | false ↦ λ fails. elim (r x) as (λ b. length (filter p xs) + length (cond b (x ∷ filter r xs) (filter r xs)) ≤ length (cond b (x ∷ more) more)) [
          | true ↦ omega arith
          | false ↦ rest
        ]
      ] refl

-- ---- places of which no two have a record in common

module _ (q : Query) where
  abbrev AreDisjoint : List (Place × List Datum) → Type 0
  AreDisjoint [] = Unit {0}
  AreDisjoint (e ∷ es) = AllByRecursion (λ f. (d : Datum) → is_there q e.0 d ≡ true → is_there q f.0 d ≡ false) es × AreDisjoint es

  in_none : (p : Place) (d : Datum) → is_there q p d ≡ true → (es : List (Place × List Datum)) → AllByRecursion (λ f. (x : Datum) → is_there q p x ≡ true → is_there q f.0 x ≡ false) es → list_any (λ e. is_there q e.0 d) es ≡ false
  in_none p d there [] h = refl
  in_none p d there (e ∷ es) h = λ i. h.0 d there i || in_none p d there es h.1 i

  lengths_apart : (ds : List Datum) (es : List (Place × List Datum)) → AllByRecursion (λ e. e.1 ≡ filter (is_there q e.0) ds) es → AreDisjoint es →
      sum_by (λ e. length e.1) es ≤ length (filter (λ d. list_any (λ e. is_there q e.0 d) es) ds)
  lengths_apart ds [] has apart = omega arith
  lengths_apart ds (e ∷ es) has apart =
      let rest : sum_by (λ e. length e.1) es ≤ length (filter (λ d. list_any (λ e. is_there q e.0 d) es) ds) = lengths_apart ds es has.1 apart.1 in
      let whole : sum_by (λ e. length e.1) (e ∷ es) ≡ length e.1 + sum_by (λ e. length e.1) es = sum_by-cons (λ e. length e.1) e es in
      let here : length e.1 ≡ length (filter (is_there q e.0) ds) = ap length has.0 in
      let both : length (filter (is_there q e.0) ds) + length (filter (λ d. list_any (λ e. is_there q e.0 d) es) ds) ≤ length (filter (λ d. is_there q e.0 d || list_any (λ e. is_there q e.0 d) es) ds) =
      either_passes (is_there q e.0) (λ d. list_any (λ e. is_there q e.0 d) es) (λ d there. in_none e.0 d there es apart.0) ds in
      omega arith

-- ---- sessions

module _ (q : Query) (gap : ℤ) (is : q.shape ≡ Session gap) (ok : IsShape q.shape) (timely : SessionsByEvent q) (past : List Event) where
  -- sessions of a key lie apart, and keys have no record in common
  two_disjoint : (p r : Place) → Precedes p r → among p (places q past) ≡ true → among r (places q past) ≡ true → (d : Datum) → is_there q p d ≡ true → is_there q r d ≡ false
  two_disjoint p r before placed_p placed_r d h =
      elim (is_there q r d) as (λ b. is_there q r d ≡ b → b ≡ false) [
        | true ↦ λ g.
            let in_p = and_parts _ _ h in
            let in_r = and_parts _ _ g in
            let key : p.key ≡ r.key = sym (eqb-true d.key p.key in_p.0) ∙ eqb-true d.key r.key in_r.0 in
            let shown : shows q.shape p r ≡ true = ap (λ (s : Shape). shows s p r) is ∙ ap (nat_eq p.key) (sym key) ∙ itself p.key in
            let same : p ≡ r = (kept_law.places q ok timely).apart past p r placed_p placed_r shown d h g in
            absurd (true≢false (sym before ∙ ap (λ (x : Place). is_lt (place_cmp p x)) (sym same) ∙ ap is_lt (tied_itself places_total p)))
        | false ↦ λ g. refl
      ] refl

  all_disjoint : (es : List (Place × List Datum)) → AreInOrder es → AllByRecursion (IsHeldPane q past) es → AreDisjoint q es
  all_disjoint [] order are = tt
  all_disjoint (e ∷ es) order are = (later es order.0 are.1, all_disjoint es order.1 are.1) where
    later : (fs : List (Place × List Datum)) → AllByRecursion (λ f. Precedes e.0 f.0) fs → AllByRecursion (IsHeldPane q past) fs → AllByRecursion (λ f. (d : Datum) → is_there q e.0 d ≡ true → is_there q f.0 d ≡ false) fs
    later [] before panes = tt
    later (f ∷ fs) before panes = (two_disjoint e.0 f.0 before.0 are.0.placed panes.0.placed, later fs before.1 panes.1)

  -- the held sessions have together no more records than were admitted
  pub contents_bounded : sum_by (λ e. length e.1) (held q past) ≤ admitted_count q.clock q.shape q.declared past
  contents_bounded =
      let ds : List Datum = selected q past in
      let apart : sum_by (λ e. length e.1) (held q past) ≤ length (filter (λ d. list_any (λ e. is_there q e.0 d) (held q past)) ds) =
      lengths_apart q ds (held q past)
      (all-each (IsHeldPane q past) (λ e. e.1 ≡ filter (is_there q e.0) ds) (held q past) (λ e pane. pane.has) (held_panes q ok timely past))
      (all_disjoint (held q past) (in_order (held q past) (as_true _ (is_sorted-held q past))) (held_panes q ok timely past)) in
      let fewer : length (filter (λ d. list_any (λ e. is_there q e.0 d) (held q past)) ds) ≤ length ds = length-filter (λ d. list_any (λ e. is_there q e.0 d) (held q past)) ds in
      let most : length ds ≤ admitted_count q.clock q.shape q.declared past = selected_count q past in
      omega arith

  -- and the limit of records bounds them
  pub contents_limited : sum_by (λ e. length e.1) (held q past) ≤ unsigned_abs q.clock.records
  contents_limited =
      let most : sum_by (λ e. length e.1) (held q past) ≤ admitted_count q.clock q.shape q.declared past = contents_bounded in
      let limit : admitted_count q.clock q.shape q.declared past ≤ unsigned_abs q.clock.records = admitted_count-le q.clock q.shape q.declared past in
      omega arith
