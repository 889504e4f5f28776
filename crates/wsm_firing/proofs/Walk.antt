-- A walk over panes in order that fires those that have a kind, one after another.
use Rattle.std.proofs.Common.{◌≡◌, ℕ, zero, suc, ◌+◌, ◌≤◌, cond, T, Option, Some, None, List, [], ◌∷◌, drop, refl, sym, ap, subst, ◌∙◌, add-one, ◌⊎◌, inl, inr, true, false, arith}
use Rattle.std.proofs.lemmas.Int.{ints}
use Rattle.std.specs.Prelude.{ℤ, ◌<ℤ◌, int_lt, option_map, slice_get}
use Rattle.std.specs.Option.{is_some}
use Rattle.std.specs.List.{AllByRecursion, cons_option}
use Rattle.std.specs.Ordering.{is_eq, is_lt, ordering_reverse}
use Rattle.std.specs.Cmp.{tied_itself}
use Rattle.std.specs.declared.cmp.Ordering.TheVariants.{Less, Greater}
use Rattle.std.specs.FinMap.Entries.{put, find, is_sorted, below_all, by_order}
use Rattle.std.proofs.Math.Seq.{drop-cons}
use Rattle.std.proofs.lemmas.Option.{slice_get_within, get_or_from_slice_get}
use Rattle.wsm_windows.specs.declared.window.PaneKind.{PaneKind}
use Rattle.wsm_windows.specs.declared.place.Place.{Place}
use Rattle.wsm_windows.specs.Places.{place_cmp}
use Rattle.wsm_windows.proofs.Places.{places_total}
use Rattle.wsm_semantics.specs.Query.{Query}
use Rattle.wsm_semantics.specs.Summaries.{Plan, Pane, fired_of, fires, fired_pane, all_fired}
use Rattle.wsm_firing.proofs.SameKinds.{Entries, none_fired}
use Rattle.wsm_slots.proofs.Order.{lesser}
use Rattle.wsm_slots.specs.Walk.{following, place_due}
use Rattle.wsm_list.proofs.Walk.{following_nth}
use Rattle.wsm_firing.proofs.AtPlace.{first_of, second_of}

pub rest_at : {A : Type 0} (xs : List A) (i : ℕ) (x : A) → slice_get xs i ≡ Some x → drop i xs ≡ x ∷ drop (i + 1) xs
rest_at xs i x at =
    let within = slice_get_within xs i x at in
    rw (drop-cons xs i x, get_or_from_slice_get xs i x x at, add-one) refl

pub some_same : {A : Type 0} {x y : A} → Some x ≡ Some y → x ≡ y
some_same {A} {x} {y} is = let value : Option A → A = λ o. elim o [ None ↦ x | Some z ↦ z ] in ap value is

-- an entry behind another of a list in order
pub behind : {X : Type 0} (p : Place) (es : List (Place × X)) (i : ℕ) (e : Place × X) → T (below_all place_cmp p es) → slice_get es i ≡ Some e → place_cmp p e.0 ≡ Less
behind p [] i e below at = absurd (cc)
behind p (x ∷ es) zero e below at = subst (λ (y : Place × _). place_cmp p y.0 ≡ Less) (some_same at) (lesser _ (first_of (is_lt (place_cmp p x.0)) (below_all place_cmp p es) below))
behind p (x ∷ es) (suc i) e below at = behind p es i e (second_of (is_lt (place_cmp p x.0)) (below_all place_cmp p es) below) at

turned : (p r : Place) → place_cmp p r ≡ Less → place_cmp r p ≡ Greater
turned p r less = places_total.antisymm r p ∙ ap ordering_reverse less

-- the pane at an entry's place is the entry's
pub find_at : {X : Type 0} (es : List (Place × X)) (i : ℕ) (e : Place × X) → T (is_sorted place_cmp es) → slice_get es i ≡ Some e → find place_cmp e.0 es ≡ Some e.1
find_at [] i e sorted at = absurd (cc)
find_at (x ∷ es) zero e sorted at =
    subst (λ (y : Place × _). find place_cmp y.0 (x ∷ es) ≡ Some y.1) (some_same at) (ap (λ o. cond (is_eq o) (Some x.1) (find place_cmp x.0 es)) (tied_itself places_total x.0))
find_at (x ∷ es) (suc i) e sorted at =
    let less : place_cmp x.0 e.0 ≡ Less = behind x.0 es i e (first_of (below_all place_cmp x.0 es) (is_sorted place_cmp es) sorted) at in
    ap (λ o. cond (is_eq o) (Some x.1) (find place_cmp e.0 es)) (turned x.0 e.0 less) ∙ find_at es i e (second_of (below_all place_cmp x.0 es) (is_sorted place_cmp es) sorted) at

-- what a look-up tells of the pane at a place
pub none_found : {X : Type 0} (p : Place) (o : Option X) → option_map (λ _. p) o ≡ None → o ≡ None
none_found p None is = refl
none_found p (Some x) is = absurd (cc)

pub spot_found : {X : Type 0} (p : Place) (o : Option X) (r : Place) → option_map (λ _. p) o ≡ Some r → (r ≡ p) × (is_some o ≡ true)
spot_found p None r is = absurd (cc)
spot_found p (Some x) r is = (sym (some_same is), refl)

-- the entry of which a walk tells the place
pub entry_due : {X : Type 0} (limit : ℤ) (o : Option (Place × X)) (p : Place) → place_due limit o ≡ Some p → (x : X) × (o ≡ Some (p, x)) × (int_lt limit p.end ≡ false)
entry_due limit None p is = absurd (cc)
entry_due {X} limit (Some e) p is =
    elim (int_lt limit e.0.end) as (λ b. int_lt limit e.0.end ≡ b → cond {A = Option Place} b None (Some e.0) ≡ Some p → (x : X) × (Some e ≡ Some (p, x)) × (int_lt limit p.end ≡ false)) [
      | true ↦ λ kept h. absurd (cc)
      | false ↦ λ past h. let same : e.0 ≡ p = some_same h in (e.1, (λ i. Some (same i, e.1)), ap (λ (r : Place). int_lt limit r.end) (sym same) ∙ past)
    ] refl is

none_left : {A : Type 0} (xs : List A) (i : ℕ) → slice_get xs i ≡ None → drop i xs ≡ []
none_left [] zero at = refl
none_left [] (suc i) at = refl
none_left (x ∷ xs) zero at = absurd (cc)
none_left (x ∷ xs) (suc i) at = none_left xs i at

-- where a walk comes to its end there is no entry, or one that ends after the limit
pub rest_due : {X : Type 0} (limit : ℤ) (es : List (Place × X)) (i : ℕ) → place_due limit (slice_get es i) ≡ None → (drop i es ≡ []) ⊎ ((e : Place × X) × (slice_get es i ≡ Some e) × (limit <ℤ e.0.end))
rest_due {X} limit es i none = by (slice_get es i) refl none where
  by : (o : Option (Place × X)) → slice_get es i ≡ o → place_due limit o ≡ None → (drop i es ≡ []) ⊎ ((e : Place × X) × (slice_get es i ≡ Some e) × (limit <ℤ e.0.end))
  by None at is = inl (none_left es i at)
  by (Some e) at is =
      elim (int_lt limit e.0.end) as (λ b. int_lt limit e.0.end ≡ b → cond {A = Option Place} b None (Some e.0) ≡ None → (drop i es ≡ []) ⊎ ((e : Place × X) × (slice_get es i ≡ Some e) × (limit <ℤ e.0.end))) [
        | true ↦ λ kept h. inr (e, at, grind (arith, ints, kept))
        | false ↦ λ past h. absurd (cc)
      ] refl is

-- behind an entry comes the next one
pub next_behind : {X : Type 0} (limit : ℤ) (es : List (Place × X)) (i : ℕ) (e : Place × X) → T (is_sorted place_cmp es) → slice_get es i ≡ Some e → place_due limit (following e.0 es) ≡ place_due limit (slice_get es (i + 1))
next_behind limit es i e sorted at = ap (place_due limit) (following_nth es i e sorted at) ∙ ap (λ n. place_due limit (slice_get es n)) (sym (add-one i))

module _ {X : Type 0} (limit : ℤ) (es : List (Place × X)) (i : ℕ) (p : Place) (sorted : T (is_sorted place_cmp es)) (due : place_due limit (slice_get es i) ≡ Some p) where
  pub past_end : int_lt limit p.end ≡ false
  past_end = (entry_due limit (slice_get es i) p due).2

  found_due : find place_cmp p es ≡ Some (entry_due limit (slice_get es i) p due).0
  found_due = find_at es i (p, (entry_due limit (slice_get es i) p due).0) sorted (entry_due limit (slice_get es i) p due).1

  pub held_due : is_some (find place_cmp p es) ≡ true
  held_due = ap is_some found_due

  pub entry_found : (x : X) → find place_cmp p es ≡ Some x → slice_get es i ≡ Some (p, x)
  entry_found x found = (entry_due limit (slice_get es i) p due).1 ∙ ap (λ (y : X). Some (p, y)) (some_same (sym found_due ∙ found))

  -- behind it comes the next one
  pub due_behind : place_due limit (following p es) ≡ place_due limit (slice_get es (i + 1))
  due_behind = next_behind limit es i (p, (entry_due limit (slice_get es i) p due).0) sorted (entry_due limit (slice_get es i) p due).1

pub holds_at : {A : Type 0} (P : A → Type 0) (xs : List A) (i : ℕ) (x : A) → AllByRecursion P xs → slice_get xs i ≡ Some x → P x
holds_at P [] i x all at = absurd (cc)
holds_at P (y ∷ ys) zero x all at = subst P (some_same at) all.0
holds_at P (y ∷ ys) (suc i) x all at = holds_at P ys i x all.1 at

module _ {X : Type 0} (plan : Plan X) (q : Query) (kind : Place → Pane X → Option PaneKind) where
  -- the first so many entries fired, the others as they were
  abbrev pub fired_first : ℕ → Entries plan q → Entries plan q
  fired_first zero es = es
  fired_first (suc n) [] = []
  fired_first (suc n) (e ∷ es) = (e.0, fired_pane plan q.mode e.0 (kind e.0 e.1) e.1) ∷ fired_first n es

  -- the others are as they were
  pub later_same : (n k : ℕ) (es : Entries plan q) → n ≤ k → slice_get (fired_first n es) k ≡ slice_get es k
  later_same zero k es on = refl
  later_same (suc n) k [] on = refl
  later_same (suc n) zero (x ∷ es) on = absurd (omega (arith, on))
  later_same (suc n) (suc k) (x ∷ es) on = later_same n k es (omega (arith, on))

  same_due : (limit : ℤ) (n i : ℕ) (es : Entries plan q) → place_due limit (slice_get (fired_first n es) i) ≡ place_due limit (slice_get es i)
  same_due limit zero i es = refl
  same_due limit (suc n) i [] = refl
  same_due limit (suc n) zero (x ∷ es) = refl
  same_due limit (suc n) (suc i) (x ∷ es) = same_due limit n i es

  -- how many have fired is nothing to what is due
  pub still_due : (limit : ℤ) (n m i : ℕ) (es now then : Entries plan q) → now ≡ fired_first n es → then ≡ fired_first m es → place_due limit (slice_get then i) ≡ place_due limit (slice_get now i)
  still_due limit n m i es now then a b =
      ap (λ fs. place_due limit (slice_get fs i)) b ∙ same_due limit m i es ∙ sym (same_due limit n i es) ∙ sym (ap (λ fs. place_due limit (slice_get fs i)) a)

  -- it fires, in its place
  pub next_put : (n : ℕ) (es : Entries plan q) (e : Place × Pane X) → T (is_sorted place_cmp es) → slice_get es n ≡ Some e →
      put place_cmp e.0 (fired_pane plan q.mode e.0 (kind e.0 e.1) e.1) (fired_first n es) ≡ fired_first (suc n) es
  next_put n [] e sorted at = absurd (cc)
  next_put zero (x ∷ es) e sorted at =
      subst (λ (y : Place × Pane X). put place_cmp y.0 (fired_pane plan q.mode y.0 (kind y.0 y.1) y.1) (x ∷ es) ≡ fired_first 1 (x ∷ es)) (some_same at)
      (let v : Pane X = fired_pane plan q.mode x.0 (kind x.0 x.1) x.1 in ap (λ o. by_order o ((x.0, v) ∷ x ∷ es) ((x.0, v) ∷ es) (x ∷ put place_cmp x.0 v es)) (tied_itself places_total x.0))
  next_put (suc n) (x ∷ es) e sorted at =
      let less : place_cmp x.0 e.0 ≡ Less = behind x.0 es n e (first_of (below_all place_cmp x.0 es) (is_sorted place_cmp es) sorted) at in
      let v : Pane X = fired_pane plan q.mode e.0 (kind e.0 e.1) e.1 in
      let x' : Place × Pane X = (x.0, fired_pane plan q.mode x.0 (kind x.0 x.1) x.1) in
      ap (λ o. by_order o ((e.0, v) ∷ x' ∷ fired_first n es) ((x.0, v) ∷ fired_first n es) (x' ∷ put place_cmp e.0 v (fired_first n es))) (turned x.0 e.0 less)
      ∙ ap (λ (fs : Entries plan q). x' ∷ fs) (next_put n es e (second_of (below_all place_cmp x.0 es) (is_sorted place_cmp es) sorted) at)

  -- it doesn't fire
  pub next_stays : (n : ℕ) (es : Entries plan q) (e : Place × Pane X) → slice_get es n ≡ Some e → kind e.0 e.1 ≡ None → fired_first n es ≡ fired_first (suc n) es
  next_stays n [] e at none = absurd (cc)
  next_stays zero (x ∷ es) e at none =
      let same : kind x.0 x.1 ≡ None = subst (λ (y : Place × Pane X). kind y.0 y.1 ≡ None) (sym (some_same at)) none in
      sym (λ i. (x.0, fired_pane plan q.mode x.0 (same i) x.1) ∷ es)
  next_stays (suc n) (x ∷ es) e at none = ap (λ (fs : Entries plan q). (x.0, fired_pane plan q.mode x.0 (kind x.0 x.1) x.1) ∷ fs) (next_stays n es e at none)

  -- none of the others fires
  pub rest_stays : (n : ℕ) (es : Entries plan q) → AllByRecursion (λ e. kind e.0 e.1 ≡ None) (drop n es) → fired_first n es ≡ all_fired plan q kind es
  rest_stays zero es none = sym (none_fired plan q kind es none)
  rest_stays (suc n) [] none = refl
  rest_stays (suc n) (x ∷ es) none = ap (λ (fs : Entries plan q). (x.0, fired_pane plan q.mode x.0 (kind x.0 x.1) x.1) ∷ fs) (rest_stays n es none)

  -- what is left to fire
  pub fires_at : (es : Entries plan q) (i : ℕ) (e : Place × Pane X) → slice_get es i ≡ Some e → fires q kind (drop i es) ≡ cons_option (fired_of q.mode e.0 e.1 (kind e.0 e.1)) (fires q kind (drop (i + 1) es))
  fires_at es i e at = ap (fires q kind) (rest_at es i e at)

  -- a step of the walk
  module _ (es now : Entries plan q) (i : ℕ) (e : Place × Pane X) (so_far : now ≡ fired_first i es) (sorted : T (is_sorted place_cmp es)) (at : slice_get now i ≡ Some e) where
    pub as_it_was : slice_get es i ≡ Some e
    as_it_was = sym (later_same i i es (omega arith)) ∙ ap (λ fs. slice_get fs i) (sym so_far) ∙ at

    one_further : fired_first (suc i) es ≡ fired_first (i + 1) es
    one_further = ap (λ n. fired_first n es) (sym (add-one i))

    pub fires_next : (k : PaneKind) → kind e.0 e.1 ≡ Some k → put place_cmp e.0 (fired_pane plan q.mode e.0 (Some k) e.1) now ≡ fired_first (i + 1) es
    fires_next k is =
        (λ j. put place_cmp e.0 (fired_pane plan q.mode e.0 (sym is j) e.1) (so_far j)) ∙ next_put i es e sorted as_it_was ∙ one_further

    pub stays_next : kind e.0 e.1 ≡ None → now ≡ fired_first (i + 1) es
    stays_next none = so_far ∙ next_stays i es e as_it_was none ∙ one_further

    pub fired_next : (k : Option PaneKind) → kind e.0 e.1 ≡ k → fires q kind (drop i es) ≡ cons_option (fired_of q.mode e.0 e.1 k) (fires q kind (drop (i + 1) es))
    fired_next k is = fires_at es i e as_it_was ∙ ap (λ k. cons_option (fired_of q.mode e.0 e.1 k) (fires q kind (drop (i + 1) es))) is
