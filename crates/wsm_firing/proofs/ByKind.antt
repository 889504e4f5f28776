-- What is told of each pane by what it fires as, where nothing is told of one that doesn't fire: its
-- firing, or what it withdraws.
use Rattle.std.proofs.Common.{◌<◌, ◌≡◌, ℕ, zero, suc, ◌+◌, ◌≤◌, Bool, true, false, ◌||◌, cond, T, List, [], ◌∷◌, ◌++◌, drop, Option, Some, None, refl, sym, ap, subst, ◌∙◌, arith}
use Rattle.std.specs.Prelude.{ℤ, filter_map, slice_get}
use Rattle.std.specs.List.{AllByRecursion, cons_option, list_any}
use Rattle.std.specs.Ordering.{eq_by_cmp, is_eq, is_gt, ordering_reverse}
use Rattle.std.specs.declared.cmp.Ordering.{Ordering}
use Rattle.std.specs.declared.cmp.Ordering.TheVariants.{Less, Equal, Greater}
use Rattle.std.specs.FinMap.Entries.{find, is_sorted, below_all}
use Rattle.wsm_windows.specs.declared.window.PaneKind.{PaneKind}
use Rattle.wsm_windows.specs.declared.place.Place.{Place}
use Rattle.wsm_windows.specs.Places.{place_cmp}
use Rattle.wsm_windows.proofs.Places.{places_total, places_exact}
use Rattle.wsm_semantics.specs.Query.{Query}
use Rattle.wsm_semantics.specs.Firings.{kind_on_record}
use Rattle.wsm_semantics.specs.Summaries.{Plan, Pane}
use Rattle.wsm_firing.specs.ByRecord.{kind_at}
use Rattle.wsm_firing.proofs.AtPlace.{first_of, second_of, none_behind}
use Rattle.wsm_firing.proofs.Walk.{rest_at}

module _ {X : Type 0} (plan : Plan X) (q : Query) (kind : Place → Pane X → Option PaneKind) where
  -- none of those from a number to before another fires
  abbrev pub NoneBetween : ℕ → ℕ → List (Place × Pane X) → Type 0
  NoneBetween n m es = (k : ℕ) (e : Place × Pane X) → n ≤ k → k < m → slice_get es k ≡ Some e → kind e.0 e.1 ≡ None

  pub shifted : (n m : ℕ) (x : Place × Pane X) (es : List (Place × Pane X)) → NoneBetween n (suc m) (x ∷ es) → (k : ℕ) (e : Place × Pane X) → n ≤ suc k → k < m → slice_get es k ≡ Some e → kind e.0 e.1 ≡ None
  shifted n m x es none k e low high at = none (suc k) e low (omega (arith, high)) at

module _ {X B : Type 0} (plan : Plan X) (q : Query) (tell : Place → Pane X → Option PaneKind → Option B) (quiet : (p : Place) (h : Pane X) → tell p h None ≡ None) where
  abbrev Kind : Type 0
  Kind = Place → Pane X → Option PaneKind

  abbrev Entries : Type 0
  Entries = List (Place × Pane X)

  abbrev pub told : Kind → Entries → List B
  told kind es = filter_map (λ e. tell e.0 e.1 (kind e.0 e.1)) es

  pub told_same : (k l : Kind) (es : Entries) → AllByRecursion (λ e. k e.0 e.1 ≡ l e.0 e.1) es → told k es ≡ told l es
  told_same k l [] h = refl
  told_same k l (e ∷ es) h = λ i. cons_option (tell e.0 e.1 (h.0 i)) (told_same k l es h.1 i)

  silent : (p : Place) (h : Pane X) (k : Option PaneKind) (xs : List B) → k ≡ None → cons_option (tell p h k) xs ≡ xs
  silent p h k xs none = ap (λ (k : Option PaneKind). cons_option (tell p h k) xs) none ∙ ap (λ (o : Option B). cons_option o xs) (quiet p h)

  pub told_none : (k : Kind) (es : Entries) → AllByRecursion (λ e. k e.0 e.1 ≡ None) es → told k es ≡ []
  told_none k [] h = refl
  told_none k (e ∷ es) h = silent e.0 e.1 (k e.0 e.1) (told k es) h.0 ∙ told_none k es h.1

  -- ---- a walk over all of them

  pub told_at : (k : Kind) (es : Entries) (i : ℕ) (e : Place × Pane X) → slice_get es i ≡ Some e → told k (drop i es) ≡ cons_option (tell e.0 e.1 (k e.0 e.1)) (told k (drop (i + 1) es))
  told_at k es i e at = ap (told k) (rest_at es i e at)

  pub told_jump : (k : Kind) (n m : ℕ) (es : Entries) → n ≤ m → NoneBetween plan q k n m es → told k (drop n es) ≡ told k (drop m es)
  told_jump kind zero zero es to none = refl
  told_jump kind zero (suc m) [] to none = refl
  told_jump kind zero (suc m) (x ∷ es) to none =
      silent x.0 x.1 (kind x.0 x.1) (told kind es) (none 0 x (omega arith) (omega arith) refl) ∙ told_jump kind zero m es (omega arith) (λ k e low high at. shifted plan q kind 0 m x es none k e (omega arith) high at)
  told_jump kind (suc n) zero es to none = absurd (omega (arith, to))
  told_jump kind (suc n) (suc m) [] to none = refl
  told_jump kind (suc n) (suc m) (x ∷ es) to none = told_jump kind n m es (omega (arith, to)) (λ k e low high at. shifted plan q kind (suc n) m x es none k e (omega (arith, low)) high at)

  -- ---- at some places

  module _ (mark : ℤ) (p : Place) where
    abbrev one : Kind
    one = kind_at q mark (p ∷ [])

    abbrev pub told_found : Option (Pane X) → List B
    told_found None = []
    told_found (Some h) = cons_option (tell p h (kind_on_record q mark p.end h.unshown)) []

    none_at : (x : Place) → ((r : Place) → place_cmp x r ≡ Less → place_cmp p r ≡ Less) → (es : Entries) → T (below_all place_cmp x es) → told one es ≡ []
    none_at x further es below = told_none one es (none_behind plan q mark p x further es below)

    -- the pane at the place
    pub told_there : (es : Entries) → T (is_sorted place_cmp es) → told one es ≡ told_found (find place_cmp p es)
    told_there [] sorted = refl
    told_there (e ∷ es) sorted =
        let first : Bool → Option B = λ b. tell e.0 e.1 (cond (b || false) (kind_on_record q mark e.0.end e.1.unshown) None) in
        let turned : (o : Ordering) → place_cmp p e.0 ≡ o → eq_by_cmp place_cmp e.0 p ≡ is_eq (ordering_reverse o) = λ o is. ap is_eq (places_total.antisymm e.0 p ∙ ap ordering_reverse is) in
        let rest : told one es ≡ told_found (find place_cmp p es) = told_there es (second_of (below_all place_cmp e.0 es) (is_sorted place_cmp es) sorted) in
        elim (place_cmp p e.0) as (λ o. place_cmp p e.0 ≡ o → cons_option (first (eq_by_cmp place_cmp e.0 p)) (told one es) ≡ told_found (cond (is_eq o) (Some e.1) (find place_cmp p es))) [
          | Less ↦ λ is. (λ i. cons_option (first (turned Less is i)) (rest i)) ∙ ap (λ (o : Option B). cons_option o (told_found (find place_cmp p es))) (quiet e.0 e.1)
          | Equal ↦ λ is.
              let same : e.0 ≡ p = sym (places_exact p e.0 is) in
              let none : told one es ≡ [] =
              none_at e.0 (λ r. subst (λ (x : Place). place_cmp x r ≡ Less → place_cmp p r ≡ Less) (sym same) (λ less. less)) es (first_of (below_all place_cmp e.0 es) (is_sorted place_cmp es) sorted) in
              (λ i. cons_option (first (turned Equal is i)) (none i))
              ∙ (λ i. cons_option (tell (same i) e.1 (kind_on_record q mark (same i).end e.1.unshown)) [])
          | Greater ↦ λ is. (λ i. cons_option (first (turned Greater is i)) (rest i)) ∙ ap (λ (o : Option B). cons_option o (told_found (find place_cmp p es))) (quiet e.0 e.1)
        ] refl

    module _ (ps : List Place) (later : (r : Place) → is_gt (place_cmp r p) ≡ false → list_any (eq_by_cmp place_cmp r) ps ≡ false) where
      abbrev others : Kind
      others = kind_at q mark ps

      abbrev both : Kind
      both = kind_at q mark (p ∷ ps)

      cons_first : (o : Option B) (xs ys : List B) → cons_option o (xs ++ ys) ≡ cons_option o xs ++ ys
      cons_first None xs ys = refl
      cons_first (Some x) xs ys = refl

      -- the pane at the place comes before those at the others
      pub told_in_turn : (es : Entries) → T (is_sorted place_cmp es) → told both es ≡ told one es ++ told others es
      told_in_turn [] sorted = refl
      told_in_turn (e ∷ es) sorted =
          let k : Option PaneKind = kind_on_record q mark e.0.end e.1.unshown in
          let u : Bool = list_any (eq_by_cmp place_cmp e.0) ps in
          let f : Bool → Option B = λ b. tell e.0 e.1 (cond b k None) in
          let unsaid : (xs : List B) → cons_option (f false) xs ≡ xs = λ xs. ap (λ (o : Option B). cons_option o xs) (quiet e.0 e.1) in
          let rest : told both es ≡ told one es ++ told others es = told_in_turn es (second_of (below_all place_cmp e.0 es) (is_sorted place_cmp es) sorted) in
          elim (place_cmp e.0 p) as (λ o. place_cmp e.0 p ≡ o → cons_option (f (is_eq o || u)) (told both es) ≡ cons_option (f (is_eq o || false)) (told one es) ++ cons_option (f u) (told others es)) [
            | Less ↦ λ less.
                let none : u ≡ false = later e.0 (ap is_gt less) in
                (λ i. cons_option (f (none i)) (rest i)) ∙ unsaid (told one es ++ told others es)
                ∙ (λ i. sym (unsaid (told one es)) i ++ sym (unsaid (told others es)) i) ∙ (λ i. cons_option (f false) (told one es) ++ cons_option (f (sym none i)) (told others es))
            | Equal ↦ λ tie.
                let none : u ≡ false = later e.0 (ap is_gt tie) in
                (λ i. cons_option (f true) (rest i)) ∙ cons_first (f true) (told one es) (told others es)
                ∙ (λ i. cons_option (f true) (told one es) ++ sym (unsaid (told others es)) i) ∙ (λ i. cons_option (f true) (told one es) ++ cons_option (f (sym none i)) (told others es))
            | Greater ↦ λ more.
                let before : place_cmp p e.0 ≡ Less = places_total.antisymm p e.0 ∙ ap ordering_reverse more in
                let none : told one es ≡ [] = none_at e.0 (λ r. places_total.trans p e.0 r before) es (first_of (below_all place_cmp e.0 es) (is_sorted place_cmp es) sorted) in
                (λ i. cons_option (f u) (rest i)) ∙ (λ i. cons_option (f u) (none i ++ told others es))
                ∙ (λ i. sym none i ++ cons_option (f u) (told others es)) ∙ (λ i. sym (unsaid (told one es)) i ++ cons_option (f u) (told others es))
          ] refl
