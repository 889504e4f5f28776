-- Setting a key in a list of entries in any order: at the place where a scan stops.
use Rattle.std.proofs.Common.{◌≡◌, ◌≢◌, ℕ, zero, suc, ◌<◌, ◌≤◌, true, false, cond, T, Option, Some, None, List, [], ◌∷◌, length, get_or, set, refl, sym, ap, ◌∙◌, inl, inr, arith}
use Rattle.std.specs.Prelude.{insert}
use Rattle.wsm_list.specs.Search.{before}
use Rattle.std.specs.declared.cmp.Ordering.{Ordering}
use Rattle.std.specs.declared.cmp.Ordering.TheVariants.{Less, Equal, Greater}
use Rattle.std.specs.Cmp.{IsTotalOrder, tied_itself}
use Rattle.std.specs.FinMap.{find, put, is_sorted}
use Rattle.std.specs.FinMap.Entries.{below_all}
use Rattle.std.specs.Ordering.{is_lt, is_gt, ordering_reverse}
use Rattle.wsm_semantics.proofs.Tables.{cases_Ordering}
use Rattle.wsm_slots.proofs.Order.{second_of_and, lesser, first_of_and}

greater : (o : Ordering) → is_gt o ≡ true → o ≡ Greater
greater Less h = let bad : false ≡ true = h in absurd (cc)
greater Equal h = let bad : false ≡ true = h in absurd (cc)
greater Greater h = refl

module _ {K X : Type 0} (R : K → K → Ordering) where
  module _ (e : K × X) (es : List (K × X)) (d : K × X) (k : K) (v : X) where
    -- past the first entry, all stands one place further
    over_tail : (n m : ℕ) → n ≡ suc m → (ys : List (K × X)) → ys ≡ e ∷ put R k v es → n < length (e ∷ es) → (get_or (e ∷ es) n d).0 ≡ k → (m < length es → (get_or es m d).0 ≡ k → set es m (k, v) ≡ put R k v es) → set (e ∷ es) n (k, v) ≡ ys
    over_tail n m is ys put_is within at rest = rw (is, put_is) (ap (λ l. e ∷ l) (rest (omega arith) (rw is at at)))

    between_tail : (n m : ℕ) → n ≡ suc m → (ys : List (K × X)) → ys ≡ e ∷ put R k v es → (n < length (e ∷ es) → (get_or (e ∷ es) n d).0 ≢ k) → ((m < length es → (get_or es m d).0 ≢ k) → insert es m (k, v) ≡ put R k v es) → insert (e ∷ es) n (k, v) ≡ ys
    between_tail n m is ys put_is other rest = rw (is, put_is) (ap (λ l. e ∷ l) (rest (λ w at. (rw is at other) (omega arith) at)))

  -- where it stops at the key, setting the key writes over that entry
  pub put_over : IsTotalOrder R → (es : List (K × X)) (d : K × X) (k : K) (v : X) → before R k es < length es → (get_or es (before R k es) d).0 ≡ k → set es (before R k es) (k, v) ≡ put R k v es
  put_over o [] d k v within at = absurd (omega arith)
  put_over o (e ∷ es) d k v within at = elim (cases_Ordering (R k e.0)) [
    | inl less ↦
        let same : e.0 ≡ k = rw less at at in
        let tie : Less ≡ Equal = sym less ∙ rw same (tied_itself o k) in
        absurd (cc)
    | inr other ↦ elim other [
      | inl tie ↦
          let same : e.0 ≡ k = rw tie at at in
          rw tie (ap (λ (x : K). let first : K × X = (x, v) in first ∷ es) (sym same))
      | inr more ↦ over_tail e es d k v (before R k (e ∷ es)) (before R k es) (rw more refl) (put R k v (e ∷ es)) (rw more refl) within at (put_over o es d k v)
    ]
  ]

  -- where it doesn't, the entry goes in front of the one where it stops
  pub put_between : IsTotalOrder R → ((x y : K) → R x y ≡ Equal → x ≡ y) → (es : List (K × X)) (d : K × X) (k : K) (v : X) → (before R k es < length es → (get_or es (before R k es) d).0 ≢ k) → insert es (before R k es) (k, v) ≡ put R k v es
  put_between o same [] d k v other = refl
  put_between o same (e ∷ es) d k v other = elim (cases_Ordering (R k e.0)) [
    | inl less ↦ rw less refl
    | inr rest ↦ elim rest [
      | inl tie ↦ absurd ((rw tie at other) (omega arith) (sym (same k e.0 tie)))
      | inr more ↦ between_tail e es d k v (before R k (e ∷ es)) (before R k es) (rw more refl) (put R k v (e ∷ es)) (rw more refl) other (put_between o same es d k v)
    ]
  ]

  absent_tail : (e : K × X) (es : List (K × X)) (d : K × X) (k : K) (n m : ℕ) → n ≡ suc m → (r : Option X) → r ≡ find R k es → (n < length (e ∷ es) → (get_or (e ∷ es) n d).0 ≢ k) → ((m < length es → (get_or es m d).0 ≢ k) → find R k es ≡ None) → r ≡ None
  absent_tail e es d k n m is r r_is other rest = r_is ∙ rest (λ w at. (rw is at other) (omega arith) at)

  -- a key below all is not there
  pub find_below : IsTotalOrder R → (es : List (K × X)) (x k : K) → T (below_all R x es) → R k x ≡ Less → find R k es ≡ None
  find_below o [] x k below less = refl
  find_below o (e ∷ es) x k below less =
      let next : R k e.0 ≡ Less = o.trans k x e.0 less (lesser (R x e.0) (first_of_and (is_lt (R x e.0)) _ below)) in
      rw next (find_below o es x k (second_of_and (is_lt (R x e.0)) _ below) less)

  -- where the scan doesn't stop at the key, it is not there
  pub find_absent : IsTotalOrder R → ((x y : K) → R x y ≡ Equal → x ≡ y) → (es : List (K × X)) (d : K × X) (k : K) → T (is_sorted R es) → (before R k es < length es → (get_or es (before R k es) d).0 ≢ k) → find R k es ≡ None
  find_absent o same [] d k sorted other = refl
  find_absent o same (e ∷ es) d k sorted other = elim (cases_Ordering (R k e.0)) [
    | inl less ↦ rw less (find_below o es e.0 k (first_of_and (below_all R e.0 es) _ sorted) less)
    | inr rest ↦ elim rest [
      | inl tie ↦ absurd ((rw tie at other) (omega arith) (sym (same k e.0 tie)))
      | inr more ↦ absent_tail e es d k (before R k (e ∷ es)) (before R k es) (rw more refl) (find R k (e ∷ es)) (rw more refl) other (find_absent o same es d k (second_of_and (below_all R e.0 es) _ sorted))
    ]
  ]

  found_tail : (e : K × X) (es : List (K × X)) (d : K × X) (k : K) (n m : ℕ) → n ≡ suc m → (r : Option X) → r ≡ find R k es → n < length (e ∷ es) → (get_or (e ∷ es) n d).0 ≡ k → (m < length es → (get_or es m d).0 ≡ k → find R k es ≡ Some (get_or es m d).1) → r ≡ Some (get_or (e ∷ es) n d).1
  found_tail e es d k n m is r r_is within at rest = r_is ∙ rw is (rest (omega arith) (rw is at at))

  -- where the scan stops at the key, that entry is found
  pub find_over : IsTotalOrder R → (es : List (K × X)) (d : K × X) (k : K) → before R k es < length es → (get_or es (before R k es) d).0 ≡ k → find R k es ≡ Some (get_or es (before R k es) d).1
  find_over o [] d k within at = absurd (omega arith)
  find_over o (e ∷ es) d k within at = elim (cases_Ordering (R k e.0)) [
    | inl less ↦
        let same : e.0 ≡ k = rw less at at in
        let tie : Less ≡ Equal = sym less ∙ rw same (tied_itself o k) in
        absurd (cc)
    | inr rest ↦ elim rest [
      | inl tie ↦ rw tie refl
      | inr more ↦ found_tail e es d k (before R k (e ∷ es)) (before R k es) (rw more refl) (find R k (e ∷ es)) (rw more refl) within at (find_over o es d k)
    ]
  ]

  -- an entry of those that are above a key
  pub less_at : (x : K) (es : List (K × X)) (i : ℕ) (d : K × X) → T (below_all R x es) → i < length es → R x (get_or es i d).0 ≡ Less
  less_at x [] i d below within = absurd (omega arith)
  less_at x (e ∷ es) zero d below within = lesser (R x e.0) (first_of_and (is_lt (R x e.0)) _ below)
  less_at x (e ∷ es) (suc i) d below within = less_at x es i d (second_of_and (is_lt (R x e.0)) _ below) (omega arith)

  -- the key is past the first entry, where it is not below one behind it
  past_first : IsTotalOrder R → (e : K × X) (es : List (K × X)) (i : ℕ) (d : K × X) (k : K) → T (is_sorted R (e ∷ es)) → i < length es → R k (get_or es i d).0 ≢ Less → R k e.0 ≡ Greater
  past_first o e es i d k sorted within other =
      let below : R e.0 (get_or es i d).0 ≡ Less = less_at e.0 es i d (first_of_and (below_all R e.0 es) _ sorted) within in
      let above : R (get_or es i d).0 e.0 ≡ Greater = o.antisymm (get_or es i d).0 e.0 ∙ ap ordering_reverse below in
      elim (cases_Ordering (R k (get_or es i d).0)) [
        | inl less ↦ absurd (other less)
        | inr rest ↦ elim rest [
          | inl tie ↦ o.congr k (get_or es i d).0 e.0 tie ∙ above
          | inr more ↦ o.antisymm k e.0 ∙ ap ordering_reverse (o.trans e.0 (get_or es i d).0 k below (o.antisymm (get_or es i d).0 k ∙ ap ordering_reverse more))
        ]
      ]

  -- a scan for a key passes the entries that it is past
  pub passes : IsTotalOrder R → (es : List (K × X)) (i : ℕ) (d : K × X) (k : K) → T (is_sorted R es) → i < length es → R k (get_or es i d).0 ≡ Greater → i < before R k es
  passes o [] i d k sorted within more = absurd (omega arith)
  passes o (e ∷ es) zero d k sorted within more = rw more (omega arith)
  passes o (e ∷ es) (suc i) d k sorted within more =
      let past : R k e.0 ≡ Greater = past_first o e es i d k sorted (omega arith) (λ less. let bad : Less ≡ Greater = sym less ∙ more in cc) in
      let rest : i < before R k es = passes o es i d k (second_of_and (below_all R e.0 es) _ sorted) (omega arith) more in
      rw past (omega arith)

  pub passes_gt : IsTotalOrder R → (es : List (K × X)) (i : ℕ) (d : K × X) (k : K) → T (is_sorted R es) → i < length es → is_gt (R k (get_or es i d).0) ≡ true → i < before R k es
  passes_gt o es i d k sorted within more = passes o es i d k sorted within (greater (R k (get_or es i d).0) more)

  -- and comes to an entry at the key
  pub reaches : IsTotalOrder R → (es : List (K × X)) (i : ℕ) (d : K × X) (k : K) → T (is_sorted R es) → i < length es → R k (get_or es i d).0 ≡ Equal → i ≤ before R k es
  reaches o [] i d k sorted within tie = absurd (omega arith)
  reaches o (e ∷ es) zero d k sorted within tie = omega arith
  reaches o (e ∷ es) (suc i) d k sorted within tie =
      let past : R k e.0 ≡ Greater = past_first o e es i d k sorted (omega arith) (λ less. let bad : Less ≡ Equal = sym less ∙ tie in cc) in
      let rest : i ≤ before R k es = reaches o es i d k (second_of_and (below_all R e.0 es) _ sorted) (omega arith) tie in
      rw past (omega arith)

  -- it stops at one that the key is not past
  pub stops : (es : List (K × X)) (i : ℕ) (d : K × X) (k : K) → i < length es → is_gt (R k (get_or es i d).0) ≡ false → before R k es ≤ i
  stops [] i d k within other = absurd (omega arith)
  stops (e ∷ es) zero d k within other = rw other (omega arith)
  stops (e ∷ es) (suc i) d k within other =
      let rest : before R k es ≤ i = stops es i d k (omega arith) other in
      elim (is_gt (R k e.0)) as (λ b. cond b (suc (before R k es)) 0 ≤ suc i) [ true ↦ omega arith | false ↦ omega arith ]

  pub before_within : (es : List (K × X)) (k : K) → before R k es ≤ length es
  before_within [] k = omega arith
  before_within (e ∷ es) k =
      let rest : before R k es ≤ length es = before_within es k in
      elim (is_gt (R k e.0)) as (λ b. cond b (suc (before R k es)) 0 ≤ suc (length es)) [ true ↦ omega arith | false ↦ omega arith ]
