-- Tables of places in order: how many entries there are, where those of one key are bounded, and
-- which windows the entries of one key have.
use Rattle.std.proofs.Common.{◌≡◌, ℕ, zero, suc, ◌+◌, ◌*◌, ◌<◌, ◌≤◌, Bool, true, false, cond, not, List, [], ◌∷◌, map, length, ℤ, pos, ◌+ℤ◌, ◌≤ℤ◌, ◌<ℤ◌, ◌⊎◌, inl, inr, refl, sym, ap, subst, ◌∙◌, arith}
use Rattle.std.proofs.lemmas.Int.{ints}
use Rattle.std.proofs.lemmas.Bool.{true≢false, and_parts}
use Rattle.std.proofs.lemmas.Bool.Decides.{nat_tests}
use Rattle.std.proofs.lemmas.Cmp.{nat_cmp_total}
use Rattle.std.proofs.lemmas.List.Elements.{All-nil, All-cons}
use Rattle.std.proofs.lemmas.List.Filters.{length-filter_both}
use Rattle.std.specs.Prelude.{All, filter, int_lt, nat_eq}
use Rattle.std.specs.List.{AllByRecursion}
use Rattle.std.specs.Cmp.{tied_itself}
use Rattle.std.specs.Ordering.{is_lt, int_cmp, nat_cmp, ordering_then}
use Rattle.std.specs.declared.cmp.Ordering.{Ordering}
use Rattle.std.specs.declared.cmp.Ordering.TheVariants.{Less, Equal, Greater}
use Rattle.std.specs.FinMap.Entries.{is_sorted, below_all}
use Rattle.wsm_windows.specs.declared.window.Window.{Window}
use Rattle.wsm_windows.specs.Windows.{IsRising}
use Rattle.wsm_windows.specs.Life.{AreSessions}
use Rattle.wsm_windows.specs.declared.place.Place.{Place}
use Rattle.wsm_windows.specs.Places.{place_cmp, window_of}
use Rattle.wsm_semantics.proofs.Lists.{filter-all}
use Rattle.wsm_semantics.proofs.Each.{all-passed, filter_swap}
use Rattle.wsm_semantics.proofs.Sessions.{AreApart}
use Rattle.wsm_semantics.proofs.SessionTimes.{IsOneOf, of-all}

pub all-is : {A : Type 0} (P : A → Type 0) (xs : List A) → AllByRecursion P xs → All P xs
all-is P [] h = All-nil P
all-is P (x ∷ xs) h = All-cons P x xs h.0 (all-is P xs h.1)

pub length-filter : {A : Type 0} (t : A → Bool) (xs : List A) → length (filter t xs) ≤ length xs
length-filter t [] = omega arith
length-filter t (x ∷ xs) =
    elim (t x) as (λ b. length (cond b (x ∷ filter t xs) (filter t xs)) ≤ suc (length xs)) [
      | true ↦ omega (arith, length-filter t xs)
      | false ↦ omega (arith, length-filter t xs)
    ]

below_other : (j n : ℕ) → j < suc n → not (nat_eq j n) ≡ true → j < n
below_other j n h g = grind (arith, nat_tests)

-- the place comes first
abbrev pub Precedes : Place → Place → Type 0
Precedes p r = is_lt (place_cmp p r) ≡ true

sooner_first : (a b : ℤ) (o : Ordering) → is_lt (ordering_then (int_cmp a b) o) ≡ true → (a <ℤ b) ⊎ ((a ≡ b) × (is_lt o ≡ true))
sooner_first a b o h = by_tests (int_lt a b) (int_lt b a) refl refl h where
  by_tests : (x y : Bool) → int_lt a b ≡ x → int_lt b a ≡ y → is_lt (ordering_then (cond x Less (cond y Greater Equal)) o) ≡ true → (a <ℤ b) ⊎ ((a ≡ b) × (is_lt o ≡ true))
  by_tests true y e f h = inl (grind (arith, ints))
  by_tests false true e f h = absurd (true≢false (sym h))
  by_tests false false e f h = inr (grind (arith, ints), h)

-- of two places of a key, the first ends sooner, or with the other and starts sooner
pub precedes_is : (p r : Place) → p.key ≡ r.key → Precedes p r → (p.end <ℤ r.end) ⊎ ((p.end ≡ r.end) × (p.start <ℤ r.start))
precedes_is p r key h =
    elim (sooner_first p.end r.end _ h) [
      | inl less ↦ inl less
      | inr same ↦ elim (sooner_first p.start r.start _ same.1) [
        | inl less ↦ inr (same.0, less)
        | inr tie ↦ absurd (true≢false (sym tie.1 ∙ ap (λ (k : ℕ). is_lt (nat_cmp p.key k)) (sym key) ∙ ap is_lt (tied_itself nat_cmp_total p.key)))
      ]
    ]

grid_rises : (a b c e size : ℤ) → b ≡ a +ℤ size → e ≡ c +ℤ size → (b <ℤ e) ⊎ ((b ≡ e) × (a <ℤ c)) → a <ℤ c
grid_rises a b c e size h k (inl less) = omega (arith, ints)
grid_rises a b c e size h k (inr same) = same.1

-- of two sessions of a key, the one that comes first ends before the other starts
pub ends_first : (gap : ℤ) → pos 1 ≤ℤ gap → (ws : List Window) → AreApart gap ws → (a b : Window) → IsOneOf a ws → IsOneOf b ws → (a.end <ℤ b.end) ⊎ ((a.end ≡ b.end) × (a.start <ℤ b.start)) → a.end ≤ℤ b.start
ends_first gap long [] apart a b m n first = absurd m
ends_first gap long (w ∷ ws) apart a b (inl d) (inl e) first = absurd (clash first) where
  clash : (a.end <ℤ b.end) ⊎ ((a.end ≡ b.end) × (a.start <ℤ b.start)) → ⊥
  clash (inl less) = let same : a.end ≡ b.end = ap (λ (v : Window). v.end) (d ∙ sym e) in omega (arith, ints)
  clash (inr less) = let same : a.start ≡ b.start = ap (λ (v : Window). v.start) (d ∙ sym e) in let before : a.start <ℤ b.start = less.1 in omega (arith, ints)
ends_first gap long (w ∷ ws) apart a b (inl d) (inr n) first =
    subst (λ (v : Window). v.end ≤ℤ b.start) (sym d) (of-all (λ v. w.end ≤ℤ v.start) b ws apart.1 n)
ends_first gap long (w ∷ ws) apart a b (inr m) (inl e) first =
    let later : w.end ≤ℤ a.start = of-all (λ v. w.end ≤ℤ v.start) a ws apart.1 m in
    let lasts : (a.start +ℤ gap) ≤ℤ a.end = each_lasts ws apart.2 m in
    let same : b.end ≡ w.end = ap (λ (v : Window). v.end) e in
    absurd (clash a.start a.end b.end w.end later lasts same (no_later first))
  where
    each_lasts : (vs : List Window) → AreApart gap vs → IsOneOf a vs → (a.start +ℤ gap) ≤ℤ a.end
    each_lasts [] h n = absurd n
    each_lasts (v ∷ vs) h (inl i) = subst (λ (x : Window). (x.start +ℤ gap) ≤ℤ x.end) (sym i) h.0
    each_lasts (v ∷ vs) h (inr i) = each_lasts vs h.2 i

    no_later : (a.end <ℤ b.end) ⊎ ((a.end ≡ b.end) × (a.start <ℤ b.start)) → a.end ≤ℤ b.end
    no_later (inl less) = omega (arith, ints)
    no_later (inr same) = let e : a.end ≡ b.end = same.0 in omega (arith, ints)

    clash : (s e f g : ℤ) → g ≤ℤ s → (s +ℤ gap) ≤ℤ e → f ≡ g → e ≤ℤ f → ⊥
    clash s e f g h k i j = omega (arith, ints)
ends_first gap long (w ∷ ws) apart a b (inr m) (inr n) first = ends_first gap long ws apart.2 a b m n first

module _ {A : Type 0} where
  -- the entries of a key
  abbrev pub at_key : ℕ → List (Place × A) → List (Place × A)
  at_key k es = filter (λ e. nat_eq e.0.key k) es

  abbrev pub windows_at : List (Place × A) → List Window
  windows_at es = map (λ e. window_of e.0) es

  -- each comes before those that follow it
  abbrev pub AreInOrder : List (Place × A) → Type 0
  AreInOrder [] = Unit {0}
  AreInOrder (e ∷ es) = AllByRecursion (λ f. Precedes e.0 f.0) es × AreInOrder es

  each_below : (p : Place) (es : List (Place × A)) → below_all place_cmp p es ≡ true → AllByRecursion (λ f. Precedes p f.0) es
  each_below p [] h = tt
  each_below p (e ∷ es) h = let parts = and_parts _ _ h in (parts.0, each_below p es parts.1)

  pub in_order : (es : List (Place × A)) → is_sorted place_cmp es ≡ true → AreInOrder es
  in_order [] h = tt
  in_order (e ∷ es) h = let parts = and_parts _ _ h in (each_below e.0 es parts.0, in_order es parts.1)

  pub in_order-filter : (t : Place × A → Bool) (es : List (Place × A)) → AreInOrder es → AreInOrder (filter t es)
  in_order-filter t [] h = tt
  in_order-filter t (e ∷ es) h =
      elim (t e) as (λ b. AreInOrder (cond b (e ∷ filter t es) (filter t es))) [
        | true ↦ (filter-all (λ f. Precedes e.0 f.0) t es h.0, in_order-filter t es h.1)
        | false ↦ in_order-filter t es h.1
      ]

  -- as many keys, times the most entries of one
  pub length_by_keys : (n m : ℕ) (es : List (Place × A)) → AllByRecursion (λ e. e.0.key < n) es → ((k : ℕ) → length (at_key k es) ≤ m) → length es ≤ n * m
  length_by_keys zero m [] h each = omega arith
  length_by_keys zero m (e ∷ es) h each = absurd (let none : e.0.key < 0 = h.0 in omega arith)
  length_by_keys (suc n) m es h each =
      let other : Place × A → Bool = λ e. not (nat_eq e.0.key n) in
      let rest : length (filter other es) ≤ n * m =
      length_by_keys n m (filter other es)
      (all-passed (λ e. e.0.key < suc n) (λ e. e.0.key < n) other (λ e below is. below_other e.0.key n below is) es h)
      (λ k. fewer k other) in
      let here : length (at_key n es) ≤ m = each n in
      let both : length (at_key n es) + length (filter other es) ≡ length es = length-filter_both (λ e. nat_eq e.0.key n) other (λ e. refl) es in
      let one_more : suc n * m ≡ n * m + m = omega arith in
      omega arith
    where
      fewer : (k : ℕ) (t : Place × A → Bool) → length (at_key k (filter t es)) ≤ m
      fewer k t =
          let swapped : at_key k (filter t es) ≡ filter t (at_key k es) = filter_swap (λ e. nat_eq e.0.key k) t es in
          let less : length (filter t (at_key k es)) ≤ length (at_key k es) = length-filter t (at_key k es) in
          let most : length (at_key k es) ≤ m = each k in
          subst (λ (xs : List (Place × A)). length xs ≤ m) (sym swapped) (omega arith)

  module _ (k : ℕ) where
    -- windows of one size rise, in the order of places
    pub rising_windows : (size : ℤ) (es : List (Place × A)) → AreInOrder es → AllByRecursion (λ e. (e.0.key ≡ k) × (e.0.end ≡ e.0.start +ℤ size)) es → IsRising (windows_at es)
    rising_windows size [] order are = tt
    rising_windows size (e ∷ es) order are =
        (all-is (λ v. e.0.start <ℤ v.start) (windows_at es) (later es order.0 are.1), rising_windows size es order.1 are.1)
      where
        later : (fs : List (Place × A)) → AllByRecursion (λ f. Precedes e.0 f.0) fs → AllByRecursion (λ f. (f.0.key ≡ k) × (f.0.end ≡ f.0.start +ℤ size)) fs → AllByRecursion (λ v. e.0.start <ℤ v.start) (windows_at fs)
        later [] before sized = tt
        later (f ∷ fs) before sized =
            (grid_rises e.0.start e.0.end f.0.start f.0.end size are.0.1 sized.0.1 (precedes_is e.0 f.0 (are.0.0 ∙ sym sized.0.0) before.0), later fs before.1 sized.1)

    -- sessions of the key lie apart, in the order of places
    pub apart_windows : (gap : ℤ) → pos 1 ≤ℤ gap → (ws : List Window) → AreApart gap ws → (es : List (Place × A)) → AreInOrder es → AllByRecursion (λ e. (e.0.key ≡ k) × IsOneOf (window_of e.0) ws) es → AreSessions gap (windows_at es)
    apart_windows gap long ws apart [] order are = tt
    apart_windows gap long ws apart (e ∷ es) order are = (
      of_its_own ws apart are.0.1,
      all-is (λ v. e.0.end ≤ℤ v.start) (windows_at es) (later es order.0 are.1),
      apart_windows gap long ws apart es order.1 are.1,
    )
      where
        of_its_own : (vs : List Window) → AreApart gap vs → IsOneOf (window_of e.0) vs → (e.0.start +ℤ gap) ≤ℤ e.0.end
        of_its_own [] h n = absurd n
        of_its_own (v ∷ vs) h (inl i) = subst (λ (x : Window). (x.start +ℤ gap) ≤ℤ x.end) (sym i) h.0
        of_its_own (v ∷ vs) h (inr i) = of_its_own vs h.2 i

        later : (fs : List (Place × A)) → AllByRecursion (λ f. Precedes e.0 f.0) fs → AllByRecursion (λ f. (f.0.key ≡ k) × IsOneOf (window_of f.0) ws) fs → AllByRecursion (λ v. e.0.end ≤ℤ v.start) (windows_at fs)
        later [] before sized = tt
        later (f ∷ fs) before sized =
            (ends_first gap long ws apart (window_of e.0) (window_of f.0) are.0.1 sized.0.1 (precedes_is e.0 f.0 (are.0.0 ∙ sym sized.0.0) before.0), later fs before.1 sized.1)
