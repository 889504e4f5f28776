-- How many items each tier has.
use Rattle.std.proofs.Common.{◌≡◌, ◌<◌, ◌≤◌, ◌+◌, ◌*◌, ◌-◌, ℕ, suc, List, [], ◌∷◌, ◌++◌, get_or, length, min, set, take, drop, refl, sym, ap, ◌∙◌, arith, length-append, inl, inr}
use Rattle.std.proofs.lemmas.Bool.{cases_Bool, cases_eq}
use Rattle.std.proofs.lemmas.Bool.Decides.{nat_tests}
use Rattle.std.specs.Prelude.{nat_lt}
use Rattle.std.proofs.lemmas.List.{append-nil, drop_all, drop_at, take_all, take_at, get_or-set_other, get_or-set_same, length-set}
use Rattle.std.specs.List.{remove}
use Rattle.std.specs.VecDeque.{deque_capacity, deque_items, deque_len}
use Rattle.std.specs.declared.collections.VecDeque.{VecDeque}
use Rattle.wsm_tiers.specs.Tiers.{AreFilled, joined}
use Rattle.wsm_tiers.specs.declared.far.TheConstants.{TIER}
use Rattle.wsm_tiers.proofs.Joined.{AreOf, flat_map_none}

none : {T : Type 0} (items : List T) → length items ≡ 0 → items ≡ []
none [] h = refl
none (x ∷ items) h = absurd (omega (arith, h))

module _ {T Z : Type 0} where
  pub len_of : (q : VecDeque T Z) → length (deque_items q) ≡ deque_len q
  len_of q = sym q.ok.0

  -- the tier of a number has one item less than it can of those that the tiers before it leave
  pub record Lacks (n k : ℕ) (xs : List (VecDeque T Z)) : Type 0 where
    pub each : (j : ℕ) (d : VecDeque T Z) → j < length xs → (j ≡ k → ⊥) → deque_len (get_or xs j d) ≡ min TIER (n - TIER * j)
    pub short : (d : VecDeque T Z) → deque_len (get_or xs k d) + 1 ≡ min TIER (n - TIER * k)
    pub wide : (j : ℕ) (d : VecDeque T Z) → j < length xs → deque_capacity (get_or xs j d) ≡ TIER
    pub within : n ≤ TIER * length xs

  module _ (n : ℕ) (xs : List (VecDeque T Z)) (h : AreFilled n xs) where
    -- those in front of one that has any are full
    pub full_before : (k : ℕ) → k < length xs → TIER * k ≤ n → AreOf deque_items TIER k xs
    full_before k fits some j d less = let is = h.each j d (omega (arith, less, fits)) in omega (arith, len_of (get_or xs j d), is, less, some)

    -- a tier is another that is as long
    pub filled_same : (k : ℕ) (y d : VecDeque T Z) → k < length xs → deque_len y ≡ deque_len (get_or xs k d) → deque_capacity y ≡ deque_capacity (get_or xs k d) → AreFilled n (set xs k y)
    filled_same k y d fits same wide = record {
      each = λ j e inside. elim (cases_eq j k) [
        | inl is ↦ rw is (let at = get_or-set_same xs k y e fits in rw at (same ∙ h.each k d fits))
        | inr other ↦ let at = get_or-set_other xs k j y e other in rw at (h.each j e (omega (arith, inside, length-set xs k y)))
      ];
      wide = λ j e inside. elim (cases_eq j k) [
        | inl is ↦ rw is (let at = get_or-set_same xs k y e fits in rw at (omega (arith, wide, h.wide k d fits)))
        | inr other ↦ let at = get_or-set_other xs k j y e other in rw at (h.wide j e (omega (arith, inside, length-set xs k y)))
      ];
      within = omega (arith, h.within, length-set xs k y);
    }

  -- how many items there are
  pub count : (xs : List (VecDeque T Z)) (n : ℕ) → AreFilled n xs → length (joined xs) ≡ n
  count [] n h = omega (arith, h.within)
  count (x ∷ xs) n h =
      let more : length (joined xs) ≡ n - TIER = count xs (n - TIER) (record {
        each = λ k d inside. let was = h.each (suc k) d (omega (arith, inside)) in omega (arith, was);
        wide = λ k d inside. h.wide (suc k) d (omega (arith, inside));
        within = let was = h.within in omega (arith, was);
      }) in
      let one : deque_len x ≡ min TIER (n - TIER * 0) = h.each 0 x (omega arith) in
      length-append (deque_items x) (joined xs) ∙ omega (arith, len_of x, one, more)

  pub joined_none : (xs : List (VecDeque T Z)) → AreFilled 0 xs → joined xs ≡ []
  joined_none xs h = none (joined xs) (count xs 0 h)

  -- the first tier has the first items
  module _ (x : VecDeque T Z) (xs : List (VecDeque T Z)) (n : ℕ) (h : AreFilled n (x ∷ xs)) where
    one : length (deque_items x) ≡ min TIER n
    one = omega (arith, len_of x, h.each 0 x (omega arith))

    all : length (joined (x ∷ xs)) ≡ n
    all = count (x ∷ xs) n h

    behind : length (joined (x ∷ xs)) ≡ length (deque_items x) + length (joined xs)
    behind = length-append (deque_items x) (joined xs)

    short : length (deque_items x) < TIER → joined xs ≡ []
    short less = none (joined xs) (omega (arith, less, one, all, behind))

    pub first_taken : take TIER (joined (x ∷ xs)) ≡ deque_items x
    first_taken = elim (cases_Bool (nat_lt (length (deque_items x)) TIER)) [
      | inl less ↦
          let few : length (deque_items x) < TIER = grind (arith, nat_tests) in
          rw (short few) (rw (append-nil (deque_items x)) (take_all TIER (deque_items x) (omega (arith, few))))
      | inr more ↦ let full : length (deque_items x) ≡ TIER = (let least : TIER ≤ length (deque_items x) = grind (arith, nat_tests) in omega (arith, least, one)) in take_at (deque_items x) (joined xs) TIER full
    ]

    pub first_left : drop TIER (joined (x ∷ xs)) ≡ joined xs
    first_left = elim (cases_Bool (nat_lt (length (deque_items x)) TIER)) [
      | inl less ↦
          let few : length (deque_items x) < TIER = grind (arith, nat_tests) in
          rw (short few) (rw (append-nil (deque_items x)) (drop_all TIER (deque_items x) (omega (arith, few))))
      | inr more ↦ let full : length (deque_items x) ≡ TIER = (let least : TIER ≤ length (deque_items x) = grind (arith, nat_tests) in omega (arith, least, one)) in drop_at (deque_items x) (joined xs) TIER full
    ]

  -- the items of the first tier are the first
  pub poured : (xs : List (VecDeque T Z)) (n : ℕ) (first : VecDeque T Z) → AreFilled n xs → 0 < length (joined xs) → first ≡ get_or xs 0 first → take TIER (joined xs) ≡ deque_items first
  poured [] n first h some is = absurd (omega (arith, some))
  poured (x ∷ xs) n first h some is = first_taken x xs n h ∙ ap deque_items (sym is)

  -- it goes to the end, without an item
  pub left : (xs : List (VecDeque T Z)) (n : ℕ) (y : VecDeque T Z) → AreFilled n xs → 0 < length (joined xs) → deque_items y ≡ [] → joined (remove xs 0 ++ y ∷ []) ≡ drop TIER (joined xs)
  left [] n y h some is = absurd (omega (arith, some))
  left (x ∷ xs) n y h some is = flat_map_none deque_items xs y is ∙ sym (first_left x xs n h)

  -- the first of the next goes to its end
  pub lacks_next : (n k : ℕ) (xs : List (VecDeque T Z)) (z y d e : VecDeque T Z) → Lacks n k xs → k + 1 < length xs → TIER * (k + 1) < n
      → deque_len z + 1 ≡ deque_len (get_or xs (k + 1) d) → deque_capacity z ≡ deque_capacity (get_or xs (k + 1) d)
      → deque_len y ≡ deque_len (get_or (set xs (k + 1) z) k e) + 1 → deque_capacity y ≡ deque_capacity (get_or (set xs (k + 1) z) k e)
      → Lacks n (k + 1) (set (set xs (k + 1) z) k y)
  lacks_next n k xs z y d e h fits some less wide more wider = record {
    each = λ j f inside other. elim (cases_eq j k) [
      | inl is ↦ rw is (rw (here f) (omega (arith, was, more, h.short e)))
      | inr apart ↦ rw (others j f apart) (let at = get_or-set_other xs (k + 1) j z f other in rw at (h.each j f (omega (arith, inside, same)) apart))
    ];
    short = λ f. rw (next f) (omega (arith, less, h.each (k + 1) d fits (λ is. absurd (omega (arith, is)))));
    wide = λ j f inside. elim (cases_eq j k) [
      | inl is ↦ rw is (rw (here f) (omega (arith, wider, kept, h.wide k e (omega (arith, fits)))))
      | inr apart ↦ rw (others j f apart) (elim (cases_eq j (k + 1)) [
        | inl is ↦ rw is (let at = get_or-set_same xs (k + 1) z f fits in rw at (omega (arith, wide, h.wide (k + 1) d fits)))
        | inr other ↦ let at = get_or-set_other xs (k + 1) j z f other in rw at (h.wide j f (omega (arith, inside, same)))
      ])
    ];
    within = omega (arith, h.within, same);
  } where
    same : length (set (set xs (k + 1) z) k y) ≡ length xs
    same = length-set (set xs (k + 1) z) k y ∙ length-set xs (k + 1) z

    here : (f : VecDeque T Z) → get_or (set (set xs (k + 1) z) k y) k f ≡ y
    here f = get_or-set_same (set xs (k + 1) z) k y f (omega (arith, fits, length-set xs (k + 1) z))

    others : (j : ℕ) (f : VecDeque T Z) → (j ≡ k → ⊥) → get_or (set (set xs (k + 1) z) k y) j f ≡ get_or (set xs (k + 1) z) j f
    others j f apart = get_or-set_other (set xs (k + 1) z) k j y f apart

    next : (f : VecDeque T Z) → get_or (set (set xs (k + 1) z) k y) (k + 1) f ≡ z
    next f = others (k + 1) f (λ is. absurd (omega (arith, is))) ∙ get_or-set_same xs (k + 1) z f fits

    still : get_or (set xs (k + 1) z) k e ≡ get_or xs k e
    still = get_or-set_other xs (k + 1) k z e (λ is. absurd (omega (arith, is)))

    was : deque_len (get_or (set xs (k + 1) z) k e) ≡ deque_len (get_or xs k e)
    was = ap deque_len still

    kept : deque_capacity (get_or (set xs (k + 1) z) k e) ≡ deque_capacity (get_or xs k e)
    kept = ap deque_capacity still

  -- the last that has any is one shorter
  pub lacks_last : (n k : ℕ) (xs : List (VecDeque T Z)) → Lacks (n + 1) k xs → TIER * k ≤ n → n < TIER * k + TIER → AreFilled n xs
  lacks_last n k xs h low high = record {
    each = λ j d inside. elim (cases_eq j k) [
      | inl is ↦ rw is (omega (arith, h.short d, low, high))
      | inr other ↦ omega (arith, h.each j d inside other, other, low, high)
    ];
    wide = h.wide;
    within = omega (arith, h.within);
  }
