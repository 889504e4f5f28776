-- Lists joined end to end, and an item that goes from one to the next.
use Rattle.std.proofs.Common.{◌≡◌, ◌<◌, ◌≤◌, ◌+◌, ◌*◌, ◌-◌, ℕ, zero, suc, List, [], ◌∷◌, ◌++◌, get_or, length, set, refl, sym, ap, ◌∙◌, arith}
use Rattle.std.proofs.lemmas.List.{append_assoc, get_or_append_left, get_or-append_right, set-append_left, set-append_right}
use Rattle.std.proofs.lemmas.List.Edits.{insert-append_left, insert-append_right, remove-append_left, remove-append_right}
use Rattle.std.specs.Prelude.{insert}
use Rattle.std.specs.List.{flat_map, remove}

pub next_is : (k : ℕ) → k + 1 ≡ suc k
next_is k = omega arith

module _ {X A : Type 0} (f : X → List A) where
  -- lists joined, with an item in front of the one of a number
  abbrev pub with_at : ℕ → A → List X → List A
  with_at zero c xs = c ∷ flat_map f xs
  with_at (suc k) c [] = c ∷ []
  with_at (suc k) c (x ∷ xs) = f x ++ with_at k c xs

  -- the item goes in at the front, and the last goes on
  pub passed : (xs : List X) (k : ℕ) (y d : X) (c last : A) → k < length xs → c ∷ f (get_or xs k d) ≡ f y ++ last ∷ [] → with_at k c xs ≡ with_at (suc k) last (set xs k y)
  passed [] k y d c last h is = absurd (omega (arith, h))
  passed (x ∷ xs) zero y d c last h is = ap (λ l. l ++ flat_map f xs) is ∙ append_assoc (f y) (last ∷ []) (flat_map f xs)
  passed (x ∷ xs) (suc k) y d c last h is = ap (λ l. f x ++ l) (passed xs k y d c last (omega (arith, h)) is)

  pub put_front : (xs : List X) (k : ℕ) (y d : X) (c : A) → k < length xs → f y ≡ c ∷ f (get_or xs k d) → flat_map f (set xs k y) ≡ with_at k c xs
  put_front [] k y d c h is = absurd (omega (arith, h))
  put_front (x ∷ xs) zero y d c h is = ap (λ l. l ++ flat_map f xs) is
  put_front (x ∷ xs) (suc k) y d c h is = ap (λ l. f x ++ l) (put_front xs k y d c (omega (arith, h)) is)

  pub taken_front : (xs : List X) (k : ℕ) (y d : X) (c : A) → k < length xs → f (get_or xs k d) ≡ c ∷ f y → with_at k c (set xs k y) ≡ flat_map f xs
  taken_front [] k y d c h is = absurd (omega (arith, h))
  taken_front (x ∷ xs) zero y d c h is = ap (λ l. l ++ flat_map f xs) (sym is)
  taken_front (x ∷ xs) (suc k) y d c h is = ap (λ l. f x ++ l) (taken_front xs k y d c (omega (arith, h)) is)

  pub put_back : (xs : List X) (k : ℕ) (y d : X) (c : A) → k < length xs → f y ≡ f (get_or xs k d) ++ c ∷ [] → flat_map f (set xs k y) ≡ with_at (suc k) c xs
  put_back [] k y d c h is = absurd (omega (arith, h))
  put_back (x ∷ xs) zero y d c h is = ap (λ l. l ++ flat_map f xs) is ∙ append_assoc (f x) (c ∷ []) (flat_map f xs)
  put_back (x ∷ xs) (suc k) y d c h is = ap (λ l. f x ++ l) (put_back xs k y d c (omega (arith, h)) is)

  -- those in front of a number have so many items each
  abbrev pub AreOf : ℕ → ℕ → List X → Type 0
  AreOf size k xs = (j : ℕ) (d : X) → j < k → length (f (get_or xs j d)) ≡ size

  module _ (size : ℕ) where
    rest : (k : ℕ) (x : X) (xs : List X) → AreOf size (suc k) (x ∷ xs) → AreOf size k xs
    rest k x xs are j d h = are (suc j) d (omega (arith, h))

    first : (k : ℕ) (x : X) (xs : List X) → AreOf size (suc k) (x ∷ xs) → length (f x) ≡ size
    first k x xs are = are 0 x (omega arith)

    -- so the items of one begin at a multiple of it
    pub inside : (xs : List X) (k r : ℕ) (d : X) (e : A) → AreOf size k xs → k < length xs → r < length (f (get_or xs k d)) → get_or (flat_map f xs) (size * k + r) e ≡ get_or (f (get_or xs k d)) r e
    inside [] k r d e are h within = absurd (omega (arith, h))
    inside (x ∷ xs) zero r d e are h within = let n : size * 0 + r ≡ r = omega arith in rw n (get_or_append_left (f x) (flat_map f xs) e r within)
    inside (x ∷ xs) (suc k) r d e are h within =
        let n : size * suc k + r - size ≡ size * k + r = omega arith in
        get_or-append_right (f x) (flat_map f xs) size (size * suc k + r) e (first k x xs are) (omega arith)
        ∙ rw n (inside xs k r d e (rest k x xs are) (omega (arith, h)) within)

    pub put_in : (xs : List X) (k r : ℕ) (y d : X) (c : A) → AreOf size k xs → k < length xs → r ≤ length (f (get_or xs k d)) → f y ≡ insert (f (get_or xs k d)) r c
        → flat_map f (set xs k y) ≡ insert (flat_map f xs) (size * k + r) c
    put_in [] k r y d c are h within is = absurd (omega (arith, h))
    put_in (x ∷ xs) zero r y d c are h within is = let n : size * 0 + r ≡ r = omega arith in rw n (ap (λ l. l ++ flat_map f xs) is ∙ sym (insert-append_left (f x) (flat_map f xs) r c within))
    put_in (x ∷ xs) (suc k) r y d c are h within is =
        let n : size * suc k + r - size ≡ size * k + r = omega arith in
        ap (λ l. f x ++ l) (put_in xs k r y d c (rest k x xs are) (omega (arith, h)) within is)
        ∙ sym (insert-append_right (f x) (flat_map f xs) size (size * suc k + r) c (first k x xs are) (omega arith) ∙ rw n refl)

    pub put_over : (xs : List X) (k r : ℕ) (y d : X) (c last : A) → AreOf size k xs → k < length xs → r ≤ length (f (get_or xs k d)) → insert (f (get_or xs k d)) r c ≡ f y ++ last ∷ []
        → with_at (suc k) last (set xs k y) ≡ insert (flat_map f xs) (size * k + r) c
    put_over [] k r y d c last are h within is = absurd (omega (arith, h))
    put_over (x ∷ xs) zero r y d c last are h within is =
        let n : size * 0 + r ≡ r = omega arith in
        rw n (sym (insert-append_left (f x) (flat_map f xs) r c within ∙ ap (λ l. l ++ flat_map f xs) is ∙ append_assoc (f y) (last ∷ []) (flat_map f xs)))
    put_over (x ∷ xs) (suc k) r y d c last are h within is =
        let n : size * suc k + r - size ≡ size * k + r = omega arith in
        ap (λ l. f x ++ l) (put_over xs k r y d c last (rest k x xs are) (omega (arith, h)) within is)
        ∙ sym (insert-append_right (f x) (flat_map f xs) size (size * suc k + r) c (first k x xs are) (omega arith) ∙ rw n refl)

    pub take_out : (xs : List X) (k r : ℕ) (y d : X) → AreOf size k xs → k < length xs → r < length (f (get_or xs k d)) → f y ≡ remove (f (get_or xs k d)) r
        → flat_map f (set xs k y) ≡ remove (flat_map f xs) (size * k + r)
    take_out [] k r y d are h within is = absurd (omega (arith, h))
    take_out (x ∷ xs) zero r y d are h within is = let n : size * 0 + r ≡ r = omega arith in rw n (ap (λ l. l ++ flat_map f xs) is ∙ sym (remove-append_left (f x) (flat_map f xs) r within))
    take_out (x ∷ xs) (suc k) r y d are h within is =
        let n : size * suc k + r - size ≡ size * k + r = omega arith in
        ap (λ l. f x ++ l) (take_out xs k r y d (rest k x xs are) (omega (arith, h)) within is)
        ∙ sym (remove-append_right (f x) (flat_map f xs) size (size * suc k + r) (first k x xs are) (omega arith) ∙ rw n refl)

    pub put_other : (xs : List X) (k r : ℕ) (y d : X) (c : A) → AreOf size k xs → k < length xs → r < length (f (get_or xs k d)) → f y ≡ set (f (get_or xs k d)) r c
        → flat_map f (set xs k y) ≡ set (flat_map f xs) (size * k + r) c
    put_other [] k r y d c are h within is = absurd (omega (arith, h))
    put_other (x ∷ xs) zero r y d c are h within is = let n : size * 0 + r ≡ r = omega arith in rw n (ap (λ l. l ++ flat_map f xs) is ∙ sym (set-append_left (f x) (flat_map f xs) r c within))
    put_other (x ∷ xs) (suc k) r y d c are h within is =
        let n : size * suc k + r - size ≡ size * k + r = omega arith in
        ap (λ l. f x ++ l) (put_other xs k r y d c (rest k x xs are) (omega (arith, h)) within is)
        ∙ sym (set-append_right (f x) (flat_map f xs) size (size * suc k + r) c (first k x xs are) (omega arith) ∙ rw n refl)

  -- one without an item at the end
  pub flat_map_none : (xs : List X) (y : X) → f y ≡ [] → flat_map f (xs ++ y ∷ []) ≡ flat_map f xs
  flat_map_none [] y is = rw is refl
  flat_map_none (x ∷ xs) y is = ap (λ l. f x ++ l) (flat_map_none xs y is)
