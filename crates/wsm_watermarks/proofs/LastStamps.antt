-- What is kept of each clock is its last stamp in the history, and what of it speaks, is what the history's stamps say.
use Rattle.std.proofs.Common.{◌≡◌, ◌≤◌, ◌<◌, ◌+◌, ◌-◌, ℕ, zero, suc, max, Bool, true, false, ◌&&◌, ◌||◌, cond, List, [], ◌∷◌, get_or, replicate, set, take, length, Option, Some, None, inl, inr, refl, sym, ap, subst, ◌∙◌, arith}
use Rattle.std.proofs.lemmas.Bool.{cases_lt, leb-false, leb-true}
use Rattle.std.proofs.lemmas.Bool.Decides.{nat_tests}
use Rattle.std.proofs.lemmas.List.{get_or-replicate, get_or-set_same, get_or-set_other, get_or_past, length-replicate}
use Rattle.std.specs.Prelude.{nat_eq, nat_le, nat_lt}
use Rattle.wsm_watermarks.specs.declared.stamp.Stamp.{Stamp}
use Rattle.wsm_watermarks.specs.declared.table.Said.{Said}
use Rattle.wsm_watermarks.specs.Agreement.{has_told, lasts, voices, without}
use Rattle.wsm_watermarks.specs.Table.{Sayings, FitsTable, is_counted, last_said, speaking, with_said}
use Rattle.wsm_watermarks.proofs.Tellers.{gone, stays}

-- ---- the last stamp of a clock, in the history

abbrev last_time : ℕ → List Stamp → Option ℕ
last_time c [] = None
last_time c (s ∷ xs) = cond (nat_eq s.clock c) (Some s.time) (last_time c xs)

abbrev reaches : ℕ → Option ℕ → Bool
reaches t None = false
reaches t (Some u) = nat_le t u

equal : (a b : ℕ) → nat_eq a b ≡ true → a ≡ b
equal a b h = grind (arith, nat_tests)

or_false : (a : Bool) → (a || false) ≡ a
or_false true = refl
or_false false = refl

told_lasts : (c t : ℕ) (xs : List Stamp) → has_told c t (lasts xs) ≡ reaches t (last_time c xs)
told_lasts c t [] = refl
told_lasts c t (s ∷ xs) = one (nat_eq s.clock c) refl (told_lasts c t xs)
  where
    one : (b : Bool) → nat_eq s.clock c ≡ b → has_told c t (lasts xs) ≡ reaches t (last_time c xs) → ((b && nat_le t s.time) || has_told c t (without s.clock (lasts xs))) ≡ reaches t (cond b (Some s.time) (last_time c xs))
    one true is rest =
        let it = equal s.clock c is in
        let none : has_told c t (without s.clock (lasts xs)) ≡ false = subst (λ (d : ℕ). has_told d t (without s.clock (lasts xs)) ≡ false) it (gone s.clock t (lasts xs)) in
        rw none (or_false (nat_le t s.time))
    one false is rest = stays s.clock c t (lasts xs) is ∙ rest

abbrev IsWithin : ℕ → Option Said → Type 0
IsWithin h None = Unit {0}
IsWithin h (Some k) = k.number ≤ h

said_within : (c : ℕ) (xs : List Stamp) → IsWithin (length xs) (last_said c xs)
said_within c [] = tt
said_within c (s ∷ xs) = one (nat_eq s.clock c) (more (length xs) (last_said c xs) (said_within c xs))
  where
    more : (h : ℕ) (o : Option Said) → IsWithin h o → IsWithin (suc h) o
    more h None w = tt
    more h (Some k) w = omega (arith, w)

    one : (b : Bool) → IsWithin (suc (length xs)) (last_said c xs) → IsWithin (suc (length xs)) (cond b (Some (record { time = s.time; number = suc (length xs) })) (last_said c xs))
    one true w = omega arith
    one false w = w

none_behind : (h f t : ℕ) (o : Option Said) → h ≤ f → IsWithin h o → is_counted f t o ≡ false
none_behind h f t None le w = refl
none_behind h f t (Some k) le w =
    let no : nat_lt f k.number ≡ false = not_less f k.number (omega (arith, le, w)) in
    rw no refl
  where
    not_less : (a b : ℕ) → b ≤ a → nat_lt a b ≡ false
    not_less a b h = grind (arith, nat_tests)

-- what is among so many last stamps came behind the number of the others
told_since : (c t f : ℕ) (xs : List Stamp) → reaches t (last_time c (take f xs)) ≡ is_counted (length xs - f) t (last_said c xs)
told_since c t zero [] = refl
told_since c t (suc n) [] = refl
told_since c t zero (s ∷ xs) = sym (none_behind (length (s ∷ xs)) (length (s ∷ xs) - 0) t (last_said c (s ∷ xs)) (omega arith) (said_within c (s ∷ xs)))
told_since c t (suc n) (s ∷ xs) = one (nat_eq s.clock c) (told_since c t n xs)
  where
    less : (h m : ℕ) → nat_lt (suc h - suc m) (suc h) ≡ true
    less h m = grind (arith, nat_tests)

    one : (b : Bool) → reaches t (last_time c (take n xs)) ≡ is_counted (length xs - n) t (last_said c xs) → reaches t (cond b (Some s.time) (last_time c (take n xs))) ≡ is_counted (suc (length xs) - suc n) t (cond b (Some (record { time = s.time; number = suc (length xs) })) (last_said c xs))
    one true rest = rw (less (length xs) n) refl
    one false rest = let e : suc (length xs) - suc n ≡ length xs - n = omega arith in rw e rest

pub told_voices : (c t f : ℕ) (past : List Stamp) → has_told c t (voices f past) ≡ is_counted (length past - f) t (last_said c past)
told_voices c t f past = told_lasts c t (take f past) ∙ told_since c t f past

-- ---- what speaks, in the table

least_of : (a b c : ℕ) → nat_le a c ≡ true → nat_le b c ≡ nat_le (max a b) c
least_of a b c h = elim (cases_lt c b) [
  | inl l ↦ low a b c l
  | inr g ↦ high a b c h g
]
  where
    low : (a b c : ℕ) → c < b → nat_le b c ≡ nat_le (max a b) c
    low a b c l =
        let one : nat_le b c ≡ false = grind (arith, nat_tests) in
        let two : nat_le (max a b) c ≡ false = over a b c l in
        one ∙ sym two
      where
        over : (a b c : ℕ) → c < b → nat_le (max a b) c ≡ false
        over a b c l = let le : b ≤ max a b = grind arith in past (max a b) c (omega (arith, l, le))
          where
            past : (m c : ℕ) → c < m → nat_le m c ≡ false
            past m c h = grind (arith, nat_tests)

    high : (a b c : ℕ) → nat_le a c ≡ true → b ≤ c → nat_le b c ≡ nat_le (max a b) c
    high a b c h g =
        let one : nat_le b c ≡ true = within b c g in
        let two : nat_le (max a b) c ≡ true = within (max a b) c (both a b c (leb-true a c h) g) in
        one ∙ sym two
      where
        within : (m c : ℕ) → m ≤ c → nat_le m c ≡ true
        within m c h = grind (arith, nat_tests)

        both : (a b c : ℕ) → a ≤ c → b ≤ c → max a b ≤ c
        both a b c h k = grind arith

least_none : (a b c : ℕ) → nat_le a c ≡ false → nat_le (max a b) c ≡ false
least_none a b c h = past (max a b) c (over a b c (leb-false a c h))
  where
    over : (a b c : ℕ) → c < a → c < max a b
    over a b c l = grind arith

    past : (m c : ℕ) → c < m → nat_le m c ≡ false
    past m c h = grind (arith, nat_tests)

module _ (since need : ℕ) (said : List (Option Said)) where
  head : (c t n : ℕ) (o : Option Said) (rest : List Stamp) → nat_eq n c ≡ true → has_told c t rest ≡ false → has_told c t (with_said since need n o rest) ≡ is_counted since (max need t) o
  head c t n None rest is none = none
  head c t n (Some k) rest is none = one (nat_lt since k.number) (nat_le need k.time) refl
    where
      one : (b d : Bool) → nat_le need k.time ≡ d → has_told c t (cond (b && d) (record { clock = n; time = k.time } ∷ rest) rest) ≡ (b && nat_le (max need t) k.time)
      one true true e = rw (is, none) (or_false (nat_le t k.time) ∙ least_of need t k.time e)
      one true false e = none ∙ sym (least_none need t k.time e)
      one false d e = none

  other : (c t n : ℕ) (o : Option Said) (rest : List Stamp) → nat_eq n c ≡ false → has_told c t (with_said since need n o rest) ≡ has_told c t rest
  other c t n None rest is = refl
  other c t n (Some k) rest is = one (is_counted since need (Some k))
    where
      one : (b : Bool) → has_told c t (cond b (record { clock = n; time = k.time } ∷ rest) rest) ≡ has_told c t rest
      one true = rw is refl
      one false = refl

  not_below : (c n : ℕ) → nat_eq n c ≡ true → nat_lt c n ≡ false
  not_below c n h = grind (arith, nat_tests)

  below_next : (c n : ℕ) → nat_eq n c ≡ true → nat_lt c (suc n) ≡ true
  below_next c n h = grind (arith, nat_tests)

  below_same : (c n : ℕ) → nat_eq n c ≡ false → nat_lt c n ≡ nat_lt c (suc n)
  below_same c n h = elim (cases_lt c n) [
    | inl l ↦ low c n l
    | inr g ↦ high c n h g
  ]
    where
      low : (c n : ℕ) → c < n → nat_lt c n ≡ nat_lt c (suc n)
      low c n l = grind (arith, nat_tests)

      high : (c n : ℕ) → nat_eq n c ≡ false → n ≤ c → nat_lt c n ≡ nat_lt c (suc n)
      high c n h g = grind (arith, nat_tests)

  below_none : (c : ℕ) → nat_lt c 0 ≡ false
  below_none c = grind (arith, nat_tests)

  pub told_speaking : (c t n : ℕ) → has_told c t (speaking since need said n) ≡ (nat_lt c n && is_counted since (max need t) (get_or said c None))
  told_speaking c t zero = let none = below_none c in rw none refl
  told_speaking c t (suc n) = one (nat_eq n c) refl (told_speaking c t n)
    where
      one : (b : Bool) → nat_eq n c ≡ b → has_told c t (speaking since need said n) ≡ (nat_lt c n && is_counted since (max need t) (get_or said c None)) → has_told c t (with_said since need n (get_or said n None) (speaking since need said n)) ≡ (nat_lt c (suc n) && is_counted since (max need t) (get_or said c None))
      one true is rest =
          let none : has_told c t (speaking since need said n) ≡ false = rest ∙ ap (λ b. b && is_counted since (max need t) (get_or said c None)) (not_below c n is) in
          let it = equal n c is in
          let same : is_counted since (max need t) (get_or said n None) ≡ is_counted since (max need t) (get_or said c None) = ap (λ (m : ℕ). is_counted since (max need t) (get_or said m None)) it in
          head c t n (get_or said n None) (speaking since need said n) is none ∙ same ∙ sym (ap (λ b. b && is_counted since (max need t) (get_or said c None)) (below_next c n is))
      one false is rest = other c t n (get_or said n None) (speaking since need said n) is ∙ rest ∙ ap (λ b. b && is_counted since (max need t) (get_or said c None)) (below_same c n is)

  -- of all clocks
  pub told_all : (c t : ℕ) → has_told c t (speaking since need said (length said)) ≡ is_counted since (max need t) (get_or said c None)
  told_all c t = elim (cases_lt c (length said)) [
    | inl l ↦ told_speaking c t (length said) ∙ ap (λ b. b && is_counted since (max need t) (get_or said c None)) (less c (length said) l)
    | inr g ↦
        let none : is_counted since (max need t) (get_or said c None) ≡ false = ap (is_counted since (max need t)) (get_or_past said c None g) in
        told_speaking c t (length said) ∙ ap (λ b. b && is_counted since (max need t) (get_or said c None)) (more c (length said) g) ∙ sym none
  ]
    where
      less : (a b : ℕ) → a < b → nat_lt a b ≡ true
      less a b h = grind (arith, nat_tests)

      more : (a b : ℕ) → b ≤ a → nat_lt a b ≡ false
      more a b h = grind (arith, nat_tests)

-- what speaks in the table from a time on is what speaks in the history from there on
pub same_voices : (k : Sayings) (past : List Stamp) (f c t : ℕ) → FitsTable k past → has_told c t (speaking (k.heard - f) k.need k.said (length k.said)) ≡ has_told c (max k.need t) (voices f past)
same_voices k past f c t fits =
    told_all (k.heard - f) k.need k.said c t ∙ ap (is_counted (k.heard - f) (max k.need t)) (fits.said c) ∙ ap (λ (h : ℕ). is_counted (h - f) (max k.need t) (last_said c past)) fits.heard ∙ sym (told_voices c (max k.need t) f past)

-- ---- a stamp more

pub fits_put : (k l : Sayings) (s : Stamp) (past : List Stamp) → s.clock < length k.said → l.said ≡ set k.said s.clock (Some (record { time = s.time; number = k.heard + 1 })) → l.heard ≡ k.heard + 1 → FitsTable k past → FitsTable l (s ∷ past)
fits_put k l s past within is heard fits = record {
  heard = omega (arith, heard, fits.heard);
  said = λ c. ap (λ (os : List (Option Said)). get_or os c None) is ∙ one c (nat_eq s.clock c) refl;
}
  where
    new : Option Said
    new = Some (record { time = s.time; number = k.heard + 1 })

    one : (c : ℕ) (b : Bool) → nat_eq s.clock c ≡ b → get_or (set k.said s.clock (Some (record { time = s.time; number = k.heard + 1 }))) c None ≡ cond b (Some (record { time = s.time; number = suc (length past) })) (last_said c past)
    one c true e =
        let it = equal s.clock c e in
        let n : k.heard + 1 ≡ suc (length past) = omega (arith, fits.heard) in
        subst (λ (d : ℕ). get_or (set k.said s.clock (Some (record { time = s.time; number = k.heard + 1 }))) d None ≡ Some (record { time = s.time; number = k.heard + 1 })) it (get_or-set_same k.said s.clock (Some (record { time = s.time; number = k.heard + 1 })) None within)
        ∙ ap (λ (m : ℕ). Some (record { time = s.time; number = m })) n
    one c false e = get_or-set_other k.said s.clock c (Some (record { time = s.time; number = k.heard + 1 })) None (apart s.clock c e) ∙ fits.said c
      where
        apart : (a b : ℕ) → nat_eq a b ≡ false → b ≡ a → ⊥
        apart a b h g = grind (arith, nat_tests)

pub unheard : (m i : ℕ) → get_or {A = Option Said} (replicate m None) i None ≡ None
unheard m i = elim (cases_lt i m) [
  | inl l ↦ get_or-replicate m i None None l
  | inr g ↦ get_or_past (replicate m None) i None (omega (arith, g, length-replicate {A = Option Said} m None))
]
