-- The turn of an event by parts: sums and rows over parts, the numbers of places, and what of a decision tells which turn it is.
use Rattle.std.proofs.Common.{◌≡◌, ◌≢◌, ℕ, zero, suc, ◌+◌, ◌*◌, ◌<◌, ◌≤◌, Bool, true, false, cond, List, [], ◌∷◌, ◌++◌, map, ℤ, Option, Some, None, Ok, Err, nat_eq, refl, sym, ap, ◌∙◌, inl, inr, arith}
use Rattle.std.proofs.lemmas.Bool.{cases_lt}
use Rattle.std.proofs.lemmas.Bool.Decides.{nat_tests}
use Rattle.std.proofs.lemmas.List.Sums.{sum_by-cons}
use Rattle.std.proofs.lemmas.Nat.{div-mul-add, div-add-mod'}
use Rattle.std.specs.Prelude.{◌/◌, ◌%◌, flat_map}
use Rattle.std.specs.List.{AllByRecursion, range_with_len, sum_by}
use Rattle.wsm_record.specs.Event.{Event, Record, Watermark}
use Rattle.wsm_admission.specs.declared.verdict.Admitted.{Admitted}
use Rattle.wsm_admission.specs.declared.verdict.Admitted.TheVariants as admitted
use Rattle.wsm_admission.specs.declared.verdict.Refusal.{Refusal}
use Rattle.wsm_admission.specs.Admission.{answer}
use Rattle.wsm_semantics.specs.declared.out_row.OutRow.{OutRow}
use Rattle.wsm_semantics.specs.declared.out_row.OutRow.TheVariants.{Pane, Retract, Istream, Dstream, Rstream}
use Rattle.wsm_semantics.specs.ByNumber.{row_by}
use Rattle.wsm_semantics.specs.Lines.{events}
use Rattle.wsm_key_parts.specs.Parts.{number_in}
use Rattle.wsm_part_engines.specs.Fits.{number_of}
use Rattle.wsm_part_engines.proofs.TurnRows.{is_own}

pub events_all : (past : List Event) → events (map Ok past) ≡ past
events_all [] = refl
events_all (e ∷ past) = ap (λ (es : List Event). e ∷ es) (events_all past)

-- ---- over parts

pub sum_none : (f : ℕ → ℕ) (a n : ℕ) → ((k : ℕ) → a ≤ k → f k ≡ 0) → sum_by f (range_with_len a n) ≡ 0
sum_none f a zero none = refl
sum_none f a (suc n) none =
    let first = sum_by-cons f a (range_with_len (a + 1) n) in
    let here = none a (omega arith) in
    let rest = sum_none f (a + 1) n (λ k h. none k (omega (arith, h))) in
    omega (arith, first, here, rest)

pub sum_one : (f : ℕ → ℕ) (m a n : ℕ) → a ≤ m → m < a + n → ((k : ℕ) → k ≢ m → f k ≡ 0) → sum_by f (range_with_len a n) ≡ f m
sum_one f m a zero from until others = absurd (omega (arith, from, until))
sum_one f m a (suc n) from until others =
    let first = sum_by-cons f a (range_with_len (a + 1) n) in
    elim (cases_lt a m) [
      | inl less ↦
          let here = others a (let ne : a ≢ m = omega (arith, less) in ne) in
          let rest = sum_one f m (a + 1) n (omega (arith, less)) (omega (arith, until)) others in
          omega (arith, first, here, rest)
      | inr least ↦
          let is : a ≡ m = omega (arith, from, least) in
          let same = ap f is in
          let rest = sum_none f (a + 1) n (λ k h. others k (let ne : k ≢ m = omega (arith, h, is) in ne)) in
          omega (arith, first, same, rest)
    ]

-- as far as there is something
pub sum_as_far : (f g : ℕ → ℕ) (a n m : ℕ) → ((k : ℕ) → a ≤ k → f k ≡ g k) → ((k : ℕ) → a + n ≤ k → f k ≡ 0) → ((k : ℕ) → a + m ≤ k → f k ≡ 0) → sum_by f (range_with_len a n) ≡ sum_by g (range_with_len a m)
sum_as_far f g a zero m same none other = sym (sum_none g a m (λ k h. sym (same k h) ∙ none k (omega (arith, h))))
sum_as_far f g a (suc n) zero same none other = sum_none f a (suc n) (λ k h. other k (omega (arith, h)))
sum_as_far f g a (suc n) (suc m) same none other =
    let first = sum_by-cons f a (range_with_len (a + 1) n) in
    let second = sum_by-cons g a (range_with_len (a + 1) m) in
    let here = same a (omega arith) in
    let rest = sum_as_far f g (a + 1) n m (λ k h. same k (omega (arith, h))) (λ k h. none k (omega (arith, h))) (λ k h. other k (omega (arith, h))) in
    omega (arith, first, second, here, rest)

nothing_more : (rows : List OutRow) → rows ++ [] ≡ rows
nothing_more [] = refl
nothing_more (r ∷ rows) = ap (λ (xs : List OutRow). r ∷ xs) (nothing_more rows)

pub flat_none : (f : ℕ → List OutRow) (a n : ℕ) → ((k : ℕ) → a ≤ k → f k ≡ []) → flat_map f (range_with_len a n) ≡ []
flat_none f a zero none = refl
flat_none f a (suc n) none = λ i. none a (omega arith) i ++ flat_none f (a + 1) n (λ k h. none k (omega (arith, h))) i

pub flat_one : (f : ℕ → List OutRow) (m a n : ℕ) → a ≤ m → m < a + n → ((k : ℕ) → k ≢ m → f k ≡ []) → flat_map f (range_with_len a n) ≡ f m
flat_one f m a zero from until others = absurd (omega (arith, from, until))
flat_one f m a (suc n) from until others =
    elim (cases_lt a m) [
      | inl less ↦
          ap (λ (rows : List OutRow). rows ++ flat_map f (range_with_len (a + 1) n)) (others a (let ne : a ≢ m = omega (arith, less) in ne))
          ∙ flat_one f m (a + 1) n (omega (arith, less)) (omega (arith, until)) others
      | inr least ↦
          let is : a ≡ m = omega (arith, from, least) in
          ap (λ (rows : List OutRow). f a ++ rows) (flat_none f (a + 1) n (λ k h. others k (let ne : k ≢ m = omega (arith, h, is) in ne)))
          ∙ nothing_more (f a) ∙ ap f is
    ]

pub flat_as_far : (f g : ℕ → List OutRow) (a n m : ℕ) → ((k : ℕ) → a ≤ k → f k ≡ g k) → ((k : ℕ) → a + n ≤ k → f k ≡ []) → ((k : ℕ) → a + m ≤ k → f k ≡ [])
    → flat_map f (range_with_len a n) ≡ flat_map g (range_with_len a m)
flat_as_far f g a zero m same none other = sym (flat_none g a m (λ k h. sym (same k h) ∙ none k (omega (arith, h))))
flat_as_far f g a (suc n) zero same none other = flat_none f a (suc n) (λ k h. other k (omega (arith, h)))
flat_as_far f g a (suc n) (suc m) same none other =
    λ i. same a (omega arith) i ++ flat_as_far f g (a + 1) n m (λ k h. same k (omega (arith, h))) (λ k h. none k (omega (arith, h))) (λ k h. other k (omega (arith, h))) i

-- ---- numbers of places

pub part_is : (block part k : ℕ) → k < block → (part * block + k) / block ≡ part
part_is block part k h = div-mul-add part block k h

pub place_is : (block part k : ℕ) → k < block → (part * block + k) % block ≡ k
place_is block part k h =
    let whole = div-add-mod' (part * block + k) block in
    let part = ap (λ (n : ℕ). n * block) (part_is block part k h) in
    omega (arith, whole, part)

pub own_part : (block part k : ℕ) → k < block → nat_eq part ((part * block + k) / block) ≡ true
own_part block part k h = let is = part_is block part k h in grind (arith, nat_tests)

pub other_part : (block part other k : ℕ) → k < block → other ≢ part → nat_eq other ((part * block + k) / block) ≡ false
other_part block part other k h ne = ap (nat_eq other) (part_is block part k h) ∙ differs other part ne where
  differs : (a b : ℕ) → a ≢ b → nat_eq a b ≡ false
  differs a b ne = grind (arith, nat_tests)

same_number : (block all part : ℕ) (r : OutRow) → is_own block r ≡ true → row_by (number_in block all part) r ≡ row_by (number_of block part) r
same_number block all part (Pane kind key w cs) own = ap (λ (b : Bool). Pane kind (cond b (part * block + key) (all * block + key)) w cs) own
same_number block all part (Retract key w cs) own = ap (λ (b : Bool). Retract (cond b (part * block + key) (all * block + key)) w cs) own
same_number block all part (Istream m cs) own = refl
same_number block all part (Dstream m cs) own = refl
same_number block all part (Rstream m cs) own = refl

pub same_numbers : (block all part : ℕ) (rows : List OutRow) → AllByRecursion (λ r. is_own block r ≡ true) rows → map (row_by (number_in block all part)) rows ≡ map (row_by (number_of block part)) rows
same_numbers block all part [] own = refl
same_numbers block all part (r ∷ rows) own = λ i. same_number block all part r own.0 i ∷ same_numbers block all part rows own.1 i

-- ---- what a decision tells

pub none_refuses : (old new : ℤ) (e : Event) (v : Option Refusal) (a : Admitted) → answer old new e v ≡ Ok a → v ≡ None
none_refuses old new e None a h = refl
none_refuses old new (Record k t vs) (Some r) a h = absurd (cc)
none_refuses old new (Watermark s t) (Some r) a h = absurd (cc)

pub one_refuses : (old new : ℤ) (e : Event) (v : Option Refusal) (r : Refusal) → answer old new e v ≡ Err r → v ≡ Some r
one_refuses old new (Record k t vs) None r h = absurd (cc)
one_refuses old new (Watermark s t) None r h = absurd (cc)
one_refuses old new (Record k t vs) (Some x) r h = cc
one_refuses old new (Watermark s t) (Some x) r h = cc

abbrev pub IsRecord : Event → Type 0
IsRecord (Record k t vs) = Unit {0}
IsRecord (Watermark s t) = ⊥

abbrev pub IsWatermark : Event → Type 0
IsWatermark (Record k t vs) = ⊥
IsWatermark (Watermark s t) = Unit {0}

pub is_record : (old new : ℤ) (e : Event) (v : Option Refusal) → answer old new e v ≡ Ok admitted.Record → IsRecord e
is_record old new (Record k t vs) v h = tt
is_record old new (Watermark s t) None h = absurd (cc)
is_record old new (Watermark s t) (Some r) h = absurd (cc)

pub is_watermark : (old new : ℤ) (e : Event) (v : Option Refusal) (x y : ℤ) → answer old new e v ≡ Ok (admitted.Watermark x y) → IsWatermark e
is_watermark old new (Watermark s t) v x y h = tt
is_watermark old new (Record k t vs) None x y h = absurd (cc)
is_watermark old new (Record k t vs) (Some r) x y h = absurd (cc)
