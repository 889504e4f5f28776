-- Engines that take an event one after the other.
use Rattle.std.proofs.Common.{◌≡◌, ◌≢◌, ℕ, zero, suc, ◌+◌, ◌<◌, ◌≤◌, List, [], ◌∷◌, ◌++◌, length, get_or, set, take, Option, None, refl, sym, ap, subst, ◌∙◌, inl, inr, arith}
use Rattle.std.proofs.lemmas.Bool.{cases_lt}
use Rattle.std.proofs.lemmas.List.{get_or_past, get_or-set_other, get_or-set_same, take_more}
use Rattle.std.proofs.lemmas.List.Sums.{sum_by-cons}
use Rattle.std.specs.List.{range_with_len, sum_by}
use Rattle.wsm_record.specs.Event.{Event}
use Rattle.wsm_admission.specs.Admission.{counter}
use Rattle.wsm_engine.specs.State.{State as EngineState}
use Rattle.wsm_part_engines.specs.Fits.{engine_at}
use Rattle.wsm_part_engines.specs.Slots.{Feeds, FeedsAll, Holds, fired_on, one_if_some, open_count}

sum_one_more : (f : ℕ → ℕ) (a n m : ℕ) → a + n ≡ m → sum_by f (range_with_len a (n + 1)) ≡ sum_by f (range_with_len a n) + f m
sum_one_more f a zero m h =
    let e : a ≡ m = omega (arith, h) in
    let one : zero + 1 ≡ suc zero = omega arith in
    let cons = sum_by-cons f a [] in
    let same = ap f e in
    ap (λ (k : ℕ). sum_by f (range_with_len a k)) one ∙ (let is : sum_by f (a ∷ []) ≡ sum_by f (range_with_len a zero) + f m = omega (arith, cons, same) in is)
sum_one_more f a (suc n) m h =
    let one : suc n + 1 ≡ suc (n + 1) = omega arith in
    let rest = sum_one_more f (a + 1) n m (omega (arith, h)) in
    let first = sum_by-cons f a (range_with_len (a + 1) (n + 1)) in
    let before = sum_by-cons f a (range_with_len (a + 1) n) in
    ap (λ (k : ℕ). sum_by f (range_with_len a k)) one
    ∙ (let is : sum_by f (a ∷ range_with_len (a + 1) (n + 1)) ≡ sum_by f (a ∷ range_with_len (a + 1) n) + f m = omega (arith, rest, first, before) in is)

module _ (olds slots : List (Option EngineState)) (e : Event) (i : ℕ) (new : Option EngineState) (panes : ℕ) (few : i < length slots)
    (takes : Feeds (engine_at slots i) new e panes) (others : (part : ℕ) → i ≤ part → engine_at slots part ≡ engine_at olds part) where
  -- one engine more took it
  pub each_more : ((part : ℕ) → part < i → (some : ℕ) × Feeds (engine_at olds part) (engine_at slots part) e some) → (part : ℕ) → part < i + 1 → (some : ℕ) × Feeds (engine_at olds part) (engine_at (set slots i new) part) e some
  each_more each part h =
      elim (cases_lt part i) [
        | inl less ↦
            let ne : part ≢ i = omega (arith, less) in
            ((each part less).0, subst (λ (s : Option EngineState). Feeds (engine_at olds part) s e (each part less).0) (sym (get_or-set_other slots i part new None ne)) (each part less).1)
        | inr least ↦
            let is : i ≡ part = omega (arith, h, least) in (
              panes,
              subst (λ (k : ℕ). Feeds (engine_at olds k) (engine_at (set slots i new) k) e panes) is
                  (subst (λ (s : Option EngineState). Feeds s (engine_at (set slots i new) i) e panes) (others i (omega arith))
                  (subst (λ (s : Option EngineState). Feeds (engine_at slots i) s e panes) (sym (get_or-set_same slots i new None few)) takes)),
            )
      ]

  pub others_still : (part : ℕ) → i + 1 ≤ part → engine_at (set slots i new) part ≡ engine_at olds part
  others_still part h = let ne : part ≢ i = omega (arith, h) in get_or-set_other slots i part new None ne ∙ others part (omega (arith, h))

  pub fired_more : (fired : ℕ) (fed : ℕ → List Event) → ((part : ℕ) → Holds (engine_at olds part) (fed part))
      → fired ≡ counter (sum_by (λ part. fired_on (engine_at olds part) (fed part) e) (range_with_len 0 i))
      → counter (fired + panes) ≡ counter (sum_by (λ part. fired_on (engine_at olds part) (fed part) e) (range_with_len 0 (i + 1)))
  fired_more fired fed is h =
      let here : panes ≡ fired_on (engine_at slots i) (fed i) e = takes.fired (fed i) (subst (λ (s : Option EngineState). Holds s (fed i)) (sym (others i (omega arith))) (is i)) in
      let there : panes ≡ fired_on (engine_at olds i) (fed i) e = here ∙ ap (λ (s : Option EngineState). fired_on s (fed i) e) (others i (omega arith)) in
      let more = sum_one_more (λ part. fired_on (engine_at olds part) (fed part) e) 0 i i (omega arith) in
      omega (arith, there, more, h)

-- a part without an engine takes it
none_feeds : (e : Event) → Feeds None None e 0
none_feeds e = record { of = λ p is. is; none = λ is. is; fits = λ fed is. is; admission = refl; rows = λ fed is. refl; fired = λ fed is. refl }

-- all took it
pub all_took : (olds slots : List (Option EngineState)) (e : Event) (i fired : ℕ) → length olds ≡ i
    → ((part : ℕ) → part < i → (some : ℕ) × Feeds (engine_at olds part) (engine_at slots part) e some)
    → ((part : ℕ) → i ≤ part → engine_at slots part ≡ engine_at olds part)
    → ((fed : ℕ → List Event) → ((part : ℕ) → Holds (engine_at olds part) (fed part)) → fired ≡ counter (sum_by (λ part. fired_on (engine_at olds part) (fed part) e) (range_with_len 0 i)))
    → FeedsAll olds slots e fired
all_took olds slots e i fired len each others count = record {
  each = λ part. elim (cases_lt part i) [
    | inl less ↦ each part less
    | inr least ↦
        let none : engine_at olds part ≡ None = get_or_past olds part None (omega (arith, len, least)) in
        let still : engine_at slots part ≡ None = others part least ∙ none in
        (0, subst (λ (s : Option EngineState). Feeds s (engine_at slots part) e 0) (sym none) (subst (λ (s : Option EngineState). Feeds None s e 0) (sym still) (none_feeds e)))
  ];
  fired = λ fed is. count fed is ∙ ap (λ (n : ℕ). counter (sum_by (λ part. fired_on (engine_at olds part) (fed part) e) (range_with_len 0 n))) (sym len);
}

open-append : (xs : List (Option EngineState)) (y : Option EngineState) → open_count (xs ++ y ∷ []) ≡ open_count xs + one_if_some y
open-append [] y = let a : one_if_some y + 0 ≡ 0 + one_if_some y = omega arith in a
open-append (x ∷ xs) y = let rest = open-append xs y in let a : one_if_some x + open_count (xs ++ y ∷ []) ≡ one_if_some x + open_count xs + one_if_some y = omega (arith, rest) in a

-- one more is counted
pub one_more_open : (slots : List (Option EngineState)) (i : ℕ) (slot : Option EngineState) → i < length slots → slot ≡ get_or slots i slot → open_count (take (i + 1) slots) ≡ open_count (take i slots) + one_if_some slot
one_more_open slots i slot few is = ap open_count (take_more slots i slot few ∙ ap (λ (s : Option EngineState). take i slots ++ s ∷ []) (sym is)) ∙ open-append (take i slots) slot
