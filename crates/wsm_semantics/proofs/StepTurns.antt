-- The turns of a history that lacks some events of another; and the steps of a history by a test that tells which of its events
-- stay.
use Rattle.std.proofs.Common.{◌≡◌, ℕ, suc, ◌+◌, ◌<◌, Bool, true, false, cond, List, [], ◌∷◌, length, refl, sym, ap, ◌∙◌, arith}
use Rattle.std.proofs.lemmas.Bool.{true≢false, lt-ltb}
use Rattle.std.specs.Prelude.{filter, nat_lt}
use Rattle.wsm_record.specs.Event.{Event}
use Rattle.wsm_semantics.specs.FromWatermark.{Step, Stays, Goes, whole, rest, turn_in}
use Rattle.wsm_semantics.proofs.Decided.{fewer_than, no_fewer_than}
use Rattle.wsm_semantics.proofs.Moves.{IsRising}

-- ---- turns

module _ (older other : List Event) (longer : ℕ) where
  abbrev pub turn : List Step → ℕ → ℕ
  turn steps = turn_in steps other longer

  one_later : (y z : ℕ) → y < z → (m n : Bool) → (n ≡ true → m ≡ true) → cond m y (suc y) < cond n z (suc z)
  one_later y z h true true k = h
  one_later y z h true false k = omega arith
  one_later y z h false true k = absurd (true≢false (sym (k refl)))
  one_later y z h false false k = omega arith

  pub rising-turn : (steps : List Step) → IsRising (turn steps)
  rising-turn [] m n h = omega arith
  rising-turn (Stays e ∷ steps) m n h = rising-turn steps m n h
  rising-turn (Goes e ∷ steps) m n h =
      let l : ℕ = length (rest steps other) in
      one_later (turn steps m) (turn steps n) (rising-turn steps m n h) (nat_lt m l) (nat_lt n l) (fewer_than m n l h)

  -- each event that both have has its turn in the first
  abbrev pub AreTurns : (ℕ → ℕ) → List Step → Type 0
  AreTurns f [] = Unit {0}
  AreTurns f (Stays e ∷ steps) = (f (length (rest steps other)) ≡ length (whole steps older)) × AreTurns f steps
  AreTurns f (Goes e ∷ steps) = AreTurns f steps

  module _ (turns : length older ≡ length other + longer) where
    -- what comes after the one comes after the other
    past_end : (steps : List Step) (k : ℕ) → turn steps (length (rest steps other) + k) ≡ length (whole steps older) + k
    past_end [] k = omega (arith, turns)
    past_end (Stays e ∷ steps) k =
        let l : ℕ = length (rest steps other) in
        let n : ℕ = length (whole steps older) in
        let moved : suc l + k ≡ l + suc k = omega arith in
        let back : suc n + k ≡ n + suc k = omega arith in
        ap (turn steps) moved ∙ past_end steps (suc k) ∙ sym back
    past_end (Goes e ∷ steps) k =
        let l : ℕ = length (rest steps other) in
        let n : ℕ = length (whole steps older) in
        ap (λ (b : Bool). cond b (turn steps (l + k)) (suc (turn steps (l + k)))) (no_fewer_than l k)
        ∙ ap suc (past_end steps k)
        ∙ sym (let i : suc n + k ≡ suc (n + k) = omega arith in i)

    one_less : (l : ℕ) → l < suc l
    one_less l = omega arith

    less_too : (n l : ℕ) → n < l → n < suc l
    less_too n l h = omega arith

    agreeing : (f g : ℕ → ℕ) (steps : List Step) → ((n : ℕ) → n < length (rest steps other) → f n ≡ g n) → AreTurns g steps → AreTurns f steps
    agreeing f g [] same h = tt
    agreeing f g (Stays e ∷ steps) same h = (same (length (rest steps other)) (one_less (length (rest steps other))) ∙ h.0, agreeing f g steps (λ n less. same n (less_too n (length (rest steps other)) less)) h.1)
    agreeing f g (Goes e ∷ steps) same h = agreeing f g steps same h

    plus_none : (n : ℕ) → n + 0 ≡ n
    plus_none n = omega arith

    pub turn_now : (steps : List Step) → turn steps (length (rest steps other)) ≡ length (whole steps older)
    turn_now steps = ap (turn steps) (sym (plus_none (length (rest steps other)))) ∙ past_end steps 0 ∙ plus_none (length (whole steps older))

    pub are_turns : (steps : List Step) → AreTurns (turn steps) steps
    are_turns [] = tt
    are_turns (Stays e ∷ steps) = (turn_now steps, are_turns steps)
    are_turns (Goes e ∷ steps) =
        agreeing (turn (Goes e ∷ steps)) (turn steps) steps
        (λ n less. ap (λ (b : Bool). cond b (turn steps n) (suc (turn steps n))) (lt-ltb n (length (rest steps other)) less))
        (are_turns steps)

-- ---- by a test

module _ (t : Event → Bool) where
  abbrev pub steps_by : List Event → List Step
  steps_by [] = []
  steps_by (e ∷ past) = cond (t e) (Stays e) (Goes e) ∷ steps_by past

  pub whole_is : (past : List Event) → whole (steps_by past) [] ≡ past
  whole_is [] = refl
  whole_is (e ∷ past) =
      elim (t e) as (λ b. whole (cond b (Stays e) (Goes e) ∷ steps_by past) [] ≡ e ∷ past) [
        | true ↦ ap (λ (es : List Event). e ∷ es) (whole_is past)
        | false ↦ ap (λ (es : List Event). e ∷ es) (whole_is past)
      ]

  pub rest_is : (past : List Event) → rest (steps_by past) [] ≡ filter t past
  rest_is [] = refl
  rest_is (e ∷ past) =
      elim (t e) as (λ b. rest (cond b (Stays e) (Goes e) ∷ steps_by past) [] ≡ cond b (e ∷ filter t past) (filter t past)) [
        | true ↦ ap (λ (es : List Event). e ∷ es) (rest_is past)
        | false ↦ rest_is past
      ]
