-- A part of a history as steps of the whole: an event of it stays, and a record of other keys goes. What stays selects records
-- of its keys alone, and what goes none of them.
use Rattle.std.proofs.Common.{◌≡◌, ℕ, suc, ◌+◌, Bool, true, false, ◌&&◌, cond, ◌||◌, List, [], ◌∷◌, length, Some, None, refl, sym, ap, subst, ◌∙◌, arith}
use Rattle.std.proofs.lemmas.Bool.{true≢false}
use Rattle.std.specs.Prelude.{filter, nat_lt}
use Rattle.std.specs.List.{AllByRecursion}
use Rattle.wsm_record.specs.Event.{Event, Record, Watermark}
use Rattle.wsm_semantics.specs.Query.{Datum, Query, datum, mark, is_taken, Selects, Nothing, selected, selection, selection_of}
use Rattle.wsm_semantics.specs.ByKey.{Keys, is_of, of_keys, turn_of}
use Rattle.wsm_semantics.specs.FromWatermark.{Step, Stays, Goes, whole, rest, turn_in}
use Rattle.wsm_semantics.proofs.Each.{all-append}
use Rattle.wsm_semantics.proofs.Effects.{selects_none}
use Rattle.wsm_semantics.proofs.StepTurns.{rest_is, steps_by}

module _ (keys : Keys) where
  abbrev pub steps_of : List Event → List Step
  steps_of past = steps_by (is_of keys) past

  plus_none : (n : ℕ) → n + 0 ≡ n
  plus_none n = omega arith

  -- with its turns
  pub turn_is : (past : List Event) (n : ℕ) → turn_in (steps_of past) [] 0 n ≡ turn_of keys past n
  turn_is [] n = plus_none n
  turn_is (e ∷ past) n =
      elim (is_of keys e) as (λ b. turn_in (cond b (Stays e) (Goes e) ∷ steps_of past) [] 0 n ≡ cond (b || nat_lt n (length (of_keys keys past))) (turn_of keys past n) (suc (turn_of keys past n))) [
        | true ↦ turn_is past n
        | false ↦ λ i. cond (nat_lt n (length (rest_is (is_of keys) past i))) (turn_is past n i) (suc (turn_is past n i))
      ]

  -- steps where all events of the part stay, and no others
  abbrev pub AreOf : List Step → Type 0
  AreOf [] = Unit {0}
  AreOf (Stays e ∷ steps) = (is_of keys e ≡ true) × AreOf steps
  AreOf (Goes e ∷ steps) = (is_of keys e ≡ false) × AreOf steps

  pub are_of : (past : List Event) → AreOf (steps_of past)
  are_of [] = tt
  are_of (e ∷ past) = elim (is_of keys e) as (λ b. is_of keys e ≡ b → AreOf (cond b (Stays e) (Goes e) ∷ steps_of past)) [ true ↦ λ here. (here, are_of past) | false ↦ λ other. (other, are_of past) ] refl

  pub rest_of : (steps : List Step) → AreOf steps → rest steps [] ≡ of_keys keys (whole steps [])
  rest_of [] are = refl
  rest_of (Stays e ∷ steps) are =
      ap (λ (es : List Event). e ∷ es) (rest_of steps are.1)
      ∙ sym (ap (λ (b : Bool). cond b (e ∷ of_keys keys (whole steps [])) (of_keys keys (whole steps []))) are.0)
  rest_of (Goes e ∷ steps) are =
      rest_of steps are.1
      ∙ sym (ap (λ (b : Bool). cond b (e ∷ of_keys keys (whole steps [])) (of_keys keys (whole steps []))) are.0)

-- ---- the selected records

-- a record is of the keys
abbrev pub is_said : Keys → Datum → Bool
is_said keys d = keys (Some d.key)

module _ (q : Query) (keys : Keys) where
  -- of events of the keys
  selects_own : (past : List Event) (e : Event) → is_of keys e ≡ true → AllByRecursion (λ d. is_said keys d ≡ true) (selection_of q past e)
  selects_own past (Record None t vs) here = tt
  selects_own past (Watermark o t) here = subst (AllByRecursion (λ d. is_said keys d ≡ true)) (sym (selects_none q past o t)) tt
  selects_own past (Record (Some k) t vs) here =
      elim (is_taken q past (Record (Some k) t vs) && q.selects k vs) as (λ b. AllByRecursion (λ d. is_said keys d ≡ true) (selection (cond b (Selects (datum (length past) (mark q past) k t vs)) Nothing))) [
        | true ↦ (here, tt)
        | false ↦ tt
      ]

  pub selected_own : (past : List Event) → AllByRecursion (λ e. is_of keys e ≡ true) past → AllByRecursion (λ d. is_said keys d ≡ true) (selected q past)
  selected_own [] all = tt
  selected_own (e ∷ past) all = all-append (λ d. is_said keys d ≡ true) (selection_of q past e) (selected q past) (selects_own past e all.0) (selected_own past all.1)

  -- that of another part selects no record of its keys
  pub selects_others : (past : List Event) (e : Event) → is_of keys e ≡ false → filter (is_said keys) (selection_of q past e) ≡ []
  selects_others past (Record None t vs) other = refl
  selects_others past (Watermark o t) other = absurd (true≢false other)
  selects_others past (Record (Some k) t vs) other =
      let d : Datum = datum (length past) (mark q past) k t vs in
      elim (is_taken q past (Record (Some k) t vs) && q.selects k vs) as (λ b. filter (is_said keys) (selection (cond b (Selects d) Nothing)) ≡ []) [
        | true ↦ ap (λ (b : Bool). cond b (d ∷ []) []) other
        | false ↦ refl
      ]
