-- While fewer clocks are wrong at a time than have to agree, the watermark stays behind the right stamps.
use Rattle.std.proofs.Common.{◌≡◌, ◌≤◌, ◌<◌, ◌-◌, ◌+◌, ℕ, zero, suc, max, Bool, true, false, ◌&&◌, not, cond, List, [], ◌∷◌, ◌++◌, take, length, Option, Some, None, inl, inr, refl, ap, ◌∙◌, arith}
use Rattle.std.proofs.lemmas.Bool.{cases_lt}
use Rattle.std.proofs.lemmas.Bool.Decides.{nat_tests}
use Rattle.std.specs.Prelude.{nat_eq, nat_le}
use Rattle.std.specs.List.{filter}
use Rattle.wsm_watermarks.specs.declared.rule.Rule.{Rule}
use Rattle.wsm_watermarks.specs.declared.stamp.Stamp.{Stamp}
use Rattle.wsm_watermarks.specs.Agreement.{agreed, behind, has_told, lasts, mark_after, tellers, voices, without}
use Rattle.wsm_watermarks.specs.Laws.{AreFewWrong, AreRightTo, Told, Tolerates, StaysBehind, last_told, stamps, wrong_now}
use Rattle.wsm_watermarks.proofs.Agreed.{agreed_passes}
use Rattle.wsm_watermarks.proofs.Marks.{behind_stays}

-- ---- the last stamps, with and without what is said of them

abbrev others : ℕ → List Told → List Told
others clock told = filter (λ q. not (nat_eq q.stamp.clock clock)) told

without_stamps : (c : ℕ) (told : List Told) → stamps (others c told) ≡ without c (stamps told)
without_stamps c [] = refl
without_stamps c (s ∷ told) = one (nat_eq s.stamp.clock c) (without_stamps c told)
  where
    one : (b : Bool) → stamps (others c told) ≡ without c (stamps told) → stamps (cond (not b) (s ∷ others c told) (others c told)) ≡ cond (not b) (s.stamp ∷ without c (stamps told)) (without c (stamps told))
    one true rest = rest
    one false rest = ap (λ (ss : List Stamp). s.stamp ∷ ss) rest

last_stamps : (told : List Told) → stamps (last_told told) ≡ lasts (stamps told)
last_stamps [] = refl
last_stamps (s ∷ told) = ap (λ (ss : List Stamp). s.stamp ∷ ss) (without_stamps s.stamp.clock (last_told told) ∙ ap (without s.stamp.clock) (last_stamps told))

take_stamps : (n : ℕ) (told : List Told) → stamps (take n told) ≡ take n (stamps told)
take_stamps zero told = refl
take_stamps (suc n) [] = refl
take_stamps (suc n) (s ∷ told) = ap (λ (ss : List Stamp). s.stamp ∷ ss) (take_stamps n told)

pub voices_stamps : (forget : ℕ) (told : List Told) → stamps (last_told (take forget told)) ≡ voices forget (stamps told)
voices_stamps forget told = last_stamps (take forget told) ∙ ap lasts (take_stamps forget told)

-- ---- the right ones

right_take : (time n : ℕ) (told : List Told) → AreRightTo time told → AreRightTo time (take n told)
right_take time zero told all = tt
right_take time (suc n) [] all = tt
right_take time (suc n) (s ∷ told) all = (all.0, right_take time n told all.1)

right_filter : (time : ℕ) (test : Told → Bool) (told : List Told) → AreRightTo time told → AreRightTo time (filter test told)
right_filter time test [] all = tt
right_filter time test (s ∷ told) all = one (test s) (right_filter time test told all.1)
  where
    one : (b : Bool) → AreRightTo time (filter test told) → AreRightTo time (cond b (s ∷ filter test told) (filter test told))
    one true rest = (all.0, rest)
    one false rest = rest

right_last : (time : ℕ) (told : List Told) → AreRightTo time told → AreRightTo time (last_told told)
right_last time [] all = tt
right_last time (s ∷ told) all = (all.0, right_filter time (λ q. not (nat_eq q.stamp.clock s.stamp.clock)) (last_told told) (right_last time told all.1))

pub right_by : (told : List Told) (time more : ℕ) → time ≤ more → AreRightTo time told → AreRightTo more told
right_by [] time more le all = tt
right_by (s ∷ told) time more le all = (λ right. let now = all.0 right in omega (arith, now, le), right_by told time more le all.1)

-- ---- who tells a later time is wrong

early : (t u : ℕ) → u < t → nat_le t u ≡ false
early t u h = grind (arith, nat_tests)

few_tellers : (time t : ℕ) → time < t → (told : List Told) → AreRightTo time told → tellers t (stamps told) ≤ length (filter (λ s. s.wrong) told)
few_tellers time t less [] all = omega arith
few_tellers time t less (s ∷ told) all = one s.wrong refl (few_tellers time t less told all.1)
  where
    two : (b : Bool) (n m : ℕ) → n ≤ m → cond b (suc n) n ≤ suc m
    two true n m h = omega (arith, h)
    two false n m h = omega (arith, h)

    one : (b : Bool) → s.wrong ≡ b → tellers t (stamps told) ≤ length (filter (λ s. s.wrong) told) → cond (nat_le t s.stamp.time && not (has_told s.stamp.clock t (stamps told))) (suc (tellers t (stamps told))) (tellers t (stamps told)) ≤ length (cond b (s ∷ filter (λ s. s.wrong) told) (filter (λ s. s.wrong) told))
    one true is rest = two (nat_le t s.stamp.time && not (has_told s.stamp.clock t (stamps told))) (tellers t (stamps told)) (length (filter (λ s. s.wrong) told)) rest
    one false is rest =
        let le = all.0 is in
        let none : nat_le t s.stamp.time ≡ false = early t s.stamp.time (omega (arith, le, less)) in
        rw none rest

module _ (rule : Rule) where
  agreed_right : (told : List Told) (time t : ℕ) → wrong_now rule.forget told < rule.agree → AreRightTo time told → agreed rule.agree (voices rule.forget (stamps told)) ≡ Some t → t ≤ time
  agreed_right told time t few all is = elim (cases_lt time t) [
    | inl less ↦
        let speak = last_told (take rule.forget told) in
        let tellers_are = few_tellers time t less speak (right_last time (take rule.forget told) (right_take time rule.forget told all)) in
        let same : tellers t (stamps speak) ≡ tellers t (voices rule.forget (stamps told)) = ap (tellers t) (voices_stamps rule.forget told) in
        let enough = agreed_passes rule.agree (voices rule.forget (stamps told)) t is in
        absurd (omega (arith, few, tellers_are, same, enough))
    | inr within ↦ within
  ]

  behind_right : (told : List Told) (time : ℕ) (o : Option ℕ) → wrong_now rule.forget told < rule.agree → AreRightTo time told → agreed rule.agree (voices rule.forget (stamps told)) ≡ o → behind rule o ≤ time - rule.bound
  behind_right told time None few all is = omega arith
  behind_right told time (Some t) few all is =
      let le = agreed_right told time t few all is in
      behind_stays rule t (time - rule.bound) (omega (arith, le))

  both : (a b c d : ℕ) → a ≤ max c d → b ≤ d → max a b ≤ max c d
  both a b c d h k = grind arith

  first : (a b : ℕ) → a ≤ max a b
  first a b = grind arith

  pub tolerates : Tolerates rule
  tolerates [] few time all = first rule.start (time - rule.bound)
  tolerates (s ∷ told) few time all =
      let now = behind_right (s ∷ told) time (agreed rule.agree (voices rule.forget (stamps (s ∷ told)))) few.0 all refl in
      both (mark_after rule (stamps told)) (behind rule (agreed rule.agree (voices rule.forget (stamps (s ∷ told))))) rule.start (time - rule.bound) (tolerates told few.1 time all.1) now

-- ---- a right stamp more

-- what speaks among fewer stamps is the newer part of what speaks among more
starts_with : (told : List Told) (n : ℕ) → (rest : List Told) × (last_told (take (suc n) told) ≡ last_told (take n told) ++ rest)
starts_with [] zero = ([], refl)
starts_with [] (suc n) = ([], refl)
starts_with (s ∷ told) zero = (last_told (take 1 (s ∷ told)), refl)
starts_with (s ∷ told) (suc n) =
    let before = starts_with told n in
    (others s.stamp.clock before.0, ap (λ (ss : List Told). s ∷ others s.stamp.clock ss) before.1 ∙ ap (λ (ss : List Told). s ∷ ss) (apart s.stamp.clock (last_told (take n told)) before.0))
  where
    apart : (c : ℕ) (xs ys : List Told) → others c (xs ++ ys) ≡ others c xs ++ others c ys
    apart c [] ys = refl
    apart c (x ∷ xs) ys = one (nat_eq x.stamp.clock c) (apart c xs ys)
      where
        one : (b : Bool) → others c (xs ++ ys) ≡ others c xs ++ others c ys → cond (not b) (x ∷ others c (xs ++ ys)) (others c (xs ++ ys)) ≡ cond (not b) (x ∷ others c xs) (others c xs) ++ others c ys
        one true rest = rest
        one false rest = ap (λ (zs : List Told). x ∷ zs) rest

abbrev how_wrong : List Told → ℕ
how_wrong told = length (filter (λ s. s.wrong) told)

fewer_first : (xs ys : List Told) → how_wrong xs ≤ how_wrong (xs ++ ys)
fewer_first [] ys = omega arith
fewer_first (x ∷ xs) ys = one x.wrong (fewer_first xs ys)
  where
    one : (b : Bool) → how_wrong xs ≤ how_wrong (xs ++ ys) → length (cond b (x ∷ filter (λ s. s.wrong) xs) (filter (λ s. s.wrong) xs)) ≤ length (cond b (x ∷ filter (λ s. s.wrong) (xs ++ ys)) (filter (λ s. s.wrong) (xs ++ ys)))
    one true h = omega (arith, h)
    one false h = h

fewer_others : (c : ℕ) (xs : List Told) → how_wrong (others c xs) ≤ how_wrong xs
fewer_others c [] = omega arith
fewer_others c (x ∷ xs) = one (nat_eq x.stamp.clock c) x.wrong refl (fewer_others c xs)
  where
    one : (b w : Bool) → x.wrong ≡ w → how_wrong (others c xs) ≤ how_wrong xs → how_wrong (cond (not b) (x ∷ others c xs) (others c xs)) ≤ length (cond w (x ∷ filter (λ s. s.wrong) xs) (filter (λ s. s.wrong) xs))
    one true true is h = omega (arith, h)
    one true false is h = h
    one false true is h = rw is (omega (arith, h))
    one false false is h = rw is h

-- it makes no clock wrong
wrong_on : (forget : ℕ) (told : List Told) (s : Stamp) → wrong_now forget (record { stamp = s; wrong = false } ∷ told) ≤ wrong_now forget told
wrong_on zero told s = omega arith
wrong_on (suc n) told s =
    let now = fewer_others s.clock (last_told (take n told)) in
    let more = starts_with told n in
    let fewer = fewer_first (last_told (take n told)) more.0 in
    let same : how_wrong (last_told (take (suc n) told)) ≡ how_wrong (last_told (take n told) ++ more.0) = ap how_wrong more.1 in
    omega (arith, now, fewer, same)

few_now : (most forget : ℕ) (told : List Told) → 0 < most → AreFewWrong most forget told → wrong_now forget told < most
few_now most zero [] some few = omega (arith, some)
few_now most (suc forget) [] some few = omega (arith, some)
few_now most forget (s ∷ told) some few = few.0

pub few_on : (most forget : ℕ) (told : List Told) (s : Stamp) → 0 < most → AreFewWrong most forget told → AreFewWrong most forget (record { stamp = s; wrong = false } ∷ told)
few_on most forget told s some few =
    let less = few_now most forget told some few in
    let fewer = wrong_on forget told s in
    (omega (arith, less, fewer), few)

pub stays_behind : (rule : Rule) → 0 < rule.agree → StaysBehind rule
stays_behind rule some told few time all s near start =
    let right : Told = record { stamp = s; wrong = false } in
    let all_right : AreRightTo (max time s.time) (right ∷ told) = (λ _. second time s.time, right_by told time (max time s.time) (first_of time s.time) all) in
    let low = tolerates rule (right ∷ told) (few_on rule.agree rule.forget told s some few) (max time s.time) all_right in
    within rule.start time s.time rule.bound (mark_after rule (s ∷ stamps told)) low start near
  where
    second : (a b : ℕ) → b ≤ max a b
    second a b = grind arith

    first_of : (a b : ℕ) → a ≤ max a b
    first_of a b = grind arith

    within : (start time t bound m : ℕ) → m ≤ max start (max time t - bound) → start ≤ t → time ≤ t + bound → m ≤ t
    within start time t bound m h k l = grind arith
