-- One clock is enough.
use Rattle.std.proofs.Common.{◌≡◌, ◌≤◌, ◌<◌, ℕ, zero, suc, max, true, not, List, [], ◌∷◌, take, Option, Some, None, inl, inr, refl, ap, ◌∙◌, arith}
use Rattle.std.proofs.lemmas.Bool.{cases_lt}
use Rattle.std.specs.Prelude.{nat_eq, nat_le}
use Rattle.std.specs.List.{AllByRecursion}
use Rattle.wsm_watermarks.specs.declared.rule.Rule.{Rule}
use Rattle.wsm_watermarks.specs.declared.stamp.Stamp.{Stamp}
use Rattle.wsm_watermarks.specs.Agreement.{agreed, behind, has_told, lasts, later, latest, mark_after, tellers, times, voices, without}
use Rattle.wsm_watermarks.specs.Laws.{IsPlain}
use Rattle.wsm_watermarks.proofs.Tellers.{at_most, by_whom, tells, told_earlier, tellers_within}
use Rattle.wsm_watermarks.proofs.Agreed.{agreed_from, agreed_passes, untold}
use Rattle.wsm_watermarks.proofs.Boards.{all_filter, all_take}
use Rattle.wsm_watermarks.proofs.Marks.{behind_rises}

-- ---- no time is past the latest

abbrev IsUpTo : ℕ → Option ℕ → Type 0
IsUpTo g None = Unit {0}
IsUpTo g (Some u) = u ≤ g

all_to : (g : ℕ) (past : List Stamp) → IsUpTo g (latest (times past)) → AllByRecursion (λ s. s.time < suc g) past
all_to g [] h = tt
all_to g (s ∷ past) h = both (latest (times past)) h (λ k. all_to g past k)
  where
    first : (a b g : ℕ) → max a b ≤ g → a < suc g
    first a b g h = grind arith

    second : (a b g : ℕ) → max a b ≤ g → b ≤ g
    second a b g h = grind arith

    both : (o : Option ℕ) → later s.time o ≤ g → (IsUpTo g o → AllByRecursion (λ s. s.time < suc g) past) → (s.time < suc g) × AllByRecursion (λ s. s.time < suc g) past
    both None h rest = (omega (arith, h), rest tt)
    both (Some u) h rest = (first s.time u g h, rest (second s.time u g h))

all_lasts : (P : Stamp → Type 0) (past : List Stamp) → AllByRecursion P past → AllByRecursion P (lasts past)
all_lasts P [] all = tt
all_lasts P (s ∷ past) all = (all.0, all_filter P (λ q. not (nat_eq q.clock s.clock)) (lasts past) (all_lasts P past all.1))

module _ (rule : Rule) (one : rule.agree ≡ 1) where
  no_later : (past : List Stamp) (g a : ℕ) → IsUpTo g (latest (times past)) → agreed rule.agree (voices rule.forget past) ≡ Some a → a ≤ g
  no_later past g a to is = elim (cases_lt g a) [
    | inl past_it ↦
        let speak = voices rule.forget past in
        let enough = agreed_passes rule.agree speak a is in
        let all = all_lasts (λ s. s.time < suc g) (take rule.forget past) (all_take (λ s. s.time < suc g) rule.forget past (all_to g past to)) in
        let fewest = tellers_within a (suc g) speak speak (λ c told. told_earlier c a (suc g) speak (omega (arith, past_it)) told) in
        let none = tellers_within (suc g) 0 speak [] (λ c told. absurd (untold (suc g) speak c all told)) in
        absurd (omega (arith, enough, fewest, none, one))
    | inr within ↦ within
  ]

  its_own : (n : ℕ) (s : Stamp) (past : List Stamp) → rule.agree ≤ tellers s.time (voices (suc n) (s ∷ past))
  its_own n s past =
      let alone = tellers_within s.time s.time (s ∷ []) (voices (suc n) (s ∷ past)) (λ c told. only c told) in
      let here : nat_le s.time s.time ≡ true = at_most s.time s.time (omega arith) in
      let counts : tellers s.time (s ∷ []) ≡ 1 = rw here refl in
      omega (arith, alone, counts, one)
    where
      only : (c : ℕ) → has_told c s.time (s ∷ []) ≡ true → has_told c s.time (voices (suc n) (s ∷ past)) ≡ true
      only c told = elim (by_whom s [] c s.time told) [
        | inl it ↦ tells s (without s.clock (lasts (take n past))) c s.time it.0 it.1
        | inr none ↦ absurd cc
      ]

  joined : (start t a : ℕ) (o : Option ℕ) (m : ℕ) → 0 < rule.step → m ≡ max start (behind rule o) → t ≤ a → a ≤ later t o → max m (behind rule (Some a)) ≡ max start (behind rule (Some (later t o)))
  joined start t a None m step is from to =
      let e : a ≡ t = omega (arith, from, to) in
      three start m (behind rule (Some a)) (behind rule (Some t)) is (ap (λ (u : ℕ). behind rule (Some u)) e)
    where
      three : (start m b c : ℕ) → m ≡ max start 0 → b ≡ c → max m b ≡ max start c
      three start m b c is e = grind arith
  joined start t a (Some u) m step is from to = elim (cases_lt t u) [
    | inl less ↦
        let top : later t (Some u) ≡ u = second t u less in
        let under = behind_rises rule a u step (omega (arith, to, top)) in
        let same : behind rule (Some (later t (Some u))) ≡ behind rule (Some u) = ap (λ (v : ℕ). behind rule (Some v)) top in
        low start m (behind rule (Some u)) (behind rule (Some a)) (behind rule (Some (later t (Some u)))) is under same
    | inr least ↦
        let top : later t (Some u) ≡ t = first t u least in
        let e : a ≡ later t (Some u) = omega (arith, from, to, top) in
        let over = behind_rises rule u a step (omega (arith, from, least)) in
        let same : behind rule (Some a) ≡ behind rule (Some (later t (Some u))) = ap (λ (v : ℕ). behind rule (Some v)) e in
        high start m (behind rule (Some u)) (behind rule (Some a)) (behind rule (Some (later t (Some u)))) is over same
  ]
    where
      first : (t u : ℕ) → u ≤ t → max t u ≡ t
      first t u h = grind arith

      second : (t u : ℕ) → t < u → max t u ≡ u
      second t u h = grind arith

      low : (start m bu ba bl : ℕ) → m ≡ max start bu → ba ≤ bu → bl ≡ bu → max m ba ≡ max start bl
      low start m bu ba bl is le e = grind arith

      high : (start m bu ba bl : ℕ) → m ≡ max start bu → bu ≤ ba → ba ≡ bl → max m ba ≡ max start bl
      high start m bu ba bl is le e = grind arith

  pub plain : 0 < rule.forget → 0 < rule.step → IsPlain rule
  plain hears step [] = alone rule.start
    where
      alone : (a : ℕ) → a ≡ max a 0
      alone a = grind arith
  plain hears step (s ∷ past) =
      let speak = voices rule.forget (s ∷ past) in
      let found = agreed_from rule.agree speak s.time (omega (arith, one)) (own rule.forget hears) in
      let to = no_later (s ∷ past) (later s.time (latest (times past))) found.0 (omega arith) found.1 in
      let is : behind rule (agreed rule.agree speak) ≡ behind rule (Some found.0) = ap (behind rule) found.1 in
      ap (λ (b : ℕ). max (mark_after rule past) b) is ∙ joined rule.start s.time found.0 (latest (times past)) (mark_after rule past) step (plain hears step past) found.2 to
    where
      own : (f : ℕ) → 0 < f → rule.agree ≤ tellers s.time (voices f (s ∷ past))
      own zero h = absurd (omega (arith, h))
      own (suc n) h = its_own n s past
