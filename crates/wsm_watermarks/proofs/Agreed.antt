-- What the agreed time is: the greatest that so many clocks have told, or a later one.
use Rattle.std.proofs.Common.{◌≡◌, ◌≤◌, ◌<◌, ◌⊎◌, ℕ, max, Bool, true, false, cond, List, [], ◌∷◌, Option, Some, None, inl, inr, refl, ap, subst, ◌∙◌, arith}
use Rattle.std.proofs.lemmas.Bool.{cases_lt, leb-true}
use Rattle.std.specs.Prelude.{nat_le}
use Rattle.std.specs.List.{filter, AllByRecursion}
use Rattle.wsm_watermarks.specs.declared.stamp.Stamp.{Stamp}
use Rattle.wsm_watermarks.specs.Agreement.{has_told, tellers, later, latest, times, agreed}
use Rattle.wsm_watermarks.proofs.Tellers.{at_most, by_whom, tells, tells_on, tellers_within}

-- ---- the latest of some times

some_same : (t u : ℕ) → Some t ≡ Some u → t ≡ u
some_same t u e = cc

module _ (P : ℕ → Type 0) where
  one_of : (t : ℕ) (o : Option ℕ) (u : ℕ) → P t → ((v : ℕ) → o ≡ Some v → P v) → later t o ≡ u → P u
  one_of t None u p rest e = subst P e p
  one_of t (Some v) u p rest e = elim (cases_lt t v) [
    | inl less ↦ let is : v ≡ u = grind arith in subst P is (rest v refl)
    | inr least ↦ let is : t ≡ u = grind arith in subst P is p
  ]

  -- it is one of them
  pub latest_passes : (ts : List ℕ) (u : ℕ) → AllByRecursion P ts → latest ts ≡ Some u → P u
  latest_passes [] u all e = absurd cc
  latest_passes (t ∷ ts) u all e = one_of t (latest ts) u all.0 (λ v is. latest_passes ts v all.1 is) (some_same (later t (latest ts)) u e)

-- how many times are at least as great as another: none, or some
abbrev Has : (ℕ → Type 0) → List ℕ → Type 0
Has P [] = ⊥
Has P (t ∷ ts) = P t ⊎ Has P ts

later_one : (t : ℕ) (o : Option ℕ) → t ≤ later t o
later_one t None = omega arith
later_one t (Some u) = grind arith

later_two : (t u : ℕ) → u ≤ max t u
later_two t u = grind arith

pub latest_from : (u : ℕ) (ts : List ℕ) → Has (λ t. u ≤ t) ts → (v : ℕ) × (latest ts ≡ Some v) × (u ≤ v)
latest_from u [] h = absurd h
latest_from u (t ∷ ts) (inl here) = let one = later_one t (latest ts) in (later t (latest ts), refl, omega (arith, here, one))
latest_from u (t ∷ ts) (inr there) =
    let rest = latest_from u ts there in
    let is : later t (latest ts) ≡ max t rest.0 = ap (later t) rest.1 in
    let two = later_two t rest.0 in
    let le : u ≤ later t (latest ts) = omega (arith, is, two, rest.2) in
    (later t (latest ts), refl, le)

-- ---- those that pass a test

passing : (p : ℕ → Bool) (ts : List ℕ) → AllByRecursion (λ t. p t ≡ true) (filter p ts)
passing p [] = tt
passing p (t ∷ ts) = one (p t) refl (passing p ts)
  where
    one : (b : Bool) → p t ≡ b → AllByRecursion (λ u. p u ≡ true) (filter p ts) → AllByRecursion (λ u. p u ≡ true) (cond b (t ∷ filter p ts) (filter p ts))
    one true is rest = (is, rest)
    one false is rest = rest

stays_in : (P : ℕ → Type 0) (p : ℕ → Bool) (ts : List ℕ) → Has (λ t. P t × (p t ≡ true)) ts → Has P (filter p ts)
stays_in P p [] h = absurd h
stays_in P p (t ∷ ts) (inl here) = rw (here.1) (inl here.0)
stays_in P p (t ∷ ts) (inr there) = one (p t) (stays_in P p ts there)
  where
    one : (b : Bool) → Has P (filter p ts) → Has P (cond b (t ∷ filter p ts) (filter p ts))
    one true rest = inr rest
    one false rest = rest

-- ---- the next time that was told

abbrev Reaches : ℕ → ℕ → List Stamp → Type 0
Reaches u v past = AllByRecursion (λ s. u ≤ s.time → v ≤ s.time) past

-- no time was told from here on, or there is a least one
abbrev Next : ℕ → List Stamp → Type 0
Next u past = AllByRecursion (λ s. s.time < u) past ⊎ ((v : ℕ) × (u ≤ v) × Has (λ t. t ≡ v) (times past) × Reaches u v past)

none_reaches : (u v : ℕ) (past : List Stamp) → AllByRecursion (λ s. s.time < u) past → Reaches u v past
none_reaches u v [] all = tt
none_reaches u v (s ∷ past) all = (λ le. absurd (omega (arith, all.0, le)), none_reaches u v past all.1)

lower : (u v w : ℕ) (past : List Stamp) → w ≤ v → Reaches u v past → Reaches u w past
lower u v w [] le all = tt
lower u v w (s ∷ past) le all = (λ h. let far = all.0 h in omega (arith, far), lower u v w past le all.1)

next : (u : ℕ) (past : List Stamp) → Next u past
next u [] = inl tt
next u (s ∷ past) = elim (cases_lt s.time u) [
  | inl less ↦ elim (next u past) [
    | inl none ↦ inl (less, none)
    | inr found ↦ inr (found.0, found.1, inr found.2, (λ le. absurd (omega (arith, less, le)), found.3))
  ]
  | inr from ↦ elim (next u past) [
    | inl none ↦ inr (s.time, from, inl refl, (λ le. omega arith, none_reaches u s.time past none))
    | inr found ↦ elim (cases_lt s.time found.0) [
      | inl first ↦ inr (s.time, from, inl refl, (λ le. omega arith, lower u found.0 s.time past (omega (arith, first)) found.3))
      | inr second ↦ inr (found.0, found.1, inr found.2, (λ le. second, found.3))
    ]
  ]
]

-- no clock has told a time from here on
pub untold : (u : ℕ) (past : List Stamp) (c : ℕ) → AllByRecursion (λ s. s.time < u) past → has_told c u past ≡ true → ⊥
untold u [] c all h = absurd cc
untold u (s ∷ past) c all h = elim (by_whom s past c u h) [
  | inl it ↦ omega (arith, it.1, all.0)
  | inr before ↦ untold u past c all.1 before
]

reaching : (u v : ℕ) (past : List Stamp) (c : ℕ) → Reaches u v past → has_told c u past ≡ true → has_told c v past ≡ true
reaching u v [] c all h = h
reaching u v (s ∷ past) c all h = elim (by_whom s past c u h) [
  | inl it ↦ tells s past c v it.0 (all.0 it.1)
  | inr before ↦ tells_on s past c v (reaching u v past c all.1 before)
]

-- ---- what clocks agree on

module _ (most : ℕ) where
  abbrev enough : List Stamp → ℕ → Bool
  enough past t = nat_le most (tellers t past)

  -- so many clocks have told it, or a later time
  pub agreed_passes : (past : List Stamp) (t : ℕ) → agreed most past ≡ Some t → most ≤ tellers t past
  agreed_passes past t e = leb-true most (tellers t past) (latest_passes (λ u. enough past u ≡ true) (filter (enough past) (times past)) t (passing (enough past) (times past)) e)

  found_in : (u v : ℕ) (ts : List ℕ) (past : List Stamp) → u ≤ v → enough past v ≡ true → Has (λ t. t ≡ v) ts → Has (λ t. (u ≤ t) × (enough past t ≡ true)) ts
  found_in u v [] past le pass h = absurd h
  found_in u v (t ∷ ts) past le pass (inl is) = inl (omega (arith, is, le), ap (enough past) is ∙ pass)
  found_in u v (t ∷ ts) past le pass (inr there) = inr (found_in u v ts past le pass there)

  -- where so many have told a time, they agree on it or on a later one
  pub agreed_from : (past : List Stamp) (u : ℕ) → 0 < most → most ≤ tellers u past → (t : ℕ) × (agreed most past ≡ Some t) × (u ≤ t)
  agreed_from past u some h = elim (next u past) [
    | inl none ↦
        let fewest = tellers_within u 0 past [] (λ c told. absurd (untold u past c none told)) in
        absurd (omega (arith, fewest, h, some))
    | inr found ↦
        let as_many = tellers_within u found.0 past past (λ c told. reaching u found.0 past c found.3 told) in
        let pass = at_most most (tellers found.0 past) (omega (arith, as_many, h)) in
        latest_from u (filter (enough past) (times past)) (stays_in (λ t. u ≤ t) (enough past) (times past) (found_in u found.0 (times past) past found.1 pass found.2))
  ]

  -- the greatest time that so many clocks have told, or a later one
  pub agreed_is : (past : List Stamp) (t : ℕ) → 0 < most → most ≤ tellers t past → ((u : ℕ) → most ≤ tellers u past → u ≤ t) → agreed most past ≡ Some t
  agreed_is past t some h least =
      let found = agreed_from past t some h in
      let no_more = least found.0 (agreed_passes past found.0 found.1) in
      let is : found.0 ≡ t = omega (arith, found.2, no_more) in
      found.1 ∙ ap (λ (n : ℕ). Some n) is

  -- fewer clocks have told any time
  pub none_agreed : (past : List Stamp) → ((u : ℕ) → most ≤ tellers u past → ⊥) → agreed most past ≡ None
  none_agreed past none = one (agreed most past) refl
    where
      one : (o : Option ℕ) → agreed most past ≡ o → agreed most past ≡ None
      one None is = is
      one (Some t) is = absurd (none t (agreed_passes past t is))
