-- What is kept of each clock, and what of it speaks.
use Rattle.std.proofs.Common.{◌≡◌, ◌≤◌, ◌<◌, ◌+◌, ◌-◌, ◌*◌, ◌/◌, ◌⊎◌, ℕ, zero, suc, max, Bool, true, false, ◌&&◌, not, cond, List, ◌∷◌, get_or, replicate, set, length, Option, Some, None, inl, inr, refl, sym, ap, subst, ◌∙◌, arith}
use Rattle.std.proofs.lemmas.Bool.{and_parts, cases_lt}
use Rattle.std.proofs.lemmas.Bool.Decides.{nat_tests}
use Rattle.std.proofs.lemmas.List.{get_or-set_same, get_or-set_other}
use Rattle.std.proofs.Math.Nat.{div-mul-le_self}
use Rattle.std.specs.Prelude.{nat_le, nat_lt}
use Rattle.wsm_watermarks.specs.declared.rule.Rule.{Rule}
use Rattle.wsm_watermarks.specs.declared.stamp.Stamp.{Stamp}
use Rattle.wsm_watermarks.specs.declared.table.Said.{Said}
use Rattle.wsm_watermarks.specs.Agreement.{agreed, behind, has_told, mark_after, raised_by, tellers, voices}
use Rattle.wsm_watermarks.specs.Table.{Sayings, FitsTable, counted, is_counted, speaking, with_said}
use Rattle.wsm_watermarks.proofs.Tellers.{told_earlier, tellers_within}
use Rattle.wsm_watermarks.proofs.Agreed.{agreed_from, agreed_is, agreed_passes}
use Rattle.wsm_watermarks.proofs.LastStamps.{told_speaking, told_all, same_voices, unheard}

-- ---- how many are counted

abbrev as_one : Bool → ℕ
as_one b = cond b 1 0

module _ (since need : ℕ) where
  pub counted_none : (clocks n : ℕ) → counted since need (replicate clocks None) n ≡ 0
  counted_none clocks zero = refl
  counted_none clocks (suc n) =
      let none : is_counted since need (get_or (replicate clocks None) n None) ≡ false = ap (is_counted since need) (unheard clocks n) in
      let rest = counted_none clocks n in
      rw (none, rest) refl

  pub counted_few : (said : List (Option Said)) (n : ℕ) → counted since need said n ≤ n
  counted_few said zero = omega arith
  counted_few said (suc n) = one (is_counted since need (get_or said n None)) (counted_few said n)
    where
      one : (b : Bool) → counted since need said n ≤ n → (cond b 1 0 + counted since need said n) ≤ suc n
      one true h = omega (arith, h)
      one false h = omega (arith, h)

  -- one of them
  pub counted_at : (said : List (Option Said)) (i n : ℕ) → i < n → as_one (is_counted since need (get_or said i None)) ≤ counted since need said n
  counted_at said i zero l = absurd (omega (arith, l))
  counted_at said i (suc n) l = elim (cases_lt i n) [
    | inl less ↦ let rest = counted_at said i n less in omega (arith, rest)
    | inr from ↦
        let e : i ≡ n = omega (arith, l, from) in
        let same : as_one (is_counted since need (get_or said i None)) ≡ as_one (is_counted since need (get_or said n None)) = ap (λ (m : ℕ). as_one (is_counted since need (get_or said m None))) e in
        omega (arith, same)
  ]

  below_set : (said : List (Option Said)) (i n : ℕ) (v : Option Said) → n ≤ i → counted since need (set said i v) n ≡ counted since need said n
  below_set said i zero v le = refl
  below_set said i (suc n) v le =
      let other = get_or-set_other said i n v None (λ e. omega (arith, e, le)) in
      let same : is_counted since need (get_or (set said i v) n None) ≡ is_counted since need (get_or said n None) = ap (is_counted since need) other in
      rw (same, below_set said i n v (omega (arith, le))) refl

  pub counted_set : (said : List (Option Said)) (i n : ℕ) (v : Option Said) → i < length said → i < n → (counted since need (set said i v) n + as_one (is_counted since need (get_or said i None))) ≡ (counted since need said n + as_one (is_counted since need v))
  counted_set said i zero v within l = absurd (omega (arith, l))
  counted_set said i (suc n) v within l = elim (cases_lt i n) [
    | inl less ↦
        let rest = counted_set said i n v within less in
        let other = get_or-set_other said i n v None (λ e. omega (arith, e, less)) in
        let same : as_one (is_counted since need (get_or (set said i v) n None)) ≡ as_one (is_counted since need (get_or said n None)) = ap (λ o. as_one (is_counted since need o)) other in
        omega (arith, rest, same)
    | inr from ↦
        let e : i ≡ n = omega (arith, l, from) in
        let before = below_set said i n v (omega (arith, e)) in
        let here : get_or (set said i v) n None ≡ v = subst (λ (m : ℕ). get_or (set said i v) m None ≡ v) e (get_or-set_same said i v None within) in
        let new : as_one (is_counted since need (get_or (set said i v) n None)) ≡ as_one (is_counted since need v) = ap (λ o. as_one (is_counted since need o)) here in
        let old : as_one (is_counted since need (get_or said i None)) ≡ as_one (is_counted since need (get_or said n None)) = ap (λ (m : ℕ). as_one (is_counted since need (get_or said m None))) e in
        omega (arith, before, new, old)
  ]

  -- no more clocks tell the time than are counted
  tellers_counted : (said : List (Option Said)) (n : ℕ) → tellers need (speaking since need said n) ≤ counted since need said n
  tellers_counted said zero = omega arith
  tellers_counted said (suc n) = one (get_or said n None) (tellers_counted said n)
    where
      last : (b : Bool) (x y : ℕ) → x ≤ y → cond b (suc x) x ≤ 1 + y
      last true x y h = omega (arith, h)
      last false x y h = omega (arith, h)

      two : (k : Said) (b : Bool) → tellers need (speaking since need said n) ≤ counted since need said n → tellers need (cond b (record { clock = n; time = k.time } ∷ speaking since need said n) (speaking since need said n)) ≤ (cond b 1 0 + counted since need said n)
      two k false h = omega (arith, h)
      two k true h = last (nat_le need k.time && not (has_told n need (speaking since need said n))) (tellers need (speaking since need said n)) (counted since need said n) h

      one : (o : Option Said) → tellers need (speaking since need said n) ≤ counted since need said n → tellers need (with_said since need n o (speaking since need said n)) ≤ (cond (is_counted since need o) 1 0 + counted since need said n)
      one None h = omega (arith, h)
      one (Some k) h = two k (is_counted since need (Some k)) h

pub few_counted : (since need : ℕ) (said : List (Option Said)) → counted since need said (length said) ≤ length said
few_counted since need said = counted_few since need said (length said)

-- ---- too few are counted

counted_earlier : (since then t : ℕ) (o : Option Said) → since ≤ then → is_counted then t o ≡ true → is_counted since t o ≡ true
counted_earlier since then t None le h = absurd cc
counted_earlier since then t (Some k) le h =
    let both = and_parts (nat_lt then k.number) (nat_le t k.time) h in
    let less : nat_lt since k.number ≡ true = earlier since then k.number le both.0 in
    rw (less, both.1) refl
  where
    earlier : (a b n : ℕ) → a ≤ b → nat_lt b n ≡ true → nat_lt a n ≡ true
    earlier a b n h k = grind (arith, nat_tests)

max_same : (a : ℕ) → max a a ≡ a
max_same a = grind arith

few_tell : (k : Sayings) (past : List Stamp) (f : ℕ) → FitsTable k past → k.since ≤ (k.heard - f) → tellers k.need (voices f past) ≤ counted k.since k.need k.said (length k.said)
few_tell k past f fits low =
    let same = max_same k.need in
    let all = tellers_within k.need k.need (voices f past) (speaking k.since k.need k.said (length k.said)) (λ c told.
    told_all k.since k.need k.said c k.need
    ∙ counted_earlier k.since (k.heard - f) (max k.need k.need) (get_or k.said c None) low (sym (told_all (k.heard - f) k.need k.said c k.need) ∙ same_voices k past f c k.need fits ∙ ap (λ (t : ℕ). has_told c t (voices f past)) same ∙ told)) in
    let most = tellers_counted k.since k.need k.said (length k.said) in
    omega (arith, all, most)

times : (m n k : ℕ) → m ≤ n → m * k ≤ n * k
times m n k h = grind arith

next : (n k : ℕ) → suc n * k ≡ n * k + k
next n k = grind arith

-- a time below the need raises nothing
low_time : (rule : Rule) (m need t : ℕ) → 0 < rule.step → need ≤ (m / rule.step * rule.step + rule.step + rule.bound) → t < need → behind rule (Some t) ≤ m
low_time rule m need t some le less = whole (t - rule.bound) m rule.step some (elim (cases_lt t rule.bound) [
  | inl l ↦ inl (omega (arith, l))
  | inr g ↦ inr (omega (arith, le, less, g))
])
  where
    whole : (d m k : ℕ) → 0 < k → (d ≡ 0) ⊎ (d < m / k * k + k) → d / k * k ≤ m
    whole d m k some (inl e) = let under = div-mul-le_self d k in omega (arith, under, e)
    whole d m k some (inr l) = elim (cases_lt (m / k) (d / k)) [
      | inl more ↦
          let under = div-mul-le_self d k in
          let at_least = times (suc (m / k)) (d / k) k (omega (arith, more)) in
          let is = next (m / k) k in
          absurd (omega (arith, under, at_least, is, l))
      | inr within ↦
          let under = div-mul-le_self m k in
          let at_most = times (d / k) (m / k) k within in
          omega (arith, under, at_most)
    ]

pub behind_low : (rule : Rule) (m : ℕ) (k : Sayings) (past : List Stamp) → 0 < rule.step → FitsTable k past → k.since ≤ (k.heard - rule.forget) → k.need ≤ (m / rule.step * rule.step + rule.step + rule.bound) → counted k.since k.need k.said (length k.said) < rule.agree → behind rule (agreed rule.agree (voices rule.forget past)) ≤ m
behind_low rule m k past step fits since need few = one (agreed rule.agree (voices rule.forget past)) refl
  where
    one : (o : Option ℕ) → agreed rule.agree (voices rule.forget past) ≡ o → behind rule o ≤ m
    one None is = omega arith
    one (Some t) is = elim (cases_lt t k.need) [
      | inl less ↦ low_time rule m k.need t step need less
      | inr from ↦
          let speak = voices rule.forget past in
          let enough = agreed_passes rule.agree speak t is in
          let earlier = tellers_within t k.need speak speak (λ c told. told_earlier c t k.need speak from told) in
          let at_most = few_tell k past rule.forget fits since in
          absurd (omega (arith, enough, earlier, at_most, few))
    ]

-- ---- a look

module _ (rule : Rule) (agree : 0 < rule.agree) (step : 0 < rule.step) (m need : ℕ) (low : need ≤ (m / rule.step * rule.step + rule.step + rule.bound)) (ahead speak : List Stamp) (is : (c t : ℕ) → has_told c t ahead ≡ has_told c (max need t) speak) where
  largest : (a b : ℕ) → a ≤ b → max a b ≡ b
  largest a b h = grind arith

  first : (a b : ℕ) → a ≤ max a b
  first a b = grind arith

  second : (a b : ℕ) → b ≤ max a b
  second a b = grind arith

  -- as many tell a time in what was gathered
  pub tellers_up : (t : ℕ) → need ≤ t → tellers t speak ≤ tellers t ahead
  tellers_up t h = tellers_within t t speak ahead (λ c told. is c t ∙ ap (λ (u : ℕ). has_told c u speak) (largest need t h) ∙ told)

  tellers_down : (t : ℕ) → tellers t ahead ≤ tellers (max need t) speak
  tellers_down t = tellers_within t (max need t) ahead speak (λ c told. sym (is c t) ∙ told)

  ahead_some : (a : ℕ) → agreed rule.agree ahead ≡ Some a → agreed rule.agree speak ≡ Some a
  ahead_some a e =
      let enough = agreed_passes rule.agree ahead a e in
      let down = tellers_down a in
      let found = agreed_from rule.agree ahead (max need a) agree (omega (arith, enough, down, tellers_up (max need a) (first need a))) in
      let same : Some found.0 ≡ Some a = sym found.1 ∙ e in
      let it : found.0 ≡ a = some_same found.0 a same in
      let le = second need a in
      let top : max need a ≡ a = omega (arith, it, le, found.2) in
      let here : tellers (max need a) speak ≡ tellers a speak = ap (λ (t : ℕ). tellers t speak) top in
      agreed_is rule.agree speak a agree (omega (arith, enough, down, here)) (λ u told. elim (cases_lt u need) [
        | inl less ↦ let from = first need a in omega (arith, less, from, top)
        | inr from ↦
            let up = tellers_up u from in
            let more = agreed_from rule.agree ahead u agree (omega (arith, told, up)) in
            let is_it : more.0 ≡ a = some_same more.0 a (sym more.1 ∙ e) in
            omega (arith, is_it, more.2)
      ])
    where
      some_same : (x y : ℕ) → Some x ≡ Some y → x ≡ y
      some_same x y e = cc

  none_ahead : agreed rule.agree ahead ≡ None → behind rule (agreed rule.agree speak) ≤ m
  none_ahead e = one (agreed rule.agree speak) refl
    where
      one : (o : Option ℕ) → agreed rule.agree speak ≡ o → behind rule o ≤ m
      one None k = omega arith
      one (Some t) k = elim (cases_lt t need) [
        | inl less ↦ low_time rule m need t step low less
        | inr from ↦
            let enough = agreed_passes rule.agree speak t k in
            let up = tellers_up t from in
            let found = agreed_from rule.agree ahead t agree (omega (arith, enough, up)) in
            absurd (clash found.0 (sym found.1 ∙ e))
      ]
        where
          clash : (x : ℕ) → Some x ≡ None → ⊥
          clash x e = absurd cc

  by_case : (o : Option ℕ) → agreed rule.agree ahead ≡ o → (behind rule o ≤ m → behind rule (agreed rule.agree speak) ≤ m) × (m < behind rule o → behind rule o ≡ behind rule (agreed rule.agree speak))
  by_case None e = (λ h. none_ahead e, λ h. absurd (omega (arith, h)))
  by_case (Some a) e =
      let same : behind rule (agreed rule.agree speak) ≡ behind rule (Some a) = ap (behind rule) (ahead_some a e) in
      (λ h. omega (arith, h, same), λ h. sym same)

  pub looked_low : behind rule (agreed rule.agree ahead) ≤ m → behind rule (agreed rule.agree speak) ≤ m
  looked_low h = (by_case (agreed rule.agree ahead) refl).0 h

  pub looked_high : m < behind rule (agreed rule.agree ahead) → behind rule (agreed rule.agree ahead) ≡ behind rule (agreed rule.agree speak)
  looked_high h = (by_case (agreed rule.agree ahead) refl).1 h

-- ---- what is answered

pub mark_stays : (rule : Rule) (past : List Stamp) (s : Stamp) (m : ℕ) → m ≡ mark_after rule past → behind rule (agreed rule.agree (voices rule.forget (s ∷ past))) ≤ m → m ≡ mark_after rule (s ∷ past)
mark_stays rule past s m is le = not_more m (mark_after rule past) (behind rule (agreed rule.agree (voices rule.forget (s ∷ past)))) is le
  where
    not_more : (m a b : ℕ) → m ≡ a → b ≤ m → m ≡ max a b
    not_more m a b is le = grind arith

pub mark_goes : (rule : Rule) (past : List Stamp) (s : Stamp) (m : ℕ) → m ≡ mark_after rule past → m < behind rule (agreed rule.agree (voices rule.forget (s ∷ past))) → behind rule (agreed rule.agree (voices rule.forget (s ∷ past))) ≡ mark_after rule (s ∷ past)
mark_goes rule past s m is less = more m (mark_after rule past) (behind rule (agreed rule.agree (voices rule.forget (s ∷ past)))) is less
  where
    more : (m a b : ℕ) → m ≡ a → m < b → b ≡ max a b
    more m a b is less = grind arith

pub none_raised : (rule : Rule) (past : List Stamp) (s : Stamp) → mark_after rule past ≡ mark_after rule (s ∷ past) → None ≡ raised_by rule past s
none_raised rule past s is = let no = same (mark_after rule past) (mark_after rule (s ∷ past)) is in rw no refl
  where
    same : (a b : ℕ) → a ≡ b → nat_lt a b ≡ false
    same a b h = grind (arith, nat_tests)

pub one_raised : (rule : Rule) (past : List Stamp) (s : Stamp) (m : ℕ) → mark_after rule past < m → m ≡ mark_after rule (s ∷ past) → Some m ≡ raised_by rule past s
one_raised rule past s m less is =
    let yes = over (mark_after rule past) (mark_after rule (s ∷ past)) (omega (arith, less, is)) in
    rw yes (ap (λ (n : ℕ). Some n) is)
  where
    over : (a b : ℕ) → a < b → nat_lt a b ≡ true
    over a b h = grind (arith, nat_tests)

-- ---- a watermark of others

pub noted_over : (a b m n : ℕ) → a ≡ b → a < m → n ≡ max b m → m ≡ n
noted_over a b m n is less e = grind arith

pub noted_under : (a b m n : ℕ) → a ≡ b → m ≤ a → n ≡ max b m → a ≡ n
noted_under a b m n is le e = grind arith

-- which clocks are counted is of no account
pub fits_alike : (k l : Sayings) (past : List Stamp) → l.said ≡ k.said → l.heard ≡ k.heard → FitsTable k past → FitsTable l past
fits_alike k l past said heard fits = record {
  heard = heard ∙ fits.heard;
  said = λ c. ap (λ (os : List (Option Said)). get_or os c None) said ∙ fits.said c;
}

-- ---- how many speak

-- a clock in front of those before it is one more
counted_first : (since : ℕ) (said : List (Option Said)) (n : ℕ) → tellers 0 (speaking since 0 said n) ≡ counted since 0 said n
counted_first since said zero = refl
counted_first since said (suc n) = one (get_or said n None) (counted_first since said n)
  where
    itself : (m : ℕ) → nat_lt m m ≡ false
    itself m = grind (arith, nat_tests)

    least : (m : ℕ) → nat_le 0 m ≡ true
    least m = grind (arith, nat_tests)

    unheard_yet : has_told n 0 (speaking since 0 said n) ≡ false
    unheard_yet = told_speaking since 0 said n 0 n ∙ ap (λ b. b && is_counted since 0 (get_or said n None)) (itself n)

    two : (k : Said) (b : Bool) → tellers 0 (speaking since 0 said n) ≡ counted since 0 said n → tellers 0 (cond b (record { clock = n; time = k.time } ∷ speaking since 0 said n) (speaking since 0 said n)) ≡ cond b 1 0 + counted since 0 said n
    two k false h = omega (arith, h)
    two k true h =
        let new : (nat_le 0 k.time && not (has_told n 0 (speaking since 0 said n))) ≡ true = λ i. least k.time i && not (unheard_yet i) in
        let first : tellers 0 (record { clock = n; time = k.time } ∷ speaking since 0 said n) ≡ suc (tellers 0 (speaking since 0 said n)) = ap (λ b. cond b (suc (tellers 0 (speaking since 0 said n))) (tellers 0 (speaking since 0 said n))) new in
        omega (arith, first, h)

    one : (o : Option Said) → tellers 0 (speaking since 0 said n) ≡ counted since 0 said n → tellers 0 (with_said since 0 n o (speaking since 0 said n)) ≡ cond (is_counted since 0 o) 1 0 + counted since 0 said n
    one None h = omega (arith, h)
    one (Some k) h = two k (is_counted since 0 (Some k)) h

pub voices_counted : (k : Sayings) (past : List Stamp) (f : ℕ) → FitsTable k past → counted (k.heard - f) 0 k.said (length k.said) ≡ tellers 0 (voices f past)
voices_counted k past f fits =
    let all = speaking (k.heard - f) 0 k.said (length k.said) in
    let same : (c : ℕ) → has_told c 0 all ≡ has_told c 0 (voices f past) = λ c. same_voices (record k { need = 0 }) past f c 0 (record { heard = fits.heard; said = fits.said }) in
    let up = tellers_within 0 0 all (voices f past) (λ c told. sym (same c) ∙ told) in
    let down = tellers_within 0 0 (voices f past) all (λ c told. same c ∙ told) in
    let is = counted_first (k.heard - f) k.said (length k.said) in
    omega (arith, up, down, is)
