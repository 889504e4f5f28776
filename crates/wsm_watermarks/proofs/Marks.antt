-- The watermark never falls, and comes as far as clocks agree.
use Rattle.std.proofs.Common.{◌≡◌, ◌≤◌, ◌<◌, ◌-◌, ◌*◌, ◌/◌, ℕ, zero, suc, max, cond, Bool, true, false, List, [], ◌∷◌, Some, None, refl, sym, ap, arith}
use Rattle.std.proofs.lemmas.Bool.{ltb-true}
use Rattle.std.proofs.lemmas.Nat.{le-div}
use Rattle.std.proofs.Math.Nat.{div-mul-le_self}
use Rattle.std.specs.Prelude.{nat_lt}
use Rattle.wsm_watermarks.specs.declared.rule.Rule.{Rule}
use Rattle.wsm_watermarks.specs.declared.stamp.Stamp.{Stamp}
use Rattle.wsm_watermarks.specs.Agreement.{agreed, behind, mark_after, raised_by, tellers, voices}
use Rattle.wsm_watermarks.specs.Laws.{Progresses}
use Rattle.wsm_watermarks.proofs.Agreed.{agreed_from}

-- ---- steps

-- down to a multiple, in order
floor_rises : (a b k : ℕ) → 0 < k → a ≤ b → a / k * k ≤ b / k * k
floor_rises a b k some le =
    let whole = div-mul-le_self a k in
    let fits = le-div (a / k) b k some (omega (arith, whole, le)) in
    multiplied (a / k) (b / k) k fits
  where
    multiplied : (m n k : ℕ) → m ≤ n → m * k ≤ n * k
    multiplied m n k h = grind arith

pub behind_rises : (rule : Rule) (t u : ℕ) → 0 < rule.step → t ≤ u → behind rule (Some t) ≤ behind rule (Some u)
behind_rises rule t u some le = floor_rises (t - rule.bound) (u - rule.bound) rule.step some (omega (arith, le))

-- it stays behind by the bound
pub behind_stays : (rule : Rule) (t lim : ℕ) → t - rule.bound ≤ lim → behind rule (Some t) ≤ lim
behind_stays rule t lim le = let whole = div-mul-le_self (t - rule.bound) rule.step in omega (arith, whole, le)

-- ---- one stamp more

-- it never falls
pub mark_rises : (rule : Rule) (s : Stamp) (past : List Stamp) → mark_after rule past ≤ mark_after rule (s ∷ past)
mark_rises rule s past = first (mark_after rule past) (behind rule (agreed rule.agree (voices rule.forget (s ∷ past))))
  where
    first : (a b : ℕ) → a ≤ max a b
    first a b = grind arith

pub from_start : (rule : Rule) (past : List Stamp) → rule.start ≤ mark_after rule past
from_start rule [] = omega arith
from_start rule (s ∷ past) =
    let before = from_start rule past in
    let rises = mark_rises rule s past in
    omega (arith, before, rises)

-- once so many clocks tell a time
pub progress : (rule : Rule) → 0 < rule.agree → 0 < rule.step → Progresses rule
progress rule agree step [] t enough = absurd (none rule.forget enough)
  where
    none : (n : ℕ) → rule.agree ≤ tellers t (voices n []) → ⊥
    none zero h = omega (arith, h, agree)
    none (suc n) h = omega (arith, h, agree)
progress rule agree step (s ∷ past) t enough =
    let speak = voices rule.forget (s ∷ past) in
    let found = agreed_from rule.agree speak t agree enough in
    let more = behind_rises rule t found.0 step found.2 in
    let is : behind rule (agreed rule.agree speak) ≡ behind rule (Some found.0) = ap (behind rule) found.1 in
    second (mark_after rule past) (behind rule (agreed rule.agree speak)) (behind rule (Some t)) (omega (arith, more, is))
  where
    second : (a b c : ℕ) → c ≤ b → c ≤ max a b
    second a b c h = grind arith

-- where the rule begins at a later watermark
pub mark_noted : (rule : Rule) (m : ℕ) (past : List Stamp) → mark_after (record rule { start = max rule.start m }) past ≡ max (mark_after rule past) m
mark_noted rule m [] = refl
mark_noted rule m (s ∷ past) = three (mark_after rule past) m (behind rule (agreed rule.agree (voices rule.forget (s ∷ past)))) (mark_after (record rule { start = max rule.start m }) past) (mark_noted rule m past)
  where
    three : (a m b n : ℕ) → n ≡ max a m → max n b ≡ max (max a b) m
    three a m b n is = grind arith

-- what is told is the watermark after the stamp, and more than the one before it
pub raised_rises : (rule : Rule) (past : List Stamp) (s : Stamp) (m : ℕ) → raised_by rule past s ≡ Some m → (mark_after rule past < m) × (m ≡ mark_after rule (s ∷ past))
raised_rises rule past s m is = one (nat_lt (mark_after rule past) (mark_after rule (s ∷ past))) refl is
  where
    one : (b : Bool) → nat_lt (mark_after rule past) (mark_after rule (s ∷ past)) ≡ b → cond b (Some (mark_after rule (s ∷ past))) None ≡ Some m → (mark_after rule past < m) × (m ≡ mark_after rule (s ∷ past))
    one false is_not e = absurd cc
    one true over e =
        let it : mark_after rule (s ∷ past) ≡ m = cc in
        let less = ltb-true (mark_after rule past) (mark_after rule (s ∷ past)) over in
        (omega (arith, it, less), sym it)
