-- What holds of the watermark that clocks agree on.
use Rattle.std.specs.Prelude.{◌≡◌, ℕ, ◌+◌, ◌-◌, ◌<◌, ◌≤◌, max, not, Bool, false, List, [], ◌∷◌, length, map, nat_eq, take, Some}
use Rattle.std.specs.List.{AllByRecursion, filter}
use Rattle.wsm_watermarks.specs.declared.rule.Rule.{Rule}
use Rattle.wsm_watermarks.specs.declared.stamp.Stamp.{Stamp}
use Rattle.wsm_watermarks.specs.Agreement.{behind, latest, mark_after, raised_by, tellers, times, voices}

-- a stamp, and whether it is wrong
pub record Told : Type 0 where
  pub stamp : Stamp
  pub wrong : Bool

abbrev pub stamps : List Told → List Stamp
stamps told = map (λ s. s.stamp) told

-- of each clock its last stamp
abbrev pub last_told : List Told → List Told
last_told [] = []
last_told (s ∷ told) = s ∷ filter (λ q. not (nat_eq q.stamp.clock s.stamp.clock)) (last_told told)

-- how many clocks are wrong: those that speak by a wrong stamp
abbrev pub wrong_now : ℕ → List Told → ℕ
wrong_now forget told = length (filter (λ s. s.wrong) (last_told (take forget told)))

-- at each moment so far fewer clocks than so many are wrong
abbrev pub AreFewWrong : ℕ → ℕ → List Told → Type 0
AreFewWrong most forget [] = Unit {0}
AreFewWrong most forget (s ∷ told) = (wrong_now forget (s ∷ told) < most) × AreFewWrong most forget told

-- each stamp that isn't wrong has a time of at most so much
abbrev pub AreRightTo : ℕ → List Told → Type 0
AreRightTo time told = AllByRecursion (λ s. s.wrong ≡ false → s.stamp.time ≤ time) told

-- while fewer clocks are wrong at a time than have to agree, whichever they are and whatever they tell, the watermark stays behind
-- the right stamps by the bound, or where it began
abbrev pub Tolerates : Rule → Type 0
Tolerates rule =
    (told : List Told) → AreFewWrong rule.agree rule.forget told → (time : ℕ) → AreRightTo time told
    → mark_after rule (stamps told) ≤ max rule.start (time - rule.bound)

-- the watermark after a stamp isn't past its time, where that is at most the bound behind the right stamps so far
abbrev pub StaysBehind : Rule → Type 0
StaysBehind rule =
    (told : List Told) → AreFewWrong rule.agree rule.forget told → (time : ℕ) → AreRightTo time told
    → (s : Stamp) → time ≤ s.time + rule.bound → rule.start ≤ s.time → mark_after rule (s ∷ stamps told) ≤ s.time

-- where as many clocks as have to agree speak of a time, or a later one, the watermark is at least the one that follows that time
abbrev pub Progresses : Rule → Type 0
Progresses rule = (past : List Stamp) (t : ℕ) → rule.agree ≤ tellers t (voices rule.forget past) → behind rule (Some t) ≤ mark_after rule past

-- the watermark never falls; one that is told is that after the stamp, and greater than all before it
pub record Rises (rule : Rule) (past : List Stamp) (s : Stamp) : Type 0 where
  pub never_falls : mark_after rule past ≤ mark_after rule (s ∷ past)
  pub told : (m : ℕ) → raised_by rule past s ≡ Some m → (mark_after rule past < m) × (m ≡ mark_after rule (s ∷ past))

-- the watermark follows the latest time so far
abbrev pub IsPlain : Rule → Type 0
IsPlain rule = (past : List Stamp) → mark_after rule past ≡ max rule.start (behind rule (latest (times past)))
