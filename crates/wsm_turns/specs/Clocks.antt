-- The clocks of a log, and the records that wait for them.
use Rattle.std.specs.Prelude.{◌≡◌, ◌⊎◌, ◌+◌, ◌-◌, ◌<◌, ◌≤◌, ◌<ℤ◌, ◌||◌, if◌then◌else◌, nat_eq, nat_lt, ℕ, ℤ, pos, Option, Some, None, IfSome, IsSomeAnd, ⊤, unwrap_or}
use Rattle.wsm_watermarks.specs.declared.clocks.TheConstants.{MOST_AGREEING}
use Rattle.wsm_watermarks.specs.declared.held.TheConstants.{MOST_HELD}
use Rattle.wsm_watermarks.specs.declared.rule.Rule.{Rule}
use Rattle.wsm_watermarks.specs.declared.table.TheConstants.{MOST_CLOCKS}
use Rattle.wsm_turns.specs.declared.clocks.Clocks.{Clocks}

-- the rule by which these numbers have a watermark go: none where no clock or too many have to agree, or a step is 0
abbrev pub rule_by : (agree bound step forget start : ℕ) → Option Rule
rule_by agree bound step forget start =
    if nat_eq agree 0 || nat_lt MOST_AGREEING agree || nat_eq step 0 then None
    else Some (record { agree = agree; forget = forget; bound = bound; step = step; start = start })

-- some clocks have to agree, and watermarks go in steps
pub record IsRule (rule : Rule) : Type 0 where
  pub some : 0 < rule.agree
  pub few : rule.agree ≤ MOST_AGREEING
  pub step : 0 < rule.step

-- watermarks go by a rule, and there is memory for those that wait and for the clocks that lines name
pub record IsClocks (c : Clocks) : Type 0 where
  pub rule : IsRule c.rule
  pub room : c.room ≤ MOST_HELD
  pub named : IfSome c.named (λ most. most ≤ MOST_CLOCKS)

-- there are none by these numbers: no rule, a SKEW by which a record that waited could be refused for it, too many that may wait, or
-- too many that lines may name
abbrev pub HaveNoClocks : (agree bound step forget room : ℕ) → Option ℕ → ℕ → ℤ → Type 0
HaveNoClocks agree bound step forget room named start skew =
    (rule_by agree bound step forget start ≡ None) ⊎ (skew <ℤ pos (bound + step - 1)) ⊎ (MOST_HELD < room) ⊎ IsSomeAnd named (λ most. MOST_CLOCKS < most)

abbrev pub AreClocks : Option Clocks → Type 0
AreClocks None = ⊤
AreClocks (Some c) = IsClocks c

-- how many clocks lines may name, where they name them
abbrev pub named_in : Option Clocks → Option ℕ
named_in None = None
named_in (Some c) = c.named

-- how many clocks there may be, with so many keys
abbrev pub count_in : Option Clocks → ℕ → ℕ
count_in clocks keys = unwrap_or (named_in clocks) keys
