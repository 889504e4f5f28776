-- What is kept for the watermark.
use Rattle.std.specs.Prelude.{◌≡◌, ℕ, List, Option}
use Rattle.wsm_watermarks.specs.declared.rule.Rule.{Rule}
use Rattle.wsm_watermarks.specs.declared.stamp.Stamp.{Stamp}
use Rattle.wsm_watermarks.specs.declared.table.Said.{Said}
use Rattle.wsm_watermarks.specs.Agreement.{mark_after}
use Rattle.wsm_watermarks.specs.Table.{Sayings, FitsTable}

-- the last stamps of clocks, the rule and the watermark
pub record Marking : Type 0 where
  pub table : Sayings
  pub rule : Rule
  pub mark : ℕ

-- what is kept is the history's
pub record FitsMarks (m : Marking) (past : List Stamp) : Type 0 where
  pub table : FitsTable m.table past
  pub mark : m.mark ≡ mark_after m.rule past

-- a watermark that came so far by a rule, with these last stamps of clocks, of so many that came; none is counted
abbrev pub come_to : List (Option Said) → ℕ → ℕ → Rule → Marking
come_to said heard mark rule = record { table = record { said = said; heard = heard; since = 0; need = 0 }; rule = rule; mark = mark }
