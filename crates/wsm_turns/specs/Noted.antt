-- A watermark that is told without the clocks, as one that stands among rows.
use Rattle.std.specs.Prelude.{ℕ, ◌+◌, max, List, [], map, Option, Some, None, option_map}
use Rattle.wsm_watermarks.specs.Agreement.{mark_after}
use Rattle.wsm_watermarks.specs.Held.{Went, last_mark, left, let_go}
use Rattle.wsm_turns.specs.declared.clocks.Clocks.{Clocks}
use Rattle.wsm_turns.specs.declared.waiting.Waiting.{Waiting}
use Rattle.wsm_turns.specs.Numbered.{Numbered}
use Rattle.wsm_turns.specs.Turns.{Kept, numbered}
use Rattle.wsm_turns.specs.Waits.{Hear}

-- behind such a watermark the clocks tell only greater ones
abbrev pub raised : ℕ → Clocks → Clocks
raised mark c = record c { rule = record c.rule { start = max c.rule.start mark } }

-- what waits and isn't ahead of it goes in front of it, each record behind the watermark that its time alone would raise
abbrev pub let_go_to : Clocks → Kept → ℕ → ℕ → Went Numbered
let_go_to c k mark top = let gone = let_go c.rule 0 top k.told k.waits in
    record { out = gone; mark = max (last_mark k.told gone) mark; held = left (top + 0) k.waits }

abbrev pub noted_by : Option Clocks → Kept → ℕ → Went Numbered
noted_by None k mark = record { out = []; mark = k.told; held = k.waits }
noted_by (Some c) k mark = let_go_to (raised mark c) k mark (mark_after (raised mark c).rule k.stamps)

-- note was taken of it at the line of a number: what goes in front of it was taken, and the rest waits
pub record Notes (clocks : Option Clocks) (count : ℕ) (k : Kept) (new : Option Waiting) (Took : List Numbered → Type 0) (mark number : ℕ) : Type 0 where
  pub hears : Hear (option_map (raised mark) clocks) count new k.stamps (noted_by clocks k mark).mark (noted_by clocks k mark).held
  pub took : Took (map (numbered number) (noted_by clocks k mark).out)
