use Rattle.std.proofs.Common.{◌≤◌, ℕ, List, [], length, map, take}
use Rattle.wsm_watermarks.specs.declared.stamp.Stamp.{Stamp}
use Rattle.wsm_watermarks.specs.Held.{AreByTime}
use Rattle.wsm_turns.specs.declared.clocks.Clocks.{Clocks}
use Rattle.wsm_turns.specs.Waits.{Hears}
use Rattle.wsm_saved_turns.specs.Turns.{row_of}
use Rattle.wsm_saved_turns.proofs.clocks.wait_all.Given as goal

-- the rows so far wait
abbrev pub invariant-loop-row : goal.invariant-loop-row
invariant-loop-row l = (c : Clocks) (count told : ℕ) (stamps : List Stamp) → AreByTime (map row_of l.rows) → length l.rows ≤ c.room → Hears c count l.fn.waiting stamps told [] →
    Hears c count l.waiting stamps told (take l.row-index (map row_of l.rows))
