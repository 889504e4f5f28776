use Rattle.std.proofs.Common.{◌≡◌, List, [], length, map}
use Rattle.wsm_watermarks.specs.Held.{Item}
use Rattle.wsm_watermarks.proofs.Letting.{GoesOn}
use Rattle.wsm_turns.specs.Numbered.{Numbered}
use Rattle.wsm_turns.specs.Turns.{numbered}
use Rattle.wsm_turns.proofs.waiting.let_go.Given as goal

-- what was handed on, and what is left to go, is all that goes
abbrev pub invariant-loop-row : goal.invariant-loop-row
invariant-loop-row g l = record {
  room : l.held.room ≡ l.fn.held.room;
  took : (gone : List (Item Numbered)) × GoesOn l.marks.rule l.ahead l.marks.mark l.last l.mark l.fn.held.rows l.held.rows [] gone
      × g.T.Taker.took l.fn.taker l.taker (map (numbered l.number) gone);
}

abbrev pub decreases-loop-row : goal.decreases-loop-row
decreases-loop-row g l = length l.held.rows
