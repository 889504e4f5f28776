use Rattle.std.proofs.Common.{map, take}
use Rattle.wsm_turns.proofs.waiting.hand_rows.Given as goal

-- the rows so far were handed on
abbrev pub invariant-loop-row : goal.invariant-loop-row
invariant-loop-row g l = g.T.Taker.took l.fn.taker l.taker (map (λ r. r.row) (take l.row-index l.rows))
