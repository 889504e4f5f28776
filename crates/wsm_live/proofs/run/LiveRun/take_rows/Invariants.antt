use Rattle.std.proofs.Common.{◌≡◌, length}
use Rattle.wsm_live.specs.Kept.{read_lines}
use Rattle.wsm_live.proofs.RunLemmas.{TakenTo}
use Rattle.wsm_live.proofs.run.LiveRun.take_rows.Given as goal

-- the lines of the rows so far were taken
abbrev pub invariant-loop-end : goal.invariant-loop-end
invariant-loop-end g l = record {
  taken : TakenTo g.T.LineTaker.turn g.T.LineTaker.stands (read_lines l.fn.self.longest l.rows) (read_lines l.fn.self.longest l.rest) l.fn.self l.self l.fn.self.told.items l.self.told.items;
  longest : l.self.longest ≡ l.fn.self.longest;
}

abbrev pub decreases-loop-end : goal.decreases-loop-end
decreases-loop-end g l = length l.rest
