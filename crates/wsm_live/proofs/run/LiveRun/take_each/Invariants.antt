use Rattle.std.proofs.Common.{◌≡◌, length, map, take}
use Rattle.wsm_journal.specs.Seen.{entry_seen}
use Rattle.wsm_live.specs.Live.{chunk_lines}
use Rattle.wsm_live.proofs.RunLemmas.{TakenTo}
use Rattle.wsm_live.proofs.run.LiveRun.take_each.Given as goal

-- the lines of the chunks so far were taken
abbrev pub invariant-loop-chunk : goal.invariant-loop-chunk
invariant-loop-chunk g l = record {
  taken : TakenTo g.T.LineTaker.turn g.T.LineTaker.stands (chunk_lines l.fn.self.longest (map entry_seen l.chunks)) (chunk_lines l.fn.self.longest (map entry_seen l.left)) l.fn.self l.self l.fn.out.items l.out.items;
  longest : l.self.longest ≡ l.fn.self.longest;
  grows : take (length l.fn.out.items) l.out.items ≡ l.fn.out.items;
}

abbrev pub decreases-loop-chunk : goal.decreases-loop-chunk
decreases-loop-chunk g l = length l.left
