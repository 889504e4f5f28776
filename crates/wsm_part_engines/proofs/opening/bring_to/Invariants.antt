use Rattle.std.proofs.Common.{◌≡◌}
use Rattle.wsm_engine.specs.Meaning.{Fits}
use Rattle.wsm_part_engines.proofs.Openers.{from_source}
use Rattle.wsm_part_engines.proofs.opening.bring_to.Given as goal

-- the sources that were gone over have their marks
abbrev pub invariant-loop-source : goal.invariant-loop-source
invariant-loop-source l = record {
  program : l.engine.program ≡ l.fn.engine.program;
  start : l.start ≡ l.fn.engine.program.header.clock.start;
  fits : Fits l.engine (from_source l.fn.engine.program.header.clock.start l.marks l.source);
}
