use Rattle.std.proofs.Common.{◌∙◌, refl}
use Rattle.wsm_keyed_run.proofs.turns.KeyedTurns.of.Goals as goal

pub returns-clause-fits : goal.returns-clause-fits
returns-clause-fits c =
    let r = c.new.ensures in
    record {
      reads = record { names = r.names; most = r.most; block = r.block ∙ c.block-block.ensures.block };
      counts = record { lawful = c.requires.lawful; panes = c.requires.panes; parts = c.requires.fits _; faults = refl };
    }
