use Rattle.wsm_keyed_intake.specs.KeyedLog.{KeyedLog}
use Rattle.wsm_live_run.proofs.begin.keyed_live_run.Goals as goal

pub returns-in-Ok-clause-behind : goal.returns-in-Ok-clause-behind
returns-in-Ok-clause-behind c =
    let g : KeyedLog = record { program = c.args.verified; source = c.args.source; clocks = c.args.clocks; names = c.args.names; most = c.args.most } in
    c.new.ensures.behind g c.in-Ok.ensures.stands
