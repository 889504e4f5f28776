use Rattle.wsm_live_run.specs.Turns.{taken_by}
use Rattle.wsm_live_run.proofs.begin.live_run.Goals as goal

pub returns-clause-behind : goal.returns-clause-behind
returns-clause-behind c = c.new.ensures.behind (taken_by c.args.source c.args.clocks c.args.verified) c.in_ok-lines.ensures
