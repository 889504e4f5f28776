use Rattle.std.proofs.Common.{rules}
use Rattle.wsm_windows.proofs.Members.{exactly, rising}
use Rattle.wsm_windows.proofs.assignment.windows_of.Goals as goal

pub returns-in-Fixed-clause-each : goal.returns-in-Fixed-clause-each
returns-in-Fixed-clause-each c = exactly c.args.shape c.args.time _ c.requires.shape (search rules)

pub returns-in-Fixed-clause-rising : goal.returns-in-Fixed-clause-rising
returns-in-Fixed-clause-rising c = rising c.args.shape c.args.time c.on_grid.result c.requires.shape (search rules)

pub returns-in-Sliding-clause-each : goal.returns-in-Sliding-clause-each
returns-in-Sliding-clause-each c = exactly c.args.shape c.args.time _ c.requires.shape (search rules)

pub returns-in-Sliding-clause-rising : goal.returns-in-Sliding-clause-rising
returns-in-Sliding-clause-rising c = rising c.args.shape c.args.time c.on_grid-in-Sliding.result c.requires.shape (search rules)

pub returns-in-Session-clause-each : goal.returns-in-Session-clause-each
returns-in-Session-clause-each c = exactly c.args.shape c.args.time c.alone.result c.requires.shape (search rules)
