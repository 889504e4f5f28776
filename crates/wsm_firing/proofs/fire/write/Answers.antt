use Rattle.wsm_firing.proofs.fire.write.Goals as goal

pub returns-in-Panes-Some-clause-rows : goal.returns-in-Panes-Some-clause-rows
returns-in-Panes-Some-clause-rows c = rw (c.in-Panes-Some.is-0, c.in-Panes-Some.is-1) c.push_pane.ensures.written
