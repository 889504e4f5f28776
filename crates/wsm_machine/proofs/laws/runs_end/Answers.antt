use Rattle.wsm_machine.proofs.CompleteRuns.{completes, steps_within}
use Rattle.wsm_machine.proofs.laws.runs_end.Goals as goal

pub returns-clause-done : goal.returns-clause-done
returns-clause-done c p costs id inputs judged lawful ranged = (completes p costs judged lawful id inputs ranged).done

pub returns-clause-steps : goal.returns-clause-steps
returns-clause-steps c p costs id inputs judged lawful ranged = steps_within p costs judged lawful id inputs ranged
