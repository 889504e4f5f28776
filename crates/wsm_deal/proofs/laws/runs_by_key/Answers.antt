use Rattle.wsm_deal.proofs.PartRuns.{runs_alike, verdicts_alike}
use Rattle.wsm_deal.proofs.laws.runs_by_key.Goals as goal

pub returns-clause-verdicts : goal.returns-clause-verdicts
returns-clause-verdicts c = λ s some q all part before row room its. verdicts_alike s some q all part before row room its

pub returns-clause-rows : goal.returns-clause-rows
returns-clause-rows c = λ s some q all ignores panes part before row room. runs_alike s some q all part ignores panes before row room
