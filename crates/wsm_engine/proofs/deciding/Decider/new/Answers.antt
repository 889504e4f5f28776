use Rattle.std.proofs.Common.{[], sym, subst}
use Rattle.wsm_admission.specs.Admission.{Fits, State}
use Rattle.wsm_admission.proofs.FittedHistory.{opened_fits}
use Rattle.wsm_engine.specs.Counts.{with_counts}
use Rattle.wsm_engine.proofs.deciding.Decider.new.Goals as goal

pub returns-clause-fits : goal.returns-clause-fits
returns-clause-fits c = λ shape. subst (λ (s : State). Fits shape c.args.schema.now (with_counts s 0 0) []) (sym c.new.ensures.opened) (opened_fits c.args.clock shape c.args.schema.now)
