use Rattle.wsm_watermarks.proofs.Marks.{mark_rises, progress, raised_rises}
use Rattle.wsm_watermarks.proofs.laws.goes_on.Goals as goal

pub returns-clause-progress : goal.returns-clause-progress
returns-clause-progress c = progress

pub returns-clause-rises : goal.returns-clause-rises
returns-clause-rises c rule past s = record { never_falls = mark_rises rule s past; told = λ m is. raised_rises rule past s m is }
