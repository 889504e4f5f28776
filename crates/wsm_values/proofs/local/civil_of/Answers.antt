use Rattle.std.proofs.Common.{rules}
use Rattle.jiff_core.specs.DateTime.{civil_nanos}
use Rattle.wsm_values.proofs.local.civil_of.Goals as goal

pub returns-clause-value : goal.returns-clause-value
unfolding civil_nanos
returns-clause-value c = search rules
