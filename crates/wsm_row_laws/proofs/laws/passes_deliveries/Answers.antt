use Rattle.std.proofs.Common.{◌∙◌, ap}
use Rattle.wsm_doubles.specs.Passing.{TextPassing}
use Rattle.wsm_row_laws.specs.Delivered.{deliveries}
use Rattle.wsm_row_laws.proofs.Delivering.{feeds}
use Rattle.wsm_row_laws.proofs.laws.passes_deliveries.Goals as goal

pub returns : goal.returns
returns c = λ q lines are.
    let same = feeds q lines are in
    record { texts = same; numbers = ap (λ (o : TextPassing). o.passed) same ∙ (c.passes_by_number.ensures.passing q (deliveries lines)).passed }
