use Rattle.wsm_amounts.proofs.Law.{invoices}
use Rattle.wsm_amounts.proofs.laws.invoice.Goals as goal

pub returns : goal.returns
returns c = invoices
