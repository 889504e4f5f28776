use Rattle.wsm_semantics.proofs.InvoiceLaw.{invoices}
use Rattle.wsm_semantics.proofs.laws.invoice.Goals as goal

pub returns : goal.returns
returns c = invoices
