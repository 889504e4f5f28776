use Rattle.wsm_semantics.proofs.InvoiceLaw.{invoices}
use Rattle.wsm_rules.proofs.Lawful.{lawful}
use Rattle.wsm_machine.specs.Meaning.{query_of}
use Rattle.wsm_machine.proofs.CountedSessions.{sessions_by_event}
use Rattle.wsm_engine.proofs.DiscardingPanes.{writes_panes}
use Rattle.wsm_engine.proofs.laws.invoice.Goals as goal

pub returns : goal.returns
returns c p whole discarding = invoices (query_of p) (lawful p whole).shape (sessions_by_event p whole) discarding (writes_panes p whole discarding)
