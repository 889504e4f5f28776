-- The laws of amounts and of the invoice where panes retract.
use Rattle.std.proofs.Common.{◌≡◌, ℕ, pos, ◌≤ℤ◌, sym, subst, ◌∙◌}
use Rattle.wsm_record.specs.declared.words.Mode.TheVariants.{Retracting}
use Rattle.wsm_record.specs.declared.words.Form.TheVariants.{Panes}
use Rattle.wsm_windows.specs.Windows.{IsShape}
use Rattle.wsm_semantics.specs.Query.{Query, SessionsByEvent}
use Rattle.wsm_semantics.specs.Amounts.{Amount, AddsAmounts, AmountsAddUp}
use Rattle.wsm_semantics.specs.Deliveries.{once_live}
use Rattle.wsm_semantics.specs.Invoice.{Invoices}
use Rattle.wsm_semantics.proofs.Assigned.{IsAssigned}
use Rattle.wsm_semantics.proofs.AmountWindows.{no_session}
use Rattle.wsm_semantics.proofs.InvoiceLaw.{owed_is_billed}
use Rattle.wsm_amounts.proofs.AssignedAmounts.{of_window, of_span, of_spread}
use Rattle.wsm_amounts.proofs.SessionAmounts.{of_sessions}

pub amounts_add_up : (q : Query) → IsShape q.shape → SessionsByEvent q → pos 0 ≤ℤ q.clock.lateness → q.mode ≡ Retracting → q.form ≡ Panes → (c : ℕ) (amount : Amount) → AddsAmounts q c amount → AmountsAddUp q c amount
amounts_add_up q ok timely low retracting panes c amount adds = record {
  windows = λ none past key u w grid. of_window q ok timely low retracting panes c amount adds (no_session q.shape none) past key u w grid;
  spread = λ none past key from until gone. of_spread q ok timely low retracting panes c amount adds (no_session q.shape none) past key from until gone;
  spans = λ size is past key i j gone. of_span q ok timely low retracting panes c amount adds (subst IsAssigned (sym is) tt) size is past key i j gone;
  sessions = λ gap is past key from until cut_from cut_until gone. of_sessions q ok timely low retracting panes c amount adds gap is past key from until cut_from cut_until gone;
}

pub invoices : (q : Query) → IsShape q.shape → SessionsByEvent q → pos 0 ≤ℤ q.clock.lateness → q.mode ≡ Retracting → q.form ≡ Panes → (c : ℕ) (amount : Amount) → AddsAmounts q c amount → Invoices q c amount
invoices q ok timely low retracting panes c amount adds =
    let law : AmountsAddUp q c amount = amounts_add_up q ok timely low retracting panes c amount adds in
    record {
      spans = λ size is records ds delivered prompt key i j gone. law.spans size is (once_live q ds) key i j gone ∙ owed_is_billed q ok amount key _ _ records ds delivered prompt;
      sessions = λ gap is records ds delivered prompt key from until cut_from cut_until gone. law.sessions gap is (once_live q ds) key from until cut_from cut_until gone ∙ owed_is_billed q ok amount key from until records ds delivered prompt;
    }
