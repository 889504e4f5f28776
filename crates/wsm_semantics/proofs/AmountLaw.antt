-- The law of amounts.
use Rattle.std.proofs.Common.{◌≡◌, ℕ}
use Rattle.wsm_record.specs.declared.words.Mode.TheVariants.{Discarding}
use Rattle.wsm_record.specs.declared.words.Form.TheVariants.{Panes}
use Rattle.wsm_windows.specs.Windows.{IsShape}
use Rattle.wsm_semantics.specs.Query.{Query, SessionsByEvent}
use Rattle.wsm_semantics.specs.Amounts.{Amount, AddsAmounts, AmountsAddUp}
use Rattle.wsm_semantics.proofs.AmountWindows.{no_session, of_window, of_span}
use Rattle.wsm_semantics.proofs.AmountSpans.{of_spread}
use Rattle.wsm_semantics.proofs.AmountSessions.{of_sessions}

pub amounts_add_up : (q : Query) → IsShape q.shape → SessionsByEvent q → q.mode ≡ Discarding → q.form ≡ Panes → (c : ℕ) (amount : Amount) → AddsAmounts q c amount → AmountsAddUp q c amount
amounts_add_up q ok timely discarding panes c amount adds = record {
  windows = λ none past key u w grid. of_window q ok timely discarding panes c amount adds (no_session q.shape none) past key u w grid;
  spread = λ none past key from until gone. of_spread q ok timely discarding panes c amount adds (no_session q.shape none) past key from until gone;
  spans = λ size is past key i j gone. of_span q ok timely size is discarding panes c amount adds past key i j gone;
  sessions = λ gap is past key from until cut_from cut_until gone. of_sessions q ok timely discarding panes c amount adds gap is past key from until cut_from cut_until gone;
}
