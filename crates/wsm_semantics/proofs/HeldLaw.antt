-- What is held and written is bounded, for windows of any shape, any mode, triggers and form.
use Rattle.std.proofs.Common.{◌≤◌, length, arith, unsigned_abs}
use Rattle.wsm_windows.specs.Windows.{IsShape}
use Rattle.wsm_admission.specs.Clock.{IsWithinLimits, admitted_count}
use Rattle.wsm_admission.proofs.Taken.{admitted_count-le}
use Rattle.wsm_semantics.specs.Query.{Query, SessionsByEvent}
use Rattle.wsm_semantics.specs.Panes.{held}
use Rattle.wsm_semantics.specs.HeldBounds.{HeldBounded}
use Rattle.wsm_semantics.proofs.Lists.{all-each}
use Rattle.wsm_semantics.proofs.HeldPanes.{IsHeldPane, held_panes}
use Rattle.wsm_semantics.proofs.HeldBound as bound
use Rattle.wsm_semantics.proofs.HeldContents as contents
use Rattle.wsm_semantics.proofs.RowsBound as rows

pub held_bounded : (q : Query) → IsShape q.shape → SessionsByEvent q → IsWithinLimits q.clock → HeldBounded q
held_bounded q ok timely within = record {
  of_key = λ past key. bound.held_at_key q ok timely within past key;
  panes = λ past. bound.held_bounded q ok timely within past;
  records = λ past.
      all-each (IsHeldPane q past) (λ e. length e.1 ≤ unsigned_abs q.clock.records) (held q past)
      (λ e pane. let most = pane.count in let limit : admitted_count q.clock q.shape q.declared past ≤ unsigned_abs q.clock.records = admitted_count-le q.clock q.shape q.declared past in omega arith)
      (held_panes q ok timely past);
  in_sessions = λ past gap is. contents.contents_limited q gap is ok timely past;
  fired = λ past e. rows.firings_bounded q ok timely within past e;
  rows = λ past e. rows.rows_bounded q ok timely within past e;
}
