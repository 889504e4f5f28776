-- The law of order, for each shape and mode: accumulating and retracting with any triggers; discarding where no pane
-- fires early, and in sessions none late either.
use Rattle.std.proofs.Common.{◌≡◌, refl, sym, subst}
use Rattle.wsm_record.specs.declared.words.Mode.{Mode}
use Rattle.wsm_record.specs.declared.words.Mode.TheVariants.{Discarding, Accumulating, Retracting}
use Rattle.wsm_windows.specs.declared.window.Shape.{Shape}
use Rattle.wsm_windows.specs.declared.window.Shape.TheVariants.{Fixed, Sliding, Session}
use Rattle.wsm_windows.specs.Windows.{IsShape}
use Rattle.wsm_admission.specs.Clock.{IsWithinLimits}
use Rattle.wsm_semantics.specs.Query.{Query}
use Rattle.wsm_semantics.specs.Order.{IsOrderFree, IgnoresOrder, OrderLaw}
use Rattle.wsm_semantics.proofs.Assigned.{IsAssigned}
use Rattle.wsm_semantics.proofs.OnTimeOrder.{order_law, FiresAll, fires_all}
use Rattle.wsm_semantics.proofs.DiscardingOrder.{fires_unshown}
use Rattle.wsm_semantics.proofs.DiscardingSessions.{sessions_fire_unshown}

module _ (q : Query) (ok : IsShape q.shape) (within : IsWithinLimits q.clock) (ignores : IgnoresOrder q) where
  by_shape : (mode : Mode) (shape : Shape) → q.mode ≡ mode → q.shape ≡ shape → IsOrderFree mode shape q.early q.late → OrderLaw q
  by_shape Accumulating shape mode is ends = order_law q ok (fires_all q (subst FiresAll (sym mode) tt) ok) ignores
  by_shape Retracting shape mode is ends = order_law q ok (fires_all q (subst FiresAll (sym mode) tt) ok) ignores
  by_shape Discarding (Fixed size) mode is ends = order_law q ok (fires_unshown q within.lateness_from ends (subst IsAssigned (sym is) tt) mode ok) ignores
  by_shape Discarding (Sliding size period) mode is ends = order_law q ok (fires_unshown q within.lateness_from ends (subst IsAssigned (sym is) tt) mode ok) ignores
  by_shape Discarding (Session gap) mode is ends = order_law q ok (sessions_fire_unshown q ok gap is mode ends.0 ends.1) ignores

  -- in another order, each rise fires the same on time, with the same rows
  pub same_in_any_order : IsOrderFree q.mode q.shape q.early q.late → OrderLaw q
  same_in_any_order = by_shape q.mode q.shape refl refl
