use Rattle.std.proofs.Common.{◌≡◌, Some, refl, ap, sym, ◌∙◌}
use Rattle.std.specs.FinMap as map
use Rattle.wsm_windows.specs.Places.{at}
use Rattle.wsm_semantics.specs.Summaries.{joined}
use Rattle.wsm_slots.specs.Panes.{CanJoin, CanRecord, taking}
use Rattle.std.proofs.lemmas.Option.{same_Some}
use Rattle.wsm_list.proofs.Wide.{joined_wide, more_wide}
use Rattle.wsm_list.proofs.joining.enter_joined.Goals as goal
use Rattle.wsm_list.proofs.joining.enter_joined.Goals.{After-take-other}

-- the second of the panes that were taken out
second : (c : After-take-other) → map.get (map.remove c.args.table.now.panes (at c.args.key c.args.first)) (at c.args.key c.args.second) ≡ Some c.take-other.result
second c = rw (← c.at-first.ensures, ← c.at-second.ensures) (ap (λ m. map.get m c.at-second.result) (sym c.take-pane.ensures.panes) ∙ c.take-other.ensures.pane)

-- and the first
first : (c : After-take-other) → map.get c.args.table.now.panes (at c.args.key c.args.first) ≡ Some c.take-pane.result
first c = rw (← c.at-first.ensures) c.take-pane.ensures.pane

can : (c : After-take-other) → CanJoin c.args.kinds.now c.take-pane.result c.take-other.result × CanRecord c.args.kinds.now c.args.values.now (joined (taking c.args.kinds.now c.args.values.now) c.take-pane.result c.take-other.result)
can c = c.requires.can.joins _ _ (first c) (second c)

pub take-pane-requires : goal.take-pane-requires
take-pane-requires c = rw c.at-first.ensures c.requires.can.here

pub take-other-requires : goal.take-other-requires
take-other-requires c = rw (c.take-pane.ensures.panes, c.at-first.ensures, c.at-second.ensures) c.requires.can.there

pub join-requires : goal.join-requires
join-requires c = (can (goal.at.join-requires c).After-take-other).0

pub record-requires-clause-room : goal.record-requires-clause-room
record-requires-clause-room c = rw (c.join.ensures c.args.values.now) (can (goal.at.record-requires-clause-room c).After-take-other).1

pub put-requires-clause-holds : goal.put-requires-clause-holds
put-requires-clause-holds c =
    let kinds = c.args.kinds.now in
    let values = c.args.values.now in
    let widths = c.args.table.now.widths in
    let both = can (goal.at.put-requires-clause-holds c).After-take-other in
    let other = rw c.take-pane.ensures.keeps.widths at c.take-other.ensures.wide in
    let wide = joined_wide kinds values widths c.take-pane.result c.take-other.result both.0 c.take-pane.ensures.wide other in
    rw (c.take-other.ensures.keeps.widths, c.take-pane.ensures.keeps.widths, c.record.ensures, c.join.ensures values) (more_wide kinds values widths c.requires.values.types c.requires.values.wide (Some (joined (taking kinds values) c.take-pane.result c.take-other.result)) wide)

pub put-requires-clause-admits : goal.put-requires-clause-admits
put-requires-clause-admits c = rw (c.take-other.ensures.panes, c.take-other.ensures.keeps.room, c.take-pane.ensures.panes, c.take-pane.ensures.keeps.room, c.at-first.ensures, c.at-second.ensures) c.requires.can.fits

pub returns-clause-panes : goal.returns-clause-panes
returns-clause-panes c v w h k =
    let s = (goal.at.returns-clause-panes c).After-take-other in
    let here : c.take-pane.result ≡ v = same_Some _ _ (sym (first s) ∙ h) in
    let there : c.take-other.result ≡ w = same_Some _ _ (sym (second s) ∙ k) in
    rw (c.put.ensures.panes, c.take-other.ensures.panes, c.take-pane.ensures.panes, c.at-first.ensures, c.at-second.ensures, c.record.ensures, c.join.ensures c.args.values.now, here, there) refl

pub returns-clause-keeps : goal.returns-clause-keeps
returns-clause-keeps c =
    let put = c.put.ensures.room in
    record {
      room = ap (λ r. r.0) put ∙ c.take-other.ensures.keeps.room ∙ c.take-pane.ensures.keeps.room;
      widths = ap (λ r. r.1) put ∙ c.take-other.ensures.keeps.widths ∙ c.take-pane.ensures.keeps.widths;
    }
