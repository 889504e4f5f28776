use Rattle.std.proofs.Common.{◌+◌, ◌≤◌, sym, subst, ◌∙◌, length, arith}
use Rattle.wsm_panes.specs.Held.{entries_of}
use Rattle.wsm_firing.specs.Tally.{nothing}
use Rattle.wsm_firing.specs.Firing.{CanAdd}
use Rattle.wsm_firing.specs.ByRecord.{fires_by_record}
use Rattle.wsm_firing.proofs.Headers.{retracts_by}
use Rattle.wsm_firing.proofs.RowsByMode.{can_write, can_withdraw, can_write_behind}
use Rattle.wsm_firing.proofs.retracting.retract_by_record.Goals as goal
use Rattle.wsm_firing.proofs.retracting.retract_by_record.Goals.{After-retracts}

pub retract_entered-requires-clause-room : goal.retract_entered-requires-clause-room
retract_entered-requires-clause-room c =
    let fs = fires_by_record c.args.verified.now c.args.arrival.mark c.args.arrival.key c.args.arrival.time (entries_of c.args.held.now) in
    let after = (goal.at.retract_entered-requires-clause-room c).After-retracts in
    let retract = sym (retracts_by after.retracts.ensures after.header.ensures.header after.program.ensures.program) ∙ c.if-retracts.true in
    let room : length c.args.rows.now.written + length fs ≤ c.args.rows.now.room = can_withdraw c.args.verified.now c.args.rows.now.room (length c.args.rows.now.written) fs c.requires.can retract in
    room

pub returns-then-retracts-clause-can : goal.returns-then-retracts-clause-can
returns-then-retracts-clause-can c =
    let p = c.args.verified.now in let fs = fires_by_record p c.args.arrival.mark c.args.arrival.key c.args.arrival.time (entries_of c.args.held.now) in
    let after = (goal.at.returns-then-retracts-clause-can c).After-retracts in
    let retract = sym (retracts_by after.retracts.ensures after.header.ensures.header after.program.ensures.program) ∙ c.if-retracts.true in
    let put = c.retract_entered.ensures.rows in
    subst (λ n. CanAdd p n (length c.retract_entered.new.rows.written) nothing fs) (sym c.retract_entered.ensures.room)
    (can_write_behind p c.args.rows.now.room (length c.args.rows.now.written) fs c.requires.can retract (length c.retract_entered.new.rows.written) (omega (arith, put.few)))

pub returns-else-retracts-clause-can : goal.returns-else-retracts-clause-can
returns-else-retracts-clause-can c = can_write c.args.verified.now c.args.rows.now.room (length c.args.rows.now.written) (fires_by_record c.args.verified.now c.args.arrival.mark c.args.arrival.key c.args.arrival.time (entries_of c.args.held.now)) c.requires.can
