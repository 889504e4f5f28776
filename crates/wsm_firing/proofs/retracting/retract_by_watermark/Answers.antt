use Rattle.std.proofs.Common.{◌+◌, ◌≤◌, ◌++◌, List, IsTrue, refl, sym, ap, subst, ◌∙◌, length, SFits, w64, to_z-of_z, arith}
use Rattle.wsm_record.specs.declared.cell.Cell.{Cell}
use Rattle.wsm_windows.specs.declared.place.Place.{Place}
use Rattle.wsm_semantics.specs.Summaries.{withdrawn_by_watermark}
use Rattle.wsm_machine.specs.Meaning.{query_of}
use Rattle.wsm_program.specs.Program.{Program, is_program}
use Rattle.wsm_panes.specs.Held.{entries_of}
use Rattle.wsm_firing.specs.Tally.{nothing}
use Rattle.wsm_firing.specs.Firing.{CanAdd}
use Rattle.wsm_firing.specs.ByWatermark.{fires_by_watermark}
use Rattle.wsm_firing.proofs.Headers.{lawful_firing, retracts_by}
use Rattle.wsm_firing.proofs.RowsByMode.{can_write, can_withdraw, can_write_behind, retracted_when}
use Rattle.wsm_firing.proofs.retracting.retract_by_watermark.Goals as goal
use Rattle.wsm_firing.proofs.retracting.retract_by_watermark.Goals.{After-retracts}

pub retract_due-requires-clause-room : goal.retract_due-requires-clause-room
retract_due-requires-clause-room c =
    let old : SFits w64 c.args.old = c.ranges.old in let new : SFits w64 c.args.new = c.ranges.new in
    let fs = fires_by_watermark c.args.verified.now c.args.old c.args.new (entries_of c.args.held.now) in
    let after = (goal.at.retract_due-requires-clause-room c).After-retracts in
    let retract = sym (retracts_by after.retracts.ensures after.header.ensures.header after.program.ensures.program) ∙ c.if-retracts.true in
    let room : length c.args.rows.now.written + length fs ≤ c.args.rows.now.room =
    omega (arith, can_withdraw c.args.verified.now c.args.rows.now.room 0 fs c.requires.can.can retract, ap length c.requires.empty) in
    simp to_z-of_z room

pub returns-then-retracts-clause-rows : goal.returns-then-retracts-clause-rows
returns-then-retracts-clause-rows c = λ ws is.
    let old : SFits w64 c.args.old = c.ranges.old in let new : SFits w64 c.args.new = c.ranges.new in
    let after = (goal.at.returns-then-retracts-clause-rows c).After-retracts in
    let retract = sym (retracts_by after.retracts.ensures after.header.ensures.header after.program.ensures.program) ∙ c.if-retracts.true in
    let put = simp to_z-of_z at c.retract_due.ensures.rows in
    let mode = c.args.verified.now.header.mode in
    let more : List (Place × List Cell) = withdrawn_by_watermark (query_of c.args.verified.now) c.args.old c.args.new (entries_of c.args.held.now) in
    put.rows ws (is ∙ retracted_when mode retract ws) ∙ sym (retracted_when mode retract (ws ++ more))

pub returns-then-retracts-clause-can : goal.returns-then-retracts-clause-can
returns-then-retracts-clause-can c =
    let old : SFits w64 c.args.old = c.ranges.old in let new : SFits w64 c.args.new = c.ranges.new in
    let p = c.args.verified.now in let fs = fires_by_watermark p c.args.old c.args.new (entries_of c.args.held.now) in
    let after = (goal.at.returns-then-retracts-clause-can c).After-retracts in
    let retract = sym (retracts_by after.retracts.ensures after.header.ensures.header after.program.ensures.program) ∙ c.if-retracts.true in
    let put = simp to_z-of_z at c.retract_due.ensures.rows in
    subst (λ n. CanAdd p n (length c.retract_due.new.rows.written) nothing fs) (sym c.retract_due.ensures.room)
    (can_write_behind p c.args.rows.now.room 0 fs c.requires.can.can retract (length c.retract_due.new.rows.written) (omega (arith, put.few, ap length c.requires.empty)))

pub returns-else-retracts-clause-can : goal.returns-else-retracts-clause-can
returns-else-retracts-clause-can c =
    let p = c.args.verified.now in let fs = fires_by_watermark p c.args.old c.args.new (entries_of c.args.held.now) in
    subst (λ n. CanAdd p c.args.rows.now.room n nothing fs) (sym (ap length c.requires.empty)) (can_write p c.args.rows.now.room 0 fs c.requires.can.can)

pub returns-then-retracts-clause-form : goal.returns-then-retracts-clause-form
returns-then-retracts-clause-form c = (lawful_firing c.args.verified.now _ refl (subst (λ (p : Program). IsTrue (is_program p)) c.program.ensures.program c.header.ensures.lawful)).parts.form

pub returns-else-retracts-clause-form : goal.returns-else-retracts-clause-form
returns-else-retracts-clause-form c = (lawful_firing c.args.verified.now _ refl (subst (λ (p : Program). IsTrue (is_program p)) c.program.ensures.program c.header.ensures.lawful)).parts.form
