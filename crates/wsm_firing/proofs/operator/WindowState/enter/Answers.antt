use Rattle.std.proofs.Common.{rules, ◌≡◌, ◌+◌, ◌≤◌, ℕ, length, arith, [], List, ℤ, sym, ap, ◌∙◌, subst, SFits, w64, to_z, of_z, to_z-of_z}
use Rattle.wsm_record.specs.declared.event.Value.{Value}
use Rattle.wsm_record.specs.declared.words.Mode.{Mode}
use Rattle.wsm_semantics.specs.HeldBounds.{rows_of_panes}
use Rattle.wsm_semantics.specs.Replay.{datum}
use Rattle.wsm_semantics.specs.Retractions.{retracted_in}
use Rattle.wsm_semantics.specs.Summaries.{Plan, entered, withdrawn_entering}
use Rattle.wsm_program.specs.Program.{Program, Header}
use Rattle.wsm_program.specs.View.{header_of}
use Rattle.wsm_panes.specs.Held.{entries_of}
use Rattle.wsm_slots.specs.Panes.{taking}
use Rattle.wsm_firing.specs.Streams.{IsTold, standing_rows}
use Rattle.wsm_firing.proofs.StandingRows.{Panes}
use Rattle.wsm_firing.proofs.operator.WindowState.enter.Goals as goal

pub returns-clause-told : goal.returns-clause-told
returns-clause-told c = λ relation told.
    let held = c.args.self.now.held in
    let mark : ℤ = to_z w64 (of_z w64 c.args.arrival.mark) in let time : ℤ = to_z w64 (of_z w64 c.args.arrival.time) in let lateness : ℤ = to_z w64 (of_z w64 c.header-header.result.now.clock.lateness) in
    let plan : Plan (List Value) = taking c.deref.result.now c.args.values.now in
    let t = c.lose_joined.new.streams in
    let put_in : entries_of c.enter.new.self ≡ entered plan held.shape lateness (datum 0 mark c.args.arrival.key time []) (entries_of held) = c.enter.ensures.panes in
    subst (λ (fs : Panes). IsTold t relation (standing_rows fs)) (sym put_in) (c.lose_joined.ensures.told plan lateness mark relation told)

pub returns-clause-rows : goal.returns-clause-rows
returns-clause-rows c = λ plan mark values.
    let time : SFits w64 c.args.arrival.time = search rules in
    let header : header_of c.header-header.result.now ≡ c.args.verified.now.header = c.header-header.ensures.header ∙ ap (λ (p : Program). p.header) c.program.ensures.program in
    let es = entries_of c.args.self.now.held in
    let rows = simp to_z-of_z at c.retract_joined.ensures.rows plan mark values in
    rows ∙ ap (λ (h : Header). retracted_in h.mode (withdrawn_entering plan c.args.self.now.held.shape (datum 0 mark c.args.arrival.key c.args.arrival.time values) es)) header

pub returns-clause-few : goal.returns-clause-few
returns-clause-few c = λ most few_before few.
    let held = c.args.self.now.held in let es = entries_of held in
    let mark : ℤ = to_z w64 (of_z w64 c.args.arrival.mark) in let time : ℤ = to_z w64 (of_z w64 c.args.arrival.time) in let lateness : ℤ = to_z w64 (of_z w64 c.header-header.result.now.clock.lateness) in
    let plan : Plan (List Value) = taking c.deref.result.now c.args.values.now in
    let mode : c.header-header.result.now.mode ≡ c.args.verified.now.header.mode = ap (λ (h : Header). h.mode) (c.header-header.ensures.header ∙ ap (λ (p : Program). p.header) c.program.ensures.program) in
    let as_many : length (entries_of c.enter.new.self) ≡ length (entered plan held.shape lateness (datum 0 mark c.args.arrival.key time []) es) = ap length c.enter.ensures.panes in
    subst (λ (x : Mode × ℕ). length c.retract_joined.new.rows.written + rows_of_panes x.0 x.1 ≤ rows_of_panes x.0 most) (λ i. (mode i, sym as_many i))
    (c.retract_joined.ensures.few plan lateness mark most few_before (omega (arith, few, as_many)))
