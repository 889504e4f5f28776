use Rattle.std.proofs.Common.{◌≡◌, ◌++◌, [], true, None, List, refl, sym, ap, subst, ◌∙◌, append-nil, IsTrue}
use Rattle.std.specs.Prelude.{unsigned_abs}
use Rattle.std.specs.List.{AllByRecursion}
use Rattle.wsm_record.specs.declared.event.Value.{Value}
use Rattle.wsm_record.specs.Modes.{may_write}
use Rattle.wsm_semantics.specs.declared.out_row.OutRow.{OutRow}
use Rattle.wsm_semantics.specs.Retractions.{retracted_in}
use Rattle.wsm_semantics.specs.Replay.{datum}
use Rattle.wsm_semantics.specs.Summaries.{Fired, kind_by_record}
use Rattle.wsm_program.specs.Program.{Program, Header, is_program}
use Rattle.wsm_program.specs.View.{header_of}
use Rattle.wsm_machine.specs.Meaning.{plan_of, query_of}
use Rattle.wsm_panes.specs.Held.{entries_of}
use Rattle.wsm_firing.specs.Tally.{nothing}
use Rattle.wsm_firing.specs.Firing.{rows_of, turn_rows}
use Rattle.wsm_firing.specs.ByRecord.{fires_by_record, fires_entered, withdrawn_entered}
use Rattle.wsm_firing.proofs.ByKind.{told_none}
use Rattle.wsm_firing.proofs.Entered.{no_kinds}
use Rattle.wsm_firing.proofs.Headers.{IsLawfulFiring, lawful_firing, zero_count}
use Rattle.wsm_firing.proofs.LeftToFire.{no_rows, no_tally, tally_all}
use Rattle.wsm_firing.proofs.RetractWalk.{Written, withdraws}
use Rattle.wsm_firing.proofs.SameKinds.{none_fires, none_fired}
use Rattle.wsm_firing.proofs.StandingRows.{tells_none}
use Rattle.wsm_firing.proofs.RowsByMode.{turn_is}
use Rattle.wsm_firing.proofs.operator.WindowOperator.fire_by_record.Goals as goal
use Rattle.wsm_firing.proofs.operator.WindowOperator.fire_by_record.Goals.{After-header-header, Then-header-eq0-2}

lawful : (c : After-header-header) → IsLawfulFiring c.args.verified.now.header
lawful c = lawful_firing c.args.verified.now _ refl (subst (λ (p : Program). IsTrue (is_program p)) c.program.ensures.program c.header-header.ensures.lawful)

-- where no count is declared
quiet : (c : Then-header-eq0-2) → AllByRecursion (λ e. kind_by_record {X = List Value} (query_of c.args.verified.now) c.args.arrival.mark (datum 0 c.args.arrival.mark c.args.arrival.key c.args.arrival.time []) e.0 e.1 ≡ None) (entries_of c.args.self.now.state.held)
quiet c =
    let p = c.args.verified.now in let q = query_of p in
    let header : header_of c.header-header.result.now ≡ p.header = c.header-header.ensures.header ∙ ap (λ (p : Program). p.header) c.program.ensures.program in
    let is : IsLawfulFiring (header_of c.header-header.result.now) = lawful_firing c.program.result.now _ c.header-header.ensures.header c.header-header.ensures.lawful in
    let early : q.early ≡ 0 = ap (λ (h : Header). unsigned_abs h.early) (sym header) ∙ zero_count c.header-header.result.now.early is.early c.if-header-eq0.true in
    let late : q.late ≡ 0 = ap (λ (h : Header). unsigned_abs h.late) (sym header) ∙ zero_count c.header-header.result.now.late is.late c.if-header-eq0-2.true in
    no_kinds q c.args.arrival.mark (datum 0 c.args.arrival.mark c.args.arrival.key c.args.arrival.time []) early late (entries_of c.args.self.now.state.held)

none_then : (c : Then-header-eq0-2) → fires_by_record c.args.verified.now c.args.arrival.mark c.args.arrival.key c.args.arrival.time (entries_of c.args.self.now.state.held) ≡ []
none_then c = none_fires (plan_of c.args.verified.now) (query_of c.args.verified.now) _ (entries_of c.args.self.now.state.held) (quiet c)

pub returns-then-header-eq0-2 : goal.returns-then-header-eq0-2
returns-then-header-eq0-2 c =
    let p = c.args.verified.now in let es = entries_of c.args.self.now.state.held in
    let quiet = quiet (goal.at.returns-then-header-eq0-2 c).Then-header-eq0-2 in
    let fs : List (Fired (List Value)) = fires_entered p c.args.arrival es in
    let more : Written = withdrawn_entered p c.args.arrival es in
    let none : fs ≡ [] = none_then (goal.at.returns-then-header-eq0-2 c).Then-header-eq0-2 in
    let nothing_more : more ≡ [] = told_none (plan_of p) (query_of p) withdraws (λ r h. refl) _ es quiet in
    let h : may_write p.header.mode p.header.form ≡ true = (lawful (goal.at.returns-then-header-eq0-2 c).After-header-header).parts.form in
    record {
      panes = sym (none_fired (plan_of p) (query_of p) _ es quiet);
      keeps = record { keys = refl; shape = refl; live = refl; widths = refl };
      tells = tells_none c.args.self.now.state.streams es;
      rows = λ ws is.
          let same : ws ≡ ws ++ more = sym (ap (λ (xs : Written). ws ++ xs) nothing_more ∙ append-nil ws) in
          is ∙ no_rows p (retracted_in p.header.mode ws) fs none ∙ turn_is p h ws fs ∙ ap (λ (xs : Written). turn_rows p xs fs) same;
      room = refl;
      tally = c.none.ensures ∙ no_tally p nothing fs none ∙ tally_all p fs;
    }

pub retract_by_record-requires-clause-can : goal.retract_by_record-requires-clause-can
retract_by_record-requires-clause-can c = c.requires.can.can

pub returns : goal.returns
returns c =
    let p = c.args.verified.now in let es = entries_of c.args.self.now.state.held in
    let fs : List (Fired (List Value)) = fires_entered p c.args.arrival es in
    let h : may_write p.header.mode p.header.form ≡ true = (lawful (goal.at.returns c).After-header-header).parts.form in
    let fired = c.fire_entered.ensures in
    record {
      panes = fired.panes;
      keeps = fired.keeps;
      tells = fired.tells;
      rows = λ ws is.
          let all : Written = ws ++ withdrawn_entered p c.args.arrival es in
          fired.rows ∙ ap (λ (rs : List OutRow). rs ++ rows_of p fs) (c.retract_by_record.ensures.rows ws is) ∙ turn_is p h all fs;
      room = fired.room ∙ c.retract_by_record.ensures.room;
      tally = fired.tally ∙ tally_all p fs;
    }

pub fire_entered-requires-clause-can : goal.fire_entered-requires-clause-can
fire_entered-requires-clause-can c = record { ready = c.requires.ready; can = c.retract_by_record.ensures.can }
