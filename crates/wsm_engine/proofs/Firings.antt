-- What fires on a turn of a verified program can: FIRE may read it, and there is room for its rows and
-- its steps.
use Rattle.std.proofs.Common.{◌≡◌, ◌≢◌, ℕ, suc, ◌+◌, ◌*◌, ◌≤◌, true, cond, List, [], ◌∷◌, map, length, ℤ, pos, Option, Some, None, Ok, Result, IsTrue, sym, ap, subst, ◌∙◌, arith}
use Rattle.std.proofs.lemmas.List.Sums.{sum_by-cons}
use Rattle.std.specs.Prelude.{sum}
use Rattle.std.specs.List.{AllByRecursion, cons_option}
use Rattle.wsm_record.specs.declared.event.Value.{Value}
use Rattle.wsm_record.specs.declared.words.Mode.{Mode}
use Rattle.wsm_record.specs.declared.words.Mode.TheVariants.{Discarding, Accumulating, Retracting}
use Rattle.wsm_record.specs.Event.{Event, Record, Watermark}
use Rattle.wsm_windows.specs.declared.window.PaneKind.{PaneKind}
use Rattle.wsm_windows.specs.declared.window.Shape.{Shape}
use Rattle.wsm_windows.specs.declared.window.Shape.TheVariants.{Fixed, Sliding, Session}
use Rattle.wsm_windows.specs.Windows.{IsPlaced, IsTime}
use Rattle.wsm_windows.specs.declared.place.Place.{Place}
use Rattle.wsm_windows.specs.Places.{window_of}
use Rattle.wsm_admission.specs.declared.verdict.Admitted.{Admitted}
use Rattle.wsm_admission.specs.declared.verdict.Refusal.{Refusal}
use Rattle.wsm_admission.specs.Admission.{answer}
use Rattle.wsm_semantics.specs.Query.{Query, Datum, mark, verdict_on}
use Rattle.wsm_semantics.specs.HeldBounds.{most_panes, most_rows, rows_of_panes}
use Rattle.wsm_semantics.specs.Kept.{kept}
use Rattle.wsm_semantics.specs.Summaries.{Pane, Fired, fired_of, fires, fired_by_record, fired_by_watermark, kind_by_record, kind_by_watermark}
use Rattle.wsm_semantics.specs.Replay.{datum}
use Rattle.wsm_semantics.specs.Steps as steps
use Rattle.wsm_semantics.specs.Steps.{answer_to, fired_by, run, step_fires}
use Rattle.wsm_semantics.proofs.Lists.{all-each}
use Rattle.wsm_semantics.proofs.Each.{map-all}
use Rattle.wsm_semantics.proofs.MachineSteps.{decision-fits}
use Rattle.wsm_semantics.proofs.KeptPanes as panes_kept
use Rattle.wsm_program.specs.declared.instr.SectionId.TheVariants.{Fire}
use Rattle.wsm_program.specs.Program.{Program, is_program}
use Rattle.wsm_program.specs.declared.program.Costs.{Costs}
use Rattle.wsm_rules.specs.Rules.{judge}
use Rattle.wsm_rules.proofs.Lawful.{lawful as program_lawful, short}
use Rattle.wsm_machine.specs.Meaning.{query_of, plan_of, selects, pane_inputs, fire_run, fire_steps, pane_cost_by}
use Rattle.wsm_machine.specs.Sound.{MayFire}
use Rattle.wsm_machine.specs.Step.{setting}
use Rattle.wsm_machine.proofs.Runs.{steps_at_most}
use Rattle.wsm_machine.proofs.SoundFirings.{step_fires_may}
use Rattle.wsm_machine.proofs.CountedSessions.{sessions_by_event}
use Rattle.wsm_machine.proofs.Histories as histories
use Rattle.wsm_firing.specs.Firing.{CanFire}
use Rattle.wsm_firing.specs.ByRecord.{CanFireByRecord, fires_by_record}
use Rattle.wsm_firing.specs.ByWatermark.{CanFireByWatermark, fires_by_watermark}
use Rattle.wsm_panes.specs.Held.{session_entered}
use Rattle.wsm_engine.proofs.Limits.{panes_few}
use Rattle.wsm_engine.proofs.HeldByHistory.{Panes, kept_panes, kept_within}
use Rattle.wsm_engine.proofs.RecordRoom.{now, now_within, timely}
use Rattle.wsm_engine.proofs.RecordsByPlan.{fires_same}
use Rattle.wsm_engine.proofs.Inside.{inside_is}

-- more panes have no fewer rows, and each has one
rows_more : (m : Mode) (a b : ℕ) → a ≤ b → rows_of_panes m a ≤ rows_of_panes m b
rows_more Discarding a b h = h
rows_more Accumulating a b h = h
rows_more Retracting a b h = omega (arith, h)

pub rows_some : (m : Mode) (n : ℕ) → n ≤ rows_of_panes m n
rows_some Discarding n = omega arith
rows_some Accumulating n = omega arith
rows_some Retracting n = omega arith

-- a record has no session where windows lie on a grid alone
no_session : (sh : Shape) (d : Datum) (es : Panes) → session_entered sh d es ≡ None → (gap : ℤ) → sh ≢ Session gap
no_session (Fixed size) d es none gap is = absurd (cc)
no_session (Sliding size period) d es none gap is = absurd (cc)
no_session (Session other) d es none gap is = absurd (cc)

-- no more fire than there are panes
length-fires : (q : Query) (kind : Place → Pane (List Value) → Option PaneKind) (es : Panes) → length (fires q kind es) ≤ length es
length-fires q kind [] = omega arith
length-fires q kind (e ∷ es) =
    let rest : length (fires q kind es) ≤ length es = length-fires q kind es in
    elim (kind e.0 e.1) as (λ o. length (cons_option (fired_of q.mode e.0 e.1 o) (fires q kind es)) ≤ suc (length es)) [
      | None ↦ omega (arith, rest)
      | Some k ↦ omega (arith, rest)
    ]

module _ (p : Program) (costs : Costs) (judged : judge p ≡ Ok costs) (lawful : IsTrue (is_program p)) where
  cost_few : (f : Fired (List Value)) → MayFire p f → pane_cost_by p f ≤ 1000
  cost_few f h =
      let steps : (fire_run p f.place.key f.count h.held).steps ≤ length p.fire = steps_at_most (setting p Fire (pane_inputs f.place.key f.count h.held)) in
      let few : length p.fire ≤ 1000 = short p Fire lawful in
      let all : (fire_run p f.place.key f.count h.held).steps ≤ 1000 = omega (arith, steps, few) in
      subst (λ o. fire_steps p f.place.key f.count o ≤ 1000) (sym h.folded) all

  costs_few : (fs : List (Fired (List Value))) → AllByRecursion (MayFire p) fs → sum (map (pane_cost_by p) fs) ≤ 1000 * length fs
  costs_few [] h = omega arith
  costs_few (f ∷ fs) h = let one = cost_few f h.0 in let rest = costs_few fs h.1 in let all = sum_by-cons (λ (n : ℕ). n) (pane_cost_by p f) (map (pane_cost_by p) fs) in omega (arith, one, rest, all)

  -- so many firings as panes can be held can be fired
  can_fire : (capacity rows : ℕ) (fs : List (Fired (List Value))) → AllByRecursion (MayFire p) fs → length fs ≤ most_panes (query_of p) → rows + rows_of_panes p.header.mode (length fs) ≤ capacity → CanFire p capacity rows fs
  can_fire capacity rows fs may few room =
      let most : most_panes (query_of p) ≤ 100000 = panes_few p costs judged lawful in
      let steps = costs_few fs may in
      record { each = may; room = room; fired = omega (arith, few, most); steps = omega (arith, steps, few, most) }

  module _ (past : List Event) where
    abbrev q : Query
    q = query_of p

    abbrev ran : steps.State (List Value)
    ran = run (plan_of p) (query_of p) past

    abbrev es : Panes
    es = kept_panes p costs judged lawful past

    panes_are : ran.panes ≡ es
    panes_are = (histories.fits p costs judged lawful past).panes

    marked : ran.admission.mark ≡ mark q past
    marked = let there = histories.fits p costs judged lawful past in there.admission.mark ∙ ap (λ c. mark (record q { clock = c }) past) there.clock

    answered : (e : Event) (v : Option Refusal) → verdict_on q past e ≡ v → answer_to (plan_of p) q ran e ≡ answer (mark q past) (mark q (e ∷ past)) e v
    answered e v is =
        let there = histories.fits p costs judged lawful past in
        decision-fits q ran.admission past e there.clock there.admission ∙ ap (answer (mark q past) (mark q (e ∷ past)) e) is

    may : (e : Event) → AllByRecursion (MayFire p) (step_fires (plan_of p) q ran e)
    may e = step_fires_may p costs judged lawful ran (histories.sound p costs judged lawful past) e

    -- ---- a watermark

    module _ (o : Option ℕ) (t : ℤ) (taken : verdict_on (query_of p) past (Watermark o t) ≡ None) where
      abbrev next : ℤ
      next = mark (query_of p) (Watermark o t ∷ past)

      by_watermark : step_fires (plan_of p) q ran (Watermark o t) ≡ fires_by_watermark p (mark q past) next es
      by_watermark =
          ap (λ (a : Result Admitted Refusal). fired_by (plan_of p) q a (Watermark o t) ran) (answered (Watermark o t) None taken)
          ∙ ap (λ (ps : Panes). fired_by_watermark (plan_of p) q (mark q past) next ps) panes_are

      placed : AllByRecursion (λ e. IsPlaced (window_of e.0)) es
      placed =
          map-all (λ e. IsPlaced (window_of e.0)) _ (kept q past)
          (all-each (panes_kept.IsKeptPane q past) (λ e. IsPlaced (window_of e.0)) (kept q past) (λ e h. h.pane.place) (panes_kept.kept_panes q (program_lawful p lawful).shape (sessions_by_event p lawful) past))

      -- the panes that a watermark comes to can be fired
      pub can_by_watermark : (capacity : ℕ) → most_rows (query_of p) ≤ capacity → CanFireByWatermark p capacity (mark (query_of p) past) (mark (query_of p) (Watermark o t ∷ past)) (kept_panes p costs judged lawful past)
      can_by_watermark capacity room =
          let within : length es ≤ most_panes q = kept_within p costs judged lawful past in
          let few : length (fires_by_watermark p (mark q past) next es) ≤ length es = length-fires q (kind_by_watermark q (mark q past) next) es in
          record {
            placed = placed;
            can = can_fire capacity 0 _ (subst (AllByRecursion (MayFire p)) by_watermark (may (Watermark o t))) (omega (arith, within, few)) (omega (arith, room, rows_more p.header.mode (length (fires_by_watermark p (mark q past) next es)) (most_panes q) (omega (arith, within, few))));
          }

    -- ---- a selected record

    module _ (k : ℕ) (t : ℤ) (vs : List Value) (taken : verdict_on (query_of p) past (Record (Some k) t vs) ≡ None) (chosen : selects p k vs ≡ true) where
      abbrev after : Panes
      after = now p costs judged lawful past k t vs taken

      by_record : step_fires (plan_of p) q ran (Record (Some k) t vs) ≡ fires_by_record p (mark q past) k t after
      by_record =
          ap (λ (a : Result Admitted Refusal). fired_by (plan_of p) q a (Record (Some k) t vs) ran) (answered (Record (Some k) t vs) None taken)
          ∙ (λ i. cond (chosen i) (fired_by_record (plan_of p) q (marked i) (datum 0 (marked i) k t vs) (panes_are i)) [])
          ∙ sym (fires_same p (mark q past) k t vs es)

      -- the panes that it entered can be fired, behind so many rows
      pub can_by_record : (capacity rows : ℕ) → IsTime (mark (query_of p) past) → rows + rows_of_panes p.header.mode (length (now p costs judged lawful past k t vs taken)) ≤ capacity →
          CanFireByRecord p capacity rows (mark (query_of p) past) k t (session_entered p.header.shape (datum 0 (pos 0) k t []) (kept_panes p costs judged lawful past)) (now p costs judged lawful past k t vs taken)
      can_by_record capacity rows a_time room =
          let within : length after ≤ most_panes q = now_within p costs judged lawful past k t vs taken chosen in
          let few : length (fires_by_record p (mark q past) k t after) ≤ length after = length-fires q (kind_by_record q (mark q past) (datum 0 (mark q past) k t [])) after in
          record {
            entered = record {
              timely = timely p costs judged lawful past k t vs taken;
              marked = a_time;
              grid = no_session p.header.shape (datum 0 (pos 0) k t []) es;
              among = inside_is p costs judged lawful past k t vs taken chosen;
            };
            can = can_fire capacity rows _ (subst (AllByRecursion (MayFire p)) by_record (may (Record (Some k) t vs))) (omega (arith, within, few)) (omega (arith, room, rows_more p.header.mode (length (fires_by_record p (mark q past) k t after)) (length after) few));
          }
