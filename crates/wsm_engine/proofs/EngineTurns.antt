-- A turn of what an engine keeps fits the history with its event, writes its rows and answers as the
-- meaning does: the relation is read where changes against it are written, and nowhere else.
use Rattle.std.proofs.Common.{◌≡◌, ℕ, ◌+◌, ◌≤◌, ◌++◌, Bool, true, false, ◌&&◌, cond, is_none, List, [], ◌∷◌, map, length, ℤ, pos, ◌≤ℤ◌, Option, Some, None, IsTrue, refl, sym, ap, subst, ◌∙◌, arith}
use Rattle.std.specs.Prelude.{Ok, Err, Result, IfSome, filter_map, sum}
use Rattle.wsm_record.specs.declared.event.Value.{Value}
use Rattle.wsm_record.specs.declared.cell.Cell.{Cell}
use Rattle.wsm_record.specs.declared.words.Form.{Form}
use Rattle.wsm_record.specs.declared.words.Form.TheVariants as form
use Rattle.wsm_record.specs.declared.words.Mode.{Mode}
use Rattle.wsm_record.specs.declared.words.Mode.TheVariants as mode
use Rattle.wsm_record.specs.Event.{Event, Record, Watermark}
use Rattle.wsm_windows.specs.Windows.{IsTime}
use Rattle.wsm_windows.specs.declared.place.Place.{Place}
use Rattle.wsm_admission.specs.declared.clock.Clock.{Clock}
use Rattle.wsm_admission.specs.declared.verdict.Admitted.{Admitted}
use Rattle.wsm_admission.specs.declared.verdict.Admitted.TheVariants as admitted
use Rattle.wsm_admission.specs.declared.verdict.Refusal.{Refusal}
use Rattle.wsm_admission.specs.declared.verdict.Refusal.TheVariants as refusal
use Rattle.wsm_admission.specs.Admission as admission
use Rattle.wsm_admission.specs.Admission.{answer, after}
use Rattle.wsm_semantics.specs.declared.out_row.OutRow.{OutRow}
use Rattle.wsm_semantics.specs.Query.{Datum, Selects, Rises, Nothing, datum, effect_of, mark, raises, verdict_on}
use Rattle.wsm_semantics.specs.Panes.{held}
use Rattle.wsm_semantics.specs.Firings.{firings}
use Rattle.wsm_semantics.specs.Retractions.{retracted_in}
use Rattle.wsm_semantics.specs.Relation.{turn_rows, relation, chosen_rows}
use Rattle.wsm_semantics.specs.Summaries.{Pane, row_of, summary_fired}
use Rattle.wsm_semantics.specs.Steps as steps
use Rattle.wsm_semantics.specs.Steps.{answer_to, panes_after, fired_by, withdrawn_by, relation_after, streamed_by, step, step_fires}
use Rattle.wsm_semantics.proofs.Lists.{length_each}
use Rattle.wsm_semantics.proofs.MachineSteps.{decision-fits}
use Rattle.wsm_semantics.proofs.Steps.{Fits-step, rows-step, fires-step}
use Rattle.wsm_program.specs.Program.{Program, is_program}
use Rattle.wsm_rules.proofs.Lawful.{lawful as program_lawful}
use Rattle.wsm_machine.specs.Meaning.{query_of, plan_of, selects, pane_cost, pane_cost_by, answer_cost}
use Rattle.wsm_machine.proofs.QueryFolds.{plan_lawful, plan_runs}
use Rattle.wsm_machine.proofs.CountedSessions.{sessions_by_event}
use Rattle.wsm_machine.proofs.Costs.{step_cost_is, fired_costs_are}
use Rattle.wsm_panes.specs.Held.{Held, entries_of}
use Rattle.wsm_engine.specs.Operator.{Comes}
use Rattle.wsm_engine.specs.State.{State}
use Rattle.wsm_firing.specs.declared.tally.Tally.{Tally}
use Rattle.wsm_firing.specs.Tally.{greatest, tally_of}
use Rattle.wsm_firing.specs.Streams.{relation_kept}
use Rattle.wsm_engine.specs.Meaning.{reply_to, selects_record, Fits, KeepsRelation, counted, refused_state}
use Rattle.wsm_engine.specs.Turn.{turn, refusal_of, reply_by, selected_by}

-- ---- with another relation

module _ (p : Program) (s : steps.State (List Value)) (r : List (List Cell)) where
  -- the same state, of another relation
  abbrev pub other : steps.State (List Value)
  other = record s { relation = r }

  pub panes_same : (a : Result Admitted Refusal) (e : Event) → panes_after (plan_of p) (query_of p) a e other ≡ panes_after (plan_of p) (query_of p) a e s
  panes_same (Ok admitted.Record) (Record (Some k) t vs) = refl
  panes_same (Ok admitted.Record) (Record None t vs) = refl
  panes_same (Ok admitted.Record) (Watermark source t) = refl
  panes_same (Ok (admitted.Watermark old new)) e = refl
  panes_same (Err x) e = refl

  pub fired_same : (a : Result Admitted Refusal) (e : Event) → fired_by (plan_of p) (query_of p) a e other ≡ fired_by (plan_of p) (query_of p) a e s
  fired_same (Ok admitted.Record) (Record (Some k) t vs) = refl
  fired_same (Ok admitted.Record) (Record None t vs) = refl
  fired_same (Ok admitted.Record) (Watermark source t) = refl
  fired_same (Ok (admitted.Watermark old new)) e = refl
  fired_same (Err x) e = refl

  pub withdrawn_same : (a : Result Admitted Refusal) (e : Event) → withdrawn_by (plan_of p) (query_of p) a e other ≡ withdrawn_by (plan_of p) (query_of p) a e s
  withdrawn_same (Ok admitted.Record) (Record (Some k) t vs) = refl
  withdrawn_same (Ok admitted.Record) (Record None t vs) = refl
  withdrawn_same (Ok admitted.Record) (Watermark source t) = refl
  withdrawn_same (Ok (admitted.Watermark old new)) e = refl
  withdrawn_same (Err x) e = refl

  -- the rows of a form, where its relation is the one that is kept
  pub rows_same : (f : Form) (a : Result Admitted Refusal) (fired : List OutRow) → (KeepsRelation f → s.relation ≡ r) →
      chosen_rows f fired (streamed_by (plan_of p) (query_of p) f a s) ≡ chosen_rows f fired (streamed_by (plan_of p) (query_of p) f a other)
  rows_same form.Panes a fired h = refl
  rows_same form.Istream a fired h = λ i. streamed_by (plan_of p) (query_of p) form.Istream a (record s { relation = h tt i })
  rows_same form.Dstream a fired h = λ i. streamed_by (plan_of p) (query_of p) form.Dstream a (record s { relation = h tt i })
  rows_same form.Rstream (Ok admitted.Record) fired h = refl
  rows_same form.Rstream (Ok (admitted.Watermark old new)) fired h = refl
  rows_same form.Rstream (Err x) fired h = refl

  pub relation_same : (f : Form) (a : Result Admitted Refusal) (now : List (List Cell)) → (KeepsRelation f → s.relation ≡ r) → relation_after (plan_of p) (query_of p) a other ≡ now →
      KeepsRelation f → relation_kept f s.relation (relation_after (plan_of p) (query_of p) a s) ≡ now
  relation_same form.Panes a now h is k = absurd k
  relation_same form.Istream a now h is k = (λ i. relation_after (plan_of p) (query_of p) a (record s { relation = h tt i })) ∙ is
  relation_same form.Dstream a now h is k = (λ i. relation_after (plan_of p) (query_of p) a (record s { relation = h tt i })) ∙ is
  relation_same form.Rstream a now h is k = absurd k

-- ---- what is selected

selects_where : (b : Bool) (d : Datum) → b ≡ selects_record (cond b (Selects d) Nothing)
selects_where true d = refl
selects_where false d = refl

selects_none : (b : Bool) (old new : ℤ) → false ≡ selects_record (cond b (Rises old new) Nothing)
selects_none true old new = refl
selects_none false old new = refl

-- the answer by a verdict says whether a record is selected
selects_by : (p : Program) (past : List Event) (m n : ℤ) (e : Event) (v : Option Refusal) → verdict_on (query_of p) past e ≡ v → selected_by p (answer m n e v) e ≡ selects_record (effect_of (query_of p) past e)
selects_by p past m n (Record None t vs) None is = refl
selects_by p past m n (Record None t vs) (Some r) is = refl
selects_by p past m n (Record (Some k) t vs) None is =
    let d : Datum = datum (length past) (mark (query_of p) past) k t vs in
    selects_where (selects p k vs) d ∙ sym (ap (λ (v : Option Refusal). selects_record (cond (is_none v && selects p k vs) (Selects d) Nothing)) is)
selects_by p past m n (Record (Some k) t vs) (Some r) is =
    let d : Datum = datum (length past) (mark (query_of p) past) k t vs in
    sym (ap (λ (v : Option Refusal). selects_record (cond (is_none v && selects p k vs) (Selects d) Nothing)) is)
selects_by p past m n (Watermark o t) None is = selects_none (raises (query_of p) past (Watermark o t)) (mark (query_of p) past) (mark (query_of p) (Watermark o t ∷ past))
selects_by p past m n (Watermark o t) (Some r) is = selects_none (raises (query_of p) past (Watermark o t)) (mark (query_of p) past) (mark (query_of p) (Watermark o t ∷ past))

-- ---- the turn

module _ (s : State) (whole : IsTrue (is_program s.program)) (past : List Event) (fits : Fits s past) where
  abbrev was : List (List Cell)
  was = relation (query_of s.program) past

  abbrev told : steps.State (List Value)
  told = record s.machine { relation = relation (query_of s.program) past }

  -- what is kept, with the relation of the history
  pub told_fits : steps.Fits (plan_of s.program) (query_of s.program) told past
  told_fits = record { clock = fits.clock; admission = fits.admission; panes = fits.panes; relation = refl; fed = fits.fed; fired = fits.fired }

  module _ (e : Event) where
    abbrev answered : Result Admitted Refusal
    answered = answer_to (plan_of s.program) (query_of s.program) s.machine e

    next : steps.Fits (plan_of s.program) (query_of s.program) (step (plan_of s.program) (query_of s.program) told e) (e ∷ past)
    next = let is = program_lawful s.program whole in Fits-step (plan_of s.program) (plan_lawful s.program) (query_of s.program) (plan_runs s.program) is.shape (sessions_by_event s.program whole) is.lateness.low told e past told_fits

    -- the next mark is a time
    pub next_timely : (n : admission.State) → n ≡ after answered e s.machine.admission → admission.IsInRange n → IsTime (mark (query_of s.program) (e ∷ past))
    next_timely n is range =
        let same : n.mark ≡ mark (query_of s.program) (e ∷ past) = ap (λ (a : admission.State). a.mark) is ∙ next.admission.mark ∙ ap (λ (c : Clock). mark (record (query_of s.program) { clock = c }) (e ∷ past)) next.clock in
        record { low = subst (λ (m : ℤ). pos 0 ≤ℤ m) same range.mark_from; high = subst (λ (m : ℤ). m ≤ℤ pos 10000000000000000) same range.mark_to }

    pub turn_fits : Fits (turn s e) (e ∷ past)
    turn_fits = record {
      clock = next.clock;
      admission = next.admission;
      panes = sym (panes_same s.program s.machine was answered e) ∙ next.panes;
      relation = relation_same s.program s.machine was s.program.header.form answered (relation (query_of s.program) (e ∷ past)) fits.relation next.relation;
      fed = next.fed;
      fired = (λ i. admission.counter (s.machine.fired + length (sym (fired_same s.program s.machine was answered e) i))) ∙ next.fired;
    }

    pub turn_writes : (turn s e).rows ≡ turn_rows (query_of s.program) past e
    turn_writes =
        (λ i. chosen_rows s.program.header.form (retracted_in s.program.header.mode (sym (withdrawn_same s.program s.machine was answered e) i) ++ filter_map (row_of (plan_of s.program)) (sym (fired_same s.program s.machine was answered e) i)) (streamed_by (plan_of s.program) (query_of s.program) s.program.header.form answered s.machine))
        ∙ rows_same s.program s.machine was s.program.header.form answered _ fits.relation
        ∙ (let is = program_lawful s.program whole in rows-step (plan_of s.program) (plan_lawful s.program) (query_of s.program) (plan_runs s.program) is.shape (sessions_by_event s.program whole) is.lateness.low told e past told_fits)

    told_reply : (m n : ℤ) (e : Event) (v : Option Refusal) → refusal_of (answer m n e v) ≡ v
    told_reply m n (Record key time values) None = refl
    told_reply m n (Watermark source time) None = refl
    told_reply m n e (Some r) = refl

    turn_refuses : (reply_by s e).refusal ≡ verdict_on (query_of s.program) past e
    turn_refuses =
        ap refusal_of (decision-fits (query_of s.program) s.machine.admission past e fits.clock fits.admission)
        ∙ told_reply (mark (query_of s.program) past) (mark (query_of s.program) (e ∷ past)) e (verdict_on (query_of s.program) past e)

    turn_selects : (reply_by s e).selected ≡ selects_record (effect_of (query_of s.program) past e)
    turn_selects =
        ap (λ (a : Result Admitted Refusal). selected_by s.program a e) (decision-fits (query_of s.program) s.machine.admission past e fits.clock fits.admission)
        ∙ selects_by s.program past (mark (query_of s.program) past) (mark (query_of s.program) (e ∷ past)) e (verdict_on (query_of s.program) past e) refl

    -- its firings with their costs
    same_firings : step_fires (plan_of s.program) (query_of s.program) s.machine e ≡ step_fires (plan_of s.program) (query_of s.program) told e
    same_firings = sym (fired_same s.program s.machine was answered e)

    turn_fires : (reply_by s e).fired ≡ length (firings (query_of s.program) past e)
    turn_fires =
        let is = program_lawful s.program whole in
        ap length (same_firings ∙ fires-step (plan_of s.program) (plan_lawful s.program) (query_of s.program) (plan_runs s.program) is.shape (sessions_by_event s.program whole) is.lateness.low told e past told_fits)
        ∙ length_each (summary_fired (plan_of s.program)) (firings (query_of s.program) past e)

    turn_costs : map (pane_cost_by s.program) (step_fires (plan_of s.program) (query_of s.program) s.machine e) ≡ map (pane_cost s.program) (firings (query_of s.program) past e)
    turn_costs = ap (map (pane_cost_by s.program)) same_firings ∙ fired_costs_are s.program whole told e past told_fits

    same_cost : (a : Result Admitted Refusal) (e : Event) → answer_cost s.program a e s.machine ≡ answer_cost s.program a e told
    same_cost (Ok admitted.Record) (Record (Some k) t vs) = refl
    same_cost (Ok admitted.Record) (Record None t vs) = refl
    same_cost (Ok admitted.Record) (Watermark source t) = refl
    same_cost (Ok (admitted.Watermark old new)) e = refl
    same_cost (Err x) e = refl

    pub turn_replies : reply_by s e ≡ reply_to s.program past e
    turn_replies = λ i. record {
      refusal = turn_refuses i;
      selected = turn_selects i;
      record_steps = (same_cost answered e ∙ step_cost_is s.program whole told e past told_fits) i;
      fired = turn_fires i;
      pane_steps_max = greatest (turn_costs i);
      pane_steps_total = sum (turn_costs i);
    }

-- ---- a refused event changes counters alone

counted_after : (s : admission.State) (r : Refusal) (e : Event) → counted r s ≡ after (Err r) e s
counted_after s refusal.Late e = refl
counted_after s _ e = refl

none_retracted : (m : Mode) → retracted_in m [] ++ [] ≡ []
none_retracted mode.Discarding = refl
none_retracted mode.Accumulating = refl
none_retracted mode.Retracting = refl

no_rows : (p : Program) (s : steps.State (List Value)) (r : Refusal) (e : Event) (m : Mode) (f : Form) → chosen_rows f (retracted_in m [] ++ []) (streamed_by (plan_of p) (query_of p) f (Err r) s) ≡ []
no_rows p s r e m form.Panes = none_retracted m
no_rows p s r e m form.Istream = refl
no_rows p s r e m form.Dstream = refl
no_rows p s r e m form.Rstream = refl

pub as_before : (f : Form) (r : List (List Cell)) → relation_kept f r r ≡ r
as_before form.Panes r = refl
as_before form.Istream r = refl
as_before form.Dstream r = refl
as_before form.Rstream r = refl

stays : (n : ℕ) → n ≤ 18446744073709551615 → admission.counter (n + 0) ≡ n
stays n h = omega (arith, h)

-- ---- the turn by the answer

-- what is kept after an answer is what is kept after the turn
pub turned_is : (s : State) (e : Event) (a : Result Admitted Refusal) → a ≡ answer_to (plan_of s.program) (query_of s.program) s.machine e →
    (kept : admission.State) (panes : List (Place × Pane (List Value))) (related : List (List Cell)) (fed fired : ℕ) (rows : List OutRow) (room : ℕ) →
    kept ≡ after a e s.machine.admission → panes ≡ panes_after (plan_of s.program) (query_of s.program) a e s.machine
    → related ≡ relation_kept s.program.header.form s.machine.relation (relation_after (plan_of s.program) (query_of s.program) a s.machine)
    → fed ≡ admission.counter (s.machine.fed + 1) → fired ≡ admission.counter (s.machine.fired + length (fired_by (plan_of s.program) (query_of s.program) a e s.machine))
    → rows ≡ chosen_rows s.program.header.form (retracted_in s.program.header.mode (withdrawn_by (plan_of s.program) (query_of s.program) a e s.machine) ++ filter_map (row_of (plan_of s.program)) (fired_by (plan_of s.program) (query_of s.program) a e s.machine)) (streamed_by (plan_of s.program) (query_of s.program) s.program.header.form a s.machine)
    → room ≡ s.room → record { program = s.program; machine = record { admission = kept; panes = panes; relation = related; fed = fed; fired = fired }; rows = rows; room = room } ≡ turn s e
turned_is s e a is kept panes related fed fired rows room hk hp hr hf hn ho hc =
    (λ i. record { program = s.program; machine = record { admission = hk i; panes = hp i; relation = hr i; fed = hf i; fired = hn i }; rows = ho i; room = hc i })
    ∙ (λ i. record {
      program = s.program;
      machine = record {
        admission = after (is i) e s.machine.admission;
        panes = panes_after (plan_of s.program) (query_of s.program) (is i) e s.machine;
        relation = relation_kept s.program.header.form s.machine.relation (relation_after (plan_of s.program) (query_of s.program) (is i) s.machine);
        fed = admission.counter (s.machine.fed + 1);
        fired = admission.counter (s.machine.fired + length (fired_by (plan_of s.program) (query_of s.program) (is i) e s.machine));
      };
      rows = chosen_rows s.program.header.form (retracted_in s.program.header.mode (withdrawn_by (plan_of s.program) (query_of s.program) (is i) e s.machine) ++ filter_map (row_of (plan_of s.program)) (fired_by (plan_of s.program) (query_of s.program) (is i) e s.machine)) (streamed_by (plan_of s.program) (query_of s.program) s.program.header.form (is i) s.machine);
      room = s.room;
    })

-- a refused event is counted, and changes nothing else
pub refused_turn : (s : State) → s.machine.fired ≤ 18446744073709551615 → (e : Event) → IfSome (reply_by s e).refusal (λ r. turn s e ≡ refused_state s r)
refused_turn s few e = by_answer (answer_to (plan_of s.program) (query_of s.program) s.machine e) refl
  where
    by_answer : (a : Result Admitted Refusal) → a ≡ answer_to (plan_of s.program) (query_of s.program) s.machine e → IfSome (refusal_of a) (λ r. turn s e ≡ refused_state s r)
    by_answer (Ok a) is = tt
    by_answer (Err r) is = sym (turned_is s e (Err r) is (counted r s.machine.admission) s.machine.panes s.machine.relation (admission.counter (s.machine.fed + 1)) s.machine.fired [] s.room
        (counted_after s.machine.admission r e) refl (sym (as_before s.program.header.form s.machine.relation)) refl (sym (stays s.machine.fired few))
        (sym (no_rows s.program s.machine r e s.program.header.mode s.program.header.form)) refl)

-- an event comes to the operator of an engine that fits a history
pub comes_of : (s : State) (past : List Event) → Fits s past → (h : Held) → entries_of h ≡ s.machine.panes → (m : ℤ) → m ≡ s.machine.admission.mark → IsTime m → (a : Result Admitted Refusal) (e : Event) → IsTime (mark (query_of s.program) (e ∷ past))
    → a ≡ answer_to (plan_of s.program) (query_of s.program) s.machine e → Comes s.program past h m a e
comes_of s past fits h held m is timely a e next answered =
    let here : m ≡ mark (query_of s.program) past = is ∙ fits.admission.mark ∙ ap (λ c. mark (record (query_of s.program) { clock = c }) past) fits.clock in
    record {
      marked = here;
      timely = timely;
      next = next;
      answered =
          answered ∙ decision-fits (query_of s.program) s.machine.admission past e fits.clock fits.admission
          ∙ ap (λ (n : ℤ). answer n (mark (query_of s.program) (e ∷ past)) e (verdict_on (query_of s.program) past e)) (sym here);
      panes = held ∙ fits.panes;
    }

-- what is answered after an answer is the reply of the turn
pub replied_is : (s : State) (e : Event) (a : Result Admitted Refusal) → a ≡ answer_to (plan_of s.program) (query_of s.program) s.machine e →
    (refused : Option Refusal) (selected : Bool) (cost : ℕ) (t : Tally) → refused ≡ refusal_of a → selected ≡ selected_by s.program a e → cost ≡ answer_cost s.program a e s.machine → t ≡ tally_of s.program (fired_by (plan_of s.program) (query_of s.program) a e s.machine)
    → record { refusal = refused; selected = selected; record_steps = cost; fired = t.fired; pane_steps_max = t.steps_max; pane_steps_total = t.steps_total } ≡ reply_by s e
replied_is s e a is refused selected cost t hr hs hc ht =
    (λ i. record { refusal = hr i; selected = hs i; record_steps = hc i; fired = (ht i).fired; pane_steps_max = (ht i).steps_max; pane_steps_total = (ht i).steps_total })
    ∙ (λ i. let fs = fired_by (plan_of s.program) (query_of s.program) (is i) e s.machine in record {
      refusal = refusal_of (is i);
      selected = selected_by s.program (is i) e;
      record_steps = answer_cost s.program (is i) e s.machine;
      fired = length fs;
      pane_steps_max = greatest (map (pane_cost_by s.program) fs);
      pane_steps_total = sum (map (pane_cost_by s.program) fs);
    })

-- the count of firings has 64 bits
pub fired_few : (s : State) (past : List Event) → Fits s past → s.machine.fired ≤ 18446744073709551615
fired_few s past fits = subst (λ n. n ≤ 18446744073709551615) (sym fits.fired) (omega arith)
