-- A machine that keeps a summary for each held pane fits each history, fires as it does and writes its
-- rows.
use Rattle.std.proofs.Common.{◌≡◌, ◌≤◌, ℕ, true, false, cond, List, [], ◌∷◌, ◌++◌, map, length, ℤ, pos, ◌≤ℤ◌, Option, Some, None, Result, refl, sym, ap, ◌∙◌}
use Rattle.std.specs.Prelude.{filter_map}
use Rattle.wsm_record.specs.declared.cell.Cell.{Cell}
use Rattle.wsm_record.specs.declared.words.Mode.{Mode}
use Rattle.wsm_record.specs.declared.words.Mode.TheVariants.{Discarding, Accumulating, Retracting}
use Rattle.wsm_record.specs.Event.{Event, Record, Watermark}
use Rattle.wsm_admission.specs.declared.verdict.Admitted.{Admitted}
use Rattle.wsm_admission.specs.declared.verdict.Refusal.{Refusal}
use Rattle.wsm_windows.specs.Windows.{IsShape}
use Rattle.wsm_windows.specs.declared.place.Place.{Place}
use Rattle.wsm_admission.specs.Clock.{least, verdict_at}
use Rattle.wsm_admission.specs.Admission.{answer, marks_with}
use Rattle.wsm_admission.proofs.FittedHistory.{Fits-after, clock-after, opened_fits}
use Rattle.wsm_semantics.specs.Query.{Query, SessionsByEvent, datum, Effect, effect_of, mark, raises, verdict_on}
use Rattle.wsm_semantics.specs.Firings as firings
use Rattle.wsm_semantics.specs.Firings.{firings_so_far}
use Rattle.wsm_semantics.specs.Retractions.{retract_rows, retracted, retracted_in}
use Rattle.wsm_semantics.specs.Relation.{relation, relation_at, stream_rows, chosen_rows, streamed, turn_rows}
use Rattle.wsm_semantics.specs.Kept.{kept, kept_at_watermark}
use Rattle.wsm_semantics.specs.Kept as kept
use Rattle.wsm_semantics.specs.Summaries.{Plan, IsLawful, Runs, Pane, after_record, fired_by_record, at_watermark, after_watermark, fired_by_watermark, withdrawn_by_record, withdrawn_by_watermark, relation_of, row_of, summaries, summary_fired}
use Rattle.wsm_semantics.specs.Steps.{State, opened, panes_after, fired_by, withdrawn_by, relation_after, streamed_by, answer_to, step, step_fires, step_rows, run, Fits}
use Rattle.wsm_semantics.specs.Replay.{withdrawn_by as kept_withdrawn}
use Rattle.wsm_semantics.proofs.Lists.{length_each}
use Rattle.wsm_semantics.proofs.Effects.{effect-selected, effect-unselected, effect-refused, stays_down, refused_stays}
use Rattle.wsm_semantics.proofs.Turns.{firings-nothing}
use Rattle.wsm_semantics.proofs.KeptTurns.{kept-nothing}
use Rattle.wsm_semantics.proofs.EventTurns.{kept-record, firings-record, kept-watermark, firings-watermark, relation-watermark}
use Rattle.wsm_semantics.proofs.KeptLaw.{places, enters, relation-down, streamed-down, retract_rows-by, withdrawn-by}
use Rattle.wsm_semantics.proofs.Withdrawn.{withdrawn-watermark}
use Rattle.wsm_semantics.proofs.MachineSteps.{decision-fits, some_fired, one_fed}
use Rattle.wsm_semantics.proofs.Images.{after_record-summaries, fired_by_record-summaries, at_watermark-summaries, fired_by_watermark-summaries, after_watermark-summaries, rows-summaries, relation-summaries}
use Rattle.wsm_semantics.proofs.Turnless.{after_record-turnless, fired_by_record-turnless, withdrawn_by_record-turnless}
use Rattle.wsm_semantics.proofs.WithdrawnImages.{withdrawn_by_record-summaries, withdrawn_by_watermark-summaries}

-- what is withdrawn matters where panes retract alone
retracted-alike : (m : Mode) (ws vs : List (Place × List Cell)) → (m ≡ Retracting → ws ≡ vs) → retracted_in m ws ≡ retracted_in m vs
retracted-alike Discarding ws vs h = refl
retracted-alike Accumulating ws vs h = refl
retracted-alike Retracting ws vs h = ap retracted (h refl)

module _ {X : Type 0} (plan : Plan X) (lawful : IsLawful plan) (q : Query) (runs : Runs plan q) (ok : IsShape q.shape) (timely : SessionsByEvent q) (low : pos 0 ≤ℤ q.clock.lateness) (past : List Event) where
  -- the panes that are held, with their summaries
  abbrev sums : List (Place × Pane X)
  sums = summaries plan q.mode (kept q past)

  abbrev old : ℤ
  old = mark q past

  module _ (s : State X) (marked : s.admission.mark ≡ mark q past) (is : s.panes ≡ summaries plan q.mode (kept q past)) where
    abbrev answer_by : Event → Option Refusal → Result Admitted Refusal
    answer_by e v = answer old (mark q (e ∷ past)) e v

    pub panes_are : (e : Event) (v : Option Refusal) → v ≡ verdict_on q past e → panes_after plan q (answer_by e v) e s ≡ summaries plan q.mode (kept q (e ∷ past))
    panes_are (Record (Some k) t vs) None h =
        (λ i. cond (runs.selects k vs i) (after_record plan q (marked i) (datum 0 (marked i) k t vs) (is i)) (is i))
        ∙ elim (q.selects k vs) as (λ b. q.selects k vs ≡ b → cond b (after_record plan q old (datum 0 old k t vs) sums) sums ≡ summaries plan q.mode (kept q (Record (Some k) t vs ∷ past))) [
          | true ↦ λ selects.
              after_record-turnless plan 0 (length past) old k t vs q old sums
              ∙ after_record-summaries plan lawful q old (datum (length past) (mark q past) k t vs) (kept q past)
              ∙ ap (summaries plan q.mode) (sym (kept-record q low timely (places q ok timely) past (enters q ok timely) k t vs (sym h) selects))
          | false ↦ λ other. ap (summaries plan q.mode) (sym (kept-nothing q past (Record (Some k) t vs) (effect-unselected q past k t vs other)))
        ] refl
    panes_are (Record None t vs) None h = absurd (cc)
    panes_are (Watermark o t) None h =
        ap (after_watermark plan q old (mark q (Watermark o t ∷ past))) is
        ∙ after_watermark-summaries plan q old (mark q (Watermark o t ∷ past)) (kept q past)
        ∙ ap (summaries plan q.mode) (sym (kept-watermark q low timely (places q ok timely) past o t))
    panes_are e (Some r) h = is ∙ ap (summaries plan q.mode) (sym (kept-nothing q past e (effect-refused q past e r (sym h))))

    pub fired_are : (e : Event) (v : Option Refusal) → v ≡ verdict_on q past e → fired_by plan q (answer_by e v) e s ≡ map (summary_fired plan) (firings.firings q past e)
    fired_are (Record (Some k) t vs) None h =
        (λ i. cond (runs.selects k vs i) (fired_by_record plan q (marked i) (datum 0 (marked i) k t vs) (is i)) [])
        ∙ elim (q.selects k vs) as (λ b. q.selects k vs ≡ b → cond b (fired_by_record plan q old (datum 0 old k t vs) sums) [] ≡ map (summary_fired plan) (firings.firings q past (Record (Some k) t vs))) [
          | true ↦ λ selects.
              fired_by_record-turnless plan 0 (length past) old k t vs q old sums
              ∙ fired_by_record-summaries plan lawful q old (datum (length past) (mark q past) k t vs) (kept q past)
              ∙ ap (map (summary_fired plan)) (sym (firings-record q low timely (places q ok timely) past (enters q ok timely) k t vs (sym h) selects))
          | false ↦ λ other. ap (map (summary_fired plan)) (sym (firings-nothing q past (Record (Some k) t vs) (effect-unselected q past k t vs other)))
        ] refl
    fired_are (Record None t vs) None h = absurd (cc)
    fired_are (Watermark o t) None h =
        ap (fired_by_watermark plan q old (mark q (Watermark o t ∷ past))) is
        ∙ fired_by_watermark-summaries plan q old (mark q (Watermark o t ∷ past)) (kept q past) (length past)
        ∙ ap (map (summary_fired plan)) (sym (firings-watermark q low timely (places q ok timely) past o t))
    fired_are e (Some r) h = ap (map (summary_fired plan)) (sym (firings-nothing q past e (effect-refused q past e r (sym h))))

    withdrawn_are : q.mode ≡ Retracting → (e : Event) (v : Option Refusal) → v ≡ verdict_on q past e → withdrawn_by plan q (answer_by e v) e s ≡ kept_withdrawn q (effect_of q past e) (kept q past)
    withdrawn_are retracting (Record (Some k) t vs) None h =
        (λ i. cond (runs.selects k vs i) (withdrawn_by_record plan q (marked i) (datum 0 (marked i) k t vs) (is i)) [])
        ∙ ap (λ (ws : List (Place × List Cell)). cond (q.selects k vs) ws [])
        (withdrawn_by_record-turnless plan 0 (length past) old k t vs q old sums
        ∙ withdrawn_by_record-summaries plan lawful q runs retracting old (datum (length past) old k t vs) (kept q past))
        ∙ elim (q.selects k vs) as (λ b. q.selects k vs ≡ b → cond b (kept.withdrawn_by_record q old (datum (length past) old k t vs) (kept q past)) [] ≡ kept_withdrawn q (effect_of q past (Record (Some k) t vs)) (kept q past)) [
          | true ↦ λ selects. ap (λ (x : Effect). kept_withdrawn q x (kept q past)) (sym (effect-selected q past k t vs (sym h) selects))
          | false ↦ λ other. ap (λ (x : Effect). kept_withdrawn q x (kept q past)) (sym (effect-unselected q past k t vs other))
        ] refl
    withdrawn_are retracting (Record None t vs) None h = absurd (cc)
    withdrawn_are retracting (Watermark o t) None h =
        ap (withdrawn_by_watermark q old (mark q (Watermark o t ∷ past))) is
        ∙ withdrawn_by_watermark-summaries plan lawful q runs retracting old (mark q (Watermark o t ∷ past)) (kept q past)
        ∙ sym (withdrawn-watermark q (places q ok timely) past o t)
        ∙ withdrawn-by q ok timely low past (Watermark o t)
    withdrawn_are retracting e (Some r) h = ap (λ (x : Effect). kept_withdrawn q x (kept q past)) (sym (effect-refused q past e r (sym h)))

    -- the retract rows
    retracted_are : (e : Event) (v : Option Refusal) → v ≡ verdict_on q past e → retracted_in q.mode (withdrawn_by plan q (answer_by e v) e s) ≡ retract_rows q.mode q past e
    retracted_are e v h =
        retracted-alike q.mode (withdrawn_by plan q (answer_by e v) e s) (kept_withdrawn q (effect_of q past e) (kept q past)) (λ retracting. withdrawn_are retracting e v h) ∙ sym (retract_rows-by q ok timely low q.mode past e)

    module _ (related : s.relation ≡ relation q past) where
      relation_now : (o : Option ℕ) (t : ℤ) → relation_of (at_watermark plan q old (mark q (Watermark o t ∷ past)) s.panes) ≡ relation_at q past (Watermark o t)
      relation_now o t =
          ap (λ (ps : List (Place × Pane X)). relation_of (at_watermark plan q old (mark q (Watermark o t ∷ past)) ps)) is
          ∙ ap relation_of (at_watermark-summaries plan q old (mark q (Watermark o t ∷ past)) (kept q past))
          ∙ relation-summaries plan q runs (kept_at_watermark q old (mark q (Watermark o t ∷ past)) (kept q past))
          ∙ sym (relation-watermark q low timely (places q ok timely) past o t)

      pub relation_is : (e : Event) (v : Option Refusal) → v ≡ verdict_on q past e → relation_after plan q (answer_by e v) s ≡ relation q (e ∷ past)
      relation_is (Record k t vs) None h = related ∙ sym (relation-down q past (Record k t vs) (stays_down q past (Record k t vs) refl))
      relation_is (Watermark o t) None h = λ i. cond (raises q past (Watermark o t)) (relation_now o t i) (related i)
      relation_is e (Some r) h = related ∙ sym (relation-down q past e (stays_down q past e (refused_stays q past e r (sym h))))

      streamed_are : (e : Event) (v : Option Refusal) → v ≡ verdict_on q past e → streamed_by plan q q.form (answer_by e v) s ≡ streamed q past e
      streamed_are (Record k t vs) None h = sym (streamed-down q past (Record k t vs) (stays_down q past (Record k t vs) refl))
      streamed_are (Watermark o t) None h =
          let new : ℤ = mark q (Watermark o t ∷ past) in
          λ i. cond (raises q past (Watermark o t)) (stream_rows q.form new (related i) (relation_now o t i)) []
      streamed_are e (Some r) h = sym (streamed-down q past e (stays_down q past e (refused_stays q past e r (sym h))))

      pub rows_are : (e : Event) (v : Option Refusal) → v ≡ verdict_on q past e →
          chosen_rows q.form (retracted_in q.mode (withdrawn_by plan q (answer_by e v) e s) ++ filter_map (row_of plan) (fired_by plan q (answer_by e v) e s)) (streamed_by plan q q.form (answer_by e v) s) ≡ turn_rows q past e
      rows_are e v h = λ i. chosen_rows q.form (retracted_are e v h i ++ (ap (filter_map (row_of plan)) (fired_are e v h) ∙ rows-summaries plan q runs (firings.firings q past e)) i) (streamed_are e v h i)

-- what is kept before the first event fits the empty history
pub Fits-opened : {X : Type 0} (plan : Plan X) (q : Query) → Fits plan q (opened plan q) []
Fits-opened plan q = record {
  clock = refl;
  admission = opened_fits q.clock q.shape q.declared;
  panes = refl;
  relation = refl;
  fed = refl;
  fired = refl;
}

module _ {X : Type 0} (plan : Plan X) (lawful : IsLawful plan) (q : Query) (runs : Runs plan q) (ok : IsShape q.shape) (timely : SessionsByEvent q) (low : pos 0 ≤ℤ q.clock.lateness) (s : State X) (e : Event) (past : List Event) (fits : Fits plan q s past) where
  answered : answer_to plan q s e ≡ answer (mark q past) (mark q (e ∷ past)) e (verdict_on q past e)
  answered = decision-fits q s.admission past e fits.clock fits.admission

  marked : s.admission.mark ≡ mark q past
  marked = fits.admission.mark ∙ ap (λ c. mark (record q { clock = c }) past) fits.clock

  -- its firings are those of the turn
  pub fires-step : step_fires plan q s e ≡ map (summary_fired plan) (firings.firings q past e)
  fires-step = ap (λ (r : Result Admitted Refusal). fired_by plan q r e s) answered ∙ fired_are plan lawful q runs ok timely low past s marked fits.panes e (verdict_on q past e) refl

  -- its rows are those of the turn
  pub rows-step : step_rows plan q s e ≡ turn_rows q past e
  rows-step =
      ap (λ (r : Result Admitted Refusal). chosen_rows q.form (retracted_in q.mode (withdrawn_by plan q r e s) ++ filter_map (row_of plan) (fired_by plan q r e s)) (streamed_by plan q q.form r s)) answered
      ∙ rows_are plan lawful q runs ok timely low past s marked fits.panes fits.relation e (verdict_on q past e) refl

  -- what is kept after an event fits the history with it
  pub Fits-step : Fits plan q (step plan q s e) (e ∷ past)
  Fits-step = record {
    clock = clock-after s.admission.mark (least (marks_with s.admission.marks e)) s.admission e (verdict_at s.admission.clock q.shape q.declared s.admission.marks s.admission.admitted e) ∙ fits.clock;
    admission = Fits-after q.shape q.declared s.admission past fits.admission e;
    panes = ap (λ (r : Result Admitted Refusal). panes_after plan q r e s) answered ∙ panes_are plan lawful q runs ok timely low past s marked fits.panes e (verdict_on q past e) refl;
    relation = ap (λ (r : Result Admitted Refusal). relation_after plan q r s) answered ∙ relation_is plan lawful q runs ok timely low past s marked fits.panes fits.relation e (verdict_on q past e) refl;
    fed = one_fed s.fed past fits.fed;
    fired = some_fired s.fired (length (step_fires plan q s e)) (firings_so_far q past) (firings.firings q past e) fits.fired
        (ap length fires-step ∙ length_each (summary_fired plan) (firings.firings q past e));
  }

-- what is kept after a history fits it
pub Fits-run : {X : Type 0} (plan : Plan X) (lawful : IsLawful plan) (q : Query) (runs : Runs plan q) (ok : IsShape q.shape) (timely : SessionsByEvent q) (low : pos 0 ≤ℤ q.clock.lateness) (past : List Event) → Fits plan q (run plan q past) past
Fits-run plan lawful q runs ok timely low [] = Fits-opened plan q
Fits-run plan lawful q runs ok timely low (e ∷ past) = Fits-step plan lawful q runs ok timely low (run plan q past) e past (Fits-run plan lawful q runs ok timely low past)
