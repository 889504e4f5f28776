-- What passes with the small memory writes what is written without the doubles: on the turn of a double that passes nothing is
-- written, and nothing is kept of it.
use Rattle.std.proofs.Common.{◌≡◌, ℕ, Bool, true, false, cond, List, [], ◌∷◌, ◌++◌, map, length, ℤ, pos, ◌≤ℤ◌, refl, sym, ap, subst, ◌∙◌, append-nil}
use Rattle.std.proofs.lemmas.List.{map-append}
use Rattle.std.specs.Prelude.{filter_map}
use Rattle.wsm_record.specs.declared.words.Form.{Form}
use Rattle.wsm_record.specs.declared.words.Form.TheVariants.{Panes, Istream, Dstream, Rstream}
use Rattle.wsm_record.specs.declared.words.Mode.{Mode}
use Rattle.wsm_record.specs.declared.words.Mode.TheVariants.{Discarding, Accumulating, Retracting}
use Rattle.wsm_record.specs.Event.{Event, Watermark}
use Rattle.wsm_windows.specs.Windows.{IsShape}
use Rattle.wsm_admission.specs.Clock.{is_late}
use Rattle.wsm_semantics.specs.declared.out_row.OutRow.{OutRow}
use Rattle.wsm_semantics.specs.Query.{Query, SessionsByEvent, Effect, Nothing, effect_of, mark, verdict_on}
use Rattle.wsm_semantics.specs.Firings.{Firing, firings, firings_so_far, row_of}
use Rattle.wsm_semantics.specs.Retractions.{retracted_in}
use Rattle.wsm_semantics.specs.Relation.{chosen_rows, relation, relation_at, turn_rows}
use Rattle.wsm_semantics.specs.Replay.{State, replayed, withdrawn_by, fired_by, streamed_by}
use Rattle.wsm_semantics.specs.Summaries.{Plan, IsLawful, Runs, summaries, summary_fired}
use Rattle.wsm_semantics.specs.LastingRows.{rows_so_far}
use Rattle.wsm_semantics.specs.FromKept.{KeepAlike}
use Rattle.wsm_semantics.specs.Deliveries.{Sent, Delivery, Comes, Told, event_of, came, once_all, Passing, knows, passes, passing, once_live, AreTimed, WritesOnce}
use Rattle.wsm_semantics.proofs.Effects.{effect-refused, refused_stays, stays_down}
use Rattle.wsm_semantics.proofs.Turns.{firings-nothing}
use Rattle.wsm_semantics.proofs.KeptTurns.{kept-nothing}
use Rattle.wsm_semantics.proofs.KeptLaw.{rows-by}
use Rattle.wsm_semantics.proofs.KeptAlike.{next_alike, fires_alike, streams_alike, relation_alike}
use Rattle.wsm_semantics.proofs.Deliveries.{Alike, Follows, follows, same_verdict, late_refused, forgotten_late, knows_came}

-- ---- an event that does nothing writes nothing

silent : (f : Form) (m : Mode) → chosen_rows f (retracted_in m [] ++ []) [] ≡ []
silent Panes Discarding = refl
silent Panes Accumulating = refl
silent Panes Retracting = refl
silent Istream m = refl
silent Dstream m = refl
silent Rstream m = refl

module _ {X : Type 0} (plan : Plan X) (lawful : IsLawful plan) (q : Query) (runs : Runs plan q) (ok : IsShape q.shape) (timely : SessionsByEvent q) (low : pos 0 ≤ℤ q.clock.lateness) (time_of : ℕ → ℤ) where
  writes_nothing : (past : List Event) (e : Event) → effect_of q past e ≡ Nothing → turn_rows q past e ≡ []
  writes_nothing past e none =
      let s : State = replayed q past in
      rows-by q ok timely low past e
      ∙ ap (λ (x : Effect). chosen_rows q.form (retracted_in q.mode (withdrawn_by q x s.panes) ++ filter_map (row_of q) (fired_by q (length past) x s.panes)) (streamed_by q x s)) none
      ∙ silent q.form q.mode

  -- two histories that are followed by the same and wrote the same
  pub record Same (past other : List Event) : Type 0 where
    pub alike : KeepAlike plan q q.clock.start q.clock.records past other
    pub related : relation q past ≡ relation q other
    pub written : rows_so_far q past ≡ rows_so_far q other
    pub fired : map (summary_fired plan) (firings_so_far q past) ≡ map (summary_fired plan) (firings_so_far q other)

  both_have : (past other : List Event) → Alike q ok time_of past other → Same past other → (e : Event) → Same (e ∷ past) (e ∷ other)
  both_have past other alike h e =
      let verdict : verdict_on q other e ≡ verdict_on q past e = sym (same_verdict q ok time_of past other alike e) in
      record {
        alike = next_alike plan lawful q runs ok timely low q.clock.start q.clock.records past other h.alike e verdict;
        related = relation_alike plan lawful q runs ok timely low q.clock.start q.clock.records past other h.alike e verdict h.related;
        written = λ i. h.written i ++ streams_alike plan lawful q runs ok timely low q.clock.start q.clock.records past other h.alike e verdict h.related i;
        fired =
            map-append (summary_fired plan) (firings_so_far q past) (firings q past e)
            ∙ (λ i. h.fired i ++ fires_alike plan lawful q runs ok timely low q.clock.start q.clock.records past other h.alike e verdict i)
            ∙ sym (map-append (summary_fired plan) (firings_so_far q other) (firings q other e));
      }

  one_has : (past other : List Event) → Same past other → (s : Sent) → is_late q.clock q.shape (mark q past) s.time ≡ true → Same (event_of s ∷ past) other
  one_has past other h s late =
      let e : Event = event_of s in
      let (r, refused) = late_refused q ok time_of past s late in
      let none : effect_of q past e ≡ Nothing = effect-refused q past e r refused in
      record {
        alike = record { marks = h.alike.marks; panes = ap (summaries plan q.mode) (kept-nothing q past e none) ∙ h.alike.panes };
        related = ap (λ (b : Bool). cond b (relation_at q past e) (relation q past)) (stays_down q past e (refused_stays q past e r refused)) ∙ h.related;
        written = ap (λ (rows : List OutRow). rows_so_far q past ++ rows) (writes_nothing past e none) ∙ append-nil (rows_so_far q past) ∙ h.written;
        fired = ap (map (summary_fired plan)) (ap (λ (fs : List Firing). firings_so_far q past ++ fs) (firings-nothing q past e none) ∙ append-nil (firings_so_far q past)) ∙ h.fired;
      }

  -- of deliveries
  same : (ds : List Delivery) → AreTimed time_of ds → Same (once_live q ds) (once_all ds)
  same [] timed = record { alike = record { marks = refl; panes = refl }; related = refl; written = refl; fired = refl }
  same (Comes s ∷ ds) timed =
      let o : Passing = passing q ds in
      let other : List Event = once_all ds in
      let f : Follows q ok time_of ds o other = follows q ok time_of ds timed.2 in
      let on : Passing = passes q (event_of s) ((s.identifier, s.time) ∷ o.memory) o.passed in
      elim (knows s.identifier o.memory) as (λ b. knows s.identifier o.memory ≡ b → Same (cond b o on).passed (cond (came s.identifier ds) other (event_of s ∷ other))) [
        | true ↦ λ known.
            subst (λ (b : Bool). Same o.passed (cond b other (event_of s ∷ other))) (sym (knows_came q ok time_of s.identifier ds o.memory f.remembers.told known)) (same ds timed.2)
        | false ↦ λ unknown. elim (came s.identifier ds) as (λ b. came s.identifier ds ≡ b → Same (event_of s ∷ o.passed) (cond b other (event_of s ∷ other))) [
          | true ↦ λ there. one_has o.passed other (same ds timed.2) s (forgotten_late q ok time_of ds o s timed.0 f.remembers there unknown)
          | false ↦ λ _. both_have o.passed other f.alike (same ds timed.2) (event_of s)
        ] refl
      ] refl
  same (Told source t ∷ ds) timed = both_have (once_live q ds) (once_all ds) (follows q ok time_of ds timed).alike (same ds timed) (Watermark source t)

  pub writes_once : (ds : List Delivery) → AreTimed time_of ds → WritesOnce plan q ds
  writes_once ds timed = let h : Same (once_live q ds) (once_all ds) = same ds timed in record { rows = h.written; fired = h.fired }
