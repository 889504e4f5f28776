-- The laws of what is kept, for any query with a lawful shape and a lateness that isn't negative, after
-- any history: what is kept of the held panes, what fires, the relation and the rows of a turn go by
-- what was kept alone.
use Rattle.std.proofs.Common.{◌≡◌, ℕ, Bool, true, false, cond, List, [], ◌∷◌, ◌++◌, length, ℤ, pos, ◌≤ℤ◌, Some, None, refl, sym, ap, subst, ◌∙◌}
use Rattle.std.specs.Prelude.{filter_map}
use Rattle.wsm_record.specs.declared.event.Value.{Value}
use Rattle.wsm_record.specs.declared.words.Mode.{Mode}
use Rattle.wsm_record.specs.declared.words.Mode.TheVariants.{Discarding, Accumulating, Retracting}
use Rattle.wsm_record.specs.Event.{Event, Record, Watermark}
use Rattle.wsm_windows.specs.declared.window.Shape.{Shape}
use Rattle.wsm_windows.specs.declared.window.Shape.TheVariants.{Fixed, Sliding, Session}
use Rattle.wsm_windows.specs.Windows.{IsShape, period_of}
use Rattle.wsm_semantics.specs.Query.{Query, SessionsByEvent, datum, effect_of, mark, raises, verdict_on}
use Rattle.wsm_semantics.specs.Firings.{firings, row_of}
use Rattle.wsm_semantics.specs.Retractions.{retracted, retract_rows, retracted_in}
use Rattle.wsm_semantics.specs.Relation.{relation, relation_at, stream_rows, chosen_rows, streamed, turn_rows}
use Rattle.wsm_semantics.specs.Kept.{kept}
use Rattle.wsm_semantics.specs.Replay.{kept_after, fired_by, withdrawn_by, relation_after, after, replayed, state, streamed_by, turn_rows_by}
use Rattle.wsm_semantics.proofs.Effects.{by_effect, nothing_stays, stays_down}
use Rattle.wsm_semantics.proofs.Turns.{firings-nothing}
use Rattle.wsm_semantics.proofs.Assigned.{IsAssigned}
use Rattle.wsm_semantics.proofs.FiringsSoFar.{PlacesLaw}
use Rattle.wsm_semantics.proofs.KeptTurns.{kept-nothing}
use Rattle.wsm_semantics.proofs.EventTurns.{EntersPanes, kept-record, firings-record, kept-watermark, firings-watermark, relation-watermark}
use Rattle.wsm_semantics.proofs.AssignedTurns.{assigned_places, enters_assigned}
use Rattle.wsm_semantics.proofs.SessionTurns.{session_places, enters_session}
use Rattle.wsm_semantics.proofs.Withdrawn.{IsWithdrawn, written_withdrawn, withdrawn-nothing, withdrawn-watermark}
use Rattle.wsm_semantics.proofs.WithdrawnAssigned.{withdrawn-assigned}
use Rattle.wsm_semantics.proofs.WithdrawnSessions.{withdrawn-session}

pub gap_is_long : (q : Query) (gap : ℤ) → q.shape ≡ Session gap → IsShape q.shape → pos 1 ≤ℤ gap
gap_is_long q gap is ok = subst (λ (s : Shape). pos 1 ≤ℤ period_of s) is ok.period_low

module _ (q : Query) (ok : IsShape q.shape) (timely : SessionsByEvent q) where
  of_shape : (shape : Shape) → q.shape ≡ shape → PlacesLaw q × EntersPanes q
  of_shape (Fixed size) is = let assigned = subst IsAssigned (sym is) tt in (assigned_places q ok assigned, enters_assigned q ok assigned)
  of_shape (Sliding size period) is = let assigned = subst IsAssigned (sym is) tt in (assigned_places q ok assigned, enters_assigned q ok assigned)
  of_shape (Session gap) is = let long = gap_is_long q gap is ok in (session_places q timely gap is long, enters_session q timely gap is long)

  -- where panes are
  pub places : PlacesLaw q
  places = (of_shape q.shape refl).0

  -- how a record enters them
  pub enters : EntersPanes q
  enters = (of_shape q.shape refl).1

-- ---- the relation and the streams where the watermark rises, and where it doesn't

module _ (q : Query) (past : List Event) (e : Event) where
  pub relation-up : raises q past e ≡ true → relation q (e ∷ past) ≡ relation_at q past e
  relation-up up = ap (λ (b : Bool). cond b (relation_at q past e) (relation q past)) up

  pub relation-down : raises q past e ≡ false → relation q (e ∷ past) ≡ relation q past
  relation-down down = ap (λ (b : Bool). cond b (relation_at q past e) (relation q past)) down

  pub streamed-up : raises q past e ≡ true → streamed q past e ≡ stream_rows q.form (mark q (e ∷ past)) (relation q past) (relation_at q past e)
  streamed-up up = ap (λ (b : Bool). cond b (stream_rows q.form (mark q (e ∷ past)) (relation q past) (relation_at q past e)) []) up

  pub streamed-down : raises q past e ≡ false → streamed q past e ≡ []
  streamed-down down = ap (λ (b : Bool). cond b (stream_rows q.form (mark q (e ∷ past)) (relation q past) (relation_at q past e)) []) down

-- ---- by what is kept alone

-- what a selected record withdraws goes by what was kept
abbrev pub WithdrawsPanes : Query → Type 0
WithdrawsPanes q = (past : List Event) (k : ℕ) (t : ℤ) (vs : List Value) → verdict_on q past (Record (Some k) t vs) ≡ None → q.selects k vs ≡ true →
    IsWithdrawn q past (Record (Some k) t vs) (datum (length past) (mark q past) k t vs)

module _ (q : Query) (ok : IsShape q.shape) (timely : SessionsByEvent q) (low : pos 0 ≤ℤ q.clock.lateness) where
  pub withdraws : (shape : Shape) → q.shape ≡ shape → WithdrawsPanes q
  withdraws (Fixed size) is = withdrawn-assigned q ok (subst IsAssigned (sym is) tt) low timely
  withdraws (Sliding size period) is = withdrawn-assigned q ok (subst IsAssigned (sym is) tt) low timely
  withdraws (Session gap) is = withdrawn-session q timely gap is (gap_is_long q gap is ok) low (places q ok timely) (enters q ok timely)

  -- what is kept of the panes after an event
  pub kept-after : (past : List Event) (e : Event) → kept q (e ∷ past) ≡ kept_after q (effect_of q past e) (kept q past)
  kept-after past =
      by_effect q past (λ e x. kept q (e ∷ past) ≡ kept_after q x (kept q past))
      (λ k t vs taken selects. kept-record q low timely (places q ok timely) past (enters q ok timely) k t vs taken selects)
      (λ o t _. kept-watermark q low timely (places q ok timely) past o t)
      (λ e none. kept-nothing q past e none)

  -- what fires on its turn
  pub firings-by : (past : List Event) (e : Event) → firings q past e ≡ fired_by q (length past) (effect_of q past e) (kept q past)
  firings-by past =
      by_effect q past (λ e x. firings q past e ≡ fired_by q (length past) x (kept q past))
      (λ k t vs taken selects. firings-record q low timely (places q ok timely) past (enters q ok timely) k t vs taken selects)
      (λ o t _. firings-watermark q low timely (places q ok timely) past o t)
      (λ e none. firings-nothing q past e none)

  -- what is withdrawn on its turn
  pub withdrawn-by : (past : List Event) (e : Event) → written_withdrawn q past e ≡ withdrawn_by q (effect_of q past e) (kept q past)
  withdrawn-by past =
      by_effect q past (λ e x. written_withdrawn q past e ≡ withdrawn_by q x (kept q past))
      (λ k t vs taken selects. withdraws q.shape refl past k t vs taken selects)
      (λ o t _. withdrawn-watermark q (places q ok timely) past o t)
      (λ e none. withdrawn-nothing q (places q ok timely) past e none)

  pub retract_rows-by : (m : Mode) (past : List Event) (e : Event) → retract_rows m q past e ≡ retracted_in m (withdrawn_by q (effect_of q past e) (kept q past))
  retract_rows-by Discarding past e = refl
  retract_rows-by Accumulating past e = refl
  retract_rows-by Retracting past e = ap retracted (withdrawn-by past e)

  -- the relation afterwards
  relation-after : (past : List Event) (e : Event) → relation q (e ∷ past) ≡ relation_after q (effect_of q past e) (state q past)
  relation-after past =
      by_effect q past (λ e x. relation q (e ∷ past) ≡ relation_after q x (state q past))
      (λ k t vs _ _. relation-down q past (Record (Some k) t vs) (stays_down q past (Record (Some k) t vs) refl))
      (λ o t up. relation-up q past (Watermark o t) up ∙ relation-watermark q low timely (places q ok timely) past o t)
      (λ e none. relation-down q past e (stays_down q past e (nothing_stays q past e none)))

  -- a replay by what is kept alone keeps what the history says
  pub replayed-is : (past : List Event) → replayed q past ≡ state q past
  replayed-is [] = refl
  replayed-is (e ∷ past) = ap (after q past e) (replayed-is past) ∙ sym (λ i. record { panes = kept-after past e i; relation = relation-after past e i })

  streamed-by : (past : List Event) (e : Event) → streamed q past e ≡ streamed_by q (effect_of q past e) (state q past)
  streamed-by past =
      by_effect q past (λ e x. streamed q past e ≡ streamed_by q x (state q past))
      (λ k t vs _ _. streamed-down q past (Record (Some k) t vs) (stays_down q past (Record (Some k) t vs) refl))
      (λ o t up. streamed-up q past (Watermark o t) up ∙ ap (stream_rows q.form (mark q (Watermark o t ∷ past)) (relation q past)) (relation-watermark q low timely (places q ok timely) past o t))
      (λ e none. streamed-down q past e (stays_down q past e (nothing_stays q past e none)))

  -- and writes the rows of each turn, of panes and of the three streams
  pub rows-by : (past : List Event) (e : Event) → turn_rows q past e ≡ turn_rows_by q past e (replayed q past)
  rows-by past e =
      (λ i. chosen_rows q.form (retract_rows-by q.mode past e i ++ filter_map (row_of q) (firings-by past e i)) (streamed-by past e i))
      ∙ ap (turn_rows_by q past e) (sym (replayed-is past))
