-- Two histories of which the same is kept are followed alike; and a watermark that another comes right behind leaves nothing.
use Rattle.std.proofs.Common.{◌≡◌, ℕ, Bool, true, false, ◌&&◌, cond, List, [], ◌∷◌, ◌++◌, map, length, ℤ, pos, ◌+ℤ◌, ◌≤ℤ◌, Option, Some, None, Result, Ok, Err, refl, sym, ap, ◌∙◌, arith}
use Rattle.std.proofs.lemmas.Int.{ints}
use Rattle.std.proofs.lemmas.Bool.{true≢false}
use Rattle.std.specs.Prelude.{filter_map, int_le, int_lt, nat_lt}
use Rattle.wsm_record.specs.declared.cell.Cell.{Cell}
use Rattle.wsm_record.specs.declared.words.Form.{Form}
use Rattle.wsm_record.specs.declared.words.Form.TheVariants.{Panes}
use Rattle.wsm_record.specs.Event.{Event, Record, Watermark}
use Rattle.wsm_windows.specs.Windows.{IsShape}
use Rattle.wsm_windows.specs.declared.window.PaneKind.{PaneKind}
use Rattle.wsm_windows.specs.declared.window.PaneKind.TheVariants.{OnTime, Final}
use Rattle.wsm_windows.specs.declared.place.Place.{Place}
use Rattle.wsm_admission.specs.Clock.{marks_of, least}
use Rattle.wsm_admission.specs.declared.verdict.Admitted.{Admitted}
use Rattle.wsm_admission.specs.declared.verdict.Admitted.TheVariants as admitted
use Rattle.wsm_admission.specs.declared.verdict.Refusal.{Refusal}
use Rattle.wsm_admission.specs.Admission as admission
use Rattle.wsm_admission.specs.Admission.{answer}
use Rattle.wsm_admission.proofs.SourceMarks.{watermark_rises}
use Rattle.wsm_semantics.specs.declared.out_row.OutRow.{OutRow}
use Rattle.wsm_semantics.specs.Query.{Query, SessionsByEvent, mark, raises, verdict_on}
use Rattle.wsm_semantics.specs.Panes.{is_live_at}
use Rattle.wsm_semantics.specs.Firings.{firing_set, firings}
use Rattle.wsm_semantics.specs.Retractions.{retracted_in}
use Rattle.wsm_semantics.specs.Relation.{relation, chosen_rows, turn_rows}
use Rattle.wsm_semantics.specs.Kept.{Kept, kept, fired_kept, kind_by_watermark, kept_after_watermark}
use Rattle.wsm_semantics.specs.Summaries.{Plan, IsLawful, Runs, at_watermark, relation_of, summaries, summary_fired, row_of}
use Rattle.wsm_semantics.specs.Steps.{State, panes_after, fired_by, withdrawn_by, relation_after, streamed_by}
use Rattle.wsm_semantics.specs.FromWatermark.{begun_at, BothHaveRoom}
use Rattle.wsm_semantics.specs.FromKept.{KeepAlike, FollowAlike}
use Rattle.wsm_semantics.proofs.KeptLaw as kept_law
use Rattle.wsm_semantics.proofs.Effects.{refused_stays, stays_down}
use Rattle.wsm_semantics.proofs.EventTurns.{kept-watermark}
use Rattle.wsm_semantics.proofs.Steps.{panes_are, fired_are, rows_are, relation_is}
use Rattle.wsm_semantics.proofs.LaterMarks.{mark_alike, next_marks, verdict_alike}

-- where none is refused for RECORDS an event has the same verdict after both
pub verdict_kept : {X : Type 0} (plan : Plan X) (q : Query) (start records : ℤ) (past other : List Event) → KeepAlike plan q start records past other → (e : Event) → BothHaveRoom q start records (e ∷ past) (e ∷ other) →
    verdict_on (begun_at start records q) other e ≡ verdict_on q past e
verdict_kept plan q start records past other alike e room = verdict_alike q start records past other alike.marks e room.0.0 room.1.0

module _ {X : Type 0} (plan : Plan X) (lawful : IsLawful plan) (q : Query) (runs : Runs plan q) (ok : IsShape q.shape) (timely : SessionsByEvent q) (low : pos 0 ≤ℤ q.clock.lateness) (start records : ℤ) where
  abbrev anew : Query
  anew = begun_at start records q

  runs_anew : Runs plan anew
  runs_anew = record { selects = runs.selects; row = runs.row }

  -- ---- one event that has the same verdict after both

  module _ (past other : List Event) (alike : KeepAlike plan q start records past other) (e : Event) (verdict : verdict_on anew other e ≡ verdict_on q past e) where
    -- what is kept, as a machine has it
    abbrev state : List (List Cell) → State X
    state related = record {
      admission = record (admission.opened q.clock q.declared) { mark = mark q past };
      panes = summaries plan q.mode (kept q past);
      relation = related;
      fed = 0;
      fired = 0;
    }

    -- the watermark is the same before the event and after it
    same_marks : (mark anew other ≡ mark q past) × (mark anew (e ∷ other) ≡ mark q (e ∷ past))
    same_marks = (mark_alike q start records past other alike.marks, mark_alike q start records (e ∷ past) (e ∷ other) (next_marks q start records past other alike.marks e))

    abbrev answers : Result Admitted Refusal
    answers = answer (mark q past) (mark q (e ∷ past)) e (verdict_on q past e)

    same_answer : answer (mark anew other) (mark anew (e ∷ other)) e (verdict_on anew other e) ≡ answers
    same_answer = λ i. answer (same_marks.0 i) (same_marks.1 i) e (verdict i)

    pub next_alike : KeepAlike plan q start records (e ∷ past) (e ∷ other)
    next_alike = record {
      marks = next_marks q start records past other alike.marks e;
      panes =
          sym (panes_are plan lawful q runs ok timely low past (state []) refl refl e (verdict_on q past e) refl)
          ∙ sym (ap (λ (r : Result Admitted Refusal). panes_after plan q r e (state [])) same_answer)
          ∙ panes_are plan lawful anew runs_anew ok timely low other (state []) (sym same_marks.0) alike.panes e (verdict_on anew other e) refl;
    }

    abbrev written : List (List Cell) → Result Admitted Refusal → Form → List OutRow
    written related r form = chosen_rows form (retracted_in q.mode (withdrawn_by plan q r e (state related)) ++ filter_map (row_of plan) (fired_by plan q r e (state related))) (streamed_by plan q form r (state related))

    abbrev panes_written : Result Admitted Refusal → Event → List (List Cell) → List OutRow
    panes_written r f related = retracted_in q.mode (withdrawn_by plan q r f (state related)) ++ filter_map (row_of plan) (fired_by plan q r f (state related))

    -- panes alone are written without the relation
    written_panes : (r : Result Admitted Refusal) (related : List (List Cell)) → written related r Panes ≡ written [] r Panes
    written_panes (Ok admitted.Record) related = by_event e where
      by_event : (e : Event) → panes_written (Ok admitted.Record) e related ≡ panes_written (Ok admitted.Record) e []
      by_event (Record None t vs) = refl
      by_event (Record (Some k) t vs) = refl
      by_event (Watermark o t) = refl
    written_panes (Ok (admitted.Watermark from to)) related = refl
    written_panes (Err r) related = refl

    rows_q : turn_rows q past e ≡ written (relation q past) answers q.form
    rows_q = sym (rows_are plan lawful q runs ok timely low past (state (relation q past)) refl refl refl e (verdict_on q past e) refl)

    rows_anew : turn_rows anew other e ≡ written (relation anew other) answers q.form
    rows_anew =
        sym (rows_are plan lawful anew runs_anew ok timely low other (state (relation anew other)) (sym same_marks.0) alike.panes refl e (verdict_on anew other e) refl)
        ∙ ap (λ (r : Result Admitted Refusal). written (relation anew other) r q.form) same_answer

    pub fires_alike : map (summary_fired plan) (firings q past e) ≡ map (summary_fired plan) (firings anew other e)
    fires_alike =
        sym (fired_are plan lawful q runs ok timely low past (state []) refl refl e (verdict_on q past e) refl)
        ∙ sym (ap (λ (r : Result Admitted Refusal). fired_by plan q r e (state [])) same_answer)
        ∙ fired_are plan lawful anew runs_anew ok timely low other (state []) (sym same_marks.0) alike.panes e (verdict_on anew other e) refl

    pub rows_alike : q.form ≡ Panes → turn_rows q past e ≡ turn_rows anew other e
    rows_alike panes_alone =
        rows_q
        ∙ ap (written (relation q past) answers) panes_alone
        ∙ written_panes answers (relation q past)
        ∙ sym (rows_anew ∙ ap (written (relation anew other) answers) panes_alone ∙ written_panes answers (relation anew other))

    pub streams_alike : relation q past ≡ relation anew other → turn_rows q past e ≡ turn_rows anew other e
    streams_alike same = rows_q ∙ ap (λ (related : List (List Cell)). written related answers q.form) same ∙ sym rows_anew

    pub relation_alike : relation q past ≡ relation anew other → relation q (e ∷ past) ≡ relation anew (e ∷ other)
    relation_alike same =
        sym (relation_is plan lawful q runs ok timely low past (state (relation q past)) refl refl refl e (verdict_on q past e) refl)
        ∙ ap (λ (related : List (List Cell)). relation_after plan q answers (state related)) same
        ∙ sym (ap (λ (r : Result Admitted Refusal). relation_after plan q r (state (relation anew other))) same_answer)
        ∙ relation_is plan lawful anew runs_anew ok timely low other (state (relation anew other)) (sym same_marks.0) alike.panes refl e (verdict_on anew other e) refl

    -- where the watermark rises, what the relation was is of no account
    risen : raises q past e ≡ true → (was : List (List Cell)) → relation_after plan q answers (state was) ≡ relation_after plan q answers (state [])
    risen up was = by_event e refl (verdict_on q past e) refl where
      by_event : (f : Event) → e ≡ f → (v : Option Refusal) → verdict_on q past e ≡ v → relation_after plan q (answer (mark q past) (mark q (e ∷ past)) f v) (state was) ≡ relation_after plan q (answer (mark q past) (mark q (e ∷ past)) f v) (state [])
      by_event f is (Some r) h = absurd (true≢false (sym up ∙ stays_down q past e (refused_stays q past e r h)))
      by_event (Record key t vs) is None h = absurd (true≢false (sym up ∙ ap (raises q past) is ∙ stays_down q past (Record key t vs) refl))
      by_event (Watermark o t) is None h =
          let now : List (List Cell) = relation_of (at_watermark plan q (mark q past) (mark q (e ∷ past)) (summaries plan q.mode (kept q past))) in
          ap (λ (b : Bool). cond b now was) up ∙ sym (ap (λ (b : Bool). cond b now []) up)

    pub relation_risen : raises q past e ≡ true → relation q (e ∷ past) ≡ relation anew (e ∷ other)
    relation_risen up =
        sym (relation_is plan lawful q runs ok timely low past (state (relation q past)) refl refl refl e (verdict_on q past e) refl)
        ∙ risen up (relation q past)
        ∙ sym (risen up (relation anew other))
        ∙ sym (ap (λ (r : Result Admitted Refusal). relation_after plan q r (state (relation anew other))) same_answer)
        ∙ relation_is plan lawful anew runs_anew ok timely low other (state (relation anew other)) (sym same_marks.0) alike.panes refl e (verdict_on anew other e) refl

  -- ---- any events

  module _ (past other : List Event) (alike : KeepAlike plan q start records past other) where
    all_alike : (events : List Event) → BothHaveRoom q start records (events ++ past) (events ++ other) → KeepAlike plan q start records (events ++ past) (events ++ other)
    all_alike [] room = alike
    all_alike (e ∷ events) room =
        let before : KeepAlike plan q start records (events ++ past) (events ++ other) = all_alike events (room.0.1, room.1.1) in
        next_alike (events ++ past) (events ++ other) before e (verdict_kept plan q start records (events ++ past) (events ++ other) before e room)

    verdict_then : (events : List Event) (e : Event) → BothHaveRoom q start records (e ∷ events ++ past) (e ∷ events ++ other) → verdict_on anew (events ++ other) e ≡ verdict_on q (events ++ past) e
    verdict_then events e room = verdict_kept plan q start records (events ++ past) (events ++ other) (all_alike events (room.0.1, room.1.1)) e room

    all_related : relation q past ≡ relation anew other → (events : List Event) → BothHaveRoom q start records (events ++ past) (events ++ other) → relation q (events ++ past) ≡ relation anew (events ++ other)
    all_related same [] room = same
    all_related same (e ∷ events) room = relation_alike (events ++ past) (events ++ other) (all_alike events (room.0.1, room.1.1)) e (verdict_then events e room) (all_related same events (room.0.1, room.1.1))

    pub follow_alike : FollowAlike plan q start records past other
    follow_alike = record {
      kept = all_alike;
      verdict = verdict_then;
      firings = λ events e room. fires_alike (events ++ past) (events ++ other) (all_alike events (room.0.1, room.1.1)) e (verdict_then events e room);
      rows = λ panes_alone events e room. rows_alike (events ++ past) (events ++ other) (all_alike events (room.0.1, room.1.1)) e (verdict_then events e room) panes_alone;
      streams = λ same events e room. streams_alike (events ++ past) (events ++ other) (all_alike events (room.0.1, room.1.1)) e (verdict_then events e room) (all_related same events (room.0.1, room.1.1));
    }

-- ---- a watermark right before another

live_before : (m n end l : ℤ) → m ≤ℤ n → int_lt n (end +ℤ l) ≡ true → int_lt m (end +ℤ l) ≡ true
live_before m n end l h k = grind (arith, ints)

not_final_before : (m n o end l : ℤ) → n ≤ℤ o → int_lt o (end +ℤ l) ≡ true → (int_lt m (end +ℤ l) && int_le (end +ℤ l) n) ≡ false
not_final_before m n o end l k h = grind (arith, ints)

due_then : (a b c end : ℤ) → a ≤ℤ b → b ≤ℤ c → (int_lt a end && int_le end b) ≡ true → ((int_lt b end && int_le end c) ≡ false) × ((int_lt a end && int_le end c) ≡ true)
due_then a b c end h k due = (grind (arith, ints), grind (arith, ints))

due_later : (a b c end : ℤ) → a ≤ℤ b → b ≤ℤ c → (int_lt a end && int_le end b) ≡ false → (int_lt b end && int_le end c) ≡ (int_lt a end && int_le end c)
due_later a b c end h k due = grind (arith, ints)

module _ (q : Query) (a b c : ℤ) (first : a ≤ℤ b) (second : b ≤ℤ c) where
  -- a pane that is live after the second fires by both as by the second alone
  once : (p : Place) (h : Kept) → is_live_at q c p ≡ true →
      (let h1 = fired_kept q.mode p (kind_by_watermark q a b p h) h in fired_kept q.mode p (kind_by_watermark q b c p h1) h1) ≡ fired_kept q.mode p (kind_by_watermark q a c p h) h
  once p h live = by_due (int_lt a p.end && int_le p.end b) refl where
    n : ℕ
    n = length (firing_set q.mode h.all h.unshown)

    -- none is final
    on_time : (old new : ℤ) → new ≤ℤ c → (g : Kept) → kind_by_watermark q old new p g ≡ cond ((int_lt old p.end && int_le p.end new) && nat_lt 0 (length (firing_set q.mode g.all g.unshown))) (Some OnTime) None
    on_time old new less g =
        ap (λ (final : Bool). cond ((int_lt old p.end && int_le p.end new) && nat_lt 0 (length (firing_set q.mode g.all g.unshown))) (Some OnTime) (cond (final && nat_lt 0 (length g.unshown)) (Some Final) None))
        (not_final_before old new c p.end q.clock.lateness less live)

    itself : c ≤ℤ c
    itself = omega (arith, ints)

    by_due : (due : Bool) → (int_lt a p.end && int_le p.end b) ≡ due →
        (let h1 = fired_kept q.mode p (kind_by_watermark q a b p h) h in fired_kept q.mode p (kind_by_watermark q b c p h1) h1) ≡ fired_kept q.mode p (kind_by_watermark q a c p h) h
    by_due true due =
        let then = due_then a b c p.end first second due in
        let silent : (g : Kept) → kind_by_watermark q b c p g ≡ None = λ g. on_time b c itself g ∙ ap (λ (d : Bool). cond (d && nat_lt 0 (length (firing_set q.mode g.all g.unshown))) (Some OnTime) None) then.0 in
        let h1 : Kept = fired_kept q.mode p (kind_by_watermark q a b p h) h in
        ap (λ (k : Option PaneKind). fired_kept q.mode p k h1) (silent h1)
        ∙ ap (λ (k : Option PaneKind). fired_kept q.mode p k h)
        (on_time a b second h
        ∙ ap (λ (d : Bool). cond (d && nat_lt 0 n) (Some OnTime) None) (due ∙ sym then.1)
        ∙ sym (on_time a c itself h))
    by_due false due =
        let idle : kind_by_watermark q a b p h ≡ None = on_time a b second h ∙ ap (λ (d : Bool). cond (d && nat_lt 0 n) (Some OnTime) None) due in
        ap (λ (k : Option PaneKind). let h1 = fired_kept q.mode p k h in fired_kept q.mode p (kind_by_watermark q b c p h1) h1) idle
        ∙ ap (λ (k : Option PaneKind). fired_kept q.mode p k h)
        (on_time b c itself h
        ∙ ap (λ (d : Bool). cond (d && nat_lt 0 n) (Some OnTime) None) (due_later a b c p.end first second due)
        ∙ sym (on_time a c itself h))

  pub twice : (es : List (Place × Kept)) → kept_after_watermark q b c (kept_after_watermark q a b es) ≡ kept_after_watermark q a c es
  twice [] = refl
  twice (e ∷ es) =
      let h1 : Kept = fired_kept q.mode e.0 (kind_by_watermark q a b e.0 e.1) e.1 in
      elim (is_live_at q c e.0) as (λ d. is_live_at q c e.0 ≡ d →
      kept_after_watermark q b c (cond (is_live_at q b e.0) ((e.0, h1) ∷ kept_after_watermark q a b es) (kept_after_watermark q a b es))
      ≡ cond d ((e.0, fired_kept q.mode e.0 (kind_by_watermark q a c e.0 e.1) e.1) ∷ kept_after_watermark q a c es) (kept_after_watermark q a c es)) [
        | true ↦ λ live.
            ap (λ (d : Bool). kept_after_watermark q b c (cond d ((e.0, h1) ∷ kept_after_watermark q a b es) (kept_after_watermark q a b es))) (live_before b c e.0.end q.clock.lateness second live)
            ∙ ap (λ (d : Bool). cond d ((e.0, fired_kept q.mode e.0 (kind_by_watermark q b c e.0 h1) h1) ∷ kept_after_watermark q b c (kept_after_watermark q a b es)) (kept_after_watermark q b c (kept_after_watermark q a b es))) live
            ∙ (λ i. (e.0, once e.0 e.1 live i) ∷ twice es i)
        | false ↦ λ dead.
            elim (is_live_at q b e.0) as (λ d. kept_after_watermark q b c (cond d ((e.0, h1) ∷ kept_after_watermark q a b es) (kept_after_watermark q a b es)) ≡ kept_after_watermark q a c es) [
              | true ↦
                  ap (λ (d : Bool). cond d ((e.0, fired_kept q.mode e.0 (kind_by_watermark q b c e.0 h1) h1) ∷ kept_after_watermark q b c (kept_after_watermark q a b es)) (kept_after_watermark q b c (kept_after_watermark q a b es))) dead
                  ∙ twice es
              | false ↦ twice es
            ]
      ] refl

-- so of two watermarks the first leaves nothing that is kept, where the second raises the query's as far without it
pub kept_once : (q : Query) → IsShape q.shape → SessionsByEvent q → pos 0 ≤ℤ q.clock.lateness → (past : List Event) (o r : Option ℕ) (t u : ℤ) →
    mark q (Watermark r u ∷ Watermark o t ∷ past) ≡ mark q (Watermark r u ∷ past) → kept q (Watermark r u ∷ Watermark o t ∷ past) ≡ kept q (Watermark r u ∷ past)
kept_once q ok timely low past o r t u same =
    let v : Event = Watermark o t in
    let w : Event = Watermark r u in
    kept-watermark q low timely (kept_law.places q ok timely) (v ∷ past) r u
    ∙ ap (kept_after_watermark q (mark q (v ∷ past)) (mark q (w ∷ v ∷ past))) (kept-watermark q low timely (kept_law.places q ok timely) past o t)
    ∙ twice q (mark q past) (mark q (v ∷ past)) (mark q (w ∷ v ∷ past)) (watermark_rises q.clock q.declared past v) (watermark_rises q.clock q.declared (v ∷ past) w) (kept q past)
    ∙ ap (λ (m : ℤ). kept_after_watermark q (mark q past) m (kept q past)) same
    ∙ sym (kept-watermark q low timely (kept_law.places q ok timely) past r u)

pub thinned : {X : Type 0} (plan : Plan X) (q : Query) → IsShape q.shape → SessionsByEvent q → pos 0 ≤ℤ q.clock.lateness → (past : List Event) (o r : Option ℕ) (t u : ℤ) →
    marks_of q.clock q.declared (Watermark r u ∷ Watermark o t ∷ past) ≡ marks_of q.clock q.declared (Watermark r u ∷ past) → KeepAlike plan q q.clock.start q.clock.records (Watermark r u ∷ Watermark o t ∷ past) (Watermark r u ∷ past)
thinned plan q ok timely low past o r t u same = record { marks = sym same; panes = ap (summaries plan q.mode) (kept_once q ok timely low past o r t u (ap least same)) }
