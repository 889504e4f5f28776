-- Events that are refused may be left out: the same is kept, the same rows are written, and the same events are needed.
use Rattle.std.proofs.Common.{◌≡◌, ◌≢◌, ℕ, Bool, true, false, ◌&&◌, cond, not, List, [], ◌∷◌, ◌++◌, map, length, ℤ, pos, ◌≤ℤ◌, Option, Some, None, is_none, refl, sym, ap, ◌∙◌, append-nil}
use Rattle.std.proofs.Math.Bool.{and-false}
use Rattle.std.specs.Prelude.{filter_map, int_lt, nat_eq}
use Rattle.wsm_record.specs.declared.words.Form.{Form}
use Rattle.wsm_record.specs.declared.words.Form.TheVariants.{Panes}
use Rattle.wsm_record.specs.declared.words.Mode.{Mode}
use Rattle.wsm_record.specs.Modes.{retracts}
use Rattle.wsm_record.specs.Event.{Event, Record, Watermark}
use Rattle.wsm_windows.specs.Windows.{IsShape}
use Rattle.wsm_admission.specs.declared.verdict.Refusal.{Refusal}
use Rattle.wsm_admission.specs.declared.verdict.Refusal.TheVariants.{RecordLimit}
use Rattle.wsm_admission.specs.Clock.{admitted_count, admitted_with, marks_of, verdict_at}
use Rattle.wsm_admission.proofs.SourceMarks.{refused_marks}
use Rattle.wsm_semantics.specs.declared.out_row.OutRow.{OutRow}
use Rattle.wsm_semantics.specs.Query.{Datum, Effect, Selects, Rises, Nothing, Query, SessionsByEvent, datum, effect_of, is_taken, mark, raises, selected, selection, verdict_on}
use Rattle.wsm_semantics.specs.Panes.{of_key}
use Rattle.wsm_semantics.specs.Firings.{firings, row_of}
use Rattle.wsm_semantics.specs.Retractions.{retract_rows, retracted, retracted_in}
use Rattle.wsm_semantics.specs.Kept.{kept}
use Rattle.wsm_semantics.specs.Replay.{withdrawn_by}
use Rattle.wsm_semantics.specs.Relation.{chosen_rows, streamed, turn_rows}
use Rattle.wsm_semantics.specs.Summaries.{Plan, IsLawful, Runs, summaries}
use Rattle.wsm_semantics.specs.ByKey.{HasRoom}
use Rattle.wsm_semantics.specs.FromWatermark.{Times}
use Rattle.wsm_semantics.specs.FromKept.{KeepAlike}
use Rattle.wsm_semantics.specs.Needed.{is_one_of, needed_without}
use Rattle.wsm_semantics.specs.LastingRows.{rows_so_far}
use Rattle.wsm_semantics.proofs.Effects.{effect-refused}
use Rattle.wsm_semantics.proofs.KeptLaw as kept_law
use Rattle.wsm_semantics.proofs.KeptTurns.{kept-nothing}
use Rattle.wsm_semantics.proofs.LaterMarks.{next_marks}
use Rattle.wsm_semantics.proofs.Turns.{firings-nothing}
use Rattle.wsm_semantics.proofs.KeptAlike.{next_alike, rows_alike}

-- ---- a turn that fires nothing

-- where panes are written the rows are those of what is withdrawn and of firings
pub rows_fired : (q : Query) → q.form ≡ Panes → (past : List Event) (e : Event) → turn_rows q past e ≡ retract_rows q.mode q past e ++ filter_map (row_of q) (firings q past e)
rows_fired q form past e = ap (λ (f : Form). chosen_rows f (retract_rows q.mode q past e ++ filter_map (row_of q) (firings q past e)) (streamed q past e)) form

none_retracted : (m : Mode) → retracted_in m [] ≡ []
none_retracted m = elim (retracts m) as (λ b. cond b (retracted []) [] ≡ []) [ true ↦ refl | false ↦ refl ]

module _ (q : Query) (ok : IsShape q.shape) (timely : SessionsByEvent q) (low : pos 0 ≤ℤ q.clock.lateness) where
  nothing_withdrawn : (past : List Event) (e : Event) → effect_of q past e ≡ Nothing → retract_rows q.mode q past e ≡ []
  nothing_withdrawn past e none =
      kept_law.retract_rows-by q ok timely low q.mode past e
      ∙ ap (λ (x : Effect). retracted_in q.mode (withdrawn_by q x (kept q past))) none
      ∙ none_retracted q.mode

  pub rows_nothing : q.form ≡ Panes → (past : List Event) (e : Event) → effect_of q past e ≡ Nothing → turn_rows q past e ≡ []
  rows_nothing form past e none = rows_fired q form past e ∙ (λ i. nothing_withdrawn past e none i ++ filter_map (row_of q) (firings-nothing q past e none i))

-- ---- refused events

refused_count : (n : ℕ) (e : Event) (r : Refusal) → admitted_with n e (Some r) ≡ n
refused_count n (Record k t vs) r = refl
refused_count n (Watermark o t) r = refl

module _ (q : Query) where
  marks_stay : (past : List Event) (e : Event) (r : Refusal) → verdict_on q past e ≡ Some r → marks_of q.clock q.declared (e ∷ past) ≡ marks_of q.clock q.declared past
  marks_stay past (Record k t vs) r h = refl
  marks_stay past (Watermark o t) r h = refused_marks q.clock q.declared past o t r h

  abbrev pub taken : List Event → List Event
  taken [] = []
  taken (e ∷ past) = cond (is_taken q past e) (e ∷ taken past) (taken past)

  abbrev count : List Event → ℕ
  count past = admitted_count q.clock q.shape q.declared past

  -- by the verdict
  pub by_verdict : (P : Bool → Type 0) (past : List Event) (e : Event) → (verdict_on q past e ≡ None → P true) → ((r : Refusal) → verdict_on q past e ≡ Some r → P false) → P (is_taken q past e)
  by_verdict P past e none some = by (verdict_on q past e) none some where
    by : (v : Option Refusal) → (v ≡ None → P true) → ((r : Refusal) → v ≡ Some r → P false) → P (is_none v)
    by None f g = f refl
    by (Some r) f g = g r refl

  abbrev SameClock : List Event → List Event → Type 0
  SameClock past some = (marks_of q.clock q.declared some ≡ marks_of q.clock q.declared past) × (count some ≡ count past)

  same_verdict : (past some : List Event) → SameClock past some → (e : Event) → verdict_on q some e ≡ verdict_on q past e
  same_verdict past some same e = λ i. verdict_at q.clock q.shape q.declared (same.0 i) (same.1 i) e

  same_clock : (past : List Event) → SameClock past (taken past)
  same_clock [] = (refl, refl)
  same_clock (e ∷ past) =
      let before : SameClock past (taken past) = same_clock past in
      by_verdict (λ b. SameClock (e ∷ past) (cond b (e ∷ taken past) (taken past))) past e
      (λ _. (next_marks q q.clock.start q.clock.records past (taken past) before.0 e, λ i. admitted_with (before.1 i) e (same_verdict past (taken past) before e i)))
      (λ r h. (before.0 ∙ sym (marks_stay past e r h), before.1 ∙ sym (ap (admitted_with (count past) e) h ∙ refused_count (count past) e r)))

  -- each has its verdict
  pub verdict_taken : (past : List Event) (e : Event) → verdict_on q (taken past) e ≡ verdict_on q past e
  verdict_taken past e = same_verdict past (taken past) (same_clock past) e

  no_limit : (v : Option Refusal) → v ≡ None → v ≢ Some RecordLimit
  no_limit None h = λ k. absurd (cc k)
  no_limit (Some r) h = λ k. absurd (cc h)

  -- none is refused for RECORDS
  pub taken_room : (past : List Event) → HasRoom q (taken past)
  taken_room [] = tt
  taken_room (e ∷ past) =
      by_verdict (λ b. HasRoom q (cond b (e ∷ taken past) (taken past))) past e
      (λ none. (no_limit (verdict_on q (taken past) e) (verdict_taken past e ∙ none), taken_room past))
      (λ r h. taken_room past)

  -- ---- the same is needed

  module _ (x : Times) where
    abbrev needs : List ℕ → List Event → List Event
    needs told past = needed_without q x told past

    same_taking : (past : List Event) (e : Event) → is_taken q (taken past) e ≡ is_taken q past e
    same_taking past e = ap (λ (v : Option Refusal). is_none v) (verdict_taken past e)

    pub taken_needs : (past : List Event) (told : List ℕ) → needs told (taken past) ≡ needs told past
    taken_needs [] told = refl
    taken_needs (Record None t vs ∷ past) told =
        by_verdict (λ b. needs told (cond b (Record None t vs ∷ taken past) (taken past)) ≡ needs told past) past (Record None t vs) (λ _. taken_needs past told) (λ r h. taken_needs past told)
    taken_needs (Record (Some k) t vs ∷ past) told =
        by_verdict (λ b. is_taken q past e ≡ b → needs told (cond b (e ∷ taken past) (taken past)) ≡ cond (int_lt (x k) t && (b && q.selects k vs)) (e ∷ needs [] past) (needs told past)) past e
        (λ none same.
        (λ i. cond (int_lt (x k) t && ((same_taking past e ∙ same) i && q.selects k vs)) (e ∷ taken_needs past [] i) (taken_needs past told i)))
        (λ r h _. taken_needs past told ∙ sym (ap (λ (b : Bool). cond b (e ∷ needs [] past) (needs told past)) (and-false (int_lt (x k) t))))
        refl
      where
        e : Event
        e = Record (Some k) t vs
    taken_needs (Watermark None t ∷ past) told =
        by_verdict (λ b. needs told (cond b (Watermark None t ∷ taken past) (taken past)) ≡ needs told past) past (Watermark None t) (λ _. taken_needs past told) (λ r h. taken_needs past told)
    taken_needs (Watermark (Some n) t ∷ past) told =
        by_verdict (λ b. is_taken q past w ≡ b → needs told (cond b (w ∷ taken past) (taken past)) ≡ cond (b && not (is_one_of told n)) (w ∷ needs (n ∷ told) past) (needs told past)) past w
        (λ none same. (λ i. cond ((same_taking past w ∙ same) i && not (is_one_of told n)) (w ∷ taken_needs past (n ∷ told) i) (taken_needs past told i)))
        (λ r h _. taken_needs past told)
        refl
      where
        w : Event
        w = Watermark (Some n) t

  -- ---- and the times of a key's records are the same

  module _ (key : ℕ) where
    abbrev pub times_of : List Event → List ℤ
    times_of past = map (λ (d : Datum). d.time) (of_key key (selected q past))

    -- of one event
    abbrev one : Effect → List ℤ → List ℤ
    one (Selects d) ts = cond (nat_eq d.key key) (d.time ∷ ts) ts
    one _ ts = ts

    one_more : (x : Effect) (ds : List Datum) → map (λ (d : Datum). d.time) (of_key key (selection x ++ ds)) ≡ one x (map (λ (d : Datum). d.time) (of_key key ds))
    one_more (Selects d) ds = elim (nat_eq d.key key) as (λ b. map (λ (d : Datum). d.time) (cond b (d ∷ of_key key ds) (of_key key ds)) ≡ cond b (d.time ∷ map (λ (d : Datum). d.time) (of_key key ds)) (map (λ (d : Datum). d.time) (of_key key ds))) [ true ↦ refl | false ↦ refl ]
    one_more Nothing ds = refl
    one_more (Rises old new) ds = refl

    same_one : (past : List Event) (e : Event) (ts : List ℤ) → one (effect_of q (taken past) e) ts ≡ one (effect_of q past e) ts
    same_one past (Record None t vs) ts = refl
    same_one past (Record (Some k) t vs) ts =
        ap (λ (v : Option Refusal). one (cond (is_none v && q.selects k vs) (Selects (datum (length (taken past)) (mark q (taken past)) k t vs)) Nothing) ts) (verdict_taken past (Record (Some k) t vs))
        ∙ elim (is_taken q past (Record (Some k) t vs) && q.selects k vs) as (λ b. one (cond b (Selects (datum (length (taken past)) (mark q (taken past)) k t vs)) Nothing) ts ≡ one (cond b (Selects (datum (length past) (mark q past) k t vs)) Nothing) ts) [ true ↦ refl | false ↦ refl ]
    same_one past (Watermark o t) ts = none_of (taken past) ∙ sym (none_of past) where
      none_of : (some : List Event) → one (effect_of q some (Watermark o t)) ts ≡ ts
      none_of some = elim (raises q some (Watermark o t)) as (λ b. one (cond b (Rises (mark q some) (mark q (Watermark o t ∷ some))) Nothing) ts ≡ ts) [ true ↦ refl | false ↦ refl ]

    pub taken_times : (past : List Event) → times_of (taken past) ≡ times_of past
    taken_times [] = refl
    taken_times (e ∷ past) =
        by_verdict (λ b. times_of (cond b (e ∷ taken past) (taken past)) ≡ times_of (e ∷ past)) past e
        (λ none.
        one_more (effect_of q (taken past) e) (selected q (taken past))
        ∙ same_one past e (times_of (taken past))
        ∙ ap (one (effect_of q past e)) (taken_times past)
        ∙ sym (one_more (effect_of q past e) (selected q past)))
        (λ r h. taken_times past ∙ sym (one_more (effect_of q past e) (selected q past) ∙ ap (λ (x : Effect). one x (times_of past)) (effect-refused q past e r h)))

-- ---- the same is kept and written

module _ {X : Type 0} (plan : Plan X) (lawful : IsLawful plan) (q : Query) (runs : Runs plan q) (ok : IsShape q.shape) (timely : SessionsByEvent q) (low : pos 0 ≤ℤ q.clock.lateness) where
  abbrev Alike : List Event → List Event → Type 0
  Alike past some = KeepAlike plan q q.clock.start q.clock.records past some

  taken_alike : (past : List Event) → Alike past (taken q past)
  taken_alike [] = record { marks = refl; panes = refl }
  taken_alike (e ∷ past) =
      let before : Alike past (taken q past) = taken_alike past in
      by_verdict q (λ b. Alike (e ∷ past) (cond b (e ∷ taken q past) (taken q past))) past e
      (λ _. next_alike plan lawful q runs ok timely low q.clock.start q.clock.records past (taken q past) before e (verdict_taken q past e))
      (λ r h. record {
        marks = before.marks ∙ sym (marks_stay q past e r h);
        panes = ap (summaries plan q.mode) (kept-nothing q past e (effect-refused q past e r h)) ∙ before.panes;
      })

  module _ (form : q.form ≡ Panes) where
    pub taken_rows : (past : List Event) → rows_so_far q (taken q past) ≡ rows_so_far q past
    taken_rows [] = refl
    taken_rows (e ∷ past) =
        by_verdict q (λ b. rows_so_far q (cond b (e ∷ taken q past) (taken q past)) ≡ rows_so_far q past ++ turn_rows q past e) past e
        (λ _. λ i. taken_rows past i ++ sym (rows_alike plan lawful q runs ok timely low q.clock.start q.clock.records past (taken q past) (taken_alike past) e (verdict_taken q past e) form) i)
        (λ r h. taken_rows past ∙ sym (append-nil (rows_so_far q past)) ∙ sym (ap (λ (rows : List OutRow). rows_so_far q past ++ rows) (rows_nothing q ok timely low form past e (effect-refused q past e r h))))
