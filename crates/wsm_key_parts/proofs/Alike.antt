-- Two histories of as many events, of which the same is kept: the same follows on them, also where the second is read by a query
-- with other keys and another number of RECORDS.
use Rattle.std.proofs.Common.{◌≡◌, ℕ, suc, true, false, ◌&&◌, cond, List, [], ◌∷◌, ◌++◌, length, ℤ, pos, ◌≤ℤ◌, Option, Some, None, is_none, refl, sym, ap, ◌∙◌}
use Rattle.std.specs.Prelude.{filter_map, int_lt}
use Rattle.wsm_record.specs.Modes.{retracts}
use Rattle.wsm_record.specs.declared.words.Form.TheVariants.{Panes}
use Rattle.wsm_record.specs.Event.{Event, Record, Watermark}
use Rattle.wsm_windows.specs.Windows.{IsShape}
use Rattle.wsm_windows.specs.declared.place.Place.{Place}
use Rattle.wsm_admission.specs.declared.verdict.Refusal.{Refusal}
use Rattle.wsm_admission.specs.Clock.{marks_of, least, admitted_count}
use Rattle.wsm_admission.specs.Admission.{marks_with}
use Rattle.wsm_admission.proofs.SourceMarks.{accepted_marks}
use Rattle.wsm_admission.proofs.Taken.{refused_keeps}
use Rattle.wsm_semantics.specs.declared.out_row.OutRow.{OutRow}
use Rattle.wsm_semantics.specs.Query.{Query, SessionsByEvent, datum, mark, raises, verdict_on, Effect, Selects, Rises, Nothing, effect_of}
use Rattle.wsm_semantics.specs.Firings.{row_of}
use Rattle.wsm_semantics.specs.Retractions.{retracted_in}
use Rattle.wsm_semantics.specs.Relation.{turn_rows}
use Rattle.wsm_semantics.specs.Kept.{Kept, kept}
use Rattle.wsm_semantics.specs.Replay.{kept_after, fired_by, withdrawn_by}
use Rattle.wsm_semantics.proofs.Effects.{effect-refused}
use Rattle.wsm_semantics.proofs.KeptLaw.{kept-after, firings-by, retract_rows-by}
use Rattle.wsm_key_parts.specs.Parts.{over}
use Rattle.wsm_key_parts.proofs.TurnOrder.{turn_is}

-- the marks after an event that is taken
pub taken_marks : (q : Query) (past : List Event) (e : Event) → verdict_on q past e ≡ None → marks_of q.clock q.declared (e ∷ past) ≡ marks_with (marks_of q.clock q.declared past) e
taken_marks q past (Record k t vs) taken = refl
taken_marks q past (Watermark o t) taken = accepted_marks q.clock q.declared past o t taken

-- an event that goes to no part
abbrev pub blank : Event
blank = Record None (pos 0) []

-- ---- the rows of a turn, by what is kept

abbrev rows_from : Query → ℕ → Effect → List (Place × Kept) → List OutRow
rows_from q n x panes = retracted_in q.mode (withdrawn_by q x panes) ++ filter_map (row_of q) (fired_by q n x panes)

abbrev no_rows : List OutRow
no_rows = []

module _ (q : Query) (ok : IsShape q.shape) (timely : SessionsByEvent q) (low : pos 0 ≤ℤ q.clock.lateness) where
  rows_by : q.form ≡ Panes → (past : List Event) (e : Event) → turn_rows q past e ≡ rows_from q (length past) (effect_of q past e) (kept q past)
  rows_by form past e = turn_is q past e form ∙ (λ i. retract_rows-by q ok timely low q.mode past e i ++ filter_map (row_of q) (firings-by q ok timely low past e i))

  empty : cond (retracts q.mode) no_rows no_rows ++ no_rows ≡ []
  empty = elim (retracts q.mode) as (λ b. cond b no_rows no_rows ++ no_rows ≡ []) [ true ↦ refl | false ↦ refl ]

  -- a refused event writes nothing
  pub refused_rows : q.form ≡ Panes → (past : List Event) (e : Event) (r : Refusal) → verdict_on q past e ≡ Some r → turn_rows q past e ≡ []
  refused_rows form past e r refused = rows_by form past e ∙ ap (λ (x : Effect). rows_from q (length past) x (kept q past)) (effect-refused q past e r refused) ∙ empty

  -- where nothing is held a watermark writes nothing
  pub none_held : q.form ≡ Panes → (past : List Event) (s : Option ℕ) (t : ℤ) → kept q past ≡ [] → turn_rows q past (Watermark s t) ≡ []
  none_held form past s t none =
      rows_by form past (Watermark s t)
      ∙ ap (rows_from q (length past) (effect_of q past (Watermark s t))) none
      ∙ elim (raises q past (Watermark s t)) as (λ b. rows_from q (length past) (cond b (Rises (mark q past) (mark q (Watermark s t ∷ past))) Nothing) [] ≡ []) [
        | true ↦ empty
        | false ↦ empty
      ]

  module _ (keys : List (List ℕ)) (records : ℤ) where
    abbrev pub o : Query
    o = over keys records q

    pub record Alike (past other : List Event) : Type 0 where
      pub marks : marks_of o.clock o.declared other ≡ marks_of q.clock q.declared past
      pub turns : length other ≡ length past
      pub kept : kept o other ≡ kept q past

    same_effect : (past other : List Event) → Alike past other → (e : Event) → verdict_on q past e ≡ None → verdict_on o other e ≡ None → effect_of o other e ≡ effect_of q past e
    same_effect past other alike (Record None t vs) taken taken_too = refl
    same_effect past other alike (Record (Some k) t vs) taken taken_too =
        let verdict : verdict_on o other (Record (Some k) t vs) ≡ verdict_on q past (Record (Some k) t vs) = taken_too ∙ sym taken in
        λ i. cond (is_none (verdict i) && q.selects k vs) (Selects (datum (alike.turns i) (least (alike.marks i)) k t vs)) Nothing
    same_effect past other alike (Watermark s t) taken taken_too =
        let after : marks_of o.clock o.declared (Watermark s t ∷ other) ≡ marks_of q.clock q.declared (Watermark s t ∷ past) =
        taken_marks o other (Watermark s t) taken_too ∙ ap (λ (ms : List ℤ). marks_with ms (Watermark s t)) alike.marks ∙ sym (taken_marks q past (Watermark s t) taken) in
        λ i. cond (int_lt (least (alike.marks i)) (least (after i))) (Rises (least (alike.marks i)) (least (after i))) Nothing

    kept_same : (x : Effect) (panes : List (Place × Kept)) → kept_after o x panes ≡ kept_after q x panes
    kept_same (Selects d) panes = refl
    kept_same (Rises old new) panes = refl
    kept_same Nothing panes = refl

    rows_same : (n : ℕ) (x : Effect) (panes : List (Place × Kept)) → rows_from o n x panes ≡ rows_from q n x panes
    rows_same n (Selects d) panes = refl
    rows_same n (Rises old new) panes = refl
    rows_same n Nothing panes = refl

    module _ (past other : List Event) (alike : Alike past other) where
      -- an event that both take
      module _ (e : Event) (taken : verdict_on q past e ≡ None) (taken_too : verdict_on o other e ≡ None) where
        pub alike_after : Alike (e ∷ past) (e ∷ other)
        alike_after = record {
          marks = taken_marks o other e taken_too ∙ ap (λ (ms : List ℤ). marks_with ms e) alike.marks ∙ sym (taken_marks q past e taken);
          turns = ap suc alike.turns;
          kept = kept-after o ok timely low other e
              ∙ (λ i. kept_after o (same_effect past other alike e taken taken_too i) (alike.kept i))
              ∙ kept_same (effect_of q past e) (kept q past)
              ∙ sym (kept-after q ok timely low past e);
        }

        pub rows_alike : q.form ≡ Panes → turn_rows o other e ≡ turn_rows q past e
        rows_alike form =
            turn_is o other e form
            ∙ (λ i. retract_rows-by o ok timely low q.mode other e i ++ filter_map (row_of o) (firings-by o ok timely low other e i))
            ∙ (λ i. rows_from o (alike.turns i) (same_effect past other alike e taken taken_too i) (alike.kept i))
            ∙ rows_same (length past) (effect_of q past e) (kept q past)
            ∙ sym (rows_by form past e)

      -- an event that is refused, in whose place one stands that goes to no part
      pub alike_blank : (e : Event) (r : Refusal) → verdict_on q past e ≡ Some r → Alike (e ∷ past) (blank ∷ other)
      alike_blank e r refused = record {
        marks = alike.marks ∙ sym (refused_keeps q.clock q.shape q.declared (admitted_count q.clock q.shape q.declared past) past e r refused);
        turns = ap suc alike.turns;
        kept = kept-after o ok timely low other blank
            ∙ alike.kept
            ∙ ap (λ (x : Effect). kept_after q x (kept q past)) (sym (effect-refused q past e r refused))
            ∙ sym (kept-after q ok timely low past e);
      }
