-- Watermarks that come together write as many rows as they do one after another: so with the needed events alone as many are written
-- as with all records that came later than some times, and all watermarks.
use Rattle.std.proofs.Common.{◌≡◌, ℕ, ◌+◌, Bool, true, false, ◌&&◌, cond, not, List, [], ◌∷◌, ◌++◌, length, ℤ, pos, ◌≤ℤ◌, Option, Some, None, is_none, is_some, refl, sym, ap, subst, ◌∙◌, append-nil, length-append, arith}
use Rattle.std.specs.Prelude.{filter_map, int_lt}
use Rattle.std.specs.List.{cons_option}
use Rattle.wsm_record.specs.declared.words.Form.TheVariants.{Panes}
use Rattle.wsm_record.specs.Modes.{retracts}
use Rattle.wsm_record.specs.Event.{Event, Record, Watermark}
use Rattle.wsm_windows.specs.Windows.{IsShape}
use Rattle.wsm_windows.specs.declared.window.PaneKind.{PaneKind}
use Rattle.wsm_windows.specs.declared.place.Place.{Place}
use Rattle.wsm_admission.specs.declared.verdict.Refusal.{Refusal}
use Rattle.wsm_admission.specs.Clock.{least}
use Rattle.wsm_admission.proofs.SourceMarks.{watermark_rises}
use Rattle.wsm_semantics.specs.declared.out_row.OutRow.{OutRow}
use Rattle.wsm_semantics.specs.Query.{Query, Selects, Nothing, SessionsByEvent, datum, effect_of, is_taken, mark, verdict_on}
use Rattle.wsm_semantics.specs.Firings.{firing_set}
use Rattle.wsm_semantics.specs.Retractions.{retracted, retracted_in}
use Rattle.wsm_semantics.specs.Relation.{turn_rows}
use Rattle.wsm_semantics.specs.Kept.{Firing, Joined, Kept, Stands, Unfired, fires, kept, kept_after_watermark, kind_by_watermark, withdrawn_firing, written_by}
use Rattle.wsm_semantics.specs.declared.standing.Standing.TheVariants.{Row}
use Rattle.wsm_semantics.specs.Summaries as sums
use Rattle.wsm_semantics.specs.Summaries.{IsLawful, Pane, Plan, Runs, fired_by_watermark, row_of, standing_of, summaries}
use Rattle.wsm_semantics.specs.ByKey.{HasRoom}
use Rattle.wsm_semantics.specs.FromWatermark.{Goes, Stays, Times, rest}
use Rattle.wsm_semantics.specs.FromKept.{KeepAlike}
use Rattle.wsm_semantics.specs.Needed.{is_one_of, needed_without}
use Rattle.wsm_semantics.specs.LastingRows.{rows_so_far}
use Rattle.wsm_semantics.proofs.EventTurns.{kept-watermark}
use Rattle.wsm_semantics.proofs.Images.{fired_by_watermark-summaries, rows-summaries, same_kind}
use Rattle.wsm_semantics.proofs.KeptAlike.{rows_alike, verdict_kept}
use Rattle.wsm_semantics.proofs.KeptLaw as kept_law
use Rattle.wsm_semantics.proofs.NeededEvents.{keep_alike, panes_of_needed}
use Rattle.wsm_semantics.proofs.NeededMarks.{later, steps_of, Lag, below, lags, later_marks, later_room, later_verdict, needed_marks}
use Rattle.wsm_semantics.proofs.Turns.{idle}
use Rattle.wsm_amounts.proofs.Rises.{all_panes, count-turn, counted, total, writes, written}
use Rattle.wsm_keep.proofs.TakenEvents.{rows_nothing}

module _ {X : Type 0} (plan : Plan X) (lawful : IsLawful plan) (q : Query) (runs : Runs plan q) (ok : IsShape q.shape) (timely : SessionsByEvent q) (low : pos 0 ≤ℤ q.clock.lateness)
    (form : q.form ≡ Panes) where
  -- ---- what a rise writes of what is kept

  abbrev at_rise : ℤ → ℤ → List (Place × Kept) → ℕ
  at_rise a b es = total (written q low a b) es

  -- what is withdrawn, by the panes' summaries
  written_summary : retracts q.mode ≡ true → (p : Place) (s : Stands) → sums.written_by p (standing_of plan q.mode p.key s) ≡ written_by q p s
  written_summary h p Unfired = refl
  written_summary h p (Firing window fired) = λ i. sums.written_by p (Row (cond (h i) (Some window) None) (runs.row p.key fired i))
  written_summary h p Joined = refl

  withdrawn_summaries : retracts q.mode ≡ true → (a b : ℤ) (es : List (Place × Kept)) → sums.withdrawn_by_watermark q a b (summaries plan q.mode es) ≡ withdrawn_firing q (kind_by_watermark q a b) es
  withdrawn_summaries h a b [] = refl
  withdrawn_summaries h a b (e ∷ es) = λ i. cons_option (cond (is_some (same_kind plan q a b es e.0 e.1 i)) (written_summary h e.0 e.1.stands i) None) (withdrawn_summaries h a b es i)

  abbrev rows_withdrawn : ℤ → ℤ → List (Place × Pane X) → List OutRow
  rows_withdrawn a b ps = retracted_in q.mode (sums.withdrawn_by_watermark q a b ps)

  of_withdrawn : (a b : ℤ) (es : List (Place × Kept)) → retracted_in q.mode (withdrawn_firing q (kind_by_watermark q a b) es) ≡ rows_withdrawn a b (summaries plan q.mode es)
  of_withdrawn a b es =
      elim (retracts q.mode) as (λ c. retracts q.mode ≡ c → cond c (retracted (withdrawn_firing q (kind_by_watermark q a b) es)) [] ≡ cond c (retracted (sums.withdrawn_by_watermark q a b (summaries plan q.mode es))) []) [
        | true ↦ λ h. ap retracted (sym (withdrawn_summaries h a b es))
        | false ↦ λ _. refl
      ] refl

  -- and all that is written
  of_fired : (a b : ℤ) (es : List (Place × Kept)) → at_rise a b es ≡ length (rows_withdrawn a b (summaries plan q.mode es) ++ filter_map (row_of plan) (fired_by_watermark plan q a b (summaries plan q.mode es)))
  of_fired a b es =
      let kind : Place → Kept → Option PaneKind = kind_by_watermark q a b in
      sym (count-turn q kind 0 es)
      ∙ (λ i. length (of_withdrawn a b es i
      ++ sym (
      ap (filter_map (row_of plan)) (fired_by_watermark-summaries plan q a b es 0)
      ∙ rows-summaries plan q runs (fires q 0 kind es)) i))

  by_sums : (a b : ℤ) (es fs : List (Place × Kept)) → summaries plan q.mode es ≡ summaries plan q.mode fs → at_rise a b es ≡ at_rise a b fs
  by_sums a b es fs same = of_fired a b es ∙ ap (λ (ps : List (Place × Pane X)). length (rows_withdrawn a b ps ++ filter_map (row_of plan) (fired_by_watermark plan q a b ps))) same ∙ sym (of_fired a b fs)

  -- none where the watermark stays
  at_none : (m : ℤ) (es : List (Place × Kept)) → at_rise m m es ≡ 0
  at_none m [] = refl
  at_none m (e ∷ es) =
      ap (λ (k : Option PaneKind). writes q (is_some k) e + at_rise m m es) (idle q [] m e.0 (length (firing_set q.mode e.1.all e.1.unshown)) (length e.1.unshown))
      ∙ in_front (at_rise m m es)
      ∙ at_none m es
    where
      in_front : (n : ℕ) → 0 + n ≡ n
      in_front n = omega arith

  -- ---- what a history wrote, and a rise behind it would

  abbrev so_far : List Event → ℕ
  so_far some = length (rows_so_far q some)

  abbrev raised : List Event → ℤ → ℕ
  raised some m = so_far some + at_rise (mark q some) m (kept q some)

  turn_is : (some : List Event) (o : Option ℕ) (t : ℤ) → so_far (Watermark o t ∷ some) ≡ so_far some + at_rise (mark q some) (mark q (Watermark o t ∷ some)) (kept q some)
  turn_is some o t =
      length-append (rows_so_far q some) (turn_rows q some (Watermark o t))
      ∙ ap (λ (n : ℕ). so_far some + n) (counted q ok timely low form some o t)

  added : (a b c d : ℕ) → b + c ≡ d → (a + b) + c ≡ a + d
  added a b c d h = omega (arith, h)

  -- a watermark on the way changes nothing
  on_the_way : (some : List Event) (o : Option ℕ) (t m : ℤ) → mark q (Watermark o t ∷ some) ≤ℤ m → raised (Watermark o t ∷ some) m ≡ raised some m
  on_the_way some o t m on =
      let w : Event = Watermark o t in
      let a : ℤ = mark q some in
      let b : ℤ = mark q (w ∷ some) in
      (λ i. turn_is some o t i + at_rise b m (kept-watermark q low timely (kept_law.places q ok timely) some o t i))
      ∙ added (so_far some) (at_rise a b (kept q some)) (at_rise b m (kept_after_watermark q a b (kept q some))) (at_rise a m (kept q some))
      (all_panes q low a b m (watermark_rises q.clock q.declared some w) on (kept q some))

  -- a rise in two steps
  in_steps : (some : List Event) (b m : ℤ) → mark q some ≤ℤ b → b ≤ℤ m → raised some m ≡ raised some b + at_rise b m (kept_after_watermark q (mark q some) b (kept q some))
  in_steps some b m up on =
      let a : ℤ = mark q some in
      sym (added (so_far some) (at_rise a b (kept q some)) (at_rise b m (kept_after_watermark q a b (kept q some))) (at_rise a m (kept q some)) (all_panes q low a b m up on (kept q some)))

  no_more : (n m : ℕ) → m ≡ 0 → n + m ≡ n
  no_more n m h = omega (arith, h)

  -- where the watermark is there
  at_mark : (some : List Event) (m : ℤ) → mark q some ≡ m → raised some m ≡ so_far some
  at_mark some m is = ap (λ (n : ℤ). raised some n) (sym is) ∙ no_more (so_far some) (at_rise (mark q some) (mark q some) (kept q some)) (at_none (mark q some) (kept q some))

  -- ---- the needed events

  module _ (x : Times) where
    abbrev alone : List Event → List Event
    alone past = later q x past

    abbrev needs : List ℕ → List Event → List Event
    needs told past = needed_without q x told past

    alone_mark : (past : List Event) → mark q (alone past) ≡ mark q past
    alone_mark past = ap least (later_marks q x past)

    not_above : (past some : List Event) (told : List ℕ) → Lag q q.clock.records x told past some → mark q some ≤ℤ mark q (alone past)
    not_above past some told lag = subst (λ (m : ℤ). mark q some ≤ℤ m) (sym (alone_mark past)) (below q q.clock.records x past some told lag)

    abbrev Writes : List Event → List Event → Type 0
    Writes past some = raised some (mark q (alone past)) ≡ so_far (alone past)

    abbrev Kept_alike : List Event → List Event → Type 0
    Kept_alike past some = summaries plan q.mode (kept q (alone past)) ≡ summaries plan q.mode (kept_after_watermark q (mark q some) (mark q (alone past)) (kept q some))

    -- a watermark of the history
    passes : (past some : List Event) (told : List ℕ) → Lag q q.clock.records x told past some → (o : Option ℕ) (t : ℤ) → Kept_alike past some → Writes past some →
        raised some (mark q (Watermark o t ∷ alone past)) ≡ so_far (Watermark o t ∷ alone past)
    passes past some told lag o t panes before =
        let m : ℤ = mark q (alone past) in
        let n : ℤ = mark q (Watermark o t ∷ alone past) in
        in_steps some m n (not_above past some told lag) (watermark_rises q.clock q.declared (alone past) (Watermark o t))
        ∙ (λ i. before i + by_sums m n (kept_after_watermark q (mark q some) m (kept q some)) (kept q (alone past)) (sym panes) i)
        ∙ sym (turn_is (alone past) o t)

    -- a record that is needed
    takes : (past : List Event) (e : Event) → (some : List Event) → KeepAlike plan q q.clock.start q.clock.records (alone past) some → mark q some ≡ mark q (alone past) → Writes past some →
        verdict_on q some e ≡ verdict_on q (alone past) e → so_far (e ∷ some) ≡ so_far (e ∷ alone past)
    takes past e some alike same before verdict =
        length-append (rows_so_far q some) (turn_rows q some e)
        ∙ (λ i. (sym (at_mark some (mark q (alone past)) same) ∙ before) i + length (sym (rows_alike plan lawful q runs ok timely low q.clock.start q.clock.records (alone past) some alike e verdict form) i))
        ∙ sym (length-append (rows_so_far q (alone past)) (turn_rows q (alone past) e))

    kept_by : (past : List Event) → HasRoom q past → (told : List ℕ) → HasRoom q (needs told past) → Kept_alike past (needs told past)
    kept_by past room told roomy = panes_of_needed plan lawful q runs ok timely low q.clock.records x past room told roomy

    same_mark : (past : List Event) → mark q (needs [] past) ≡ mark q (alone past)
    same_mark past = ap least (needed_marks q q.clock.records x past) ∙ sym (alone_mark past)

    writes_alike : (past : List Event) → HasRoom q past → (told : List ℕ) → HasRoom q (needs told past) → Writes past (needs told past)
    writes_alike [] room told roomy = at_mark [] (mark q []) refl
    writes_alike (Record None t vs ∷ past) room told roomy = writes_alike past room.1 told roomy
    writes_alike (Record (Some k) t vs ∷ past) room told roomy =
        elim (int_lt (x k) t) as (λ b. HasRoom q (cond (b && chosen) (e ∷ needs [] past) (needs told past)) →
        let es = rest (cond b (Stays e) (Goes e) ∷ steps_of q x past) [] in raised (cond (b && chosen) (e ∷ needs [] past) (needs told past)) (mark q es) ≡ so_far es) [
          | true ↦ elim chosen as (λ c. chosen ≡ c → HasRoom q (cond c (e ∷ needs [] past) (needs told past)) → raised (cond c (e ∷ needs [] past) (needs told past)) (mark q (e ∷ alone past)) ≡ so_far (e ∷ alone past)) [
            | true ↦ λ _ roomy.
                let some : List Event = needs [] past in
                let alike : KeepAlike plan q q.clock.start q.clock.records (alone past) some = keep_alike plan lawful q runs ok timely low q.clock.records x past (kept_by past room.1 [] roomy.1) in
                let verdict : verdict_on q some e ≡ verdict_on q (alone past) e =
                verdict_kept plan q q.clock.start q.clock.records (alone past) some alike e ((λ full. room.0 (sym (later_verdict q x past e room) ∙ full), later_room q x past room.1), roomy) in
                at_mark (e ∷ some) (mark q (e ∷ alone past)) (same_mark past)
                ∙ takes past e some alike (same_mark past) (writes_alike past room.1 [] roomy.1) verdict
            | false ↦ λ other roomy.
                let none : effect_of q (alone past) e ≡ Nothing =
                ap (λ (v : Option Refusal). cond (is_none v && q.selects k vs) (Selects (datum (length (alone past)) (mark q (alone past)) k t vs)) Nothing) (later_verdict q x past e room)
                ∙ ap (λ (b : Bool). cond b (Selects (datum (length (alone past)) (mark q (alone past)) k t vs)) Nothing) other in
                writes_alike past room.1 told roomy
                ∙ sym (ap (λ (rows : List OutRow). length (rows_so_far q (alone past) ++ rows)) (rows_nothing q ok timely low form (alone past) e none) ∙ ap length (append-nil (rows_so_far q (alone past))))
          ] refl
          | false ↦ λ roomy. writes_alike past room.1 told roomy
        ] roomy
      where
        e : Event
        e = Record (Some k) t vs

        chosen : Bool
        chosen = is_taken q past e && q.selects k vs
    writes_alike (Watermark None t ∷ past) room told roomy =
        passes past (needs told past) told (lags q q.clock.records x past told) None t (kept_by past room.1 told roomy) (writes_alike past room.1 told roomy)
    writes_alike (Watermark (Some n) t ∷ past) room told roomy =
        elim (is_taken q past w) as (λ b. is_taken q past w ≡ b → HasRoom q (cond (b && not (is_one_of told n)) (w ∷ needs (n ∷ told) past) (needs told past)) →
        raised (cond (b && not (is_one_of told n)) (w ∷ needs (n ∷ told) past) (needs told past)) (mark q (w ∷ alone past)) ≡ so_far (w ∷ alone past)) [
          | true ↦ λ is. elim (is_one_of told n) as (λ b. is_one_of told n ≡ b → HasRoom q (cond (not b) (w ∷ needs (n ∷ told) past) (needs told past)) → raised (cond (not b) (w ∷ needs (n ∷ told) past) (needs told past)) (mark q (w ∷ alone past)) ≡ so_far (w ∷ alone past)) [
            | true ↦ λ _ roomy. passed told roomy (writes_alike past room.1 told roomy)
            | false ↦ λ fresh roomy.
                let some : List Event = needs (n ∷ told) past in
                on_the_way some (Some n) t (mark q (w ∷ alone past))
                (not_above (w ∷ past) (w ∷ some) told
                (subst (Lag q q.clock.records x told (w ∷ past)) (λ i. cond (is i && not (fresh i)) (w ∷ some) (needs told past)) (lags q q.clock.records x (w ∷ past) told)))
                ∙ passed (n ∷ told) roomy.1 (writes_alike past room.1 (n ∷ told) roomy.1)
          ] refl
          | false ↦ λ _ roomy. passed told roomy (writes_alike past room.1 told roomy)
        ] refl roomy
      where
        w : Event
        w = Watermark (Some n) t

        passed : (others : List ℕ) → HasRoom q (needs others past) → Writes past (needs others past) → raised (needs others past) (mark q (w ∷ alone past)) ≡ so_far (w ∷ alone past)
        passed others roomy before = passes past (needs others past) others (lags q q.clock.records x past others) (Some n) t (kept_by past room.1 others roomy) before

    -- as many rows
    pub as_many : (past : List Event) → HasRoom q past → HasRoom q (needs [] past) → so_far (needs [] past) ≡ so_far (later q x past)
    as_many past room roomy = sym (at_mark (needs [] past) (mark q (alone past)) (same_mark past)) ∙ writes_alike past room [] roomy
