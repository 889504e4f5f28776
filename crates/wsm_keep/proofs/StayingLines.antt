-- How many lines a run writes for the rows that stay, behind a row that is no event.
use Rattle.std.proofs.Common.{◌≡◌, ℕ, ◌+◌, true, List, [], ◌∷◌, ◌++◌, length, map, Ok, Err, None, refl, sym, ap, subst, ◌∙◌, length-append, arith}
use Rattle.std.proofs.lemmas.Bool.{true≢false}
use Rattle.std.specs.List.{AllByRecursion}
use Rattle.wsm_record.specs.declared.event.RowFault.{RowFault}
use Rattle.wsm_record.specs.declared.words.Form.{Form}
use Rattle.wsm_record.specs.declared.words.Form.TheVariants.{Panes}
use Rattle.wsm_record.specs.Event.{Event}
use Rattle.wsm_admission.specs.Admission.{counter}
use Rattle.wsm_semantics.specs.declared.out_row.OutRow.{OutRow}
use Rattle.wsm_semantics.specs.Query.{Query, verdict_on}
use Rattle.wsm_semantics.specs.Lines.{Line, Out, Row, events, lines_so_far, refusal_lines}
use Rattle.wsm_semantics.specs.FromWatermark.{Times, dropped_times}
use Rattle.wsm_semantics.specs.Needed.{needed, needed_by, needed_by_panes}
use Rattle.wsm_semantics.specs.Relation.{turn_rows}
use Rattle.wsm_semantics.specs.LastingRows.{rows_so_far}
use Rattle.wsm_semantics.proofs.Each.{map-all}
use Rattle.wsm_semantics.proofs.Lists.{length_each}
use Rattle.wsm_keep.specs.Staying.{events_in, is_event, staying}
use Rattle.wsm_keep.proofs.Events.{stay_events}
use Rattle.wsm_keep.proofs.NeededTaken.{AllTaken, all_taken}
use Rattle.wsm_keep.proofs.StayingEvents.{staying_events}

-- a row that is no event in front of others
pub events_behind : (rows : List Row) (fault : RowFault) → events (rows ++ Err fault ∷ []) ≡ events rows
events_behind [] fault = refl
events_behind (Ok e ∷ rows) fault = ap (λ (es : List Event). e ∷ es) (events_behind rows fault)
events_behind (Err why ∷ rows) fault = events_behind rows fault

with_rows : (a b c : ℕ) → a ≡ b + 1 → a + c ≡ (b + c) + 1
with_rows a b c h = omega (arith, h)

module _ (q : Query) (x : Times) (fault : RowFault) where
  lines_of : (rows : List Row) → AllByRecursion (λ r. is_event r ≡ true) rows → AllTaken q x (events rows) → length (lines_so_far q (rows ++ Err fault ∷ [])) ≡ length (rows_so_far q (events rows)) + 1
  lines_of [] are taken = omega arith
  lines_of (Err why ∷ rows) are taken = absurd (true≢false (sym are.0))
  lines_of (Ok e ∷ rows) are taken =
      let behind : List Row = rows ++ Err fault ∷ [] in
      let n : ℕ = counter (length behind + 1) in
      let written : List OutRow = turn_rows q (events rows) e in
      let none : verdict_on q (events behind) e ≡ None = ap (λ (past : List Event). verdict_on q past e) (events_behind rows fault) ∙ taken.0 in
      let line : refusal_lines n (verdict_on q (events behind) e) ++ map Out (turn_rows q (events behind) e) ≡ map Out written = λ i. refusal_lines n (none i) ++ map Out (turn_rows q (events_behind rows fault i) e) in
      ap (λ (ls : List Line). length (lines_so_far q behind ++ ls)) line
      ∙ length-append (lines_so_far q behind) (map Out written)
      ∙ ap (λ (m : ℕ). length (lines_so_far q behind) + m) (length_each Out written)
      ∙ with_rows (length (lines_so_far q behind)) (length (rows_so_far q (events rows))) (length written) (lines_of rows are.1 taken.1)
      ∙ sym (ap (λ (m : ℕ). m + 1) (length-append (rows_so_far q (events rows)) written))

-- where panes are written, one for that row, and the rows of the needed events
pub staying_lines : (q : Query) → q.form ≡ Panes → {A : Type 0} (read : A → Row) (rows : List A) (fault : RowFault) →
    length (lines_so_far q (map read (staying read q rows) ++ Err fault ∷ [])) ≡ length (rows_so_far q (needed q (events_in read rows))) + 1
staying_lines q form read rows fault =
    let past : List Event = events_in read rows in
    let left : List Row = map read (staying read q rows) in
    let are : events left ≡ needed q past = staying_events read q rows in
    let panes : needed q past ≡ needed_by_panes q past = ap (λ (f : Form). needed_by f q past) form in
    lines_of q (dropped_times q past) fault left (map-all (λ r. is_event r ≡ true) read (staying read q rows) (stay_events read q rows))
    (subst (AllTaken q (dropped_times q past)) (sym (are ∙ panes)) (all_taken q (dropped_times q past) past []))
    ∙ ap (λ (es : List Event). length (rows_so_far q es) + 1) are
