-- What a pass has with one row more.
use Rattle.std.proofs.Common.{◌≡◌, inl, inr, ℕ, ◌+◌, ◌≤◌, ◌<◌, List, [], ◌∷◌, ◌++◌, Bool, true, false, length, map, take, Option, Some, None, Ok, Err, refl, sym, ap, subst, ◌∙◌, length-append, arith}
use Rattle.std.specs.Prelude.{Result, IfOk, OnOk, codes}
use Rattle.std.proofs.lemmas.Bool.{cases_lt}
use Rattle.std.proofs.lemmas.List.{take-append-le, take_all}
use Rattle.csv.specs.Reading.{default_config, strip_bom}
use Rattle.csv.specs.Writing.{default_writer, row_text}
use Rattle.csv.specs.declared.parser.State.TheVariants as st
use Rattle.wsm_record.specs.Event.{Event}
use Rattle.wsm_admission.specs.Admission.{counter}
use Rattle.wsm_semantics.specs.Query.{Query}
use Rattle.wsm_semantics.specs.Lines.{Row, lines_so_far}
use Rattle.wsm_program.specs.Program.{Program}
use Rattle.wsm_machine.specs.Meaning.{query_of}
use Rattle.wsm_csv.specs.Cells.{event_of_cells}
use Rattle.wsm_csv.specs.Records.{AreAll}
use Rattle.wsm_keep.specs.declared.keeper.Judged.{Judged}
use Rattle.wsm_keep.specs.Holds.{Written, read, text_of}
use Rattle.wsm_keep.specs.Items.{joined}
use Rattle.wsm_keep.specs.Staying.{is_event, staying}
use Rattle.wsm_cut.specs.declared.cutter.Cutter.{Cutter}
use Rattle.wsm_cut.proofs.Passing.{fits_over}
use Rattle.wsm_record.specs.declared.event.RowFault.{RowFault}
use Rattle.wsm_kept.specs.declared.asked.Asked.{Asked}
use Rattle.wsm_kept.specs.declared.counts.Counts.{Counts}
use Rattle.wsm_kept.specs.declared.end.KeepEnd.{KeepEnd}
use Rattle.wsm_kept.specs.declared.head.Head.{Head}
use Rattle.wsm_kept.specs.declared.pass.Pass.{Pass}
use Rattle.wsm_kept.specs.declared.run.Run.{Run}
use Rattle.wsm_kept.specs.Head.{BeginWith, no_head}
use Rattle.wsm_kept.specs.Kept.{Cells, counts_of, in_place, kept_rows, rows_of, written}
use Rattle.wsm_kept.specs.Pass.{Cuts, Fits, IsLimit, IsOf, Keeps, Meets, Stops, Taken, line_count}
use Rattle.wsm_kept.specs.Run as run
use Rattle.wsm_kept.specs.Run.{IsTurn, Tells, no_counts}
use Rattle.wsm_kept.specs.Texts.{rows_text}
use Rattle.wsm_kept.proofs.Back.{all_in_place, unique}
use Rattle.wsm_kept.proofs.RowLists.{length_rows, rows_of-more, written-more}
use Rattle.wsm_kept.proofs.Texts.{joined_kept}

-- ---- a row is cut

no_less : (m n k : ℕ) → m ≡ n + 1 → k ≡ n + 1 → m ≤ k
no_less m n k h e = omega (arith, h, e)

meets_at : (q : Query) (head : Head) (past : List Cells) (row : Cells) → head.kept ≡ length past + 1 → counter (line_count q (past ++ row ∷ [])) ≡ head.own → counter (line_count q (take head.kept (past ++ row ∷ []))) ≡ head.own
meets_at q head past row e h =
    ap (λ (rows : List Cells). counter (line_count q rows)) (take_all head.kept (past ++ row ∷ []) (no_less (length (past ++ row ∷ [])) (length past) head.kept (length-append past (row ∷ [])) e)) ∙ h

at_next : (rows k n : ℕ) → rows ≡ counter (n + 1) → k ≡ n + 1 → k ≤ counter (n + 1) → rows ≡ k
at_next rows k n h e fits = omega (arith, h, e, fits)

next_is : (k n : ℕ) → n < k → k ≤ counter (n + 1) → k ≡ n + 1
next_is k n h g = omega (arith, h, g)

few_is : (k n : ℕ) → k ≤ n → k ≤ counter (n + 1) → k ≤ counter n
few_is k n h g = omega (arith, h, g)

pub meets_more : (q : Query) (head : Head) (past : List Cells) (row : Cells) (counts : Counts) → Meets q head past
    → counts ≡ counts_of q (rows_of q (past ++ row ∷ [])) → (counts.rows ≡ head.kept → counts.lines ≡ head.own) → Meets q head (past ++ row ∷ [])
meets_more q head past row counts meets is own = λ h.
    let l : length (past ++ row ∷ []) ≡ length past + 1 = length-append past (row ∷ []) in
    let there : head.kept ≤ counter (length past + 1) = subst (λ (n : ℕ). head.kept ≤ counter n) l h in
    let n : counts.rows ≡ counter (length past + 1) = ap (λ (c : Counts). c.rows) is ∙ ap counter (length_rows q (past ++ row ∷ []) ∙ l) in
    elim (cases_lt (length past) head.kept) [
      | inl more ↦ let next : head.kept ≡ length past + 1 = next_is head.kept (length past) more there in
          meets_at q head past row next (sym (ap (λ (c : Counts). c.lines) is) ∙ own (at_next counts.rows head.kept (length past) n next there))
      | inr few ↦ ap (λ (rows : List Cells). counter (line_count q rows)) (take-append-le head.kept past (row ∷ []) few) ∙ meets (few_is head.kept (length past) few there)
    ]

module _ (p : Program) (begun kept new : Pass) (r : Run) (is_kept : kept ≡ record begun { run = r; cutter = kept.cutter; text = kept.text }) (is_new : new ≡ record kept { counts = kept.run.counts }) where
  same_run : new.run ≡ r
  same_run = ap (λ (s : Pass). s.run) (is_new ∙ ap (λ (s : Pass). record s { counts = s.run.counts }) is_kept)

  same_counts : new.counts ≡ r.counts
  same_counts = ap (λ (s : Pass). s.counts) is_new ∙ ap (λ (s : Pass). s.run.counts) is_kept

  same_cutter : new.cutter ≡ kept.cutter
  same_cutter = ap (λ (s : Pass). s.cutter) is_new

  same_counted : new.is_counted ≡ begun.is_counted
  same_counted = ap (λ (s : Pass). s.is_counted) is_new ∙ ap (λ (s : Pass). s.is_counted) is_kept

  same_head : new.head ≡ begun.head
  same_head = ap (λ (s : Pass). s.head) is_new ∙ ap (λ (s : Pass). s.head) is_kept

  same_most : new.most ≡ begun.most
  same_most = ap (λ (s : Pass). s.most) is_new ∙ ap (λ (s : Pass). s.most) is_kept

  same_asked : new.asked ≡ begun.asked
  same_asked = ap (λ (s : Pass). s.asked) is_new ∙ ap (λ (s : Pass). s.asked) is_kept

  -- a row that is cut
  pub cut_more : (past : List Cells) (row : Cells) → Cuts p begun past (past ++ row ∷ []) → run.Fits p r (rows_of (query_of p) (past ++ row ∷ [])) → Keeps p begun.is_counted kept.cutter (written (query_of p) (past ++ row ∷ []))
      → r.counts.lines ≤ begun.most → (kept.run.counts.rows ≡ kept.head.kept → kept.run.counts.lines ≡ kept.head.own) → Fits p new (past ++ row ∷ [])
  cut_more past row h rows cuts within own =
      let q : Query = query_of p in
      let all : List Cells = past ++ row ∷ [] in
      let counts : new.counts ≡ counts_of q (rows_of q all) = same_counts ∙ rows.counts in
      let by : r.counts.rows ≡ begun.head.kept → r.counts.lines ≡ begun.head.own = subst (λ (s : Pass). s.run.counts.rows ≡ s.head.kept → s.run.counts.lines ≡ s.head.own) is_kept own in
      let most : new.counts.lines ≤ new.most = subst (λ (n : ℕ). new.counts.lines ≤ n) (sym same_most) (subst (λ (c : Counts). c.lines ≤ begun.most) (sym same_counts) within) in
      record {
        run = subst (λ (s : Run). run.Fits p s (rows_of q all)) (sym same_run) rows;
        cuts = record {
          program = ap (λ (s : Run). s.engine.program) same_run ∙ rows.engine.program;
          counts = counts;
          cutter = subst (λ (c : Cutter). Keeps p new.is_counted c (written q all)) (sym same_cutter) (subst (λ (b : Bool). Keeps p b kept.cutter (written q all)) (sym same_counted) cuts);
          head = subst (BeginWith all) (sym same_head) h.head;
          of = subst (λ (old : Head). IsOf new.asked.sum old) (sym same_head) (subst (λ (a : Asked). IsOf a.sum begun.head) (sym same_asked) h.of);
          meets = subst (λ (old : Head). Meets q old all) (sym same_head) (meets_more q begun.head past row r.counts h.meets rows.counts by);
          limit = subst (λ (old : Head). IsLimit new.asked.taken old new.most) (sym same_head)
              (subst (λ (n : ℕ). IsLimit new.asked.taken begun.head n) (sym same_most) (subst (λ (a : Asked). IsLimit a.taken begun.head begun.most) (sym same_asked) h.limit));
          within = most;
        };
      }

-- ---- turns of a pass

pub with_run : (p : Program) (pass : Pass) (r : Run) (past all : List Cells) → r.engine.program ≡ p → Cuts p pass past all → Cuts p (record pass { run = r }) past all
with_run p pass r past all is h = record { program = is; counts = h.counts; cutter = h.cutter; head = h.head; of = h.of; meets = h.meets; limit = h.limit; within = h.within }

true_false : true ≡ false → ⊥
true_false e = cc e

pub stops : (p : Program) (pass : Pass) (past : List Cells) (row : Cells) (r : Result Bool KeepEnd) → run.Fits p pass.run (event_of_cells p.header.schema row ∷ rows_of (query_of p) past) → pass.most < pass.run.counts.lines
    → IfOk r (λ is_cut. (is_cut ≡ false) × Cuts p pass past past) → IfOk r (Taken p pass past row)
stops p pass past row (Ok true) fits beyond (e, cuts) = absurd (true_false e)
stops p pass past row (Ok false) fits beyond (e, cuts) = record {
  cuts = cuts;
  beyond =
      subst (λ (rows : List Row). pass.most < counter (length (lines_so_far (query_of p) rows))) (sym (rows_of-more (query_of p) past row))
      (subst (λ (c : Counts). pass.most < c.lines) fits.counts beyond);
}
stops p pass past row (Err end) fits beyond h = tt

pub goes_on : (p : Program) (new : Pass) (past : List Cells) (row : Cells) (r : Result Bool KeepEnd) → IfOk r (λ is_cut. is_cut ≡ true) → OnOk r (Fits p new (past ++ row ∷ [])) → IfOk r (Taken p new past row)
goes_on p new past row (Ok true) e fits = fits
goes_on p new past row (Ok false) e fits = absurd (true_false (sym e))
goes_on p new past row (Err end) e fits = tt

pub kept_event : (P : List Written → Type 0) (p : Program) (past : List Cells) (row : Cells) (e : Event) (text : List ℕ) → event_of_cells p.header.schema row ≡ Ok e → text ≡ row_text default_writer row
    → P ((Ok e, text) ∷ written (query_of p) past) → P (written (query_of p) (past ++ row ∷ []))
kept_event P p past row e text is same h =
    subst P (sym (written-more (query_of p) past row))
    (subst (λ (w : Written). P (w ∷ written (query_of p) past)) (λ i. (sym is i, same i)) h)

no_event : (r : Row) → is_event r ≡ false → (why : RowFault) × (r ≡ Err why)
no_event (Err why) e = (why, refl)
no_event (Ok event) e = absurd (true_false e)

pub kept_other : (p : Program) (b : Bool) (c : Cutter) (past : List Cells) (row : Cells) → is_event (event_of_cells p.header.schema row) ≡ false
    → Keeps p b c (written (query_of p) past) → Keeps p b c (written (query_of p) (past ++ row ∷ []))
kept_other p b c past row e h =
    let text : List ℕ = row_text default_writer row in
    let before : List Written = written (query_of p) past in
    let (why, is) = no_event (event_of_cells p.header.schema row) e in
    subst (Keeps p b c) (sym (written-more (query_of p) past row))
    (subst (λ (r : Row). Keeps p b c ((r, text) ∷ before)) (sym is) (record { fits = fits_over p c before why text h.fits; by = h.by; begun = h.begun }))

-- what is told of a row
pub told_some : (q : Query) (before : List Written) (row : Row) (told : Option Judged) (judged : Judged) → told ≡ Some judged → Tells q before row told → IsTurn q before row judged
told_some q before row told judged is tells = subst (Tells q before row) is tells

pub told_none : (q : Query) (before : List Written) (row : Row) (told : Option Judged) → told ≡ None → Tells q before row told → is_event row ≡ false
told_none q before row told is tells = subst (Tells q before row) is tells

no_lines : (lines most : ℕ) → lines ≡ 0 → lines ≤ most
no_lines lines most e = omega (arith, e)

-- before the first row
pub fits_none : (p : Program) (pass : Pass) → run.Fits p pass.run [] → pass.counts ≡ no_counts → pass.head ≡ no_head → IsLimit pass.asked.taken pass.head pass.most → Keeps p pass.is_counted pass.cutter [] → Fits p pass []
fits_none p pass rows counts head limit cutter = record {
  run = rows;
  cuts = record {
    program = rows.engine.program;
    counts = counts;
    cutter = cutter;
    head = head;
    of = inl head;
    meets = subst (λ (old : Head). Meets (query_of p) old []) (sym head) (λ h. refl);
    limit = limit;
    within = no_lines pass.counts.lines pass.most (ap (λ (c : Counts). c.lines) counts);
  };
}

-- ---- the rows that stay

pub same_cells : (q : Query) (past : List Cells) (text : List ℕ) (cells : List Cells) → text ≡ codes "kept\n" ++ rows_text (kept_rows q past) → AreAll (Some text) cells → cells ≡ in_place q past
same_cells q past text cells is all =
    unique default_config st.StartRecord (strip_bom text) cells (in_place q past) all
    (subst (λ (bytes : List ℕ). AreAll (Some bytes) (in_place q past)) (sym is) (all_in_place q past))

-- what a run over them comes to
pub counts_kept : {E : Type 0} (q : Query) (past : List Cells) (text : List ℕ) → text ≡ codes "kept\n" ++ rows_text (kept_rows q past) → (r : Result Counts E)
    → IfOk r (λ counts. (cells : List Cells) × AreAll (Some text) cells × (counts ≡ counts_of q (rows_of q cells))) → IfOk r (λ counts. counts ≡ counts_of q (rows_of q (in_place q past)))
counts_kept q past text is (Ok counts) (cells, all, same) = same ∙ ap (λ (rows : List Cells). counts_of q (rows_of q rows)) (same_cells q past text cells is all)
counts_kept q past text is (Err end) h = tt

pub text_kept : (q : Query) (past : List Cells) (rows : List (List ℕ)) → rows ≡ map text_of (staying read q (written q past)) → codes "kept\n" ++ joined rows ≡ codes "kept\n" ++ rows_text (kept_rows q past)
text_kept q past rows is = ap (λ (texts : List (List ℕ)). codes "kept\n" ++ joined texts) is ∙ ap (λ (t : List ℕ). codes "kept\n" ++ t) (joined_kept q past)

-- what an answer tells
pub was_cut : (p : Program) (pass : Pass) (past : List Cells) (row : Cells) (b : Bool) → b ≡ true → Taken p pass past row b → Fits p pass (past ++ row ∷ [])
was_cut p pass past row true e h = h
was_cut p pass past row false e h = absurd (true_false (sym e))

pub was_left : (p : Program) (pass : Pass) (past : List Cells) (row : Cells) (b : Bool) → b ≡ false → Taken p pass past row b → Stops p pass past row
was_left p pass past row true e h = absurd (true_false e)
was_left p pass past row false e h = h
