-- Rows of sessions are counted as they are written: what is told of them, and what a run over the rows that stay comes to.
use Rattle.std.proofs.Common.{◌≡◌, ℕ, ◌+◌, Bool, true, List, [], ◌∷◌, ◌++◌, length, map, Ok, Err, refl, sym, ap, subst, ◌∙◌, length-append}
use Rattle.std.proofs.lemmas.Bool.{true≢false, and_parts}
use Rattle.std.proofs.lemmas.List.{length-map}
use Rattle.csv.specs.Writing.{default_writer, row_text}
use Rattle.wsm_record.specs.declared.event.RowFault.TheVariants.{BadTag}
use Rattle.wsm_record.specs.declared.words.Form.{Form}
use Rattle.wsm_record.specs.declared.words.Form.TheVariants.{Panes, Istream, Dstream, Rstream}
use Rattle.wsm_record.specs.Event.{Event}
use Rattle.wsm_admission.specs.Admission.{counter}
use Rattle.wsm_admission.specs.Clock.{admitted_count}
use Rattle.wsm_semantics.specs.declared.out_row.OutRow.{OutRow}
use Rattle.wsm_semantics.specs.Query.{Query}
use Rattle.wsm_semantics.specs.Lines.{Row, events, lines_so_far}
use Rattle.wsm_semantics.specs.Relation.{turn_rows}
use Rattle.wsm_program.specs.Program.{Header, Program}
use Rattle.wsm_rules.proofs.Lawful.{lawful}
use Rattle.wsm_machine.specs.Meaning.{plan_of, query_of}
use Rattle.wsm_machine.proofs.CountedSessions.{sessions_by_event}
use Rattle.wsm_machine.proofs.QueryFolds.{plan_lawful, plan_runs}
use Rattle.wsm_csv.specs.Cells.{event_of_cells}
use Rattle.wsm_keep.specs.declared.keeper.Remains.{Remains}
use Rattle.wsm_keep.specs.Begins.{HasBegun, begins_of}
use Rattle.wsm_keep.specs.Holds.{Written, read, selected_in, text_of}
use Rattle.wsm_keep.specs.Staying.{events_in, row_of, staying}
use Rattle.wsm_keep.specs.WrittenBeyond.{WritesSessions, are_sessions}
use Rattle.wsm_keep.proofs.Begun.{begun_next, begun_none}
use Rattle.wsm_keep.proofs.StayingEvents.{staying_events}
use Rattle.wsm_keep.proofs.StayingLines.{events_behind, staying_lines}
use Rattle.wsm_keep.proofs.WrittenBeyond.{writes_beyond}
use Rattle.wsm_cut.proofs.Judging.{query_lawful}
use Rattle.wsm_cut.specs.declared.cutter.Cutter.{Cutter}
use Rattle.wsm_cut.specs.Cutter as cutter
use Rattle.wsm_kept.specs.declared.counts.Counts.{Counts}
use Rattle.wsm_kept.specs.Kept.{Cells, counts_of, in_place, rows_of, written}
use Rattle.wsm_kept.specs.Own.{HasStaying, is_panes, writes_sessions}
use Rattle.wsm_kept.specs.Pass.{Keeps, KeepsWritten}
use Rattle.wsm_kept.proofs.Passed.{kept_event}
use Rattle.wsm_kept.proofs.Texts.{rows_in_place}

of_form : (f : Form) → is_panes f ≡ true → f ≡ Panes
of_form Panes h = refl
of_form Istream h = absurd (true≢false (sym h))
of_form Dstream h = absurd (true≢false (sym h))
of_form Rstream h = absurd (true≢false (sym h))

-- what the header says holds of the query
pub of_sessions : (p : Program) → writes_sessions p.header ≡ true → WritesSessions (query_of p)
of_sessions p is =
    let h : Header = p.header in
    let parts = and_parts (are_sessions h.shape) (is_panes h.form) is in
    record { shape = parts.0; form = of_form h.form parts.1 }

-- ---- what is told

pub keeps_none : (p : Program) (b : Bool) (c : Cutter) → cutter.Fits p c [] → b ≡ writes_sessions p.header → c.keeper.begins.items ≡ [] → Keeps p b c []
keeps_none p b c fits by none = record { fits = fits; by = by; begun = λ _. subst (HasBegun (query_of p) []) (sym none) (begun_none (query_of p) (query_lawful p fits.lawful).shape) }

pub keeps_told : (p : Program) (b : Bool) (old new : Cutter) (before : List Written) (e : Event) (rows : List OutRow) → Keeps p b old before → cutter.Fits p new before
    → new.keeper.begins.items ≡ old.keeper.begins.items ++ begins_of rows → rows ≡ turn_rows (query_of p) (events_in read before) e → KeepsWritten p b new before e
keeps_told p b old new before e rows keeps fits told are =
    let q : Query = query_of p in
    let past : List Event = events_in read before in
    record {
      fits = fits;
      by = keeps.by;
      begun = λ counted.
          subst (HasBegun q (e ∷ past)) (sym (told ∙ ap (λ (out : List OutRow). old.keeper.begins.items ++ begins_of out) are))
          (begun_next q (query_lawful p fits.lawful).shape (query_lawful p fits.lawful).timely past e old.keeper.begins.items (keeps.begun counted));
    }

-- and then the event is taken
pub keeps_event : (p : Program) (b : Bool) (old new : Cutter) (past : List Cells) (row : Cells) (e : Event) (text : List ℕ) → event_of_cells p.header.schema row ≡ Ok e → text ≡ row_text default_writer row
    → KeepsWritten p b old (written (query_of p) past) e → cutter.Fits p new ((Ok e, text) ∷ written (query_of p) past)
    → ((query_of p).form ≡ Panes → HasBegun (query_of p) (e ∷ events_in read (written (query_of p) past)) old.keeper.begins.items → HasBegun (query_of p) (e ∷ events_in read (written (query_of p) past)) new.keeper.begins.items)
    → Keeps p b new (written (query_of p) (past ++ row ∷ []))
keeps_event p b old new past row e text is same keeps fits begun =
    kept_event (Keeps p b new) p past row e text is same
    (record { fits = fits; by = keeps.by; begun = λ counted. begun (of_sessions p (sym keeps.by ∙ counted)).form (keeps.begun counted) })

-- ---- what a run over the rows that stay comes to

same_counts : (c d : Counts) → c.rows ≡ d.rows → c.lines ≡ d.lines → c.admitted ≡ d.admitted → c ≡ d
same_counts c d rows lines admitted = λ i. record { rows = rows i; lines = lines i; admitted = admitted i }

-- it writes the line of the row in front and as many as were written, and takes the records that are selected
pub counted_is : (p : Program) (past : List Cells) (remains : Remains) → writes_sessions p.header ≡ true → HasStaying p past remains →
    record { rows = counter (length remains.queue + 1); lines = counter (remains.written + 1); admitted = selected_in remains.queue } ≡ counts_of (query_of p) (rows_of (query_of p) (in_place (query_of p) past))
counted_is p past remains is has =
    let q : Query = query_of p in
    let sessions : WritesSessions q = of_sessions p is in
    let some : List Written = staying read q (written q past) in
    let left : List Row = map read some in
    let rows : left ++ Err BadTag ∷ [] ≡ rows_of q (in_place q past) = rows_in_place q past [] in
    let many : length remains.queue ≡ length left = sym (length-map remains.queue row_of) ∙ ap length has.texts ∙ length-map some text_of ∙ sym (length-map some read) in
    let lines : remains.written + 1 ≡ length (lines_so_far q (left ++ Err BadTag ∷ [])) =
    ap (λ (n : ℕ). n + 1)
    (has.written is
    ∙ sym (writes_beyond (plan_of p) (plan_lawful p) q (plan_runs p) (lawful p has.whole).shape (sessions_by_event p has.whole) (lawful p has.whole).lateness.low sessions (events_in read (written q past))))
    ∙ sym (staying_lines q sessions.form read (written q past) BadTag) in
    same_counts (record { rows = counter (length remains.queue + 1); lines = counter (remains.written + 1); admitted = selected_in remains.queue }) (counts_of q (rows_of q (in_place q past)))
    (ap (λ (n : ℕ). counter (n + 1)) many ∙ ap counter (sym (length-append left (Err BadTag ∷ [])) ∙ ap length rows))
    (ap counter (lines ∙ ap (λ (rs : List Row). length (lines_so_far q rs)) rows))
    (has.selected sessions.form
    ∙ ap (λ (es : List Event). admitted_count q.clock q.shape q.declared es) (sym (staying_events read q (written q past)) ∙ sym (events_behind left BadTag) ∙ ap events rows))
