-- Why a pass ends.
use Rattle.std.proofs.Common.{◌≡◌, ◌≢◌, inl, inr, ℕ, ◌<◌, List, [], ◌∷◌, ◌++◌, Bool, true, false, length, Option, Some, None, Ok, Err, refl, sym, ap, subst, ◌∙◌, arith}
use Rattle.std.specs.Bool.{MatchBool}
use Rattle.wsm_admission.specs.Admission.{counter}
use Rattle.wsm_semantics.specs.Query.{Query}
use Rattle.wsm_program.specs.Program.{Program}
use Rattle.wsm_machine.specs.Meaning.{query_of}
use Rattle.wsm_csv.specs.Rows.{Follows, cells_of, error_of, read_end}
use Rattle.wsm_csv.specs.declared.rows.ReadEnd.{ReadEnd}
use Rattle.wsm_csv.specs.declared.rows.ReadEnd.TheVariants as read
use Rattle.wsm_csv.specs.declared.rows.Rows.{Rows}
use Rattle.csv.specs.declared.error.Error.{Error}
use Rattle.wsm_kept.specs.declared.asked.Asked.{Asked}
use Rattle.wsm_kept.specs.declared.counts.Counts.{Counts}
use Rattle.wsm_kept.specs.declared.end.KeepEnd.{KeepEnd}
use Rattle.wsm_kept.specs.declared.end.KeepEnd.TheVariants as ends
use Rattle.wsm_kept.specs.declared.head.Head.{Head}
use Rattle.wsm_kept.specs.declared.pass.Pass.{Pass}
use Rattle.wsm_kept.specs.declared.run.Run.{Run}
use Rattle.wsm_kept.specs.declared.cut.Cut.{Cut}
use Rattle.wsm_kept.specs.Run as run
use Rattle.wsm_csv.specs.Cells.{event_of_cells}
use Rattle.std.specs.Prelude.{Result, IfErr}
use Rattle.wsm_kept.specs.Cut.{AreRead, end_of_read}
use Rattle.wsm_kept.specs.Ends.{AreCutShort, AreFewer, AreGone, AreOthers, BeginEnds, CheckEnds, EndsBy, FinishEnds, FirstEnds, TakeEnds, WriteEnds}
use Rattle.wsm_kept.specs.Head.{BeginWith, no_head}
use Rattle.wsm_kept.specs.Kept.{Cells, counts_of, head_of, rows_of}
use Rattle.wsm_kept.specs.Pass.{Cuts, IsLimit, Passes, Stops, line_count}
use Rattle.wsm_kept.proofs.Asking.{cuts_of, none_beyond, taken_beyond}
use Rattle.wsm_kept.proofs.RowLists.{length_rows, rows_of-more}

-- ---- by the first row

none_counted : (n : ℕ) → 0 < n → counter n ≡ 0 → ⊥
none_counted n some e = omega (arith, some, e)

some_there : (row : Cells) (rows : List Cells) → 0 < length (row ∷ rows)
some_there row rows = omega arith

pub none_past : (q : Query) (past : List Cells) (counts : Counts) → counts ≡ counts_of q (rows_of q past) → counts.rows ≡ 0 → past ≡ []
none_past q [] counts is e = refl
none_past q (row ∷ rows) counts is e =
    absurd (none_counted (length (row ∷ rows)) (some_there row rows) (ap counter (sym (length_rows q (row ∷ rows))) ∙ sym (ap (λ (c : Counts). c.rows) is) ∙ e))

pub begins : (asked : Asked) (row : Cells) (end : KeepEnd) → FirstEnds asked.sum row end → BeginEnds asked row end
begins asked row ends.BadHead h = h
begins asked row ends.OtherQuery h = h
begins asked row ends.OtherRows h = h
begins asked row ends.Gone h = absurd h
begins asked row ends.FewerLines h = h
begins asked row ends.ReadFailed h = h
begins asked row ends.Memory h = h
begins asked row ends.WriteFailed h = h

-- nothing is gone in front of none
none_gone : (n : ℕ) → n < 0 → ⊥
none_gone n h = omega (arith, h)

pub not_gone : (taken : Option ℕ) (h : Head) → h ≡ no_head → AreGone taken h → ⊥
not_gone None h e gone = gone
not_gone (Some n) h e gone = none_gone n (subst (λ (o : Head). n < o.lines) e gone)

-- ---- by a row

pub begun_ends : (q : Query) (asked : Asked) (past : List Cells) (row : Cells) (end : KeepEnd) → (past ≡ []) × BeginEnds asked row end → TakeEnds q asked past row end
begun_ends q asked past row ends.BadHead h = h
begun_ends q asked past row ends.OtherQuery h = h
begun_ends q asked past row ends.OtherRows h = absurd h.1
begun_ends q asked past row ends.Gone h = h
begun_ends q asked past row ends.FewerLines h = h
begun_ends q asked past row ends.ReadFailed h = h
begun_ends q asked past row ends.Memory h = tt
begun_ends q asked past row ends.WriteFailed h = h

-- the rows that are cut are as many as were counted
pub count_is : (q : Query) (past : List Cells) (counts : Counts) → counts ≡ counts_of q (rows_of q past) → counts.rows ≡ counter (length past)
count_is q past counts is = ap (λ (c : Counts). c.rows) is ∙ ap counter (length_rows q past)

cut_short : (taken : Option ℕ) (q : Query) (old : Head) (past : List Cells) (row : Cells) (most : ℕ) → AreFewer old past → IsLimit taken old most
    → most < counter (line_count q (past ++ row ∷ [])) → AreCutShort taken q old past row
cut_short None q old past row most few limit beyond = none_beyond most (line_count q (past ++ row ∷ [])) limit beyond
cut_short (Some t) q old past row most few limit beyond = (few, taken_beyond t old.lines old.own most (line_count q (past ++ row ∷ [])) limit.0 limit.1 beyond)

-- those that a head speaks of aren't all there, and no more are cut
pub are_short : (p : Program) (pass : Pass) (past : List Cells) (row : Cells) → Cuts p pass past (past ++ row ∷ []) → pass.counts.rows < pass.head.kept
    → pass.most < counter (line_count (query_of p) (past ++ row ∷ [])) → AreOthers (query_of p) pass.asked past row
are_short p pass past row cuts few beyond =
    let q : Query = query_of p in
    record {
      old = pass.head;
      head = cuts.head;
      of = cuts.of;
      they = inl (cut_short pass.asked.taken q pass.head past row pass.most (subst (λ (n : ℕ). n < pass.head.kept) (count_is q past pass.counts cuts.counts) few) cuts.limit beyond);
    }

-- with this row they are all there, and write other lines
pub write_others : (p : Program) (pass : Pass) (past : List Cells) (row : Cells) (counts : Counts) → Cuts p pass past (past ++ row ∷ [])
    → counts ≡ counts_of (query_of p) (rows_of (query_of p) (past ++ row ∷ [])) → counts.rows ≡ pass.head.kept → counts.lines ≢ pass.head.own
    → AreOthers (query_of p) pass.asked past row
write_others p pass past row counts cuts is rows lines =
    let q : Query = query_of p in
    record {
      old = pass.head;
      head = cuts.head;
      of = cuts.of;
      they = inr (sym (count_is q (past ++ row ∷ []) counts is) ∙ rows, λ e. lines (ap (λ (c : Counts). c.lines) is ∙ e));
    }

-- what a run over all rows and this one comes to
counts_with : (p : Program) (r : Run) (past : List Cells) (row : Cells) → run.Fits p r (event_of_cells p.header.schema row ∷ rows_of (query_of p) past)
    → r.counts ≡ counts_of (query_of p) (rows_of (query_of p) (past ++ row ∷ []))
counts_with p r past row fits = fits.counts ∙ ap (counts_of (query_of p)) (sym (rows_of-more (query_of p) past row))

pub stop_ends : (p : Program) (begun : Pass) (asked : Asked) (r : Run) (past : List Cells) (row : Cells) (result : Result Bool KeepEnd) → Cuts p begun past (past ++ row ∷ [])
    → run.Fits p r (event_of_cells p.header.schema row ∷ rows_of (query_of p) past) → begun.asked ≡ asked → begun.most < r.counts.lines
    → IfErr result (λ end. (end ≡ ends.OtherRows) × (begun.counts.rows < begun.head.kept)) → IfErr result (TakeEnds (query_of p) asked past row)
stop_ends p begun asked r past row (Ok is_cut) cuts fits same beyond h = tt
stop_ends p begun asked r past row (Err end) cuts fits same beyond (is, few) =
    subst (TakeEnds (query_of p) asked past row) (sym is)
    (subst (λ (a : Asked). AreOthers (query_of p) a past row) same
    (are_short p begun past row cuts few (subst (λ (c : Counts). begun.most < c.lines) (counts_with p r past row fits) beyond)))

pub go_on_ends : (p : Program) (begun kept : Pass) (asked : Asked) (r : Run) (past : List Cells) (row : Cells) (result : Result Bool KeepEnd) → Cuts p begun past (past ++ row ∷ [])
    → run.Fits p r (event_of_cells p.header.schema row ∷ rows_of (query_of p) past) → begun.asked ≡ asked
    → kept ≡ record begun { run = r; cutter = kept.cutter; text = kept.text }
    → IfErr result (λ end. (end ≡ ends.OtherRows) × (kept.run.counts.rows ≡ kept.head.kept) × (kept.run.counts.lines ≢ kept.head.own)) → IfErr result (TakeEnds (query_of p) asked past row)
go_on_ends p begun kept asked r past row (Ok is_cut) cuts fits same is_kept h = tt
go_on_ends p begun kept asked r past row (Err end) cuts fits same is_kept (is, rows, lines) =
    let head : kept.head ≡ begun.head = ap (λ (s : Pass). s.head) is_kept in
    let counts : kept.run.counts ≡ r.counts = ap (λ (s : Pass). s.run.counts) is_kept in
    subst (TakeEnds (query_of p) asked past row) (sym is)
    (subst (λ (a : Asked). AreOthers (query_of p) a past row) same
    (write_others p begun past row kept.run.counts cuts (counts ∙ counts_with p r past row fits) (rows ∙ ap (λ (h : Head). h.kept) head) (λ e. lines (e ∙ sym (ap (λ (h : Head). h.own) head)))))

-- ---- by all rows

pub checked : (q : Query) (asked : Asked) (old : Head) (past : List Cells) (at_end : Bool) (head : Head) (end : KeepEnd) → head ≡ head_of q asked.sum old past
    → CheckEnds asked at_end head end → FinishEnds q asked old past at_end end
checked q asked old past at_end head ends.FewerLines is (e, whole, (taken, some, few)) = (e, (whole, (taken, some, subst (λ (h : Head). h.lines < taken) is few)))
checked q asked old past at_end head ends.BadHead is h = h
checked q asked old past at_end head ends.OtherQuery is h = h
checked q asked old past at_end head ends.OtherRows is h = absurd h
checked q asked old past at_end head ends.Gone is h = h
checked q asked old past at_end head ends.ReadFailed is h = h
checked q asked old past at_end head ends.Memory is h = tt
checked q asked old past at_end head ends.WriteFailed is h = h

-- ---- of a reader's rows

pub reads_end : {R : Type 0} (remaining : R → Option (List ℕ)) (known : Option (List ℕ)) (q : Query) (asked : Asked) (rows : Rows R) (end : ReadEnd)
    → end ≡ read_end (error_of rows) → EndsBy remaining known q asked rows (end_of_read end)
reads_end remaining known q asked rows read.Failed e = sym e
reads_end remaining known q asked rows read.Memory e = tt

first_row : {R : Type 0} (remaining : R → Option (List ℕ)) (known : Option (List ℕ)) (rows : Rows R) (past : List Cells) → past ≡ []
    → Follows remaining known (past ++ cells_of rows ∷ []) rows → Follows remaining known (cells_of rows ∷ []) rows
first_row remaining known rows past e follows = subst (λ (before : List Cells). Follows remaining known (before ++ cells_of rows ∷ []) rows) e follows

pub taken_ends : {R : Type 0} (remaining : R → Option (List ℕ)) (known : Option (List ℕ)) (q : Query) (asked : Asked) (rows : Rows R) (past : List Cells) (end : KeepEnd)
    → Follows remaining known (past ++ cells_of rows ∷ []) rows → TakeEnds q asked past (cells_of rows) end → EndsBy remaining known q asked rows end
taken_ends remaining known q asked rows past ends.BadHead follows h = (first_row remaining known rows past h.0 follows, h.1)
taken_ends remaining known q asked rows past ends.OtherQuery follows h = (first_row remaining known rows past h.0 follows, h.1)
taken_ends remaining known q asked rows past ends.OtherRows follows h = inr (past, follows, h)
taken_ends remaining known q asked rows past ends.Gone follows h = (first_row remaining known rows past h.0 follows, h.1)
taken_ends remaining known q asked rows past ends.FewerLines follows h = absurd h.1
taken_ends remaining known q asked rows past ends.ReadFailed follows h = absurd h.1
taken_ends remaining known q asked rows past ends.Memory follows h = tt
taken_ends remaining known q asked rows past ends.WriteFailed follows h = absurd h.1

-- where fewer are there than a head speaks of, one is
few_none : (n : ℕ) → counter 0 < n → n ≡ 0 → ⊥
few_none n h e = omega (arith, h, e)

begin_more : (past : List Cells) (row : Cells) (h : Head) → BeginWith past h → AreFewer h past → BeginWith (past ++ row ∷ []) h
begin_more [] row h is few = absurd (few_none h.kept few (ap (λ (o : Head). o.kept) is))
begin_more (first ∷ past) row h is few = is

too_few : {R : Type 0} (remaining : R → Option (List ℕ)) (known : Option (List ℕ)) (p : Program) (pass : Pass) (rows : Rows R) (past : List Cells) (at_end : Bool)
    → AreRead remaining known past rows at_end → MatchBool at_end (Cuts p pass past past) (Stops p pass past (cells_of rows)) → AreFewer pass.head past
    → EndsBy remaining known (query_of p) pass.asked rows ends.OtherRows
too_few remaining known p pass rows past true all cuts few = inl (past, all, record { old = pass.head; head = cuts.head; of = cuts.of; they = few })
too_few remaining known p pass rows past false follows stops few =
    let row : Cells = cells_of rows in
    inr (
      past,
      follows,
      record {
        old = pass.head;
        head = begin_more past row pass.head stops.cuts.head few;
        of = stops.cuts.of;
        they = inl (cut_short pass.asked.taken (query_of p) pass.head past row pass.most few stops.cuts.limit stops.beyond);
      },
    )

pub finished_ends : {R : Type 0} (remaining : R → Option (List ℕ)) (known : Option (List ℕ)) (p : Program) (pass : Pass) (rows : Rows R) (past : List Cells) (at_end : Bool) (end : KeepEnd)
    → AreRead remaining known past rows at_end → MatchBool at_end (Cuts p pass past past) (Stops p pass past (cells_of rows))
    → FinishEnds (query_of p) pass.asked pass.head past at_end end → EndsBy remaining known (query_of p) pass.asked rows end
finished_ends remaining known p pass rows past at_end ends.BadHead are is h = absurd h
finished_ends remaining known p pass rows past at_end ends.OtherQuery are is h = absurd h
finished_ends remaining known p pass rows past at_end ends.OtherRows are is h = too_few remaining known p pass rows past at_end are is h
finished_ends remaining known p pass rows past at_end ends.Gone are is h = absurd h
finished_ends remaining known p pass rows past at_end ends.FewerLines are is (e, few) =
    let cuts : Cuts p pass past past = cuts_of p pass past (cells_of rows) at_end is in
    (past, rw e at are, pass.head, cuts.head, cuts.of, few)
finished_ends remaining known p pass rows past at_end ends.ReadFailed are is h = absurd h
finished_ends remaining known p pass rows past at_end ends.Memory are is h = tt
finished_ends remaining known p pass rows past at_end ends.WriteFailed are is h = absurd h

pub finish_ends : {R : Type 0} (remaining : R → Option (List ℕ)) (known : Option (List ℕ)) (p : Program) (asked : Asked) (pass : Pass) (rows : Rows R) (at_end : Bool) (r : Result Cut KeepEnd)
    → pass.asked ≡ asked → Passes remaining known p pass rows at_end
    → ((past all : List Cells) → Cuts p pass past all → IfErr r (FinishEnds (query_of p) pass.asked pass.head past at_end))
    → IfErr r (EndsBy remaining known (query_of p) asked rows)
finish_ends remaining known p asked pass rows at_end (Ok made) same passes is = tt
finish_ends remaining known p asked pass rows at_end (Err end) same (past, are, all) is =
    subst (λ (a : Asked). EndsBy remaining known (query_of p) a rows end) same
    (finished_ends remaining known p pass rows past at_end end are all (is past past (cuts_of p pass past (cells_of rows) at_end all)))

-- ---- as it is written

pub writes_end : (said : Option Error) (failed : Bool) (end : ReadEnd) → end ≡ read_end said → failed ≡ false → WriteEnds failed said (end_of_read end)
writes_end said failed read.Failed e works = (works, sym e)
writes_end said failed read.Memory e works = works
