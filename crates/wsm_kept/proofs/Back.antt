-- What stands in the place of rows is read back as the rows that stay.
use Rattle.std.proofs.Common.{◌≡◌, ℕ, ◌+◌, ◌%◌, ◌<◌, ◌≤◌, List, [], ◌∷◌, ◌++◌, Bool, true, false, Option, Some, None, inl, inr, refl, sym, ap, subst, ◌∙◌, unwrap_or, append_assoc, append-nil, arith}
use Rattle.std.proofs.lemmas.Bool.{cases_Bool}
use Rattle.std.proofs.lemmas.Bool.Decides.{nat_tests}
use Rattle.std.proofs.lemmas.Fmt.{decimal_by_steps}
use Rattle.std.proofs.lemmas.List.Folds.{list_any-append}
use Rattle.std.specs.Fmt.{decimal}
use Rattle.std.specs.Prelude.{⊤, codes, reverse}
use Rattle.std.specs.List.{AllByRecursion, list_any}
use Rattle.std.proofs.lemmas.List.{reverse-append}
use Rattle.csv.specs.Machine.{Read, ends_at_end, fields_after, field_after, is_end, next_record, step}
use Rattle.csv.specs.declared.parser.Action.{Action}
use Rattle.csv.specs.declared.parser.Action.TheVariants as act
use Rattle.csv.specs.declared.parser.Config.{Config}
use Rattle.csv.specs.declared.parser.State.{State}
use Rattle.csv.specs.declared.parser.State.TheVariants as st
use Rattle.csv.specs.Reading.{AreRecords, Reached, default_config, strip_bom}
use Rattle.csv.specs.Writing.{default_writer, field_text, fields_text, is_blank, needs_byte, read_back, row_text}
use Rattle.csv.proofs.RoundTrip.{read-write}
use Rattle.wsm_record.specs.Schema.{Declared}
use Rattle.wsm_semantics.specs.Query.{Query}
use Rattle.wsm_csv.specs.Cells.{event_of_cells}
use Rattle.wsm_csv.specs.Records.{AreAll}
use Rattle.wsm_keep.specs.Staying.{is_event, staying}
use Rattle.wsm_keep.proofs.Events.{stay_events}
use Rattle.wsm_csv.specs.Lines.{cells_text}
use Rattle.wsm_kept.specs.declared.head.Head.{Head}
use Rattle.wsm_kept.specs.Head.{IsSaid, head_cells, head_tag, head_text}
use Rattle.wsm_kept.specs.Kept.{Cells, head_of, in_place, kept_rows, kept_text}
use Rattle.wsm_kept.specs.Unseen.{cut_cells}
use Rattle.wsm_kept.specs.Texts.{rows_text}

-- ---- rows that have cells

abbrev pub has_cell : Cells → Bool
has_cell [] = false
has_cell (x ∷ xs) = true

abbrev HaveCells : List Cells → Type 0
HaveCells [] = ⊤
HaveCells (row ∷ rows) = (has_cell row ≡ true) × HaveCells rows

have-append : (rows more : List Cells) → HaveCells rows → HaveCells more → HaveCells (rows ++ more)
have-append [] more h k = k
have-append (row ∷ rows) more h k = (h.0, have-append rows more h.1 k)

have-reverse : (rows : List Cells) → HaveCells rows → HaveCells (reverse rows)
have-reverse [] h = tt
have-reverse (row ∷ rows) h = subst HaveCells (sym (reverse-append (row ∷ []) rows)) (have-append (reverse rows) (row ∷ []) (have-reverse rows h.1) (h.0, tt))

not_true : false ≡ true → ⊥
not_true e = cc e

-- a row that is an event has a cell
event_has : (d : Declared) (row : Cells) → is_event (event_of_cells d row) ≡ true → has_cell row ≡ true
event_has d [] e = absurd (not_true e)
event_has d (cell ∷ cells) e = refl

-- a row that is read has one too
cell_behind : (fields : Cells) (field : List ℕ) → has_cell (fields ++ field ∷ []) ≡ true
cell_behind [] field = refl
cell_behind (f ∷ fs) field = refl

end_has : (a : Action) (fields : Cells) (field : List ℕ) → is_end a ≡ true → has_cell (fields_after a fields field) ≡ true
end_has act.EndRecord fields field e = cell_behind fields field
end_has act.Skip fields field e = cc e
end_has act.Copy fields field e = cc e
end_has act.EndField fields field e = cc e

abbrev has_of : Option Read → Bool
has_of None = true
has_of (Some p) = has_cell p.0

record_has : (cfg : Config) (s : State) (fields : Cells) (field bytes : List ℕ) → has_of (next_record cfg s fields field bytes) ≡ true
unfolding next_record
record_has cfg s fields field [] = elim (cases_Bool (ends_at_end s)) [
  | inl ends ↦ rw ends (cell_behind fields field)
  | inr goes_on ↦ rw goes_on refl
]
record_has cfg s fields field (c ∷ rest) = elim (cases_Bool (is_end (step cfg s c).1)) [
  | inl ends ↦ rw ends (end_has (step cfg s c).1 fields field ends)
  | inr goes_on ↦ rw goes_on (record_has cfg (step cfg s c).0 (fields_after (step cfg s c).1 fields field) (field_after (step cfg s c).1 c field) rest)
]

reached_have : (cfg : Config) (s : State) (bytes : List ℕ) (rows : List Cells) (s2 : State) (rest : List ℕ) → Reached cfg s bytes rows s2 rest → HaveCells rows
unfolding Reached
reached_have cfg s bytes [] s2 rest h = tt
reached_have cfg s bytes (row ∷ rows) s2 rest (p, reads, is, more) = (
  ap has_cell is ∙ ap has_of (sym reads) ∙ record_has cfg s [] [] bytes,
  reached_have cfg p.1 p.2 rows s2 rest more,
)

have_behind : (rows more : List Cells) → HaveCells (rows ++ more) → HaveCells more
have_behind [] more h = h
have_behind (row ∷ rows) more h = have_behind rows more h.1

events_have : (d : Declared) (rows : List Cells) → AllByRecursion (λ row. is_event (event_of_cells d row) ≡ true) rows → HaveCells rows
events_have d [] h = tt
events_have d (row ∷ rows) h = (event_has d row h.0, events_have d rows h.1)

kept_have : (q : Query) (past : List Cells) → HaveCells (kept_rows q past)
unfolding kept_rows
kept_have q past = have-reverse (staying (event_of_cells q.declared) q (reverse past)) (events_have q.declared _ (stay_events (event_of_cells q.declared) q (reverse past)))

-- ---- are read back

pub same_back : (row : Cells) → has_cell row ≡ true → read_back row ≡ row
same_back [] e = absurd (not_true e)
same_back (x ∷ xs) e = refl

no_more : next_record default_config st.StartRecord [] [] [] ≡ None
unfolding next_record
no_more = refl

-- with what is read behind them
records_back : (rows : List Cells) → HaveCells rows → (more : List ℕ) (behind : List Cells) → AreRecords default_config st.StartRecord more behind
    → AreRecords default_config st.StartRecord (rows_text rows ++ more) (rows ++ behind)
unfolding Reached rows_text
records_back [] h more behind r = r
records_back (row ∷ rows) h more behind r =
    let (s, rest, reached, none) = records_back rows h.1 more behind r in
    subst (λ (text : List ℕ). AreRecords default_config st.StartRecord text (row ∷ rows ++ behind)) (sym (append_assoc (row_text default_writer row) (rows_text rows) more))
    (s, rest, ((read_back row, st.StartRecord, rows_text rows ++ more), read-write row (rows_text rows ++ more), sym (same_back row h.0), reached), none)

none_back : AreRecords default_config st.StartRecord [] []
unfolding Reached
none_back = (st.StartRecord, [], (refl, refl), no_more)

-- by themselves
rows_back : (rows : List Cells) → HaveCells rows → AreRecords default_config st.StartRecord (rows_text rows) rows
rows_back rows h = subst (λ (text : List ℕ). AreRecords default_config st.StartRecord text rows) (append-nil (rows_text rows))
    (subst (λ (all : List Cells). AreRecords default_config st.StartRecord (rows_text rows ++ []) all) (append-nil rows) (records_back rows h [] [] none_back))

pub text_in_place : (q : Query) (past : List Cells) → rows_text (in_place q past) ≡ codes "kept\n" ++ rows_text (kept_rows q past)
unfolding rows_text fields_text is_blank
text_in_place q past = refl

unmarked : (text : List ℕ) → strip_bom (codes "kept\n" ++ text) ≡ codes "kept\n" ++ text
unfolding strip_bom
unmarked text = refl

-- what a run reads in the place of rows is these rows
pub all_in_place : (q : Query) (past : List Cells) → AreAll (Some (codes "kept\n" ++ rows_text (kept_rows q past))) (in_place q past)
all_in_place q past =
    subst (λ (text : List ℕ). AreRecords default_config st.StartRecord text (in_place q past)) (text_in_place q past ∙ sym (unmarked (rows_text (kept_rows q past))))
    (rows_back (in_place q past) (refl, kept_have q past))

-- ---- a head is read back

abbrev IsPlain : List ℕ → Type 0
IsPlain text = list_any (needs_byte default_writer) text ≡ false

one_plain : (n : ℕ) → n < 10 → IsPlain ((48 + n) ∷ [])
one_plain n small = grind (arith, nat_tests, small)

more_plain : (n : ℕ) (ds : List ℕ) → 10 ≤ n → IsPlain ds → IsPlain (ds ++ (48 + n % 10) ∷ [])
more_plain n ds large h = list_any-append (needs_byte default_writer) ds ((48 + n % 10) ∷ []) ∙ rw h (one_plain (n % 10) (omega arith))

plain : (n : ℕ) → n ≤ 18446744073709551615 → IsPlain (decimal n)
plain n h = decimal_by_steps (λ n ds. IsPlain ds) one_plain more_plain n (omega (arith, h))

field_plain : (text : List ℕ) → IsPlain text → field_text default_writer text ≡ text
field_plain text h = rw h refl

fields_six : (a b c d e f : List ℕ) → IsPlain a → IsPlain b → IsPlain c → IsPlain d → IsPlain e → IsPlain f
    → fields_text default_writer (a ∷ b ∷ c ∷ d ∷ e ∷ f ∷ []) ≡ cells_text (a ∷ b ∷ c ∷ d ∷ e ∷ f ∷ [])
unfolding fields_text
fields_six a b c d e f ha hb hc hd he hf = rw (field_plain a ha, field_plain b hb, field_plain c hc, field_plain d hd, field_plain e he, field_plain f hf) refl

pub head_row_text : (h : Head) → IsSaid h → row_text default_writer (head_cells h) ≡ head_text h
unfolding head_text is_blank
head_row_text h said =
    let cells : Cells = decimal h.rows ∷ decimal h.lines ∷ decimal h.kept ∷ decimal h.own ∷ decimal h.records ∷ decimal h.sum ∷ [] in
    ap (λ (t : List ℕ). (head_tag ++ t) ++ 10 ∷ [])
    (fields_six (decimal h.rows) (decimal h.lines) (decimal h.kept) (decimal h.own) (decimal h.records) (decimal h.sum)
    (plain h.rows said.rows) (plain h.lines said.lines) (plain h.kept said.kept) (plain h.own said.own) (plain h.records said.records) (plain h.sum said.sum))
    ∙ append_assoc head_tag (cells_text cells) (10 ∷ [])

head_said : (q : Query) (sum : ℕ) (old : Head) (past : List Cells) → sum ≤ 18446744073709551615 → IsSaid (head_of q sum old past)
head_said q sum old past h = record {
  rows = omega arith;
  lines = omega arith;
  kept = omega arith;
  own = omega arith;
  records = omega arith;
  sum = h;
}

cut_text : (q : Query) (sum : ℕ) (old : Head) (past : List Cells) → sum ≤ 18446744073709551615 → rows_text (cut_cells q sum old past) ≡ kept_text q sum old past
unfolding rows_text
cut_text q sum old past h = ap (λ (t : List ℕ). t ++ rows_text (kept_rows q past)) (head_row_text (head_of q sum old past) (head_said q sum old past h))

no_mark : (h : Head) (more : List ℕ) → strip_bom (head_text h ++ more) ≡ head_text h ++ more
unfolding strip_bom head_text
no_mark h more = refl

-- with any bytes behind it that are records by themselves
pub read_behind : (q : Query) (sum : ℕ) (old : Head) (past : List Cells) → sum ≤ 18446744073709551615 → (more : List ℕ) (behind : List Cells)
    → AreRecords default_config st.StartRecord more behind → AreAll (Some (kept_text q sum old past ++ more)) (cut_cells q sum old past ++ behind)
read_behind q sum old past h more behind r =
    let front : List ℕ = head_text (head_of q sum old past) in
    let rows : List ℕ = rows_text (kept_rows q past) in
    let same : strip_bom ((front ++ rows) ++ more) ≡ (front ++ rows) ++ more =
    ap strip_bom (append_assoc front rows more) ∙ no_mark (head_of q sum old past) (rows ++ more) ∙ sym (append_assoc front rows more) in
    subst (λ (text : List ℕ). AreRecords default_config st.StartRecord text (cut_cells q sum old past ++ behind)) (sym same)
    (subst (λ (text : List ℕ). AreRecords default_config st.StartRecord (text ++ more) (cut_cells q sum old past ++ behind)) (cut_text q sum old past h)
    (records_back (cut_cells q sum old past) (refl, kept_have q past) more behind r))

-- with the rows behind those that were cut
pub written_behind : (q : Query) (sum : ℕ) (old : Head) (past : List Cells) → sum ≤ 18446744073709551615 → (bytes : List ℕ) (behind : List Cells)
    → AreAll (Some bytes) (past ++ behind) → AreAll (Some (kept_text q sum old past ++ rows_text behind)) (cut_cells q sum old past ++ behind)
written_behind q sum old past h bytes behind (s, rest, reached, none) =
    read_behind q sum old past h (rows_text behind) behind
    (rows_back behind (have_behind past behind (reached_have default_config st.StartRecord (strip_bom bytes) (past ++ behind) s rest reached)))

-- ---- and as no others

some_none : {A : Type 0} (a : A) → Some a ≡ None → ⊥
some_none a e = cc e

-- where records end and where there is one more
ends_apart : (cfg : Config) (s s2 : State) (xs ys : List ℕ) (p : Read) → s ≡ s2 → xs ≡ ys → next_record cfg s2 [] [] ys ≡ None → next_record cfg s [] [] xs ≡ Some p → ⊥
ends_apart cfg s s2 xs ys p same rest none reads =
    some_none p (sym reads ∙ ap (λ (z : State). next_record cfg z [] [] xs) same ∙ ap (λ (b : List ℕ). next_record cfg s2 [] [] b) rest ∙ none)

pub unique : (cfg : Config) (s : State) (xs : List ℕ) (rows others : List Cells) → AreRecords cfg s xs rows → AreRecords cfg s xs others → rows ≡ others
unfolding Reached
unique cfg s xs [] [] h k = refl
unique cfg s xs [] (o ∷ os) (s2, ys, (same, rest), none) (t2, zs, (p, reads, is, more), none') = absurd (ends_apart cfg s s2 xs ys p same rest none reads)
unique cfg s xs (r ∷ rs) [] (s2, ys, (p, reads, is, more), none) (t2, zs, (same, rest), none') = absurd (ends_apart cfg s t2 xs zs p same rest none' reads)
unique cfg s xs (r ∷ rs) (o ∷ os) (s2, ys, (p, reads, is, more), none) (t2, zs, (p', reads', is', more'), none') =
    let same : p ≡ p' = ap (λ (z : Option Read). unwrap_or z p) (sym reads ∙ reads') in
    ap (λ (row : Cells). row ∷ rs) (is ∙ ap (λ (z : Read). z.0) same ∙ sym is')
    ∙ ap (λ (rows : List Cells). o ∷ rows) (unique cfg p.1 p.2 rs os (s2, ys, more, none) (subst (λ (z : Read). AreRecords cfg z.1 z.2 os) (sym same) (t2, zs, more', none')))
