-- Rows that are lines, as `csv` reads them.
use Rattle.std.proofs.Common.{◌≡◌, ◌∙◌, ℕ, zero, suc, ◌<◌, Bool, true, false, cond, List, [], ◌∷◌, ◌++◌, drop, length, map, take, Option, Some, None, Ok, Err, Result, refl, sym, ap, subst, append_assoc, append-nil, arith}
use Rattle.std.specs.Prelude.{◌==◌, ◌||◌, ◌&&◌, bytes_eq, codes, nat_le, nat_lt, not, slice_index, ◌-◌, ⊤}
use Rattle.std.specs.List.{AllByRecursion, list_any, onto_first}
use Rattle.std.proofs.lemmas.Bool.{and_parts, eqb-true}
use Rattle.std.proofs.lemmas.Bool.Decides.{nat_tests}
use Rattle.std.proofs.lemmas.List.{map-append}
use Rattle.std.proofs.lemmas.Slice.Eq.{bytes_eq-Decides}
use Rattle.csv.specs.Reading.{Reached, default_config, strip_bom}
use Rattle.csv.specs.Writing.{default_writer, fields_text, is_blank, needs_byte, row_text as csv_row}
use Rattle.csv.specs.declared.parser.State.TheVariants as st
use Rattle.csv.proofs.RoundTrip.{read-write, rows_text}
use Rattle.wsm_record.specs.declared.event.RowFault.{RowFault}
use Rattle.wsm_record.specs.declared.event.RowFault.TheVariants.{BadTag}
use Rattle.wsm_record.specs.Event.{Event}
use Rattle.wsm_record.specs.Schema.{Declared}
use Rattle.wsm_record.proofs.Lists.{or_left}
use Rattle.wsm_semantics.specs.Lines.{Row}
use Rattle.wsm_csv.specs.Cells.{event_of_cells, record_tag}
use Rattle.wsm_csv.specs.Records.{AreAll}
use Rattle.wsm_turns.specs.Turns.{spoken}
use Rattle.wsm_row_watermarks.specs.declared.row.TheConstants.{FIRST_PLACE}
use Rattle.wsm_row_watermarks.specs.declared.text.TheConstants.{LONGEST}
use Rattle.wsm_row_watermarks.specs.Lines.{Line, Said, Taken, bare, begins_marked, behind_commas, byte_order_mark, cells_of, has_cell, if_plain, is_odd, is_plain, joined, line_of, taken_if, taken_of, taken_out, text_of, unmarked, without}
use Rattle.wsm_row_watermarks.specs.Turns.{with_feed}
use Rattle.wsm_row_laws.specs.Fed.{IsLine, fed_by}
use Rattle.wsm_row_laws.proofs.PlainTexts.{IsPlain, field_plain}
use Rattle.wsm_row_laws.proofs.ReadRows.{no_more}

abbrev pub Cells : Type 0
Cells = List (List ℕ)

abbrev pub HasCell : Cells → Type 0
HasCell [] = ⊥
HasCell (c ∷ cs) = ⊤

-- a text of some rows, which say this
pub record Reads (d : Declared) (text : List ℕ) (events : List Row) : Type 0 where
  pub rows : List Cells
  pub some : AllByRecursion HasCell rows
  pub is : text ≡ rows_text rows
  pub said : map (event_of_cells d) rows ≡ events
  pub unmarked : begins_marked text ≡ false

-- ---- one behind the other

all_append : (P : Cells → Type 0) (xs ys : List Cells) → AllByRecursion P xs → AllByRecursion P ys → AllByRecursion P (xs ++ ys)
all_append P [] ys h k = k
all_append P (x ∷ xs) ys h k = (h.0, all_append P xs ys h.1 k)

rows_append : (xs ys : List Cells) → rows_text (xs ++ ys) ≡ rows_text xs ++ rows_text ys
unfolding rows_text
rows_append [] ys = refl
rows_append (x ∷ xs) ys = ap (λ (t : List ℕ). csv_row default_writer x ++ t) (rows_append xs ys) ∙ sym (append_assoc (csv_row default_writer x) (rows_text xs) (rows_text ys))

marked_append : (a b : List ℕ) → begins_marked a ≡ false → begins_marked b ≡ false → begins_marked (a ++ b) ≡ false
marked_append [] b h k = k
marked_append (x ∷ xs) b h k = h

pub reads_none : (d : Declared) → Reads d [] []
unfolding rows_text
reads_none d = record { rows = []; some = tt; is = refl; said = refl; unmarked = refl }

pub reads_join : (d : Declared) (a b : List ℕ) (es fs : List Row) → Reads d a es → Reads d b fs → Reads d (a ++ b) (es ++ fs)
reads_join d a b es fs r q = record {
  rows = r.rows ++ q.rows;
  some = all_append HasCell r.rows q.rows r.some q.some;
  is = (λ i. r.is i ++ q.is i) ∙ sym (rows_append r.rows q.rows);
  said = map-append (event_of_cells d) r.rows q.rows ∙ (λ i. r.said i ++ q.said i);
  unmarked = marked_append a b r.unmarked q.unmarked;
}

-- ---- all of them

rows_back : (rows : List Cells) → AllByRecursion HasCell rows → Reached default_config st.StartRecord (rows_text rows) rows st.StartRecord []
unfolding Reached rows_text
rows_back [] h = (refl, refl)
rows_back ([] ∷ rows) h = absurd h.0
rows_back ((c ∷ cs) ∷ rows) h = ((c ∷ cs, st.StartRecord, rows_text rows), read-write (c ∷ cs) (rows_text rows), refl, rows_back rows h.1)

stripped : (text : List ℕ) → begins_marked text ≡ false → strip_bom text ≡ text
unfolding strip_bom
stripped [] h = refl
stripped (a ∷ []) h = refl
stripped (a ∷ b ∷ []) h = refl
stripped (a ∷ b ∷ c ∷ rest) h = rw h refl

pub read_all : (d : Declared) (text : List ℕ) (events : List Row) → (r : Reads d text events) → AreAll (Some text) r.rows
read_all d text events r =
    let plain : strip_bom text ≡ rows_text r.rows = stripped text r.unmarked ∙ r.is in
    (st.StartRecord, [], subst (λ (t : List ℕ). Reached default_config st.StartRecord t r.rows st.StartRecord []) (sym plain) (rows_back r.rows r.some), no_more)

-- ---- one row

pub row_reads : (d : Declared) (cells : Cells) (text : List ℕ) → HasCell cells → text ≡ csv_row default_writer cells → begins_marked text ≡ false → Reads d text (event_of_cells d cells ∷ [])
unfolding rows_text
row_reads d cells text has is plain = record { rows = cells ∷ []; some = (has, tt); is = is ∙ sym (append-nil (csv_row default_writer cells)); said = refl; unmarked = plain }

fields_plain : (cells : Cells) → AllByRecursion IsPlain cells → fields_text default_writer cells ≡ behind_commas cells
unfolding fields_text
fields_plain [] h = refl
fields_plain (cell ∷ cells) h = rw (field_plain cell h.0, fields_plain cells h.1) refl

not_zero : (n : ℕ) → (suc n == 0) ≡ false
not_zero n = grind (arith, nat_tests)

-- cells whose text has a byte
row_plain : (cells : Cells) (b : ℕ) (bs : List ℕ) → AllByRecursion IsPlain cells → joined cells ≡ b ∷ bs → csv_row default_writer cells ≡ joined cells ++ 10 ∷ []
unfolding fields_text is_blank
row_plain [] b bs h is = cc is
row_plain ([] ∷ []) b bs h is = cc is
row_plain ((x ∷ xs) ∷ []) b bs h is = rw (field_plain (x ∷ xs) h.0, not_zero (length xs)) refl
row_plain (c ∷ e ∷ es) b bs h is = rw (field_plain c h.0, fields_plain (e ∷ es) h.1) refl

feed_is : (text : List ℕ) (b : ℕ) (bs : List ℕ) → text ≡ b ∷ bs → with_feed text ≡ text ++ 10 ∷ []
feed_is [] b bs is = cc is
feed_is (x ∷ xs) b bs is = refl

has_text : (cells : Cells) (b : ℕ) (bs : List ℕ) → joined cells ≡ b ∷ bs → HasCell cells
has_text [] b bs is = cc is
has_text (c ∷ cs) b bs is = tt

fed_unmarked : (text : List ℕ) → begins_marked text ≡ false → begins_marked (with_feed text) ≡ false
fed_unmarked [] h = refl
fed_unmarked (b ∷ bs) h = h

pub cells_read : (d : Declared) (cells : Cells) (b : ℕ) (bs : List ℕ) → AllByRecursion IsPlain cells → joined cells ≡ b ∷ bs → begins_marked (joined cells) ≡ false
    → Reads d (with_feed (joined cells)) (event_of_cells d cells ∷ [])
cells_read d cells b bs plain is marked =
    row_reads d cells (with_feed (joined cells)) (has_text cells b bs is) (feed_is (joined cells) b bs is ∙ sym (row_plain cells b bs plain is)) (fed_unmarked (joined cells) marked)

-- ---- the cells of a text

has_cells : (text : List ℕ) → HasCell (cells_of text)
has_cells [] = tt
has_cells (b ∷ bs) = one (b == 44) (cells_of bs) (has_cells bs)
  where
    one : (is : Bool) (cs : Cells) → HasCell cs → HasCell (cond is ([] ∷ cs) (onto_first b cs))
    one true cs h = tt
    one false [] h = absurd h
    one false (c ∷ cs) h = tt

pub joined_cells : (text : List ℕ) → joined (cells_of text) ≡ text
joined_cells [] = refl
joined_cells (b ∷ bs) = one (b == 44) refl (cells_of bs) (has_cells bs) (joined_cells bs)
  where
    one : (is : Bool) → (b == 44) ≡ is → (cs : Cells) → HasCell cs → joined cs ≡ bs → joined (cond is ([] ∷ cs) (onto_first b cs)) ≡ b ∷ bs
    one is e [] h k = absurd h
    one true e (c ∷ cs) h k = (λ i. sym (eqb-true b 44 e) i ∷ k i)
    one false e (c ∷ cs) h k = ap (λ (t : List ℕ). b ∷ t) k

or_right : (a b : Bool) → (a || b) ≡ false → b ≡ false
or_right false b e = e
or_right true b e = cc e

needs : (b : ℕ) → (b == 44) ≡ false → is_odd b ≡ false → (b == 10) ≡ false → needs_byte default_writer b ≡ false
needs b comma odd feed =
    let quote = or_left (b == 34) ((b == 13) || (b == 0)) odd in
    let carriage = or_left (b == 13) (b == 0) (or_right (b == 34) ((b == 13) || (b == 0)) odd) in
    rw (comma, quote, carriage, feed) refl

plain_cells : (text : List ℕ) → list_any is_odd text ≡ false → IsLine text → AllByRecursion IsPlain (cells_of text)
plain_cells [] odd feed = (refl, tt)
plain_cells (b ∷ bs) odd feed =
    one (b == 44) refl (cells_of bs) (has_cells bs) (plain_cells bs (or_right (is_odd b) (list_any is_odd bs) odd) (or_right (b == 10) (list_any (λ x. x == 10) bs) feed))
  where
    one : (is : Bool) → (b == 44) ≡ is → (cs : Cells) → HasCell cs → AllByRecursion IsPlain cs → AllByRecursion IsPlain (cond is ([] ∷ cs) (onto_first b cs))
    one is e [] h k = absurd h
    one true e (c ∷ cs) h k = (refl, k)
    one false e (c ∷ cs) h k = (rw (needs b e (or_left (is_odd b) (list_any is_odd bs) odd) (or_left (b == 10) (list_any (λ x. x == 10) bs) feed)) k.0, k.1)

-- ---- a line taken apart

record IsTaken (t : Taken) : Type 0 where
  plain : AllByRecursion IsPlain t.cells
  text : t.text ≡ joined t.cells
  marked : begins_marked t.text ≡ false

plain_without : (place : ℕ) (cells : Cells) → AllByRecursion IsPlain cells → AllByRecursion IsPlain (without place cells)
plain_without place [] h = tt
plain_without zero (c ∷ cs) h = h.1
plain_without (suc place) (c ∷ cs) h = (h.0, plain_without place cs h.1)

-- the tag of a record stays in front
tag_stays : (place : ℕ) (cells : Cells) → has_cell place cells ≡ true → begins_marked (joined (without place cells)) ≡ false
tag_stays zero cells is = cc is
tag_stays (suc place) [] is = refl
tag_stays (suc place) (c ∷ cs) is =
    let both = and_parts (nat_le FIRST_PLACE (suc place)) (nat_lt (suc place) (length (c ∷ cs)) && bytes_eq c record_tag) is in
    let tag = (and_parts (nat_lt (suc place) (length (c ∷ cs))) (bytes_eq c record_tag) both.1).1 in
    let same : c ≡ record_tag = (bytes_eq-Decides c record_tag).0 tag in
    subst (λ (x : List ℕ). begins_marked (joined (x ∷ without place cs)) ≡ false) (sym same) refl

whole_taken : (text : List ℕ) → begins_marked text ≡ false → list_any is_odd text ≡ false → IsLine text → IsTaken (record { text = text; cells = cells_of text; identifier = None })
whole_taken text marked odd feed = record { plain = plain_cells text odd feed; text = sym (joined_cells text); marked = marked }

taken : (once : Option ℕ) (text : List ℕ) → begins_marked text ≡ false → list_any is_odd text ≡ false → IsLine text → IsTaken (taken_of once text)
taken None text marked odd feed = whole_taken text marked odd feed
taken (Some place) text marked odd feed = one (has_cell place (cells_of text)) refl
  where
    one : (is : Bool) → has_cell place (cells_of text) ≡ is → IsTaken (taken_if is place text)
    one true e = record { plain = plain_without place (cells_of text) (plain_cells text odd feed); text = refl; marked = tag_stays place (cells_of text) e }
    one false e = whole_taken text marked odd feed

-- ---- a line

-- the row of a line says what the line says; where it is none, and has no byte, there is no row
abbrev pub row_of : Said → List ℕ → List Row
row_of (Ok x) text = Ok x.event ∷ []
row_of (Err why) text = fed_by (Err why) text []

abbrev pub LineReads : Declared → Line → Type 0
LineReads d line = Reads d (with_feed line.text) (row_of line.said line.text)

said_row : (i : Option (List ℕ)) (r : Result Event RowFault) (b : ℕ) (bs : List ℕ) → row_of (spoken i r) (b ∷ bs) ≡ r ∷ []
said_row i (Ok e) b bs = refl
said_row i (Err why) b bs = refl

-- no event has no byte
no_event : (d : Declared) (cells : Cells) → joined cells ≡ [] → event_of_cells d cells ≡ Err BadTag
no_event d [] is = refl
no_event d ([] ∷ []) is = refl
no_event d ([] ∷ c ∷ cs) is = cc is
no_event d ((x ∷ xs) ∷ cs) is = cc is

taken_reads : (d : Declared) (t : Taken) → IsTaken t → LineReads d (record { text = t.text; said = spoken t.identifier (event_of_cells d t.cells) })
taken_reads d t is = one t.text refl
  where
    one : (text : List ℕ) → t.text ≡ text → LineReads d (record { text = text; said = spoken t.identifier (event_of_cells d t.cells) })
    one [] e =
        subst (λ (r : Row). Reads d [] (row_of (spoken t.identifier r) [])) (sym (no_event d t.cells (sym is.text ∙ e))) (reads_none d)
    one (b ∷ bs) e =
        let text : joined t.cells ≡ b ∷ bs = sym is.text ∙ e in
        let marked : begins_marked (joined t.cells) ≡ false = subst (λ (l : List ℕ). begins_marked l ≡ false) is.text is.marked in
        let row = cells_read d t.cells b bs is.plain text marked in
        subst (λ (events : List Row). Reads d (with_feed (b ∷ bs)) events) (sym (said_row t.identifier (event_of_cells d t.cells) b bs))
        (subst (λ (l : List ℕ). Reads d (with_feed l) (event_of_cells d t.cells ∷ [])) text row)

no_feed_take : (n : ℕ) (xs : List ℕ) → IsLine xs → IsLine (take n xs)
no_feed_take zero xs h = refl
no_feed_take (suc n) [] h = refl
no_feed_take (suc n) (x ∷ xs) h = rw (or_left (x == 10) (list_any (λ b. b == 10) xs) h) (no_feed_take n xs (or_right (x == 10) (list_any (λ b. b == 10) xs) h))

no_feed_drop : (n : ℕ) (xs : List ℕ) → IsLine xs → IsLine (drop n xs)
no_feed_drop zero xs h = h
no_feed_drop (suc n) [] h = refl
no_feed_drop (suc n) (x ∷ xs) h = no_feed_drop n xs (or_right (x == 10) (list_any (λ b. b == 10) xs) h)

bare_line : (line : List ℕ) → IsLine line → IsLine (bare line)
bare_line line h = one (slice_index line (length line - 1) == 13)
  where
    one : (is : Bool) → IsLine (cond is (take (length line - 1) line) line)
    one true = no_feed_take (length line - 1) line h
    one false = h

unmarked_line : (first : Bool) (line : List ℕ) → IsLine line → IsLine (unmarked first line)
unmarked_line false line h = h
unmarked_line true line h = one (bytes_eq (take 3 line) byte_order_mark)
  where
    one : (is : Bool) → IsLine (cond is (drop 3 line) line)
    one true = no_feed_drop 3 line h
    one false = h

not_any : (a b : Bool) → (not a && not b) ≡ true → (a ≡ false) × (b ≡ false)
not_any false false e = (refl, refl)
not_any false true e = cc e
not_any true b e = cc e

unread_reads : (d : Declared) → Reads d (codes "unread\n") (Err BadTag ∷ [])
unread_reads d = cells_read d (codes "unread" ∷ []) 117 (codes "nread") (refl, tt) refl refl

text_reads : (d : Declared) (once : Option ℕ) (small : Bool) (text : List ℕ) → IsLine text → LineReads d (line_of d once (if_plain (small && is_plain text) text))
text_reads d once small text h = one (small && is_plain text) refl
  where
    one : (is : Bool) → (small && is_plain text) ≡ is → LineReads d (line_of d once (if_plain is text))
    one false e = unread_reads d
    one true e =
        let plain = (and_parts small (is_plain text) e).1 in
        let both = not_any (begins_marked text) (list_any is_odd text) plain in
        taken_reads d (taken_of once text) (taken once text both.0 both.1 h)

pub line_reads : (d : Declared) (once : Option ℕ) (first : Bool) (line : List ℕ) → IsLine line → LineReads d (line_of d once (text_of first line))
line_reads d once first line h = text_reads d once (nat_le (length (bare line)) LONGEST) (unmarked first (bare line)) (unmarked_line first (bare line) (bare_line line h))
