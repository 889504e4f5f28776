-- The rows of a log's lines, as `csv` reads them back, and the events that they say.
use Rattle.std.proofs.Common.{◌≡◌, ◌∙◌, ℕ, zero, suc, ◌<◌, true, false, List, [], ◌∷◌, ◌++◌, length, map, reverse, Option, Some, None, Ok, Err, refl, sym, ap, subst, append_assoc, append-nil, arith}
use Rattle.std.specs.Prelude.{◌==◌, bytes_eq, codes, nat_lt, not, position, slice_get, slice_index_or, ⊤}
use Rattle.std.specs.List.{AllByRecursion, list_all, prefix_len}
use Rattle.std.specs.Fmt.{signed_decimal}
use Rattle.std.proofs.lemmas.Bool.{and_parts}
use Rattle.std.proofs.lemmas.Bool.Decides.{nat_tests}
use Rattle.std.proofs.lemmas.List.{map-append, reverse-append}
use Rattle.csv.specs.Machine.{next_record}
use Rattle.csv.specs.Reading.{Reached, default_config, strip_bom}
use Rattle.csv.specs.Writing.{default_writer, fields_text, is_blank, row_text as csv_row}
use Rattle.csv.specs.declared.parser.State.TheVariants as st
use Rattle.csv.proofs.RoundTrip.{read-write-many, rows_text}
use Rattle.wsm_record.specs.declared.event.Value.{Value}
use Rattle.wsm_record.specs.declared.event.Value.TheVariants as values
use Rattle.wsm_record.specs.Event.{Record, Watermark}
use Rattle.wsm_record.specs.Name.{is_name}
use Rattle.wsm_record.specs.Schema.{Declared, DeclaredField, FieldType, Int, Truth, Enum, are_fields_after, are_names_after, are_sources, is_field_type, is_name_list, is_schema}
use Rattle.wsm_record.proofs.Lists.{position-distinct}
use Rattle.wsm_record.proofs.Schemas.{names_spelt, no_repeats}
use Rattle.wsm_csv.specs.Cells.{event_of_cells, place_of, value_of, values_of}
use Rattle.wsm_lines.specs.Fault.{fault_word}
use Rattle.wsm_lines.specs.Said.{said_of}
use Rattle.wsm_lines.specs.declared.source.Source.{Source}
use Rattle.wsm_lines.specs.declared.fault.LineFault.{LineFault}
use Rattle.wsm_lines.specs.declared.fault.LineFault.TheVariants as faults
use Rattle.wsm_log_rows.specs.Rows.{Said, key_text, row_text, rows_before, value_text, values_text}
use Rattle.wsm_row_laws.specs.SaidRows.{AreReadBack, AreSayable, IsKey, IsSayable, are_of_types, is_of_type, row_said, said}
use Rattle.wsm_row_laws.proofs.NumberTexts.{number_read}
use Rattle.wsm_row_laws.proofs.PlainTexts.{IsPlain, behind_commas, field_plain, fields_plain, name_at_plain, number_plain}

-- ---- the cells of rows

abbrev values_cells : List DeclaredField → List Value → List (List ℕ)
values_cells (f ∷ fs) (v ∷ vs) = value_text f.type v ∷ values_cells fs vs
values_cells _ _ = []

abbrev pub cells_of : Declared → Said → List (List ℕ)
cells_of d (Ok (Record key time values)) = codes "r" ∷ key_text d key ∷ signed_decimal time ∷ values_cells d.fields values
cells_of d (Ok (Watermark source time)) = []
cells_of d (Err why) = codes "unread" ∷ fault_word why ∷ []

-- those of lines, the oldest first
abbrev cells_before : Declared → List Said → List (List (List ℕ))
cells_before d [] = []
cells_before d (x ∷ before) = cells_before d before ++ cells_of d x ∷ []

-- ---- what is declared

keys_listed : (d : Declared) → is_schema d ≡ true → are_names_after [] d.keys ≡ true
unfolding is_schema
keys_listed d h = (and_parts _ _ (and_parts (is_name_list d.keys) _ h).0).1

pub fields_listed : (d : Declared) → is_schema d ≡ true → are_fields_after [] d.fields ≡ true
unfolding is_schema
fields_listed d h = (and_parts (are_fields_after [] d.fields) (are_sources d.sources) (and_parts _ _ (and_parts (is_name_list d.keys) _ h).1).1).0

pub type_listed : (before : List (List ℕ)) (f : DeclaredField) (fs : List DeclaredField) → are_fields_after before (f ∷ fs) ≡ true → is_field_type f.type ≡ true
type_listed before f fs h = (and_parts _ (is_field_type f.type) (and_parts _ _ (and_parts _ (are_fields_after (before ++ f.name ∷ []) fs) h).0).1).1

pub rest_listed : (before : List (List ℕ)) (f : DeclaredField) (fs : List DeclaredField) → are_fields_after before (f ∷ fs) ≡ true → are_fields_after (before ++ f.name ∷ []) fs ≡ true
rest_listed before f fs h = (and_parts _ (are_fields_after (before ++ f.name ∷ []) fs) h).1

enum_listed : (names : List (List ℕ)) → is_field_type (Enum names) ≡ true → are_names_after [] names ≡ true
enum_listed names h = (and_parts _ (are_names_after [] names) h).1

-- ---- values

value_plain : (type : FieldType) (v : Value) → is_field_type type ≡ true → is_of_type type v ≡ true → IsPlain (value_text type v)
value_plain (Int lo hi) (values.Int n) t h = number_plain n h
value_plain (Int lo hi) (values.Bool b) t h = cc
value_plain (Int lo hi) (values.Enum i) t h = cc h
value_plain Truth (values.Int n) t h = cc h
value_plain Truth (values.Bool true) t h = refl
value_plain Truth (values.Bool false) t h = refl
value_plain Truth (values.Enum i) t h = cc h
value_plain (Enum names) (values.Int n) t h = cc h
value_plain (Enum names) (values.Bool b) t h = cc h
value_plain (Enum names) (values.Enum i) t h = name_at_plain names i (names_spelt [] names (enum_listed names t))

-- a name is read as its number
pub name_read : (names : List (List ℕ)) (i : ℕ) → are_names_after [] names ≡ true → i < length names → place_of (slice_index_or names i []) names ≡ Some i
name_read names i h few = position-distinct names i (slice_index_or names i []) (no_repeats [] names h) (has names i few)
  where
    has : (xs : List (List ℕ)) (k : ℕ) → k < length xs → slice_get xs k ≡ Some (slice_index_or xs k [])
    has [] k l = absurd (omega arith)
    has (x ∷ xs) zero l = refl
    has (x ∷ xs) (suc k) l = has xs k (omega arith)

few_names : (i n : ℕ) → nat_lt i n ≡ true → i < n
few_names i n h = grind (arith, nat_tests, h)

value_read : (type : FieldType) (v : Value) → is_field_type type ≡ true → is_of_type type v ≡ true → value_of type (value_text type v) ≡ Ok v
value_read (Int lo hi) (values.Int n) t h = rw (number_read n h) refl
value_read (Int lo hi) (values.Bool b) t h = cc h
value_read (Int lo hi) (values.Enum i) t h = cc h
value_read Truth (values.Int n) t h = cc h
value_read Truth (values.Bool true) t h = refl
value_read Truth (values.Bool false) t h = refl
value_read Truth (values.Enum i) t h = cc h
value_read (Enum names) (values.Int n) t h = cc h
value_read (Enum names) (values.Bool b) t h = cc h
value_read (Enum names) (values.Enum i) t h = rw (name_read names i (enum_listed names t) (few_names i (length names) h)) refl

-- what holds of the values of a record
record Values (fs : List DeclaredField) (vs : List Value) : Type 0 where
  plain : AllByRecursion IsPlain (values_cells fs vs)
  text : behind_commas (values_cells fs vs) ≡ values_text fs vs
  count : length (values_cells fs vs) ≡ length fs
  read : values_of fs (values_cells fs vs) ≡ Ok vs

values_are : (before : List (List ℕ)) (fs : List DeclaredField) (vs : List Value) → are_fields_after before fs ≡ true → are_of_types fs vs ≡ true → Values fs vs
values_are before [] [] t h = record { plain = tt; text = refl; count = refl; read = refl }
values_are before [] (v ∷ vs) t h = cc h
values_are before (f ∷ fs) [] t h = cc h
values_are before (f ∷ fs) (v ∷ vs) t h =
    let type = type_listed before f fs t in
    let both = and_parts (is_of_type f.type v) (are_of_types fs vs) h in
    let rest = values_are (before ++ f.name ∷ []) fs vs (rest_listed before f fs t) both.1 in record {
      plain = (value_plain f.type v type both.0, rest.plain);
      text = ap (λ (t : List ℕ). 44 ∷ value_text f.type v ++ t) rest.text;
      count = ap suc rest.count;
      read = rw (value_read f.type v type both.0, rest.read) refl;
    }

-- ---- keys

key_plain : (d : Declared) (key : Option ℕ) → is_schema d ≡ true → IsPlain (key_text d key)
key_plain d None h = refl
key_plain d (Some k) h = name_at_plain d.keys k (names_spelt [] d.keys (keys_listed d h))

none_with : (names : List (List ℕ)) → list_all is_name names ≡ true → prefix_len (λ y. not (bytes_eq [] y)) names ≡ length names
none_with [] h = refl
none_with ([] ∷ ns) h = cc (and_parts (is_name []) (list_all is_name ns) h).0
none_with ((c ∷ cs) ∷ ns) h = rw (none_with ns (and_parts (is_name (c ∷ cs)) (list_all is_name ns) h).1) (omega arith)

not_less : (n : ℕ) → nat_lt n n ≡ false
not_less n = grind (arith, nat_tests)

-- no name is empty
no_name : (names : List (List ℕ)) → list_all is_name names ≡ true → position (bytes_eq []) names ≡ None
no_name names h = rw (none_with names h, not_less (length names)) refl

key_read : (d : Declared) (key : Option ℕ) → is_schema d ≡ true → IsKey d key → place_of (key_text d key) d.keys ≡ key
key_read d None h is = no_name d.keys (names_spelt [] d.keys (keys_listed d h))
key_read d (Some k) h is = name_read d.keys k (keys_listed d h) is

-- ---- one row

word_plain : (why : LineFault) → IsPlain (fault_word why)
word_plain faults.TooLong = refl
word_plain faults.NotUtf8 = refl
word_plain faults.NotJson = refl
word_plain faults.NotAccess = refl
word_plain faults.NotCsv = refl
word_plain faults.Header = refl
word_plain faults.BadHeader = refl
word_plain faults.CellCount = refl
word_plain faults.NoKey = refl
word_plain faults.BadKey = refl
word_plain faults.NoTime = refl
word_plain faults.BadTime = refl
word_plain faults.NoField = refl
word_plain faults.BadWhole = refl
word_plain faults.BadDecimal = refl
word_plain faults.BadBool = refl
word_plain faults.BadEnum = refl
word_plain faults.BadIdentifier = refl
word_plain faults.NotRow = refl

-- cells in their row: the first two, and those behind them
pub row_of_cells : (a b : List ℕ) (cells : List (List ℕ)) → IsPlain a → IsPlain b → AllByRecursion IsPlain cells → csv_row default_writer (a ∷ b ∷ cells) ≡ a ++ 44 ∷ b ++ behind_commas cells ++ 10 ∷ []
unfolding fields_text is_blank
row_of_cells a b cells p q r = rw (field_plain a p, field_plain b q, fields_plain cells r) (simp append_assoc)

joined : (key time values : List ℕ) → codes "r," ++ key ++ 44 ∷ time ++ values ++ 10 ∷ [] ≡ codes "r" ++ 44 ∷ key ++ (44 ∷ time ++ values) ++ 10 ∷ []
joined key time values = simp append_assoc

unread : (word : List ℕ) → codes "unread," ++ word ++ 10 ∷ [] ≡ codes "unread" ++ 44 ∷ word ++ [] ++ 10 ∷ []
unread word = simp append_assoc

-- the row of a line, as it is written
pub row_is : (d : Declared) (x : Said) → is_schema d ≡ true → IsSayable d x → row_text d x ≡ csv_row default_writer (cells_of d x)
row_is d (Ok (Record key time values)) h (is_key, is_time, are) =
    let of = values_are [] d.fields values (fields_listed d h) are in
    ap (λ (t : List ℕ). codes "r," ++ key_text d key ++ 44 ∷ signed_decimal time ++ t ++ 10 ∷ []) (sym of.text)
    ∙ joined (key_text d key) (signed_decimal time) (behind_commas (values_cells d.fields values))
    ∙ sym (row_of_cells (codes "r") (key_text d key) (signed_decimal time ∷ values_cells d.fields values) refl (key_plain d key h) (number_plain time is_time, of.plain))
row_is d (Ok (Watermark source time)) h is = absurd is
row_is d (Err why) h is = unread (fault_word why) ∙ sym (row_of_cells (codes "unread") (fault_word why) [] refl (word_plain why) tt)

-- and as it is read
pub event_is : (d : Declared) (x : Said) → is_schema d ≡ true → IsSayable d x → event_of_cells d (cells_of d x) ≡ row_said x
event_is d (Ok (Record key time values)) h (is_key, is_time, are) =
    let of = values_are [] d.fields values (fields_listed d h) are in
    let same : (length (values_cells d.fields values) == length d.fields) ≡ true = let n = of.count in grind (arith, nat_tests, n) in
    rw (same, number_read time is_time, of.read, key_read d key h is_key) refl
event_is d (Ok (Watermark source time)) h is = absurd is
event_is d (Err why) h is = refl

-- ---- all rows

rows_join : (xs : List (List (List ℕ))) (x : List (List ℕ)) → rows_text (xs ++ x ∷ []) ≡ rows_text xs ++ csv_row default_writer x
unfolding rows_text
rows_join [] x = append-nil (csv_row default_writer x)
rows_join (y ∷ ys) x = ap (λ (t : List ℕ). csv_row default_writer y ++ t) (rows_join ys x) ∙ sym (append_assoc (csv_row default_writer y) (rows_text ys) (csv_row default_writer x))

rows_are : (s : Source) (d : Declared) (before : List (List ℕ)) → is_schema d ≡ true → AreSayable d (said s d before) → rows_before s d before ≡ rows_text (cells_before d (said s d before))
unfolding rows_text
rows_are s d [] h are = refl
rows_are s d (line ∷ before) h (is, are) =
    (λ i. rows_are s d before h are i ++ row_is d (said_of s d before line) h is i)
    ∙ sym (rows_join (cells_before d (said s d before)) (cells_of d (said_of s d before line)))

-- each row has two cells or more
abbrev HasTwo : List (List ℕ) → Type 0
HasTwo (a ∷ b ∷ cells) = ⊤
HasTwo cells = ⊥

abbrev HaveTwo : List (List (List ℕ)) → Type 0
HaveTwo [] = ⊤
HaveTwo (row ∷ rows) = HasTwo row × HaveTwo rows

two : (d : Declared) (x : Said) → IsSayable d x → HasTwo (cells_of d x)
two d (Ok (Record key time values)) is = tt
two d (Ok (Watermark source time)) is = absurd is
two d (Err why) is = tt

two_more : (rows : List (List (List ℕ))) (row : List (List ℕ)) → HaveTwo rows → HasTwo row → HaveTwo (rows ++ row ∷ [])
two_more [] row h is = (is, tt)
two_more (r ∷ rows) row h is = (h.0, two_more rows row h.1 is)

all_two : (d : Declared) (xs : List Said) → AreSayable d xs → HaveTwo (cells_before d xs)
all_two d [] are = tt
all_two d (x ∷ before) (is, are) = two_more (cells_before d before) (cells_of d x) (all_two d before are) (two d x is)

rows_back : (rows : List (List (List ℕ))) → HaveTwo rows → Reached default_config st.StartRecord (rows_text rows) rows st.StartRecord []
unfolding Reached rows_text
rows_back [] h = (refl, refl)
rows_back ([] ∷ rows) h = absurd h.0
rows_back ((a ∷ []) ∷ rows) h = absurd h.0
rows_back ((a ∷ b ∷ cells) ∷ rows) h = (
  (a ∷ b ∷ cells, st.StartRecord, rows_text rows),
  read-write-many a b cells (rows_text rows),
  refl,
  rows_back rows h.1,
)

pub no_more : next_record default_config st.StartRecord [] [] [] ≡ None
unfolding next_record
no_more = refl

-- a text that begins with another byte has no byte order mark
unmarked : (a : ℕ) (rest : List ℕ) → (a == 239) ≡ false → strip_bom (a ∷ rest) ≡ a ∷ rest
unfolding strip_bom
unmarked a [] e = refl
unmarked a (b ∷ []) e = refl
unmarked a (b ∷ c ∷ rest) e = rw e refl

row_unmarked : (d : Declared) (x : Said) (more : List ℕ) → IsSayable d x → strip_bom (row_text d x ++ more) ≡ row_text d x ++ more
row_unmarked d (Ok (Record key time values)) more is = unmarked 114 _ refl
row_unmarked d (Ok (Watermark source time)) more is = absurd is
row_unmarked d (Err why) more is = unmarked 117 _ refl

text_unmarked : (s : Source) (d : Declared) (before : List (List ℕ)) (more : List ℕ) → AreSayable d (said s d before) → strip_bom more ≡ more → strip_bom (rows_before s d before ++ more) ≡ rows_before s d before ++ more
text_unmarked s d [] more are e = e
text_unmarked s d (line ∷ before) more (is, are) e =
    let x = said_of s d before line in
    let joined = append_assoc (rows_before s d before) (row_text d x) more in
    ap strip_bom joined ∙ text_unmarked s d before (row_text d x ++ more) are (row_unmarked d x more is) ∙ sym joined

none_marked : strip_bom [] ≡ []
unfolding strip_bom
none_marked = refl

events_are : (d : Declared) (xs : List Said) → is_schema d ≡ true → AreSayable d xs → reverse (map (event_of_cells d) (cells_before d xs)) ≡ map row_said xs
events_are d [] h are = refl
events_are d (x ∷ before) h (is, are) =
    ap reverse (map-append (event_of_cells d) (cells_before d before) (cells_of d x ∷ []))
    ∙ reverse-append (map (event_of_cells d) (cells_before d before)) (event_of_cells d (cells_of d x) ∷ [])
    ∙ (λ i. event_is d x h is i ∷ events_are d before h are i)

pub read_back : (s : Source) (d : Declared) (lines : List (List ℕ)) → is_schema d ≡ true → AreSayable d (said s d (reverse lines)) → AreReadBack s d lines (cells_before d (said s d (reverse lines)))
read_back s d lines h are =
    let before = reverse lines in
    let rows = cells_before d (said s d before) in
    let plain : strip_bom (rows_before s d before) ≡ rows_text rows =
    ap strip_bom (sym (append-nil (rows_before s d before))) ∙ text_unmarked s d before [] are none_marked ∙ append-nil (rows_before s d before) ∙ rows_are s d before h are in record {
      all = (st.StartRecord, [], subst (λ (t : List ℕ). Reached default_config st.StartRecord t rows st.StartRecord []) (sym plain) (rows_back rows (all_two d (said s d before) are)), no_more);
      events = events_are d (said s d before) h are;
    }
