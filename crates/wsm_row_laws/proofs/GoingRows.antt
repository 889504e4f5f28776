-- The rows of what goes on at a line, as `csv` reads them.
use Rattle.std.proofs.Common.{◌≡◌, ◌∙◌, ◌⊎◌, inl, inr, ℕ, suc, ◌+◌, ◌<◌, ◌≤◌, min, Bool, true, false, cond, List, [], ◌∷◌, ◌++◌, length, map, ℤ, pos, Option, Some, None, Ok, refl, sym, ap, subst, append_assoc, append-nil, arith}
use Rattle.std.specs.Prelude.{◌==◌, ◌&&◌, codes, int_le, nat_lt, unsigned_abs}
use Rattle.std.specs.Fmt.{signed_decimal}
use Rattle.std.specs.List.{AllByRecursion, list_all}
use Rattle.std.proofs.lemmas.Bool.{and_parts}
use Rattle.std.proofs.lemmas.Bool.Decides.{nat_tests}
use Rattle.std.proofs.lemmas.Int.{ints}
use Rattle.csv.specs.Writing.{default_writer, row_text as csv_row}
use Rattle.wsm_record.specs.declared.event.Value.{Value}
use Rattle.wsm_record.specs.declared.event.Value.TheVariants as values
use Rattle.wsm_record.specs.declared.limits.TheConstants.{LATEST_TIME}
use Rattle.wsm_record.specs.Event.{Event, Record, Watermark}
use Rattle.wsm_record.specs.Name.{is_name}
use Rattle.wsm_record.specs.Schema.{Declared, DeclaredField, FieldType, Int, Truth, Enum, are_fields_after, are_names_after, fit_fields, fits_type, is_field_type, is_i64, is_name_list, is_schema}
use Rattle.wsm_record.proofs.Schemas.{names_spelt}
use Rattle.wsm_windows.specs.Limits.{is_time}
use Rattle.wsm_admission.specs.Clock.{is_key}
use Rattle.wsm_semantics.specs.Lines.{Row}
use Rattle.wsm_csv.specs.Cells.{event_of_cells, mark_of}
use Rattle.wsm_log_rows.specs.Rows.{event_row}
use Rattle.wsm_watermarks.specs.declared.stamp.Stamp.{Stamp}
use Rattle.wsm_turns.specs.Numbered.{Numbered}
use Rattle.wsm_turns.specs.Turns.{stamp_of}
use Rattle.wsm_row_watermarks.specs.Turns.{event_text, events_text, mark_row, record_text, source_text, with_feed}
use Rattle.wsm_row_laws.specs.Fed.{events_of}
use Rattle.wsm_row_laws.specs.SaidRows.{IsSayable, are_of_types, is_of_type}
use Rattle.wsm_row_laws.proofs.LineRows.{Cells, HasCell, Reads, reads_join, reads_none, row_reads}
use Rattle.wsm_row_laws.proofs.NumberTexts.{number_read}
use Rattle.wsm_row_laws.proofs.PlainTexts.{name_plain, number_plain}
use Rattle.wsm_row_laws.proofs.ReadRows.{cells_of, event_is, fields_listed, name_read, rest_listed, row_is, row_of_cells, type_listed}

-- ---- records

pub record_reads : (d : Declared) (key : Option ℕ) (time : ℤ) (values : List Value) → is_schema d ≡ true → IsSayable d (Ok (Record key time values)) → Reads d (event_row d (Record key time values)) (Ok (Record key time values) ∷ [])
record_reads d key time values h is =
    subst (λ (r : Row). Reads d (event_row d (Record key time values)) (r ∷ [])) (event_is d (Ok (Record key time values)) h is)
    (row_reads d (cells_of d (Ok (Record key time values))) (event_row d (Record key time values)) tt (row_is d (Ok (Record key time values)) h is) refl)

-- a value that fits is of the type of its field
within_i64 : (lo hi n : ℤ) → is_i64 lo ≡ true → is_i64 hi ≡ true → int_le lo n ≡ true → int_le n hi ≡ true → is_i64 n ≡ true
within_i64 lo hi n a b c d = grind (arith, ints, a, b, c, d)

fits_of_type : (type : FieldType) (v : Value) → is_field_type type ≡ true → fits_type type v ≡ true → is_of_type type v ≡ true
fits_of_type (Int lo hi) (values.Int n) t h =
    let ends = and_parts (is_i64 lo) (is_i64 hi && int_le lo hi) t in
    let high = (and_parts (is_i64 hi) (int_le lo hi) ends.1).0 in
    let inside = and_parts (int_le lo n) (int_le n hi) h in
    within_i64 lo hi n ends.0 high inside.0 inside.1
fits_of_type (Int lo hi) (values.Bool b) t h = cc h
fits_of_type (Int lo hi) (values.Enum i) t h = cc h
fits_of_type Truth (values.Int n) t h = cc h
fits_of_type Truth (values.Bool b) t h = refl
fits_of_type Truth (values.Enum i) t h = cc h
fits_of_type (Enum names) (values.Int n) t h = cc h
fits_of_type (Enum names) (values.Bool b) t h = cc h
fits_of_type (Enum names) (values.Enum i) t h = h

fit_types : (before : List (List ℕ)) (fs : List DeclaredField) (vs : List Value) → are_fields_after before fs ≡ true → fit_fields fs vs ≡ true → are_of_types fs vs ≡ true
fit_types before [] [] t h = refl
fit_types before [] (v ∷ vs) t h = cc h
fit_types before (f ∷ fs) [] t h = cc h
fit_types before (f ∷ fs) (v ∷ vs) t h =
    let both = and_parts (fits_type f.type v) (fit_fields fs vs) h in
    rw (fits_of_type f.type v (type_listed before f fs t) both.0) (fit_types (before ++ f.name ∷ []) fs vs (rest_listed before f fs t) both.1)

if_some : {A : Type 0} (b : Bool) (x y : A) → cond b (Some x) None ≡ Some y → b ≡ true
if_some true x y h = refl
if_some false x y h = cc h

time_i64 : (time : ℤ) → is_time time ≡ true → is_i64 time ≡ true
time_i64 time h = grind (arith, ints, h)

-- what tells a time can be said by a row
pub stamped_sayable : (d : Declared) (key : Option ℕ) (time : ℤ) (values : List Value) (stamp : Stamp) → is_schema d ≡ true → stamp_of d (Record key time values) ≡ Some stamp → IsSayable d (Ok (Record key time values))
stamped_sayable d None time values stamp h is = cc is
stamped_sayable d (Some key) time values stamp h is =
    let holds = if_some (is_key d (Some key) && (fit_fields d.fields values && is_time time)) (record { clock = key; time = unsigned_abs time }) stamp is in
    let first = and_parts (is_key d (Some key)) (fit_fields d.fields values && is_time time) holds in
    let rest = and_parts (fit_fields d.fields values) (is_time time) first.1 in
    (known key (length d.keys) first.0, time_i64 time rest.1, fit_types [] d.fields values (fields_listed d h) rest.0)
  where
    known : (k n : ℕ) → nat_lt k n ≡ true → k < n
    known k n e = grind (arith, nat_tests, e)

-- ---- watermarks

sources_listed : (d : Declared) → is_schema d ≡ true → are_names_after [] d.sources ≡ true
unfolding is_schema
sources_listed d h = (and_parts _ (are_names_after [] d.sources) (and_parts (are_fields_after [] d.fields) _ (and_parts _ _ (and_parts (is_name_list d.keys) _ h).1).1).1).1

abbrev mark_cells : List (List ℕ) → ℤ → Cells
mark_cells [] time = codes "w" ∷ signed_decimal time ∷ []
mark_cells (s ∷ ss) time = codes "w" ∷ s ∷ signed_decimal time ∷ []

mark_text : (names : List (List ℕ)) (time : ℤ) → list_all is_name names ≡ true → is_i64 time ≡ true
    → codes "w," ++ source_text names ++ signed_decimal time ++ 10 ∷ [] ≡ csv_row default_writer (mark_cells names time)
mark_text [] time h is = alone (signed_decimal time) ∙ sym (row_of_cells (codes "w") (signed_decimal time) [] refl (number_plain time is) tt)
  where
    alone : (number : List ℕ) → codes "w," ++ [] ++ number ++ 10 ∷ [] ≡ codes "w" ++ 44 ∷ number ++ [] ++ 10 ∷ []
    alone number = simp append_assoc
mark_text (s ∷ ss) time h is =
    let plain = name_plain s (and_parts (is_name s) (list_all is_name ss) h).0 in
    same s (signed_decimal time) ∙ sym (row_of_cells (codes "w") s (signed_decimal time ∷ []) refl plain (number_plain time is, tt))
  where
    same : (name number : List ℕ) → codes "w," ++ (name ++ 44 ∷ []) ++ number ++ 10 ∷ [] ≡ codes "w" ++ 44 ∷ name ++ (44 ∷ number ++ []) ++ 10 ∷ []
    same name number = simp append_assoc

mark_event : (d : Declared) (names : List (List ℕ)) (time : ℤ) → d.sources ≡ names → are_names_after [] names ≡ true → is_i64 time ≡ true → event_of_cells d (mark_cells names time) ≡ Ok (Watermark (Some 0) time)
mark_event d [] time is h small = ap (λ (names : List (List ℕ)). mark_of names (signed_decimal time ∷ [])) is ∙ rw (number_read time small) refl
mark_event d (s ∷ ss) time is h small =
    ap (λ (names : List (List ℕ)). mark_of names (s ∷ signed_decimal time ∷ [])) is
    ∙ rw (number_read time small, name_read (s ∷ ss) 0 h (omega arith)) refl

has_mark : (names : List (List ℕ)) (time : ℤ) → HasCell (mark_cells names time)
has_mark [] time = tt
has_mark (s ∷ ss) time = tt

pub mark_reads : (d : Declared) (time : ℤ) → is_schema d ≡ true → is_i64 time ≡ true → Reads d (mark_row d time) (Ok (Watermark (Some 0) time) ∷ [])
mark_reads d time h is =
    let names = sources_listed d h in
    subst (λ (r : Row). Reads d (mark_row d time) (r ∷ [])) (mark_event d d.sources time refl names is)
    (row_reads d (mark_cells d.sources time) (mark_row d time) (has_mark d.sources time) (mark_text d.sources time (names_spelt [] d.sources names) is) refl)

-- ---- what goes on

-- it is the line's own record, another one, which a row can say, or a watermark of the first source
abbrev pub GoesAt : Declared → ℕ → List ℕ → ℕ → Event → Type 0
GoesAt d number line of (Record key time values) =
    (((of == number) ≡ true) × Reads d (with_feed line) (Ok (Record key time values) ∷ []))
    ⊎ (((of == number) ≡ false) × IsSayable d (Ok (Record key time values)))
GoesAt d number line of (Watermark source time) = (source ≡ Some 0) × (is_i64 time ≡ true)

abbrev pub Goes : Declared → ℕ → List ℕ → Numbered → Type 0
Goes d number line g = GoesAt d number line g.number g.event

module _ (d : Declared) (h : is_schema d ≡ true) (number : ℕ) (line : List ℕ) where
  event_reads : (of : ℕ) (e : Event) → GoesAt d number line of e → Reads d (event_text d number line of e) (Ok e ∷ [])
  event_reads of (Record key time values) (inl (own, reads)) =
      subst (λ (b : Bool). Reads d (record_text d line b (Record key time values)) (Ok (Record key time values) ∷ [])) (sym own) reads
  event_reads of (Record key time values) (inr (other, is)) =
      subst (λ (b : Bool). Reads d (record_text d line b (Record key time values)) (Ok (Record key time values) ∷ [])) (sym other) (record_reads d key time values h is)
  event_reads of (Watermark source time) (first, is) =
      subst (λ (s : Option ℕ). Reads d (mark_row d time) (Ok (Watermark s time) ∷ [])) (sym first) (mark_reads d time h is)

  pub events_read : (gs : List Numbered) → AllByRecursion (Goes d number line) gs → Reads d (events_text d number line gs) (events_of gs)
  events_read [] all = reads_none d
  events_read (g ∷ gs) all =
      reads_join d (event_text d number line g.number g.event) (events_text d number line gs) (Ok g.event ∷ []) (events_of gs) (event_reads g.number g.event all.0) (events_read gs all.1)
