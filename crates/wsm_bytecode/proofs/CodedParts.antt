-- The parts of a header that are the same in each version, by what spells them.
use Rattle.std.proofs.Common.{lit<, leb, ◌≡◌, ℕ, zero, suc, ◌<◌, ◌≤◌, Bool, true, ◌&&◌, not, List, [], ◌∷◌, ◌++◌, length, ℤ, pos, is_some, Some, Ok, refl, sym, subst, append-nil, append_assoc, arith}
use Rattle.std.specs.Prelude.{int_le, slice_get}
use Rattle.std.specs.List.{list_all}
use Rattle.std.proofs.lemmas.Bool.{true≢false, leb-true, le-leb, and_parts, and_from}
use Rattle.wsm_record.specs.declared.words.CellType.{CellType}
use Rattle.wsm_record.specs.declared.words.CellType.TheVariants as types
use Rattle.wsm_record.specs.declared.Kind.{Kind}
use Rattle.wsm_record.specs.declared.Kind.TheVariants as folds
use Rattle.wsm_windows.specs.declared.Shape.{Shape}
use Rattle.wsm_windows.specs.declared.Shape.TheVariants.{Fixed, Sliding, Session}
use Rattle.wsm_record.specs.declared.Mode.{Mode}
use Rattle.wsm_record.specs.declared.Mode.TheVariants as of_mode
use Rattle.wsm_record.specs.declared.Form.{Form}
use Rattle.wsm_record.specs.declared.Form.TheVariants as of_form
use Rattle.wsm_record.specs.declared.limits.TheConstants.{LATEST_TIME, LONGEST_SPAN, MAX_NAME}
use Rattle.wsm_program.specs.Program.{Name, is_span, is_size, is_shape, is_column, is_stated, is_budget, is_time}
use Rattle.wsm_record.specs.Modes.{may_write}
use Rattle.wsm_record.specs.Schema.{FieldType, Int, Truth, Enum, DeclaredField, Declared, is_i64, is_within, are_names_after, is_name_list, is_field_type, is_field_after, are_fields_after, enum_names, names_of_field}
use Rattle.wsm_program.specs.declared.program.Costs.{Costs}
use Rattle.wsm_program.specs.declared.refusal.DecodeRefusal.TheVariants.{Operand}
use Rattle.wsm_record.specs.Name.{is_between, is_name, is_word, is_reserved, is_among}
use Rattle.wsm_bytecode.specs.declared.reading.settings.Times.{Times}
use Rattle.wsm_bytecode.specs.declared.tags.TypeTag.{TypeTag}
use Rattle.wsm_bytecode.specs.declared.tags.TypeTag.TheVariants as of
use Rattle.wsm_bytecode.specs.Tags.{modes, mode_by, mode_tag, forms, form_by, form_tag, kinds as kind_list, kind_by, kind_tag, types as type_list, type_by, type_tag, shape_tag}
use Rattle.wsm_bytecode.specs.Steps.{judged, signed_at, name_at, new_name_at, names_at, interval_at, enum_at, type_tag_at, field_type_by, field_type_at, new_field_at, fields_at, sources_at, times_at, fixed_at, sliding_at, session_at, shape_by, windows_by, mode_at, triggers_at, form_of, kind_at, kinds_at, enum_number_at, enum_column_at, column_by, column_at, columns_at, budget_at}
use Rattle.wsm_bytecode.specs.Parts.{byte, signed, name, names, field_type, field, fields, sources, measures, mode, kind, column, kinds, columns, budget}
use Rattle.wsm_program.proofs.Within.{le_through, is_i64_within, at_most}
use Rattle.wsm_program.proofs.Numbered.{found_has_number}
use Rattle.wsm_bytecode.proofs.Coded.{Any, Codes, good_so, respelled, all_good, just, made, chain, wrapped, wrapped_two, judged_codes, tested, bytes_codes, byte_codes, signed_codes, byte_between, number_between, long_between, IsTable, found, found_is, tagged_codes, InTurn, counted, test_ok, bind_then}

-- ---- names

word_is_some : (n : Name) → is_word n ≡ true → 1 ≤ length n
word_is_some [] e = absurd (true≢false (sym e))
word_is_some (c ∷ cs) e = omega arith

pub name_is_short : (n : Name) → is_name n ≡ true → is_between 1 32 (length n) ≡ true
name_is_short n e =
    let a = and_parts (is_word n) (leb (length n) MAX_NAME && not (is_reserved n)) e in
    let b = and_parts (leb (length n) MAX_NAME) (not (is_reserved n)) a.1 in
    and_from _ _ (le-leb 1 (length n) (word_is_some n a.0)) b.0

name_codes : Codes Any (λ n. is_name n ≡ true) name_at name
unfolding name_at
name_codes = good_so (chain (λ n. length n) (byte_between 1 32 (lit< tt)) (λ n _. judged_codes (bytes_codes n) is_name)) (λ n. refl) (λ n _ h. (name_is_short n h, (tt, h))) (λ n _ h. h.1.1)

abbrev IsNew : List Name → Name → Type 0
IsNew before n = (is_name n ≡ true) × (not (is_among n before) ≡ true)

names_in_turn : InTurn (λ before n. before ++ n ∷ []) IsNew (λ before ns. are_names_after before ns ≡ true)
names_in_turn = record {
  none = λ before. refl;
  more = λ before n ns new later. and_from _ _ new.0 (and_from _ _ new.1 later);
  parts = λ before n ns h. (
      let a = and_parts (is_name n) (not (is_among n before) && are_names_after (before ++ n ∷ []) ns) h in
      let b = and_parts (not (is_among n before)) (are_names_after (before ++ n ∷ []) ns) a.1 in
      ((a.0, b.0), b.1)
      );
}

new_name_codes : (before : List Name) → Codes Any (IsNew before) (new_name_at before) name
new_name_codes before = judged_codes name_codes (λ x. not (is_among x before))

pub names_codes : Codes Any (λ ns. is_name_list ns ≡ true) names_at names
unfolding names_at
names_codes =
    good_so (counted names_in_turn new_name_codes (number_between 1 1000 (lit< tt)) []) (λ ns. refl)
    (λ ns _ h. (let p = and_parts (is_between 1 1000 (length ns)) (are_names_after [] ns) h in (p.0, p.1))) (λ ns _ h. and_from _ _ h.0 h.1)

pub sources_codes : (may_be : ℕ → Bool) → ((n : ℕ) → may_be n ≡ true → n < 256) → Codes Any (λ ns. (may_be (length ns) ≡ true) × (are_names_after [] ns ≡ true)) (sources_at may_be) sources
unfolding sources_at
sources_codes may_be small = counted names_in_turn new_name_codes (tested byte_codes may_be small) []

-- ---- fields

type_is_byte : (t : TypeTag) → type_tag t < 256
type_is_byte of.Int = lit< tt
type_is_byte t = lit< tt

type_by_tag : (t : TypeTag) → type_by (type_tag t) ≡ Some t
unfolding type_by
type_by_tag of.Int = refl
type_by_tag t = refl

type_tag_codes : Codes Any Any type_tag_at (λ t. byte (type_tag t))
unfolding type_tag_at type_by
type_tag_codes = tagged_codes (record { small = type_is_byte; again = type_by_tag; alone = λ n t e. found_has_number type_tag n t type_list e })

-- the tag of a type, and what stands behind it
abbrev tag_of : FieldType → TypeTag
tag_of (Int lo hi) = of.Int
tag_of Truth = of.Bool
tag_of (Enum ns) = of.Enum

abbrev behind_tag : FieldType → List ℕ
behind_tag (Int lo hi) = signed lo ++ signed hi
behind_tag Truth = []
behind_tag (Enum ns) = names ns

abbrev IsTagged : TypeTag → FieldType → Type 0
IsTagged tag t = Any t × (tag_of t ≡ tag)

an_interval : (t : FieldType) → IsTagged of.Int t → (p : ℤ × ℤ) × (t ≡ Int p.0 p.1)
an_interval (Int lo hi) k = ((lo, hi), refl)
an_interval t k = absurd cc

a_truth : (t : FieldType) → IsTagged of.Bool t → t ≡ Truth
a_truth Truth k = refl
a_truth t k = absurd cc

an_enum : (t : FieldType) → IsTagged of.Enum t → (ns : List Name) × (t ≡ Enum ns)
an_enum (Enum ns) k = (ns, refl)
an_enum t k = absurd cc

type_by_codes : (tag : TypeTag) → Codes (IsTagged tag) (λ t. is_field_type t ≡ true) (field_type_by tag) behind_tag
unfolding interval_at enum_at
type_by_codes of.Int =
    wrapped_two (λ (p : ℤ × ℤ). Int p.0 p.1) signed_codes (λ lo _. judged_codes signed_codes (λ hi. int_le lo hi)) (λ p. (tt, refl)) an_interval (λ p. refl)
    (λ p h. (
    let a = and_parts (is_i64 p.0) (is_i64 p.1 && int_le p.0 p.1) h in
    let b = and_parts (is_i64 p.1) (int_le p.0 p.1) a.1 in
    (a.0, (b.0, b.1))
    ))
    (λ p l h. and_from _ _ l (and_from _ _ h.0 h.1))
type_by_codes of.Bool = just Truth (tt, refl) a_truth refl refl
type_by_codes of.Enum = wrapped Enum names_codes (λ ns _. (tt, refl)) an_enum (λ ns. refl) (λ ns _ h. h) (λ ns h. h)

field_type_is : (t : FieldType) → byte (type_tag (tag_of t)) ++ behind_tag t ≡ field_type t
field_type_is (Int lo hi) = refl
field_type_is t = refl

field_type_codes : Codes Any (λ t. is_field_type t ≡ true) field_type_at field_type
unfolding field_type_at
field_type_codes = good_so (chain tag_of type_tag_codes (λ tag _. type_by_codes tag)) field_type_is (λ t _ h. (tt, h)) (λ t _ h. h.1)

new_field_codes : (before : List Name) → Codes Any (λ f. is_field_after before f ≡ true) (new_field_at before) field
unfolding new_field_at
new_field_codes before =
    wrapped_two (λ (p : Name × FieldType). record { name = p.0; type = p.1 }) (new_name_codes before) (λ _ _. field_type_codes) (λ p. tt) (λ f _. ((f.name, f.type), refl)) (λ p. refl)
    (λ p h. (
    let a = and_parts (is_name p.0) (not (is_among p.0 before) && is_field_type p.1) h in
    let b = and_parts (not (is_among p.0 before)) (is_field_type p.1) a.1 in
    ((a.0, b.0), b.1)
    ))
    (λ p new type. and_from _ _ new.0 (and_from _ _ new.1 type))

fields_in_turn : InTurn (λ before (f : DeclaredField). before ++ f.name ∷ []) (λ before f. is_field_after before f ≡ true) (λ before fs. are_fields_after before fs ≡ true)
fields_in_turn = record {
  none = λ before. refl;
  more = λ before f fs good later. and_from _ _ good later;
  parts = λ before f fs h. (let p = and_parts (is_field_after before f) (are_fields_after (before ++ f.name ∷ []) fs) h in (p.0, p.1));
}

pub fields_codes : Codes Any (λ fs. (leb (length fs) 16 ≡ true) × (are_fields_after [] fs ≡ true)) fields_at fields
unfolding fields_at
fields_codes =
    good_so (counted fields_in_turn new_field_codes (byte_between 0 16 (lit< tt)) []) (λ fs. refl)
    (λ fs _ h. (and_from (leb 0 (length fs)) (leb (length fs) 16) (le-leb _ _ (omega arith)) h.0, h.1)) (λ fs _ h. (le-leb _ _ (at_most 0 16 (length fs) h.0), h.1))

-- ---- numbers with a sign

span_codes : Codes Any (λ n. is_span n ≡ true) (λ bytes. judged is_span (signed_at bytes)) signed
span_codes = tested signed_codes is_span (λ n h. is_i64_within (pos 0) LONGEST_SPAN n refl refl h)

size_codes : Codes Any (λ n. is_size n ≡ true) (λ bytes. judged is_size (signed_at bytes)) signed
size_codes = tested signed_codes is_size (λ n h. is_i64_within (pos 1) LONGEST_SPAN n refl refl h)

time_codes : Codes Any (λ n. is_time n ≡ true) (λ bytes. judged is_time (signed_at bytes)) signed
time_codes = tested signed_codes is_time (λ n h. is_i64_within (pos 0) LATEST_TIME n refl refl h)

abbrev pub AreTimes : Times → Type 0
AreTimes t = (is_time t.start ≡ true) × ((is_span t.skew ≡ true) × ((is_span t.lateness ≡ true) × ((is_size t.records ≡ true) × Any t)))

abbrev pub times_bytes : Times → List ℕ
times_bytes t = signed t.start ++ signed t.skew ++ signed t.lateness ++ signed t.records

pub times_codes : Codes Any AreTimes times_at times_bytes
unfolding times_at
times_codes =
    let parts = chain (λ (t : Times). t.start) time_codes (λ start _. chain (λ t. t.skew) span_codes (λ skew _. chain (λ t. t.lateness) span_codes (λ lateness _. chain (λ t. t.records) size_codes (λ records _.
    made (record { start = start; skew = skew; lateness = lateness; records = records }) ((((tt, refl), refl), refl), refl)
    (λ t k i. record { start = k.0.0.0.1 i; skew = k.0.0.1 i; lateness = k.0.1 i; records = k.1 i }))))) in
    respelled parts (λ t. simp (append_assoc, append-nil) refl)

-- EARLY, then LATE
pub triggers_codes : Codes Any (λ (t : ℤ × ℤ). (is_span t.0 ≡ true) × (is_span t.1 ≡ true)) triggers_at (λ t. signed t.0 ++ signed t.1)
unfolding triggers_at
triggers_codes = wrapped_two (λ t. t) span_codes (λ _ _. span_codes) (λ t. tt) (λ t _. (t, refl)) (λ t. refl) (λ t h. (h.0, h.1)) (λ t e l. (e, l))

-- ---- shapes

abbrev IsShaped : ℕ → Shape → Type 0
IsShaped tag s = Any s × (shape_tag s ≡ tag)

a_fixed : (s : Shape) → IsShaped 0 s → (n : ℤ) × (s ≡ Fixed n)
a_fixed (Fixed n) k = (n, refl)
a_fixed (Sliding n d) k = absurd (omega (arith, k.1))
a_fixed (Session n) k = absurd (omega (arith, k.1))

a_sliding : (s : Shape) → IsShaped 1 s → (p : ℤ × ℤ) × (s ≡ Sliding p.0 p.1)
a_sliding (Sliding n d) k = ((n, d), refl)
a_sliding (Fixed n) k = absurd (omega (arith, k.1))
a_sliding (Session n) k = absurd (omega (arith, k.1))

a_session : (s : Shape) → IsShaped 2 s → (n : ℤ) × (s ≡ Session n)
a_session (Session n) k = (n, refl)
a_session (Fixed n) k = absurd (omega (arith, k.1))
a_session (Sliding n d) k = absurd (omega (arith, k.1))

size_is_i64 : (n : ℤ) → is_size n ≡ true → int_le n (pos 9223372036854775807) ≡ true
size_is_i64 n h = le_through n LONGEST_SPAN (pos 9223372036854775807) (and_parts (int_le (pos 1) n) (int_le n LONGEST_SPAN) h).1 refl

shape_codes : (tag : ℕ) → tag ≤ 2 → Codes (IsShaped tag) (λ s. is_shape s ≡ true) (shape_by tag) measures
unfolding fixed_at sliding_at session_at
shape_codes zero le = wrapped Fixed size_codes (λ n _. (tt, refl)) a_fixed (λ n. refl) (λ n _ h. h) (λ n h. h)
shape_codes (suc zero) le =
    wrapped_two (λ (p : ℤ × ℤ). Sliding p.0 p.1) size_codes (λ n h. tested signed_codes (is_within (pos 1) n) (λ d g. is_i64_within (pos 1) n d refl (size_is_i64 n h) g)) (λ p. (tt, refl)) a_sliding (λ p. refl)
    (λ p h. (let q = and_parts (is_size p.0) (is_within (pos 1) p.0 p.1) h in (q.0, q.1))) (λ p n d. and_from _ _ n d)
shape_codes (suc (suc n)) le =
    let two : 2 ≡ suc (suc n) = omega arith in
    subst (λ k. Codes (IsShaped k) (λ s. is_shape s ≡ true) session_at measures) two (wrapped Session size_codes (λ n _. (tt, refl)) a_session (λ n. refl) (λ n _ h. h) (λ n h. h))

-- a shape by its tag, and what lateness is counted from
abbrev pub IsOf : Bool → Shape × Bool → Type 0
IsOf from_window w = Any w × (w.1 ≡ from_window)

pub windows_codes : (from_window : Bool) (tag : ℕ) → tag ≤ 2 → Codes (λ w. IsOf from_window w × (shape_tag w.0 ≡ tag)) (λ w. is_shape w.0 ≡ true) (windows_by from_window tag) (λ w. measures w.0)
unfolding windows_by
windows_codes b tag le = wrapped (λ s. (s, b)) (all_good (shape_codes tag le)) (λ s h. ((tt, refl), h.0.1)) (λ w k. (w.0, λ i. (w.0, k.0.1 i))) (λ s. refl) (λ s k h. ((tt, k.1), h)) (λ s h. h.1)

-- ---- modes and forms

mode_is_byte : (m : Mode) → mode_tag m < 256
mode_is_byte of_mode.Discarding = lit< tt
mode_is_byte m = lit< tt

mode_by_tag : (m : Mode) → mode_by (mode_tag m) ≡ Some m
unfolding mode_by
mode_by_tag of_mode.Discarding = refl
mode_by_tag m = refl

pub mode_codes : Codes Any Any mode_at mode
unfolding mode_at mode_by
mode_codes = tagged_codes (record { small = mode_is_byte; again = mode_by_tag; alone = λ n m e. found_has_number mode_tag n m modes e })

pub form_is_small : (f : Form) → form_tag f < 4
form_is_small of_form.Panes = lit< tt
form_is_small f = lit< tt

form_by_tag : (f : Form) → form_by (form_tag f) ≡ Some f
unfolding form_by
form_by_tag of_form.Panes = refl
form_by_tag f = refl

form_table : IsTable form_tag form_by
unfolding form_by
form_table = record { small = λ f. omega (arith, form_is_small f); again = form_by_tag; alone = λ n f e. found_has_number form_tag n f forms e }

-- the form of a tag, which the mode may write
abbrev pub IsForm : Mode → ℕ → Form → Type 0
IsForm m n f = (form_tag f ≡ n) × (may_write m f ≡ true)

pub form_found : (m : Mode) (n : ℕ) (f : Form) → IsForm m n f → form_of m n ≡ Ok f
form_found m n f h = rw (found form_table Operand n f h.0, h.1) refl

pub form_is : (m : Mode) (n : ℕ) (f : Form) → form_of m n ≡ Ok f → IsForm m n f
form_is m n f e =
    bind_then _ _ f e (λ g e0 l0.
    let t = test_ok (may_write m g) Operand g f l0 in
    subst (IsForm m n) t.1 (found_is form_table Operand n g e0, t.0))

-- ---- accumulators and columns

kind_is_byte : (k : Kind) → kind_tag k < 256
kind_is_byte folds.Sum = lit< tt
kind_is_byte k = lit< tt

kind_by_tag : (k : Kind) → kind_by (kind_tag k) ≡ Some k
unfolding kind_by
kind_by_tag folds.Sum = refl
kind_by_tag k = refl

kind_codes : Codes Any Any kind_at kind
unfolding kind_at kind_by
kind_codes = tagged_codes (record { small = kind_is_byte; again = kind_by_tag; alone = λ n k e. found_has_number kind_tag n k kind_list e })

any_in_turn : {A : Type 0} → InTurn {S = Unit {0}} {A = A} (λ s x. s) (λ s. Any) (λ s. Any)
any_in_turn = record { none = λ s. tt; more = λ s x xs g h. tt; parts = λ s x xs h. (tt, tt) }

pub all_in_turn : {A : Type 0} (good : A → Bool) → InTurn {S = Unit {0}} (λ s x. s) (λ s x. good x ≡ true) (λ s xs. list_all good xs ≡ true)
all_in_turn good = record { none = λ s. refl; more = λ s x xs g h. and_from _ _ g h; parts = λ s x xs h. (let p = and_parts (good x) (list_all good xs) h in (p.0, p.1)) }

pub kinds_codes : Codes Any (λ ks. leb (length ks) 16 ≡ true) kinds_at kinds
unfolding kinds_at
kinds_codes =
    good_so (counted any_in_turn (λ s. kind_codes) (byte_between 0 16 (lit< tt)) tt) (λ ks. refl)
    (λ ks _ h. (and_from (leb 0 (length ks)) (leb (length ks) 16) (le-leb _ _ (omega arith)) h, tt)) (λ ks _ h. le-leb _ _ (at_most 0 16 (length ks) h.0))

found_below : (fs : List DeclaredField) (f : ℕ) → is_some (names_of_field (slice_get fs f)) ≡ true → f < length fs
found_below [] f e = absurd (true≢false (sym e))
found_below (g ∷ fs) zero e = omega arith
found_below (g ∷ fs) (suc f) e = omega (arith, found_below fs f e)

-- an ENUM that there is has a number of one byte
enum_is_small : (s : Declared) → leb (length s.fields) 16 ≡ true → (e : ℕ) → is_some (enum_names s e) ≡ true → e < 256
enum_is_small s few zero h = lit< tt
enum_is_small s few (suc f) h =
    let le : length s.fields ≤ 16 = leb-true _ _ few in
    omega (arith, found_below s.fields f h)

pub enum_number_codes : (s : Declared) → leb (length s.fields) 16 ≡ true → Codes Any (λ e. is_some (enum_names s e) ≡ true) (enum_number_at s) byte
unfolding enum_number_at
enum_number_codes s few = tested byte_codes (λ e. is_some (enum_names s e)) (enum_is_small s few)

abbrev column_tag : CellType → TypeTag
column_tag types.Int = of.Int
column_tag types.Bool = of.Bool
column_tag (types.Enum e) = of.Enum

abbrev behind_column : CellType → List ℕ
behind_column types.Int = []
behind_column types.Bool = []
behind_column (types.Enum e) = byte e

abbrev IsColumn : TypeTag → CellType → Type 0
IsColumn tag t = Any t × (column_tag t ≡ tag)

of_numbers : (t : CellType) → IsColumn of.Int t → t ≡ types.Int
of_numbers types.Int k = refl
of_numbers t k = absurd cc

of_truths : (t : CellType) → IsColumn of.Bool t → t ≡ types.Bool
of_truths types.Bool k = refl
of_truths t k = absurd cc

of_names : (t : CellType) → IsColumn of.Enum t → (e : ℕ) × (t ≡ types.Enum e)
of_names (types.Enum e) k = (e, refl)
of_names t k = absurd cc

column_by_codes : (s : Declared) → leb (length s.fields) 16 ≡ true → (tag : TypeTag) → Codes (IsColumn tag) (λ t. is_column s t ≡ true) (column_by s tag) behind_column
unfolding enum_column_at
column_by_codes s few of.Int = just types.Int (tt, refl) of_numbers refl refl
column_by_codes s few of.Bool = just types.Bool (tt, refl) of_truths refl refl
column_by_codes s few of.Enum = wrapped types.Enum (enum_number_codes s few) (λ e _. (tt, refl)) of_names (λ e. refl) (λ e _ h. h) (λ e h. h)

column_is : (t : CellType) → byte (type_tag (column_tag t)) ++ behind_column t ≡ column t
column_is types.Int = refl
column_is t = refl

column_codes : (s : Declared) → leb (length s.fields) 16 ≡ true → Codes Any (λ t. is_column s t ≡ true) (column_at s) column
unfolding column_at
column_codes s few = good_so (chain column_tag type_tag_codes (λ tag _. column_by_codes s few tag)) column_is (λ t _ h. (tt, h)) (λ t _ h. h.1)

pub columns_codes : (s : Declared) → leb (length s.fields) 16 ≡ true → Codes Any (λ ts. (is_between 1 16 (length ts) ≡ true) × (list_all (is_column s) ts ≡ true)) (columns_at s) columns
unfolding columns_at
columns_codes s few = counted (all_in_turn (is_column s)) (λ _. column_codes s few) (byte_between 1 16 (lit< tt)) tt

-- ---- the stated numbers

pub budget_codes : Codes Any (λ b. is_budget b ≡ true) budget_at budget
unfolding budget_at
budget_codes =
    let stated = long_between 1 1000000000000000000 (lit< tt) in
    let parts = chain (λ (b : Costs). b.per_record) stated (λ per_record _. chain (λ b. b.per_pane) stated (λ per_pane _. chain (λ b. b.held) (long_between 1 100000 (lit< tt)) (λ held _.
    made (record { per_record = per_record; per_pane = per_pane; held = held }) (((tt, refl), refl), refl) (λ b k i. record { per_record = k.0.0.1 i; per_pane = k.0.1 i; held = k.1 i })))) in
    good_so parts (λ b. simp (append_assoc, append-nil) refl)
    (λ b _ h. (
    let a = and_parts (is_stated b.per_record) (is_stated b.per_pane && is_between 1 100000 b.held) h in
    let c = and_parts (is_stated b.per_pane) (is_between 1 100000 b.held) a.1 in
    (a.0, (c.0, (c.1, tt)))
    ))
    (λ b _ h. and_from _ _ h.0 (and_from _ _ h.1.0 h.1.1.0))
