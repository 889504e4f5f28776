-- What a query declares of its records, and which values fit.
use Rattle.std.specs.Prelude.{ℕ, zero, suc, Bool, true, false, ◌&&◌, ◌||◌, not, cond, List, [], ◌∷◌, ◌++◌, length, ℤ, pos, negsuc, int_le, int_lt, nat_le, nat_lt, nat_eq, Option, Some, None, slice_get}
use Rattle.std.specs.List.{list_all, list_any}
use Rattle.wsm_record.specs.declared.limits.TheConstants.{MAX_FIELDS, MAX_NAMES, MAX_SOURCES}
use Rattle.wsm_record.specs.declared.schema.SchemaRefusal.{SchemaRefusal}
use Rattle.wsm_record.specs.declared.schema.SchemaRefusal.TheVariants.{NoKeys, TooMany, DuplicateName, EmptyRange}
use Rattle.wsm_record.specs.Name.{is_name, is_among, is_between, repeats_after}
use Rattle.wsm_record.specs.declared.event.Value.{Value}
use Rattle.wsm_record.specs.declared.event.Value.TheVariants as values

-- the declared type of a field: an interval, a truth, or names
pub data FieldType : Type 0 where
  Int : (lo hi : ℤ) → FieldType
  Truth : FieldType
  Enum : (names : List (List ℕ)) → FieldType

pub record DeclaredField : Type 0 where
  pub name : List ℕ
  pub type : FieldType

-- keys and names are their bytes; a key's number, a field's, a name's and a source's is its place
pub record Declared : Type 0 where
  pub keys : List (List ℕ)
  pub fields : List DeclaredField
  pub sources : List (List ℕ)  -- none where all watermarks are of one source, which has no name

-- the names of a field that is an ENUM
abbrev pub names_of_type : FieldType → Option (List (List ℕ))
names_of_type (Enum names) = Some names
names_of_type _ = None

abbrev pub names_of_field : Option DeclaredField → Option (List (List ℕ))
names_of_field None = None
names_of_field (Some f) = names_of_type f.type

-- the names of ENUM e: 0 is the key, f + 1 is field f
abbrev pub enum_names : Declared → ℕ → Option (List (List ℕ))
enum_names s zero = Some s.keys
enum_names s (suc f) = names_of_field (slice_get s.fields f)

-- a value of the type: in its interval, or the number of one of its names
abbrev pub fits_type : FieldType → Value → Bool
fits_type (Int lo hi) (values.Int n) = int_le lo n && int_le n hi
fits_type Truth (values.Bool b) = true
fits_type (Enum names) (values.Enum i) = nat_lt i (length names)
fits_type _ _ = false

-- one value for each field, of its type
abbrev pub fit_fields : List DeclaredField → List Value → Bool
fit_fields [] [] = true
fit_fields (f ∷ fs) (v ∷ vs) = fits_type f.type v && fit_fields fs vs
fit_fields _ _ = false

abbrev pub has_too_many_names : FieldType → Bool
has_too_many_names (Enum names) = nat_lt MAX_NAMES (length names)
has_too_many_names _ = false

-- none, or 2 to 16
abbrev pub is_source_count : ℕ → Bool
is_source_count n = nat_eq n 0 || is_between 2 MAX_SOURCES n

-- more keys, fields or names of a field than there may be, or not so many sources as there may be
abbrev pub is_too_many : Declared → Bool
is_too_many d = nat_lt MAX_NAMES (length d.keys) || (nat_lt MAX_FIELDS (length d.fields) || (not (is_source_count (length d.sources)) || list_any (λ f. has_too_many_names f.type) d.fields))

-- the fault of a type: it has no values, or a name twice
abbrev pub type_refusal : FieldType → Option SchemaRefusal
type_refusal (Int lo hi) = cond (int_lt hi lo) (Some EmptyRange) None
type_refusal Truth = None
type_refusal (Enum []) = Some EmptyRange
type_refusal (Enum (n ∷ ns)) = cond (repeats_after [] (n ∷ ns)) (Some DuplicateName) None

-- the first of two faults
abbrev pub or_else : Option SchemaRefusal → Option SchemaRefusal → Option SchemaRefusal
or_else (Some r) other = Some r
or_else None other = other

-- the first fault of fields that stand behind others
abbrev pub fields_refusal : List (List ℕ) → List DeclaredField → Option SchemaRefusal
fields_refusal before [] = None
fields_refusal before (f ∷ fs) = cond (is_among f.name before) (Some DuplicateName) (or_else (type_refusal f.type) (fields_refusal (before ++ f.name ∷ []) fs))

-- a name stands twice
abbrev pub sources_refusal : List (List ℕ) → Option SchemaRefusal
sources_refusal names = cond (repeats_after [] names) (Some DuplicateName) None

-- the first fault of keys, fields and sources
abbrev pub schema_refusal : Declared → Option SchemaRefusal
schema_refusal d =
    cond (nat_eq (length d.keys) 0) (Some NoKeys)
    (cond (is_too_many d) (Some TooMany)
    (cond (repeats_after [] d.keys) (Some DuplicateName) (or_else (fields_refusal [] d.fields) (sources_refusal d.sources))))

-- ---- what holds of each schema

abbrev pub is_within : ℤ → ℤ → ℤ → Bool
is_within lo hi n = int_le lo n && int_le n hi

-- from -2^63 to 2^63 - 1
abbrev pub is_i64 : ℤ → Bool
is_i64 n = is_within (negsuc 9223372036854775807) (pos 9223372036854775807) n

-- names, none of them one of those before it
abbrev pub are_names_after : List (List ℕ) → List (List ℕ) → Bool
are_names_after before [] = true
are_names_after before (n ∷ ns) = is_name n && (not (is_among n before) && are_names_after (before ++ n ∷ []) ns)

-- 1 to 1,000 of them
abbrev pub is_name_list : List (List ℕ) → Bool
is_name_list ns = is_between 1 MAX_NAMES (length ns) && are_names_after [] ns

abbrev pub is_field_type : FieldType → Bool
is_field_type (Int lo hi) = is_i64 lo && (is_i64 hi && int_le lo hi)
is_field_type Truth = true
is_field_type (Enum names) = is_name_list names

-- its name is none of those before
abbrev pub is_field_after : List (List ℕ) → DeclaredField → Bool
is_field_after before f = is_name f.name && (not (is_among f.name before) && is_field_type f.type)

abbrev pub are_fields_after : List (List ℕ) → List DeclaredField → Bool
are_fields_after before [] = true
are_fields_after before (f ∷ fs) = is_field_after before f && are_fields_after (before ++ f.name ∷ []) fs

abbrev pub are_sources : List (List ℕ) → Bool
are_sources ns = is_source_count (length ns) && are_names_after [] ns

unfoldable pub is_schema : Declared → Bool
is_schema d = is_name_list d.keys && (nat_le (length d.fields) MAX_FIELDS && (are_fields_after [] d.fields && are_sources d.sources))

-- how many sources watermarks have
abbrev pub source_count : Declared → ℕ
source_count d = cond (nat_eq (length d.sources) 0) 1 (length d.sources)

-- ---- what the types of the code keep: names are names, and numbers have 64 bits

abbrev pub is_spelt_type : FieldType → Bool
is_spelt_type (Int lo hi) = is_i64 lo && is_i64 hi
is_spelt_type Truth = true
is_spelt_type (Enum names) = list_all is_name names

abbrev pub is_spelt_field : DeclaredField → Bool
is_spelt_field f = is_name f.name && is_spelt_type f.type
