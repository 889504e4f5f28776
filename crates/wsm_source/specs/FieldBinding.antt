-- The fields of a source, bound to those of a query.
use Rattle.std.specs.Prelude.{ℕ, ◌+◌, int_le, List, [], ◌∷◌, ◌++◌, codes, Bool, true, false, ◌&&◌, if◌then◌else◌, position, bytes_eq, unwrap_or, Option, Some, None, is_some, is_none, Result, Ok, Err}
use Rattle.wsm_record.specs.Schema.{FieldType, Int, Truth, Enum, DeclaredField}
use Rattle.wsm_record.specs.declared.event.Value.{Value}
use Rattle.wsm_record.specs.declared.event.Value.TheVariants as values
use Rattle.wsm_lines.specs.Entries.{added, entry_with}
use Rattle.wsm_lines.specs.declared.source.BoolWords.{BoolWords}
use Rattle.wsm_lines.specs.declared.source.Field.{Field}
use Rattle.wsm_lines.specs.declared.source.Kind.{Kind}
use Rattle.wsm_lines.specs.declared.source.Kind.TheVariants as kind
use Rattle.wsm_lines.specs.declared.table.Entry.{Entry}
use Rattle.wsm_description.specs.declared.description.Entry.{Entry as Said}
use Rattle.wsm_description.specs.declared.description.DecimalDescription.{DecimalDescription}
use Rattle.wsm_description.specs.declared.description.DefaultValue.{DefaultValue}
use Rattle.wsm_description.specs.declared.description.DefaultValue.TheVariants as default
use Rattle.wsm_description.specs.declared.description.FieldDescription.{FieldDescription}
use Rattle.wsm_description.specs.declared.description.Format.{Format}
use Rattle.wsm_description.specs.declared.description.Truths.{Truths}
use Rattle.wsm_description.specs.declared.refusal.SourceFault.{SourceFault}
use Rattle.wsm_description.specs.declared.refusal.SourceFault.TheVariants.{BadType, BadRange, BadWord, UnknownField, WrongType, UnknownName}
use Rattle.wsm_description.specs.declared.refusal.Refusal.{Refusal}
use Rattle.wsm_description.specs.Refusals.{dotted, refused, on_ok}
use Rattle.wsm_description.specs.Reading.{at_key}
use Rattle.wsm_source.specs.Pointers.{text_or_none}
use Rattle.wsm_source.specs.Places.{place_of}

-- what is said of the field of a name
abbrev pub described_field : List FieldDescription → List ℕ → Option FieldDescription
described_field [] name = None
described_field (f ∷ fs) name = if bytes_eq f.name name then Some f else described_field fs name

abbrev pub with_nothing_said : Option (List ℕ) → Result FieldDescription Refusal
with_nothing_said None = refused BadWord (codes "") (codes "fields")
with_nothing_said (Some name) =
    Ok (record { name = name; at = name; decimal = record { scale = None; point = None; group = None }; default = None; truths = None; words = None })

-- a field of which nothing is said stands under its own name
abbrev pub plain_field : List ℕ → Result FieldDescription Refusal
plain_field name = with_nothing_said (text_or_none name)

abbrev pub is_declared : List ℕ → List DeclaredField → Bool
is_declared name [] = false
is_declared name (d ∷ ds) = if bytes_eq d.name name then true else is_declared name ds

abbrev pub all_declared : List DeclaredField → List FieldDescription → Result (Unit {0}) Refusal
all_declared declared [] = Ok tt
all_declared declared (f ∷ fs) = if is_declared f.name declared then all_declared declared fs else refused UnknownField (codes "fields") f.name

-- ---- kinds

-- a key that doesn't go with the field's type isn't said
abbrev pub unsaid : List ℕ → List ℕ → Bool → Result (Unit {0}) Refusal
unsaid within key said = if said then refused WrongType within key else Ok tt

abbrev pub no_decimal : List ℕ → DecimalDescription → Result (Unit {0}) Refusal
no_decimal within d =
    on_ok (unsaid within (codes "scale") (is_some d.scale)) (λ _.
    on_ok (unsaid within (codes "point") (is_some d.point)) (λ _. unsaid within (codes "group") (is_some d.group)))

abbrev pub is_plain : DecimalDescription → Bool
is_plain d = is_none d.scale && is_none d.point && is_none d.group

-- a point is ".", and no digit behind it counts, where nothing is said
abbrev pub number_kind : DecimalDescription → Kind
number_kind d =
    if is_plain d then kind.Whole
    else kind.Decimal (record { point = unwrap_or d.point 46; group = d.group; scale = unwrap_or d.scale 0 })

abbrev pub truth_words : Option Truths → BoolWords
truth_words None = record { yes = codes "true"; no = codes "false" }
truth_words (Some t) = record { yes = t.yes; no = t.no }

-- the entries so far, and the names that are left, each for its number
abbrev pub named_from : List Entry → ℕ → List (List ℕ) → List Entry
named_from table number [] = table
named_from table number (n ∷ ns) = named_from (added table (entry_with n number)) (number + 1) ns

abbrev pub named_table : List (List ℕ) → List Entry
named_table names = named_from [] 0 names

abbrev pub or_unknown : List ℕ → List ℕ → Option ℕ → Result ℕ Refusal
or_unknown within key None = refused UnknownName within key
or_unknown within key (Some number) = Ok number

abbrev pub word_number : List ℕ → List (List ℕ) → Said → Result ℕ Refusal
word_number within names e = or_unknown within e.text (position (bytes_eq e.name) names)

abbrev pub words_added : List ℕ → List (List ℕ) → List Entry → List Said → Result (List Entry) Refusal
words_added within names table [] = Ok table
words_added within names table (e ∷ es) =
    on_ok (word_number within names e) (λ number. words_added within names (added table (entry_with e.text number)) es)

abbrev pub with_words : List ℕ → List (List ℕ) → List Entry → Option (List Said) → Result (List Entry) Refusal
with_words within names table None = Ok table
with_words within names table (Some words) = words_added (dotted within (codes "words")) names table words

-- each name stands for itself, before the further words
abbrev pub enum_table : List ℕ → List (List ℕ) → FieldDescription → Result (List Entry) Refusal
enum_table within names f = with_words within names (named_table names) f.words

-- how the values of a field are read, by its type
abbrev pub kind_of : List ℕ → FieldType → FieldDescription → Result Kind Refusal
kind_of within (Int lo hi) f =
    on_ok (unsaid within (codes "true") (is_some f.truths)) (λ _.
    on_ok (unsaid within (codes "words") (is_some f.words)) (λ _. Ok (number_kind f.decimal)))
kind_of within Truth f =
    on_ok (no_decimal within f.decimal) (λ _.
    on_ok (unsaid within (codes "words") (is_some f.words)) (λ _. Ok (kind.Bool (truth_words f.truths))))
kind_of within (Enum names) f =
    on_ok (no_decimal within f.decimal) (λ _.
    on_ok (unsaid within (codes "true") (is_some f.truths)) (λ _.
    on_ok (enum_table within names f) (λ table. Ok (kind.Enum table))))

-- ---- defaults

abbrev pub enum_default : Option ℕ → Result Value SourceFault
enum_default None = Err UnknownName
enum_default (Some number) = Ok (values.Enum number)

-- a default is of the field's type: within its interval, or one of its names
abbrev pub typed_default : FieldType → DefaultValue → Result Value SourceFault
typed_default (Int lo hi) (default.Whole n) = if int_le lo n && int_le n hi then Ok (values.Int n) else Err BadRange
typed_default Truth (default.Truth b) = Ok (values.Bool b)
typed_default (Enum names) (default.Name name) = enum_default (position (bytes_eq name) names)
typed_default _ _ = Err BadType

abbrev pub default_or_none : List ℕ → FieldType → Option DefaultValue → Result (Option Value) Refusal
default_or_none within ty None = Ok None
default_or_none within ty (Some d) = on_ok (at_key within (codes "default") (typed_default ty d)) (λ value. Ok (Some value))

abbrev pub default_value : List ℕ → FieldType → FieldDescription → Result (Option Value) Refusal
default_value within ty f = default_or_none within ty f.default

-- ---- fields

abbrev pub bound_in : List ℕ → Format → ℕ → FieldType → FieldDescription → Result Field Refusal
bound_in within format column ty f =
    on_ok (default_value within ty f) (λ d.
    on_ok (place_of format column within f.at) (λ at.
    on_ok (kind_of within ty f) (λ k. Ok (record { at = at; kind = k; default = d }))))

-- a field by its type and what is said of it
abbrev pub bound_field : Format → ℕ → FieldType → FieldDescription → Result Field Refusal
bound_field format column ty f = bound_in (dotted (codes "fields") f.name) format column ty f

abbrev pub field_or_plain : Format → ℕ → DeclaredField → Option FieldDescription → Result Field Refusal
field_or_plain format column d (Some f) = bound_field format column d.type f
field_or_plain format column d None = on_ok (plain_field d.name) (λ f. bound_field format column d.type f)

abbrev pub field_with : Format → ℕ → List FieldDescription → DeclaredField → Result Field Refusal
field_with format column fields d = field_or_plain format column d (described_field fields d.name)

-- the fields so far, and the declared ones that are left; of a CSV's columns theirs stand behind the key's and the time's
abbrev pub fields_from : Format → List FieldDescription → ℕ → List Field → List DeclaredField → Result (List Field) Refusal
fields_from format fields column bound [] = Ok bound
fields_from format fields column bound (d ∷ ds) =
    on_ok (field_with format column fields d) (λ f. fields_from format fields (column + 1) (bound ++ f ∷ []) ds)

-- the fields of a query, in its order
abbrev pub fields_of : Format → List FieldDescription → List DeclaredField → Result (List Field) Refusal
fields_of format fields declared = fields_from format fields 2 [] declared
