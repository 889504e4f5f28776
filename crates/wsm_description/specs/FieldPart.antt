-- What is said of fields.
use Rattle.std.specs.Prelude.{ℕ, ℤ, List, [], ◌∷◌, ◌++◌, codes, Bool, true, not, ◌==◌, if◌then◌else◌, unwrap_or, Option, Some, None, Result, Ok}
use Rattle.std.specs.Str.{bytes_eq}
use Rattle.toml.specs.Data.{Data, Members, no_members, member, get_member, as_str, as_integer, as_bool, as_table}
use Rattle.wsm_description.specs.declared.description.Entry.{Entry}
use Rattle.wsm_description.specs.declared.description.DecimalDescription.{DecimalDescription}
use Rattle.wsm_description.specs.declared.description.DefaultValue.{DefaultValue}
use Rattle.wsm_description.specs.declared.description.DefaultValue.TheVariants.{Whole, Truth, Name}
use Rattle.wsm_description.specs.declared.description.Truths.{Truths}
use Rattle.wsm_description.specs.declared.description.FieldDescription.{FieldDescription}
use Rattle.wsm_description.specs.declared.keys.Section.TheVariants as section
use Rattle.wsm_description.specs.declared.reading.Mark.TheVariants.{Sign}
use Rattle.wsm_description.specs.declared.refusal.SourceFault.TheVariants.{BadType, Conflict}
use Rattle.wsm_description.specs.declared.refusal.Refusal.{Refusal}
use Rattle.wsm_description.specs.Refusals.{dotted, refused, on_ok}
use Rattle.wsm_description.specs.Keys.{known_keys}
use Rattle.wsm_description.specs.Reading.{text_at, table_at, number_at, mark_at}
use Rattle.wsm_description.specs.KeyPart.{texts_of}

-- ---- defaults

-- by the text, the whole number and the truth that the value is
abbrev pub default_value : List ℕ → Option (List ℕ) → Option ℤ → Option Bool → Result DefaultValue Refusal
default_value within (Some text) whole truth = Ok (Name text)
default_value within None (Some n) truth = Ok (Whole n)
default_value within None None (Some b) = Ok (Truth b)
default_value within None None None = refused BadType within (codes "default")

abbrev pub default_in : List ℕ → Data → Result DefaultValue Refusal
default_in within d = default_value within (as_str d) (as_integer d) (as_bool d)

abbrev pub some_default : Result DefaultValue Refusal → Result (Option DefaultValue) Refusal
some_default r = on_ok r (λ d. Ok (Some d))

abbrev pub default_or_none : List ℕ → Option Data → Result (Option DefaultValue) Refusal
default_or_none within None = Ok None
default_or_none within (Some d) = some_default (default_in within d)

abbrev pub default_of : List ℕ → Members → Result (Option DefaultValue) Refusal
default_of within ms = default_or_none within (get_member (codes "default") ms)

-- ---- decimals

abbrev pub scale_of : List ℕ → Members → Result (Option ℕ) Refusal
scale_of within ms = number_at within (codes "scale") 0 18 ms

-- groups are parted by another character than the point, which is "." where nothing is said
abbrev pub is_group : Option ℕ → Option ℕ → Bool
is_group point None = true
is_group point (Some byte) = not (byte == unwrap_or point 46)

abbrev pub decimal_with : List ℕ → Option ℕ → Option ℕ → Option ℕ → Result DecimalDescription Refusal
decimal_with within scale point group =
    if is_group point group then Ok (record { scale = scale; point = point; group = group }) else refused Conflict within (codes "group")

abbrev pub decimal_of : List ℕ → Members → Result DecimalDescription Refusal
decimal_of within ms =
    on_ok (scale_of within ms) (λ scale.
    on_ok (mark_at within (codes "point") Sign ms) (λ point.
    on_ok (mark_at within (codes "group") Sign ms) (λ group. decimal_with within scale point group)))

-- ---- words

-- the words for true and false: both or neither, and not the same
abbrev pub truths_with : List ℕ → Option (List ℕ) → Option (List ℕ) → Result (Option Truths) Refusal
truths_with within None None = Ok None
truths_with within None (Some wrong) = refused Conflict within (codes "false")
truths_with within (Some right) None = refused Conflict within (codes "true")
truths_with within (Some right) (Some wrong) =
    if bytes_eq right wrong then refused Conflict within (codes "false") else Ok (Some (record { yes = right; no = wrong }))

abbrev pub truths_of : List ℕ → Members → Result (Option Truths) Refusal
truths_of within ms =
    on_ok (text_at within (codes "true") ms) (λ right. on_ok (text_at within (codes "false") ms) (λ wrong. truths_with within right wrong))

abbrev pub words_in : List ℕ → Option Members → Result (Option (List Entry)) Refusal
words_in within None = Ok None
words_in within (Some words) = on_ok (texts_of (dotted within (codes "words")) words) (λ entries. Ok (Some entries))

abbrev pub words_of : List ℕ → Members → Result (Option (List Entry)) Refusal
words_of within ms = on_ok (table_at within (codes "words") ms) (words_in within)

-- ---- fields

-- a field stands under its own name, where no place is said
abbrev pub field_in : List ℕ → List ℕ → Members → Result FieldDescription Refusal
field_in within name ms =
    on_ok (known_keys section.Field within ms) (λ _.
    on_ok (decimal_of within ms) (λ decimal.
    on_ok (text_at within (codes "at") ms) (λ at.
    on_ok (default_of within ms) (λ default.
    on_ok (truths_of within ms) (λ truths.
    on_ok (words_of within ms) (λ words.
    Ok (record { name = name; at = unwrap_or at name; decimal = decimal; default = default; truths = truths; words = words })))))))

abbrev pub field_or_refused : List ℕ → Option Members → Result FieldDescription Refusal
field_or_refused name None = refused BadType (codes "fields") name
field_or_refused name (Some ms) = field_in (dotted (codes "fields") name) name ms

abbrev pub field_of : List ℕ → Data → Result FieldDescription Refusal
field_of name d = field_or_refused name (as_table d)

-- the fields so far, and the members that are left
abbrev pub fields_from : List FieldDescription → Members → Result (List FieldDescription) Refusal
fields_from fields no_members = Ok fields
fields_from fields (member name d ms) = on_ok (field_of name d) (λ field. fields_from (fields ++ field ∷ []) ms)

abbrev pub fields_in : Members → Result (List FieldDescription) Refusal
fields_in ms = fields_from [] ms

abbrev pub fields_or_none : Option Members → Result (List FieldDescription) Refusal
fields_or_none None = Ok []
fields_or_none (Some ms) = fields_in ms

abbrev pub fields_of : Members → Result (List FieldDescription) Refusal
fields_of ms = on_ok (table_at (codes "") (codes "fields") ms) fields_or_none
