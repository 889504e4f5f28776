-- A source, bound to a query.
use Rattle.std.specs.Prelude.{ℕ, ◌+◌, length, List, [], ◌∷◌, ◌++◌, codes, Option, Some, None, option_and_then, option_map, Result, Ok}
use Rattle.wsm_record.specs.Schema.{Declared, DeclaredField}
use Rattle.wsm_lines.specs.declared.source.Format.{Format as Lines}
use Rattle.wsm_lines.specs.declared.source.Format.TheVariants as lines
use Rattle.wsm_lines.specs.declared.source.Source.{Source}
use Rattle.wsm_values.specs.declared.zone.Zone.{Zone}
use Rattle.wsm_description.specs.declared.description.ClockDescription.{ClockDescription}
use Rattle.wsm_description.specs.declared.description.Description.{Description}
use Rattle.wsm_description.specs.declared.description.FieldDescription.{FieldDescription}
use Rattle.wsm_description.specs.declared.description.Format.{Format}
use Rattle.wsm_description.specs.declared.description.Format.TheVariants.{Json, Access, Csv, Rows}
use Rattle.wsm_description.specs.declared.refusal.SourceFault.TheVariants.{BadWord}
use Rattle.wsm_description.specs.declared.refusal.Refusal.{Refusal}
use Rattle.wsm_description.specs.Refusals.{refused, on_ok}
use Rattle.wsm_source.specs.Pointers.{text_or_none}
use Rattle.wsm_source.specs.Places.{place_if}
use Rattle.wsm_source.specs.KeyBinding.{key_form, time_at}
use Rattle.wsm_source.specs.FieldBinding.{described_field, all_declared, fields_of}

abbrev pub name_or_refused : Option (List ℕ) → Result (List ℕ) Refusal
name_or_refused None = refused BadWord (codes "") (codes "fields")
name_or_refused (Some name) = Ok name

abbrev pub said_or_name : List ℕ → Option FieldDescription → Result (List ℕ) Refusal
said_or_name name (Some f) = Ok f.at
said_or_name name None = name_or_refused (text_or_none name)

-- the place that is said of a declared field, or its name
abbrev pub place_said : List FieldDescription → DeclaredField → Result (List ℕ) Refusal
place_said fields d = said_or_name d.name (described_field fields d.name)

abbrev pub columns_from : List FieldDescription → List (List ℕ) → List DeclaredField → Result (List (List ℕ)) Refusal
columns_from fields names [] = Ok names
columns_from fields names (d ∷ ds) = on_ok (place_said fields d) (λ at. columns_from fields (names ++ at ∷ []) ds)

-- where lines name the clocks of their records, if that is said
abbrev pub clock_said : Option ClockDescription → Option (List ℕ)
clock_said clock = option_and_then (λ c. option_map (λ n. n.at) c.named) clock

-- behind the columns of the key, the time and the fields stands that of the identifier, and then that of the clock
abbrev pub identifier_column : List DeclaredField → ℕ
identifier_column declared = length declared + 2

abbrev pub clock_column : Option (List ℕ) → List DeclaredField → ℕ
clock_column None declared = length declared + 2
clock_column (Some identifier) declared = length declared + 3

abbrev pub with_column : Option (List ℕ) → List (List ℕ) → List (List ℕ)
with_column None names = names
with_column (Some at) names = names ++ at ∷ []

-- the columns that a CSV is asked for: the key's, the time's, those of the fields, the identifier's, and the clock's
abbrev pub columns_of : Description → List DeclaredField → Result (List (List ℕ)) Refusal
columns_of d declared =
    on_ok (columns_from d.fields (d.key.at ∷ d.time.at ∷ []) declared)
    (λ names. Ok (with_column (clock_said d.clock) (with_column d.identifier names)))

abbrev pub lines_format : Description → List DeclaredField → Format → Result Lines Refusal
lines_format d declared Json = Ok lines.Json
lines_format d declared Access = Ok lines.Access
lines_format d declared Rows = Ok lines.Rows
lines_format d declared (Csv separator) = on_ok (columns_of d declared) (λ names. Ok (lines.Csv (record { separator = separator; names = names })))

abbrev pub format_with : Description → List DeclaredField → Result Lines Refusal
format_with d declared = lines_format d declared d.format

-- the source of lines that a description says, for a query, with its zone and the bytes of its file of names, or the first fault, in this order
abbrev pub bound : Description → Declared → Zone → List ℕ → Result Source Refusal
bound d schema zone file =
    on_ok (all_declared schema.fields d.fields) (λ _.
    on_ok (key_form d.format schema.keys file d.key) (λ key.
    on_ok (time_at d.format zone d.time) (λ time.
    on_ok (fields_of d.format d.fields schema.fields) (λ fields.
    on_ok (place_if d.format (identifier_column schema.fields) (codes "identifier") d.identifier) (λ identifier.
    on_ok (place_if d.format (clock_column d.identifier schema.fields) (codes "clock") (clock_said d.clock)) (λ clock.
    on_ok (format_with d schema.fields) (λ format.
    Ok (record { format = format; longest = d.longest; key = key; time = time; fields = fields; identifier = identifier; clock = clock }))))))))
