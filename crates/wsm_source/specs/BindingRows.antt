-- Sources bound to a query, or the fault that they have, computed.
use Rattle.std.specs.Prelude.{◌≡◌, ℕ, List, ◌∷◌, [], ◌++◌, true, pos, negsuc, Some, None, Result, Ok, Err, codes, refl}
use Rattle.std.specs.Char.{encode_utf8}
use Rattle.std.specs.Str.{chars, is_utf8}
use Rattle.wsm_record.specs.Schema.{Declared, DeclaredField, Int, Truth, Enum}
use Rattle.wsm_record.specs.declared.event.Value.TheVariants as values
use Rattle.wsm_lines.specs.Entries.{entry_with}
use Rattle.wsm_lines.specs.Text.{byte_order_mark}
use Rattle.wsm_lines.specs.declared.source.Format.TheVariants as lines
use Rattle.wsm_lines.specs.declared.source.KeyNames.TheVariants as names
use Rattle.wsm_lines.specs.declared.source.Kind.TheVariants as kind
use Rattle.wsm_lines.specs.declared.source.Place.TheVariants.{Path, Column}
use Rattle.wsm_lines.specs.declared.source.Source.{Source}
use Rattle.wsm_values.specs.declared.time.TimeForm.TheVariants as forms
use Rattle.wsm_values.specs.declared.time.Unit.TheVariants.{Seconds}
use Rattle.wsm_values.specs.declared.zone.Zone.TheVariants.{Utc}
use Rattle.wsm_description.specs.KeyPart.{entry_of}
use Rattle.wsm_description.specs.declared.description.DecimalDescription.{DecimalDescription}
use Rattle.wsm_description.specs.declared.description.DefaultValue.TheVariants as default
use Rattle.wsm_description.specs.declared.description.ClockDescription.{ClockDescription}
use Rattle.wsm_description.specs.declared.description.Description.{Description}
use Rattle.wsm_description.specs.declared.description.FieldDescription.{FieldDescription}
use Rattle.wsm_description.specs.declared.description.FormDescription.TheVariants.{Instant}
use Rattle.wsm_description.specs.declared.description.Format.{Format}
use Rattle.wsm_description.specs.declared.description.Format.TheVariants.{Json, Access, Csv, Rows}
use Rattle.wsm_description.specs.declared.description.KeyNaming.{KeyNaming}
use Rattle.wsm_description.specs.declared.description.KeyNaming.TheVariants.{Same, File, Prefixes}
use Rattle.wsm_description.specs.declared.refusal.Refusal.{Refusal}
use Rattle.wsm_description.specs.declared.refusal.Refusal.TheVariants.{Fault}
use Rattle.wsm_description.specs.declared.refusal.SourceFault.TheVariants.{BadType, BadRange, BadWord, UnknownField, WrongType, UnknownName, BadLine}
use Rattle.wsm_source.specs.Binding.{bound}

-- the query: two keys, a number, a truth and one of two names
abbrev amount : DeclaredField
amount = record { name = codes "amount"; type = Int (pos 0) (pos 100) }

abbrev paid : DeclaredField
paid = record { name = codes "paid"; type = Truth }

abbrev plan : DeclaredField
plan = record { name = codes "plan"; type = Enum (codes "free" ∷ codes "big" ∷ []) }

abbrev query : List DeclaredField → Declared
query fields = record { keys = codes "api" ∷ codes "web" ∷ []; fields = fields; sources = [] }

-- ---- what a source says

abbrev unsaid : DecimalDescription
unsaid = record { scale = None; point = None; group = None }

abbrev scaled : DecimalDescription
scaled = record { scale = Some 2; point = Some 44; group = None }

abbrev plain : List ℕ → FieldDescription
plain name = record { name = name; at = name; decimal = unsaid; default = None; truths = None; words = None }

abbrev says : Format → List ℕ → KeyNaming → List FieldDescription → Description
says format at naming fields = record {
  format = format;
  longest = 1000;
  keys = None;
  key = record { at = at; naming = naming };
  time = record { at = codes "time"; form = Instant; unit = Seconds };
  fields = fields;
  clock = None;
  identifier = None;
}

-- ---- JSON: fields come in the query's order, and what the text lacks stands under its name

abbrev plan_said : FieldDescription
plan_said = record (plain (codes "plan")) { at = codes "/a~1b/plan"; words = Some (entry_of (codes "frei") (codes "free") ∷ []) }

abbrev amount_said : FieldDescription
amount_said = record (plain (codes "amount")) { decimal = scaled; default = Some (default.Whole (pos 5)) }

abbrev json_source : Source
json_source = record {
  format = lines.Json;
  longest = 1000;
  key = record { at = Path (codes "customer" ∷ codes "id" ∷ []); names = names.Table (entry_with (codes "a,b") 1 ∷ entry_with (codes "c") 0 ∷ []) (Some 1) };
  time = record { at = Path (codes "time" ∷ []); form = forms.Instant; unit = Seconds };
  fields =
      record { at = Path (codes "amount" ∷ []); kind = kind.Decimal (record { point = 44; group = None; scale = 2 }); default = Some (values.Int (pos 5)) }
      ∷ record { at = Path (codes "paid" ∷ []); kind = kind.Bool (record { yes = codes "true"; no = codes "false" }); default = None }
      ∷ record {
        at = Path (codes "a/b" ∷ codes "plan" ∷ []);
        kind = kind.Enum (entry_with (codes "free") 0 ∷ entry_with (codes "big") 1 ∷ entry_with (codes "frei") 0 ∷ []);
        default = None;
      } ∷ [];
  identifier = None;
  clock = None;
}

json : bound (says Json (codes "/customer/id") (File (codes "names.csv") (Some (codes "web"))) (plan_said ∷ amount_said ∷ []))
    (query (amount ∷ paid ∷ plan ∷ [])) Utc (codes "\"a,b\",web\r\n" ++ codes "c,api\n")
    ≡ Ok json_source
unfolding is_utf8 chars encode_utf8
json = refl

-- ---- CSV: the columns are the key's, the time's, those of the fields, the identifier's, and the clock's

abbrev csv_source : Source
csv_source = record {
  format = lines.Csv (record { separator = 59; names = codes "who" ∷ codes "time" ∷ codes "amount" ∷ codes "plan" ∷ codes "nr" ∷ [] });
  longest = 1000;
  key = record { at = Column 0; names = names.Same };
  time = record { at = Column 1; form = forms.Instant; unit = Seconds };
  fields =
      record { at = Column 2; kind = kind.Whole; default = None }
      ∷ record { at = Column 3; kind = kind.Enum (entry_with (codes "free") 0 ∷ entry_with (codes "big") 1 ∷ []); default = None } ∷ [];
  identifier = Some (Column 4);
  clock = None;
}

csv : bound (record (says (Csv 59) (codes "who") Same []) { identifier = Some (codes "nr") }) (query (amount ∷ plan ∷ [])) Utc []
    ≡ Ok csv_source
unfolding is_utf8 chars encode_utf8
csv = refl

-- a clock whose name stands in a column
abbrev named : ClockDescription
named = record { agree = 2; bound = 60; step = 1; forget = 1000; room = 9; named = Some (record { at = codes "till"; most = 90 }) }

abbrev tills : List (List ℕ) → ℕ → Source
tills columns number =
    record csv_source { format = lines.Csv (record { separator = 59; names = columns }); identifier = None; clock = Some (Column number) }

csv_clock : bound (record (says (Csv 59) (codes "who") Same []) { clock = Some named }) (query (amount ∷ plan ∷ [])) Utc []
    ≡ Ok (tills (codes "who" ∷ codes "time" ∷ codes "amount" ∷ codes "plan" ∷ codes "till" ∷ []) 4)
unfolding is_utf8 chars encode_utf8
csv_clock = refl

both : bound (record (says (Csv 59) (codes "who") Same []) { identifier = Some (codes "nr"); clock = Some named }) (query (amount ∷ plan ∷ [])) Utc []
    ≡ Ok (record (tills (codes "who" ∷ codes "time" ∷ codes "amount" ∷ codes "plan" ∷ codes "nr" ∷ codes "till" ∷ []) 5) { identifier = Some (Column 4) })
unfolding is_utf8 chars encode_utf8
both = refl

-- ---- rows: the key, the time and the fields stand behind the tag

abbrev rows_source : Source
rows_source = record {
  format = lines.Rows;
  longest = 1000;
  key = record { at = Column 1; names = names.Same };
  time = record { at = Column 2; form = forms.Instant; unit = Seconds };
  fields =
      record { at = Column 3; kind = kind.Whole; default = None }
      ∷ record { at = Column 4; kind = kind.Enum (entry_with (codes "free") 0 ∷ entry_with (codes "big") 1 ∷ []); default = None } ∷ [];
  identifier = None;
  clock = None;
}

rows : bound (says Rows (codes "key") Same []) (query (amount ∷ plan ∷ [])) Utc [] ≡ Ok rows_source
unfolding is_utf8 chars encode_utf8
rows = refl

-- ---- access: places are parts of the line

abbrev access_source : Source
access_source = record {
  format = lines.Access;
  longest = 1000;
  key = record { at = Column 10; names = names.Prefixes (entry_with (codes "/api/") 0 ∷ entry_with (codes "/") 1 ∷ []) None };
  time = record { at = Column 3; form = forms.Instant; unit = Seconds };
  fields = record { at = Column 6; kind = kind.Whole; default = None } ∷ [];
  identifier = None;
  clock = None;
}

abbrev by_path : KeyNaming
by_path = Prefixes (entry_of (codes "/api/") (codes "api") ∷ entry_of (codes "/") (codes "web") ∷ []) None

access : bound (says Access (codes "path") by_path (record (plain (codes "amount")) { at = codes "bytes" } ∷ [])) (query (amount ∷ [])) Utc []
    ≡ Ok access_source
access = refl

-- ---- faults

-- of what is said of one field, for a query with that of the second
abbrev field_fault : FieldDescription → DeclaredField → Result Source Refusal
field_fault f d = bound (says (Csv 44) (codes "who") Same (f ∷ [])) (query (d ∷ [])) Utc []

unknown_field : field_fault (plain (codes "amount")) paid ≡ Err (Fault UnknownField (codes "fields.amount"))
unknown_field = refl

scale_of_a_truth : field_fault (record (plain (codes "paid")) { decimal = scaled }) paid ≡ Err (Fault WrongType (codes "fields.paid.scale"))
scale_of_a_truth = refl

truths_of_a_number : field_fault (record (plain (codes "amount")) { truths = Some (record { yes = codes "ja"; no = codes "nein" }) }) amount
    ≡ Err (Fault WrongType (codes "fields.amount.true"))
truths_of_a_number = refl

words_of_a_truth : field_fault (record (plain (codes "paid")) { words = Some [] }) paid ≡ Err (Fault WrongType (codes "fields.paid.words"))
words_of_a_truth = refl

word_for_no_name : field_fault (record (plain (codes "plan")) { words = Some (entry_of (codes "frei") (codes "fre") ∷ []) }) plan
    ≡ Err (Fault UnknownName (codes "fields.plan.words.frei"))
word_for_no_name = refl

default_of_no_name : field_fault (record (plain (codes "plan")) { default = Some (default.Name (codes "frei")) }) plan
    ≡ Err (Fault UnknownName (codes "fields.plan.default"))
default_of_no_name = refl

default_below : field_fault (record (plain (codes "amount")) { default = Some (default.Whole (negsuc 0)) }) amount
    ≡ Err (Fault BadRange (codes "fields.amount.default"))
default_below = refl

default_above : field_fault (record (plain (codes "amount")) { default = Some (default.Whole (pos 101)) }) amount
    ≡ Err (Fault BadRange (codes "fields.amount.default"))
default_above = refl

default_of_another_type : field_fault (record (plain (codes "amount")) { default = Some (default.Truth true) }) amount
    ≡ Err (Fault BadType (codes "fields.amount.default"))
default_of_another_type = refl

-- of the key, in a format
abbrev key_fault : Format → List ℕ → KeyNaming → List ℕ → Result Source Refusal
key_fault format at naming file = bound (says format at naming []) (query []) Utc file

other_key : key_fault Json (codes "k") (File (codes "n") (Some (codes "none"))) [] ≡ Err (Fault UnknownName (codes "key.other"))
unfolding is_utf8 chars encode_utf8
other_key = refl

prefix_key : key_fault (Csv 44) (codes "k") (Prefixes (entry_of (codes "/x") (codes "none") ∷ []) None) []
    ≡ Err (Fault UnknownName (codes "key.prefixes./x"))
prefix_key = refl

key_of_a_line : key_fault (Csv 44) (codes "k") (File (codes "n") None) (codes "a,api\n" ++ codes "b,none\n") ≡ Err (Fault (BadLine 2) (codes "key.names"))
key_of_a_line = refl

-- a byte order mark in front is no part of the first line
key_behind_a_mark : key_fault (Csv 44) (codes "k") (File (codes "n") None) (byte_order_mark ++ codes "\"a\",api\n" ++ codes "b,none\n")
    ≡ Err (Fault (BadLine 2) (codes "key.names"))
key_behind_a_mark = refl

open_quotes : key_fault (Csv 44) (codes "k") (File (codes "n") None) (codes "\"a,api\n") ≡ Err (Fault (BadLine 1) (codes "key.names"))
open_quotes = refl

no_comma : key_fault (Csv 44) (codes "k") (File (codes "n") None) (codes "a") ≡ Err (Fault (BadLine 1) (codes "key.names"))
no_comma = refl

no_part : key_fault Access (codes "way") Same [] ≡ Err (Fault BadWord (codes "key.at"))
no_part = refl

no_part_of_an_identifier : bound (record (says Access (codes "path") Same []) { identifier = Some (codes "nr") }) (query []) Utc []
    ≡ Err (Fault BadWord (codes "identifier.at"))
no_part_of_an_identifier = refl

no_part_of_a_clock : bound (record (says Access (codes "path") Same []) { clock = Some named }) (query []) Utc []
    ≡ Err (Fault BadWord (codes "clock.at"))
no_part_of_a_clock = refl

no_pointer : key_fault Json (codes "/a~2") Same [] ≡ Err (Fault BadWord (codes "key.at"))
no_pointer = refl
