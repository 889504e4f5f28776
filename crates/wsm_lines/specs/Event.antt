-- Which event a line says that was taken apart: its key, its time, and a value for each field, where its
-- identifier is none that is bad. The first fault counts, in this order.
use Rattle.std.specs.Prelude.{ℕ, ◌==◌, ◌&&◌, ℤ, List, [], ◌∷◌, ◌++◌, length, Bool, true, false, not, nat_le, if◌then◌else◌, Option, Some, None, option_map, option_and_then, Result, Ok, Err, bytes_eq, position}
use Rattle.std.specs.Str.{is_utf8}
use Rattle.wsm_record.specs.declared.event.Value.{Value}
use Rattle.wsm_record.specs.declared.event.Value.TheVariants as values
use Rattle.wsm_record.specs.Event.{Event, Record}
use Rattle.wsm_record.specs.Schema.{Declared}
use Rattle.wsm_values.specs.Decimal.{plain, decimal_of}
use Rattle.wsm_values.specs.Time.{time_of}
use Rattle.wsm_values.specs.declared.decimal.DecimalForm.{DecimalForm}
use Rattle.wsm_lines.specs.declared.fault.LineFault.{LineFault}
use Rattle.wsm_lines.specs.declared.fault.LineFault.TheVariants.{NoKey, BadKey, NoTime, BadTime, NoField, BadWhole, BadDecimal, BadBool, BadEnum}
use Rattle.wsm_lines.specs.declared.source.BoolWords.{BoolWords}
use Rattle.wsm_lines.specs.declared.source.Field.{Field}
use Rattle.wsm_lines.specs.declared.source.KeyForm.{KeyForm}
use Rattle.wsm_lines.specs.declared.source.KeyNames.{KeyNames}
use Rattle.wsm_lines.specs.declared.source.KeyNames.TheVariants as names
use Rattle.wsm_lines.specs.declared.source.Kind.{Kind}
use Rattle.wsm_lines.specs.declared.source.Kind.TheVariants as kind
use Rattle.wsm_lines.specs.declared.source.Source.{Source}
use Rattle.wsm_lines.specs.declared.source.TimeAt.{TimeAt}
use Rattle.wsm_lines.specs.Entries.{number_in, number_begun}
use Rattle.wsm_lines.specs.Fault.{on_ok, or_fault}
use Rattle.wsm_lines.specs.Identifier.{identifier_at}
use Rattle.wsm_lines.specs.Scalar.{Scalar, Taken, absent, odd, text, number, scalar_at}

-- the text of what stands at a place: where nothing stands the one fault, where it has none the other
abbrev pub text_of : LineFault → LineFault → Scalar → Result (List ℕ) LineFault
text_of missing bad absent = Err missing
text_of missing bad odd = Err bad
text_of missing bad (text s) = Ok s
text_of missing bad (number s) = Ok s

abbrev pub has_line_feed : List ℕ → Bool
has_line_feed [] = false
has_line_feed (byte ∷ bytes) = if byte == 10 then true else has_line_feed bytes

-- the text of a key has 1 to 255 bytes, and no line feed
abbrev pub is_key : List ℕ → Bool
is_key s = not (length s == 0) && nat_le (length s) 255 && not (has_line_feed s)

abbrev pub or_other : Option ℕ → Option ℕ → Option ℕ
or_other other None = other
or_other other (Some key) = Some key

-- the number of the key that a text names, if it names one
abbrev pub key_number : KeyNames → Declared → List ℕ → Option ℕ
key_number names.Same d s = position (bytes_eq s) d.keys
key_number (names.Table entries other) d s = or_other other (number_in entries s)
key_number (names.Prefixes entries other) d s = or_other other (number_begun entries s)

abbrev pub key_named : KeyNames → Declared → List ℕ → Result (Option ℕ) LineFault
key_named names d s = if is_key s then Ok (key_number names d s) else Err BadKey

abbrev pub key_of : KeyForm → Declared → Taken → Result (Option ℕ) LineFault
key_of key d taken = on_ok (text_of NoKey BadKey (scalar_at taken key.at)) (key_named key.names d)

-- the time of a text, which is UTF-8 as the line is
abbrev pub time_in : TimeAt → List ℕ → Option ℤ
time_in time s = if is_utf8 s then time_of time.form time.unit s else None

abbrev pub time_at : TimeAt → Taken → Result ℤ LineFault
time_at time taken = on_ok (text_of NoTime BadTime (scalar_at taken time.at)) (λ s. or_fault BadTime (time_in time s))

-- a number by a form; what JSON itself writes as a number has a point and no groups
abbrev pub decimal_in : DecimalForm → Scalar → Option ℤ
decimal_in form absent = None
decimal_in form odd = None
decimal_in form (text s) = decimal_of form s
decimal_in form (number s) = decimal_of (plain form.scale) s

-- what a word says, by the words for true and false
abbrev pub truth_of : BoolWords → List ℕ → Option Bool
truth_of words s = if bytes_eq words.yes s then Some true else (if bytes_eq words.no s then Some false else None)

abbrev pub word_in : Scalar → Option (List ℕ)
word_in absent = None
word_in odd = None
word_in (text s) = Some s
word_in (number s) = Some s

-- the value of what stands at a place, by its field's kind
abbrev pub value_in : Kind → Scalar → Option Value
value_in kind.Whole s = option_map values.Int (decimal_in (plain 0) s)
value_in (kind.Decimal form) s = option_map values.Int (decimal_in form s)
value_in (kind.Bool words) s = option_map values.Bool (option_and_then (truth_of words) (word_in s))
value_in (kind.Enum table) s = option_map values.Enum (option_and_then (number_in table) (word_in s))

-- why it has no value
abbrev pub bad_kind : Kind → LineFault
bad_kind kind.Whole = BadWhole
bad_kind (kind.Decimal form) = BadDecimal
bad_kind (kind.Bool words) = BadBool
bad_kind (kind.Enum table) = BadEnum

-- where nothing stands there is the default or none
abbrev pub field_in : Field → Scalar → Result Value LineFault
field_in f absent = or_fault NoField f.default
field_in f odd = Err (bad_kind f.kind)
field_in f (text s) = or_fault (bad_kind f.kind) (value_in f.kind (text s))
field_in f (number s) = or_fault (bad_kind f.kind) (value_in f.kind (number s))

abbrev pub field_value : Field → Taken → Result Value LineFault
field_value f taken = field_in f (scalar_at taken f.at)

-- the values so far and those of the fields that are left
abbrev pub values_from : List Value → List Field → Taken → Result (List Value) LineFault
values_from vs [] taken = Ok vs
values_from vs (f ∷ fields) taken = on_ok (field_value f taken) (λ v. values_from (vs ++ v ∷ []) fields taken)

abbrev pub values_of : List Field → Taken → Result (List Value) LineFault
values_of fields taken = values_from [] fields taken

-- the record of a line that was taken apart
abbrev pub record_in : Source → Declared → Taken → Result Event LineFault
record_in s d taken =
    on_ok (key_of s.key d taken)
    (λ key. on_ok (time_at s.time taken)
    (λ time. on_ok (values_of s.fields taken) (λ vs. Ok (Record key time vs))))

-- the event of a line that was taken apart; its identifier is read last
abbrev pub event_in : Source → Declared → Taken → Result Event LineFault
event_in s d taken = on_ok (record_in s d taken) (λ event. on_ok (identifier_at s.identifier taken) (λ identifier. Ok event))
