-- The texts of values and events, and what a text is read as.
use Rattle.std.specs.Prelude.{ℕ, ℤ, ◌<◌, ◌^◌, ◌==◌, List, ◌++◌, if◌then◌else◌, FitsSigned, Option, Some, None, option_map, option_and_then}
use Rattle.std.specs.Int.{w64}
use Rattle.wsm_record.specs.Event.{Event, Record, Watermark}
use Rattle.wsm_record.specs.declared.event.Value.{Value}
use Rattle.wsm_record.specs.declared.event.Value.TheVariants.{Int, Bool, Enum}
use Rattle.wsm_journal.specs.Reading.{number_of}
use Rattle.wsm_saved.specs.Numbers.{flag_text, number_text, read_flag, read_short, read_signed, read_word, signed_text}
use Rattle.wsm_saved.specs.Lists.{ListFits, OptionFits, list_text, option_text, read_list, read_option}

-- a value: its kind, and what it is
abbrev pub value_text : Value → List ℕ
value_text (Int z) = number_text 0 ++ signed_text z
value_text (Bool b) = number_text 1 ++ flag_text b
value_text (Enum n) = number_text 2 ++ number_text n

abbrev pub value_of : ℕ → List ℕ → Option (Value × List ℕ)
value_of kind text =
    if kind == 0 then option_map (λ p. (Int p.0, p.1)) (read_signed text)
    else if kind == 1 then option_map (λ p. (Bool p.0, p.1)) (read_flag text)
    else if kind == 2 then option_map (λ p. (Enum p.0, p.1)) (read_short text) else None

abbrev pub read_value : List ℕ → Option (Value × List ℕ)
read_value text = option_and_then (λ p. value_of p.0 p.1) (number_of text)

abbrev pub ValueFits : Value → Type 0
ValueFits (Int z) = FitsSigned w64 z
ValueFits (Bool b) = Unit {0}
ValueFits (Enum n) = n < 2 ^ 16

-- the number of a key or of a source, or none
abbrev pub key_text : Option ℕ → List ℕ
key_text key = option_text number_text key

abbrev pub read_key : List ℕ → Option (Option ℕ × List ℕ)
read_key text = read_option read_word text

abbrev pub read_source : List ℕ → Option (Option ℕ × List ℕ)
read_source text = read_option read_short text

abbrev pub KeyFits : Option ℕ → Type 0
KeyFits key = OptionFits (λ n. n < 2 ^ 32) key

abbrev pub SourceFits : Option ℕ → Type 0
SourceFits source = OptionFits (λ n. n < 2 ^ 16) source

-- an event: 0, its key, its time and its values, or 1, its source and its time
abbrev pub event_text : Event → List ℕ
event_text (Record key time values) = number_text 0 ++ (key_text key ++ (signed_text time ++ list_text value_text values))
event_text (Watermark source time) = number_text 1 ++ (key_text source ++ signed_text time)

unfoldable pub read_record : List ℕ → Option (Event × List ℕ)
read_record text =
    option_and_then (λ key. option_and_then (λ time. option_map (λ values. (Record key.0 time.0 values.0, values.1))
    (read_list read_value time.1)) (read_signed key.1)) (read_key text)

unfoldable pub read_watermark : List ℕ → Option (Event × List ℕ)
read_watermark text = option_and_then (λ source. option_map (λ time. (Watermark source.0 time.0, time.1)) (read_signed source.1)) (read_source text)

abbrev pub read_event : List ℕ → Option (Event × List ℕ)
read_event text = option_and_then (λ p. if p.0 == 0 then read_record p.1 else if p.0 == 1 then read_watermark p.1 else None) (number_of text)

abbrev pub EventFits : Event → Type 0
EventFits (Record key time values) = KeyFits key × FitsSigned w64 time × ListFits ValueFits values
EventFits (Watermark source time) = SourceFits source × FitsSigned w64 time
