-- The text of a line's key, for names that no schema declares.
use Rattle.std.specs.Prelude.{ℕ, Bool, true, false, List, [], Option, Some, None, Result, Ok, Err, if◌then◌else◌}
use Rattle.wsm_record.specs.Event.{Event, Record, Watermark}
use Rattle.wsm_record.specs.Schema.{Declared}
use Rattle.wsm_lines.specs.declared.fault.LineFault.{LineFault}
use Rattle.wsm_lines.specs.declared.fault.LineFault.TheVariants.{NoKey, BadKey}
use Rattle.wsm_lines.specs.declared.lookup.Lookup.{Lookup}
use Rattle.wsm_lines.specs.declared.lookup.Lookup.TheVariants.{In, Later}
use Rattle.wsm_lines.specs.declared.source.KeyForm.{KeyForm}
use Rattle.wsm_lines.specs.declared.source.KeyNames.{KeyNames}
use Rattle.wsm_lines.specs.declared.source.KeyNames.TheVariants as names
use Rattle.wsm_lines.specs.declared.source.Source.{Source}
use Rattle.wsm_lines.specs.Event.{is_key, text_of}
use Rattle.wsm_lines.specs.Fault.{on_ok}
use Rattle.wsm_lines.specs.Said.{taken_of}
use Rattle.wsm_lines.specs.Scalar.{Taken, scalar_at}

-- a key is named by its own text
abbrev pub are_same : KeyNames → Bool
are_same names.Same = true
are_same (names.Table entries other) = false
are_same (names.Prefixes entries other) = false

-- what declares no key
abbrev pub no_names : Declared
no_names = record { keys = []; fields = []; sources = [] }

-- what declares the keys among which a text is looked up
abbrev pub declared_by : Lookup → Declared
declared_by (In schema) = schema.now
declared_by Later = no_names

abbrev pub key_in : List ℕ → Result (List ℕ) LineFault
key_in s = if is_key s then Ok s else Err BadKey

-- the text of the key of a line that was taken apart
abbrev pub key_at : KeyForm → Taken → Result (List ℕ) LineFault
key_at key taken = on_ok (text_of NoKey BadKey (scalar_at taken key.at)) key_in

abbrev pub key_by : Source → Result Taken LineFault → Result (List ℕ) LineFault
key_by s taken = on_ok taken (key_at s.key)

abbrev pub if_told : Result (List ℕ) LineFault → Option (List ℕ)
if_told (Err why) = None
if_told (Ok text) = Some text

-- the text of the key of a line that says an event
abbrev pub key_text_of : Source → List (List ℕ) → List ℕ → Option (List ℕ)
key_text_of s before line = if_told (key_by s (taken_of s before line))

-- an event with this key
abbrev pub with_key : Option ℕ → Event → Event
with_key key (Record old time values) = Record key time values
with_key key (Watermark source time) = Watermark source time
