-- What a reader of lines stands for.
use Rattle.std.specs.Prelude.{◌≡◌, ℕ, List, Option}
use Rattle.wsm_record.specs.Event.{Event, event_of}
use Rattle.wsm_lines.specs.declared.source.Source.{Source}
use Rattle.wsm_lines.specs.declared.reader.LineReader.{LineReader}
use Rattle.wsm_lines.specs.Heading.{heading_in}
use Rattle.wsm_lines.specs.Identifier.{identifier_held}
use Rattle.wsm_lines.specs.Seen.{heading_seen}

-- the event that was read last
abbrev pub event_read : LineReader → Event
event_read r = event_of r.reading.event

-- the identifier that was read last
abbrev pub identifier_read : LineReader → Option (List ℕ)
identifier_read r = identifier_held r.reading.identifier

-- the clock that was named last
abbrev pub clock_read : LineReader → Option (List ℕ)
clock_read r = identifier_held r.reading.clock

-- the text of the key of the last line whose key was to be looked up later
abbrev pub key_read : LineReader → List ℕ
key_read r = r.reading.key

-- a reader by a source that read these lines, the newest first
pub record Follows (s : Source) (before : List (List ℕ)) (r : LineReader) : Type 0 where
  pub source : r.source ≡ s
  pub heading : heading_seen r.heading ≡ heading_in s.format s.longest before
