-- What was read of a line that was taken apart.
use Rattle.std.specs.Prelude.{◌≡◌, Result, Ok, Err}
use Rattle.wsm_record.specs.Event.{event_of}
use Rattle.wsm_record.specs.Schema.{Declared}
use Rattle.wsm_lines.specs.declared.fault.LineFault.{LineFault}
use Rattle.wsm_lines.specs.declared.reading.Reading.{Reading}
use Rattle.wsm_lines.specs.declared.source.Source.{Source}
use Rattle.wsm_lines.specs.Identifier.{identifier_held}
use Rattle.wsm_lines.specs.Key.{key_by}
use Rattle.wsm_lines.specs.Said.{clock_by, event_by, identifier_by}
use Rattle.wsm_lines.specs.Scalar.{Taken}

-- the event that the line says stands there
abbrev pub HoldsEvent : Source → Declared → Result Taken LineFault → Reading → Type 0
HoldsEvent s d taken r = event_by s d taken ≡ Ok (event_of r.event)

-- the identifier that it has stands there, or none
abbrev pub HoldsIdentifier : Source → Result Taken LineFault → Reading → Type 0
HoldsIdentifier s taken r = identifier_by s taken ≡ Ok (identifier_held r.identifier)

-- the clock that it names stands there, or none
abbrev pub HoldsClock : Source → Result Taken LineFault → Reading → Type 0
HoldsClock s taken r = clock_by s taken ≡ Ok (identifier_held r.clock)

-- the text of its key stands there
abbrev pub HoldsKey : Source → Result Taken LineFault → Reading → Type 0
HoldsKey s taken r = key_by s taken ≡ Ok r.key

-- the line says no event for this fault
abbrev pub TellsFault : Source → Declared → Result Taken LineFault → LineFault → Type 0
TellsFault s d taken f = event_by s d taken ≡ Err f
