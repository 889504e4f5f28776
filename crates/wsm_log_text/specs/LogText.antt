-- What the lines of a log come to by a source and a query: the events that the query is fed, and the bytes that are written.
-- A history of lines has the newest first. What goes on at each is said by wsm_turns/specs/Turns.antt.
use Rattle.std.specs.Prelude.{ℕ, ◌+◌, List, [], ◌∷◌, ◌++◌, length, map, Option, Result, Ok, Err, codes}
use Rattle.std.specs.Fmt.{decimal}
use Rattle.wsm_record.specs.Event.{Event}
use Rattle.wsm_record.specs.Schema.{Declared}
use Rattle.wsm_admission.specs.Admission.{counter}
use Rattle.wsm_admission.specs.Clock.{admitted_count, late_count, refused_count}
use Rattle.wsm_semantics.specs.Query.{Query, verdict_on}
use Rattle.wsm_semantics.specs.Firings.{firings_so_far}
use Rattle.wsm_semantics.specs.Relation.{turn_rows}
use Rattle.wsm_semantics.specs.Lines.{Line, Out, End, refusal_lines}
use Rattle.wsm_semantics.specs.Text.{line_text, lines_text}
use Rattle.wsm_semantics.specs.declared.ending.Totals.{Totals}
use Rattle.wsm_lines.specs.Said.{clock_of, identifier_of, said_of}
use Rattle.wsm_lines.specs.Fault.{fault_word}
use Rattle.wsm_lines.specs.declared.fault.LineFault.{LineFault}
use Rattle.wsm_lines.specs.declared.source.Source.{Source}
use Rattle.wsm_turns.specs.declared.clocks.Clocks.{Clocks}
use Rattle.wsm_turns.specs.declared.voice.Voice.TheVariants.{Key}
use Rattle.wsm_turns.specs.Clocks.{named_in}
use Rattle.wsm_turns.specs.Voices.{Voiced, voiced_at}
use Rattle.wsm_turns.specs.Numbered.{Numbered}
use Rattle.wsm_turns.specs.Heard.{left_out}
use Rattle.wsm_turns.specs.Turns as turns
use Rattle.wsm_turns.specs.Turns.{Kept, Setting, Turn, at_end, fed_with, kept, setting_of, spoken_by, stamp_of, turn_of}

-- ---- what lines say

-- what a line says: an event with its identifier, if it has one, by a voice, or none
abbrev pub Said : Type 0
Said = turns.Said LineFault

-- whose clock tells the time of the event that a line says, which names a clock or none, where these have spoken
abbrev pub voiced_in : Option Clocks → Declared → List (List ℕ) → Option (List ℕ) → Result Event LineFault → Voiced
voiced_in clocks d names name (Ok e) = voiced_at (stamp_of d e) (named_in clocks) names name
voiced_in clocks d names name (Err why) = record { voice = Key; names = names }

-- the names of the clocks that have spoken, the first first
abbrev pub names_of : Source → Option Clocks → Declared → List (List ℕ) → List (List ℕ)
names_of s clocks d [] = []
names_of s clocks d (line ∷ before) = (voiced_in clocks d (names_of s clocks d before) (clock_of s before line) (said_of s d before line)).names

abbrev pub voiced_line : Source → Option Clocks → Declared → List (List ℕ) → List ℕ → Voiced
voiced_line s clocks d before line = voiced_in clocks d (names_of s clocks d before) (clock_of s before line) (said_of s d before line)

abbrev pub said_at : Source → Option Clocks → Declared → List (List ℕ) → List ℕ → Said
said_at s clocks d before line = spoken_by (identifier_of s before line) (voiced_line s clocks d before line).voice (said_of s d before line)

-- the turn of the line of a number
abbrev pub turn_at : Setting → Kept → ℕ → Said → Turn
turn_at w k number x = turn_of w k number x

-- how many records it leaves out
abbrev pub left_at : Setting → Kept → Said → ℕ
left_at w k x = left_out w k x

-- what lines say
abbrev pub said : Source → Option Clocks → Declared → List (List ℕ) → List Said
said s clocks d [] = []
said s clocks d (line ∷ before) = said_at s clocks d before line ∷ said s clocks d before

abbrev pub fault_count : List Said → ℕ
fault_count [] = 0
fault_count (Ok x ∷ before) = fault_count before
fault_count (Err why ∷ before) = fault_count before + 1

-- ---- what is written

-- the bytes of the turn of an event after a history. It is of the line of a number
abbrev pub event_text : Query → ℕ → List Event → Event → List ℕ
event_text q number past e = lines_text q.declared (refusal_lines number (verdict_on q past e) ++ map Out (turn_rows q past e))

-- those of events, the first first
abbrev pub events_text : Query → List Event → List Numbered → List ℕ
events_text q past [] = []
events_text q past (g ∷ gs) = event_text q g.number past g.event ++ events_text q (g.event ∷ past) gs

-- `refused,NUMBER,WORD`; a line feed
abbrev pub fault_text : ℕ → LineFault → List ℕ
fault_text number why = codes "refused," ++ decimal number ++ codes "," ++ fault_word why ++ codes "\n"

-- the bytes of the turn of the line of a number, after lines of which this is kept
abbrev pub text_of_turn : Query → Option Clocks → Kept → ℕ → Said → List ℕ
text_of_turn q clocks k number (Err why) = fault_text number why
text_of_turn q clocks k number (Ok x) = events_text q k.fed (turn_at (setting_of clocks q) k number (Ok x)).goes

-- those of the turn of a line after those before it
abbrev pub turn_text : Query → Option Clocks → List Said → Said → List ℕ
turn_text q clocks before x = text_of_turn q clocks (kept (setting_of clocks q) before) (length before + 1) x

-- the bytes of all turns
abbrev pub turns_text : Query → Option Clocks → List Said → List ℕ
turns_text q clocks [] = []
turns_text q clocks (x ∷ before) = turns_text q clocks before ++ turn_text q clocks before x

-- the events that the query was fed at the end, the newest first
abbrev pub fed_at_end : Query → Option Clocks → List Said → List Event
fed_at_end q clocks lines = let k = kept (setting_of clocks q) lines in fed_with k.fed (at_end k)

-- the last line: how many lines were read, and behind these events records admitted, records late, lines refused and panes fired
abbrev pub line_behind : Query → List Said → List Event → Line
line_behind q lines past =
    End (length lines) (admitted_count q.clock q.shape q.declared past) (counter (late_count q.clock q.shape q.declared past))
    (counter (fault_count lines + refused_count q.clock q.shape q.declared past)) (counter (length (firings_so_far q past)))

abbrev pub end_line : Query → Option Clocks → List Said → Line
end_line q clocks lines = line_behind q lines (fed_at_end q clocks lines)

-- the last line, with these totals
abbrev pub line_of : Totals → Line
line_of t = End t.rows t.admitted t.late t.refused t.panes

-- the bytes behind all turns: what waits goes on, and the last line
abbrev pub end_text : Query → Option Clocks → List Said → List ℕ
end_text q clocks lines = let k = kept (setting_of clocks q) lines in
    events_text q k.fed (at_end k) ++ line_text q.declared (end_line q clocks lines)

-- the bytes that are written for lines
abbrev pub text : Query → Option Clocks → List Said → List ℕ
text q clocks lines = turns_text q clocks lines ++ end_text q clocks lines
