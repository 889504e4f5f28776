-- Which event a line says by a source, or the first reason why it says none, which identifier it has, and which clock it names.
-- The lines before it come the newest first.
use Rattle.std.specs.Prelude.{ℕ, ◌==◌, ◌&&◌, ◌+◌, List, [], ◌∷◌, length, Bool, true, false, codes, slice_index_or, if◌then◌else◌, Option, Some, None, option_map, Result, Ok, Err, bytes_eq}
use Rattle.json.specs.Json.{document}
use Rattle.wsm_record.specs.Event.{Event}
use Rattle.wsm_record.specs.Schema.{Declared}
use Rattle.wsm_parts.specs.Access.{access_of}
use Rattle.wsm_parts.specs.Csv.{cells_of, picked}
use Rattle.wsm_lines.specs.declared.fault.LineFault.{LineFault}
use Rattle.wsm_lines.specs.declared.fault.LineFault.TheVariants.{NotJson, NotAccess, NotCsv, Header, BadHeader, CellCount, NotRow}
use Rattle.wsm_lines.specs.declared.source.CsvForm.{CsvForm}
use Rattle.wsm_lines.specs.declared.source.Format.{Format}
use Rattle.wsm_lines.specs.declared.source.Format.TheVariants as format
use Rattle.wsm_lines.specs.declared.source.Source.{Source}
use Rattle.wsm_lines.specs.ClockName.{clock_at}
use Rattle.wsm_lines.specs.Event.{event_in}
use Rattle.wsm_lines.specs.Fault.{on_ok, or_fault, or_none}
use Rattle.wsm_lines.specs.Heading.{Heading, unread, broken, known, heading_by, heading_in, is_unread}
use Rattle.wsm_lines.specs.Identifier.{identifier_at}
use Rattle.wsm_lines.specs.Scalar.{Taken, json, cells}
use Rattle.wsm_lines.specs.Text.{bare, text_in}

-- the first line of CSV says no event: it is the header, or should be
abbrev pub first_fault : Heading → LineFault
first_fault unread = BadHeader
first_fault broken = BadHeader
first_fault (known header columns count) = Header

-- a row, below a header of so many cells that has the names in these columns
abbrev pub taken_row : List ℕ → ℕ → Option (List (List ℕ)) → Result Taken LineFault
taken_row columns count None = Err NotCsv
taken_row columns count (Some cs) = if length cs == count then Ok (cells (picked columns cs)) else Err CellCount

-- a line of CSV below a heading
abbrev pub taken_below : CsvForm → Heading → List ℕ → Result Taken LineFault
taken_below form unread text = Err (first_fault (heading_by form (Ok text)))
taken_below form broken text = Err BadHeader
taken_below form (known header columns count) text =
    if bytes_eq text header then Err Header else taken_row columns count (cells_of form.separator text)

abbrev pub taken_json : List ℕ → Result Taken LineFault
taken_json text = or_fault NotJson (option_map json (document text))

abbrev pub taken_access : List ℕ → Result Taken LineFault
taken_access text = or_fault NotAccess (option_map cells (access_of text))

-- the cells of a record with so many fields: the tag `r`, a key, a time, and one for each field
abbrev pub is_record : ℕ → List (List ℕ) → Bool
is_record fields cs = length cs == 3 + fields && bytes_eq (slice_index_or cs 0 []) (codes "r")

-- those cells, if they are
abbrev pub if_record : Bool → List (List ℕ) → Result Taken LineFault
if_record whole cs = if whole then Ok (cells cs) else Err NotRow

-- a row of a query's own form, with a comma between cells
abbrev pub taken_record : ℕ → List ℕ → Result Taken LineFault
taken_record fields text = on_ok (or_fault NotRow (cells_of 44 text)) (λ cs. if_record (is_record fields cs) cs)

-- the text of a line with so many fields taken apart, below a heading
abbrev pub taken_in : Format → ℕ → Heading → List ℕ → Result Taken LineFault
taken_in format.Json fields heading text = taken_json text
taken_in format.Access fields heading text = taken_access text
taken_in (format.Csv form) fields heading text = taken_below form heading text
taken_in format.Rows fields heading text = taken_record fields text

-- whether a line is the first
abbrev pub is_first : List (List ℕ) → Bool
is_first [] = true
is_first (line ∷ before) = false

-- a line taken apart, or the first fault of its text and its form
abbrev pub taken_of : Source → List (List ℕ) → List ℕ → Result Taken LineFault
taken_of s before line = on_ok (text_in (is_first before) s.longest (bare line)) (taken_in s.format (length s.fields) (heading_in s.format s.longest before))

-- a line without its carriage return taken apart, below a heading
abbrev pub taken_under : Source → Heading → List ℕ → Result Taken LineFault
taken_under s heading line = on_ok (text_in (is_unread heading) s.longest line) (taken_in s.format (length s.fields) heading)

-- what a line says that was taken apart, if it was
abbrev pub event_by : Source → Declared → Result Taken LineFault → Result Event LineFault
event_by s d taken = on_ok taken (event_in s d)

abbrev pub identifier_by : Source → Result Taken LineFault → Result (Option (List ℕ)) LineFault
identifier_by s taken = on_ok taken (identifier_at s.identifier)

abbrev pub clock_by : Source → Result Taken LineFault → Result (Option (List ℕ)) LineFault
clock_by s taken = on_ok taken (λ t. Ok (clock_at s.clock t))

-- the event that a line says, or the first fault
abbrev pub said_of : Source → Declared → List (List ℕ) → List ℕ → Result Event LineFault
said_of s d before line = event_by s d (taken_of s before line)

-- the identifier of a line that says an event, if it has one
abbrev pub identifier_of : Source → List (List ℕ) → List ℕ → Option (List ℕ)
identifier_of s before line = or_none (identifier_by s (taken_of s before line))

-- the clock that a line names, if it names one
abbrev pub clock_of : Source → List (List ℕ) → List ℕ → Option (List ℕ)
clock_of s before line = or_none (clock_by s (taken_of s before line))
