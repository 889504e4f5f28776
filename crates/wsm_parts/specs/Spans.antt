-- Where cells stand in a line.
use Rattle.std.specs.Prelude.{ℕ, ◌-◌, List, take, drop, map}
use Rattle.wsm_parts.specs.Csv.{Row, row_with, cell_text}
use Rattle.wsm_parts.specs.declared.csv.Cursor.{Cursor}
use Rattle.wsm_parts.specs.declared.csv.Span.{Span}

-- the bytes of a line from a place up to another
abbrev pub part_of : List ℕ → ℕ → ℕ → List ℕ
part_of line start end = take (end - start) (drop start line)

-- the text of a cell that stands there
abbrev pub span_text : List ℕ → Span → List ℕ
span_text line s = cell_text s.quoted (part_of line s.start s.end)

abbrev pub texts_of : List ℕ → List Span → List (List ℕ)
texts_of line spans = map (span_text line) spans

-- the row up to a place of a line
abbrev pub row_seen : List ℕ → ℕ → Cursor → List Span → Row
row_seen line i cursor spans = row_with cursor.spot (part_of line cursor.start i) (texts_of line spans)
