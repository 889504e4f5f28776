-- What the types of the code that borrow from a text stand for.
use Rattle.std.specs.Prelude.{map}
use Rattle.wsm_journal.specs.Text.{Entry}
use Rattle.wsm_journal.specs.Reading.{Mark, Whole, Reading, reading_with}
use Rattle.wsm_journal.specs.declared.records.Record.{Record}
use Rattle.wsm_journal.specs.declared.records.Found.{Found}
use Rattle.wsm_journal.specs.declared.marks.MarkLine.{MarkLine}
use Rattle.wsm_journal.specs.declared.reading.Journal.{Journal}

abbrev pub entry_seen : Record → Entry
entry_seen r = record { number = r.number; lines = r.lines; rows = r.rows.now; position = r.position.now }

abbrev pub mark_seen : MarkLine → Mark
mark_seen m = record {
  number = m.number;
  bytes = m.bytes;
  lines = m.lines;
  sum = m.sum;
  head = m.head.now;
  position = m.position.now;
  size = m.size;
}

abbrev pub whole_seen : Found → Whole
whole_seen f = record { entry = entry_seen f.record; end = f.end }

abbrev pub reading_seen : Journal → Reading
reading_seen j = reading_with (map entry_seen j.records.items) j.size j.behind
