-- What counts of the code stand for.
use Rattle.std.specs.Prelude.{List, map, string_bytes}
use Rattle.wsm_row_counts.specs.Counted.{Counted, Counts}
use Rattle.wsm_row_counts.specs.declared.counts.Counts.{Counts as HeldCounts}
use Rattle.wsm_row_counts.specs.declared.words.Count.{Count}
use Rattle.wsm_row_counts.specs.declared.words.Words.{Words}

abbrev pub count_seen : Count → Counted
count_seen c = record { word = string_bytes c.word; times = c.times }

abbrev pub words_seen : Words → List Counted
words_seen ws = map count_seen ws.counts.items

abbrev pub counts_seen : HeldCounts → Counts
counts_seen cs = record { kinds = words_seen cs.kinds; refused = words_seen cs.refused }
