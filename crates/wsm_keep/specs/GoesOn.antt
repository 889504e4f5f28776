-- What a run writes for the rows that come behind others: its lines, but for the numbers of rows.
use Rattle.std.specs.Prelude.{◌≡◌, ℕ, ◌+◌, ◌≤◌, List, ◌++◌, drop, length, map, ℤ}
use Rattle.wsm_semantics.specs.Query.{Query}
use Rattle.wsm_semantics.specs.Lines.{Row, Line, Out, Faulty, Refused, End, events, lines_so_far}
use Rattle.wsm_semantics.specs.FromWatermark.{begun_at, BothHaveRoom}

-- a line with the number of its row so much greater; the end row stays
abbrev pub moved : ℕ → Line → Line
moved by (Out row) = Out row
moved by (Faulty row why) = Faulty (row + by) why
moved by (Refused row why) = Refused (row + by) why
moved by (End rows admitted late refused panes) = End rows admitted late refused panes

-- the lines for rows behind others: those for all of them, without those for these
abbrev pub lines_behind : Query → List Row → List Row → List Line
lines_behind q newer before = drop (length (lines_so_far q before)) (lines_so_far q (newer ++ before))

-- behind some rows a run writes for whatever comes what it writes behind others, by a query with another RECORDS, but that a row
-- number is less by how many rows are fewer; as long as none is refused for RECORDS in either, and counters of rows are exact
pub record GoesOn (q : Query) (records : ℤ) (all some : List Row) : Type 0 where
  pub lines : (newer : List Row) → length newer + length all ≤ 18446744073709551615 → length newer + length some ≤ 18446744073709551615 →
      BothHaveRoom q q.clock.start records (events (newer ++ all)) (events (newer ++ some)) →
      map (moved (length all)) (lines_behind (begun_at q.clock.start records q) newer some) ≡ map (moved (length some)) (lines_behind q newer all)
