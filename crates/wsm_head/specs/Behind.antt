-- What is kept of lines, where another history of events stands for the one that the query was fed: the lines that come behind have the
-- same turns, by their numbers in the log, and what is written of these is the same. All else is kept as it is. A line that says no event
-- has no turn: what is written of it hangs on its number alone.
use Rattle.std.specs.Prelude.{◌≡◌, ℕ, ◌+◌, List, [], ◌∷◌, ◌++◌, length, map, ℤ, Option}
use Rattle.wsm_record.specs.Event.{Event}
use Rattle.wsm_semantics.specs.Query.{Query, verdict_on}
use Rattle.wsm_semantics.specs.Relation.{turn_rows}
use Rattle.wsm_semantics.specs.Lines.{Line, Out, refusal_lines}
use Rattle.wsm_semantics.specs.Summaries.{Plan}
use Rattle.wsm_semantics.specs.ByKey.{with_records}
use Rattle.wsm_semantics.specs.Needed.{needed}
use Rattle.wsm_turns.specs.declared.clocks.Clocks.{Clocks}
use Rattle.wsm_turns.specs.Numbered.{Numbered}
use Rattle.wsm_turns.specs.Turns.{Kept, Said, Setting, kept, setting_of, turn_of}
use Rattle.wsm_head.specs.StandsFor.{StandsFor}

-- ---- what is written

-- the lines that are written of events behind a history, the first first
abbrev pub events_lines : Query → List Event → List Numbered → List Line
events_lines q past [] = []
events_lines q past (g ∷ gs) = (refusal_lines g.number (verdict_on q past g.event) ++ map Out (turn_rows q past g.event)) ++ events_lines q (g.event ∷ past) gs

-- those of the turn of the line of a number, behind lines of which this is kept
abbrev pub turn_lines : {F : Type 0} → Query → Option Clocks → Kept → ℕ → Said F → List Line
turn_lines q clocks k number x = events_lines q k.fed (turn_of (setting_of clocks q) k number x).goes

-- those of all turns of lines
abbrev pub lines_written : {F : Type 0} → Query → Option Clocks → List (Said F) → List Line
lines_written q clocks [] = []
lines_written q clocks (x ∷ before) = lines_written q clocks before ++ turn_lines q clocks (kept (setting_of clocks q) before) (length before + 1) x

-- ---- behind other lines

-- what is kept of lines, the newest first, that come behind so many others of which this is kept
abbrev pub kept_behind : {F : Type 0} → Setting → Kept → ℕ → List (Said F) → Kept
kept_behind w k before [] = k
kept_behind w k before (x ∷ lines) = (turn_of w (kept_behind w k before lines) (length lines + before + 1) x).kept

-- the lines that are written for them
abbrev pub lines_behind : {F : Type 0} → Query → Option Clocks → Kept → ℕ → List (Said F) → List Line
lines_behind q clocks k before [] = []
lines_behind q clocks k before (x ∷ lines) = lines_behind q clocks k before lines ++ turn_lines q clocks (kept_behind (setting_of clocks q) k before lines) (length lines + before + 1) x

-- what is kept of lines, with the needed events in the place of all that the query was fed
abbrev pub needed_of : Query → Kept → Kept
needed_of q k = record k { fed = needed q k.fed }

-- ---- where another history stands for the events

-- what is kept of other lines is that of these, but for the events that the query was fed, for which others stand
pub record KeptFor {X : Type 0} (plan : Plan X) (q : Query) (records : ℤ) (k other : Kept) : Type 0 where
  pub others : other ≡ record k { fed = other.fed }
  pub stands : StandsFor plan q records k.fed other.fed

-- then at a line the same goes on, the same lines are written of it, and the same is kept behind it
pub record TurnsAlike {X F : Type 0} (plan : Plan X) (q : Query) (records : ℤ) (clocks : Option Clocks) (k other : Kept) (number : ℕ) (x : Said F) : Type 0 where
  pub goes : (turn_of (setting_of clocks (with_records records q)) other number x).goes ≡ (turn_of (setting_of clocks q) k number x).goes
  pub lines : turn_lines (with_records records q) clocks other number x ≡ turn_lines q clocks k number x
  pub kept : KeptFor plan q records (turn_of (setting_of clocks q) k number x).kept (turn_of (setting_of clocks (with_records records q)) other number x).kept
