-- What a keyed intake has come to, as a text. It says the names in their order, which events the parts need and all else as it is; a run
-- goes on from it as from the lines themselves. The events are those of all parts, the key of each by its number among the names.
use Rattle.std.specs.Prelude.{◌≡◌, ◌<◌, ◌≤◌, ◌&&◌, ℕ, ℤ, nat_lt, Bool, List, ◌++◌, length, Option, is_some, IsTrue, unsigned_abs}
use Rattle.wsm_record.specs.Event.{Event}
use Rattle.wsm_semantics.specs.Query.{Query}
use Rattle.wsm_program.specs.Program.{is_program}
use Rattle.wsm_machine.specs.Meaning.{plan_of}
use Rattle.wsm_doubles.specs.Memory.{Memory}
use Rattle.wsm_turns.specs.declared.waiting.Waiting.{Waiting}
use Rattle.wsm_turns.specs.Clocks.{count_in}
use Rattle.wsm_turns.specs.Turns.{Kept, watermark}
use Rattle.wsm_head.specs.StandsFor.{program_with, taken}
use Rattle.wsm_head.specs.Behind.{KeptFor}
use Rattle.wsm_part_programs.specs.Names.{of_names}
use Rattle.wsm_saved.specs.Lists.{BytesFit, ListFits, bytes_text, list_text}
use Rattle.wsm_saved.specs.Events.{EventFits, event_text}
use Rattle.wsm_log_text.specs.FirstLine.{first_of}
use Rattle.wsm_log_text.specs.LogText as texts
use Rattle.wsm_log_text.specs.Needed.{left_behind, needed_in_order}
use Rattle.wsm_log_text.specs.Standing.{AreFacts, Facts, Says, facts_text}
use Rattle.wsm_log_text.specs.declared.standing.Standing.{Standing}
use Rattle.wsm_keyed_intake.specs.declared.intake.KeyedIntake.{KeyedIntake}
use Rattle.wsm_keyed_intake.specs.KeyedLog.{KeyedLog, declared_by, kept_by, names_of, said_by, setting_by}

-- what is kept of lines by these names and a query whose events these are
abbrev pub facts_by : KeyedLog → List (List ℕ) → List (List ℕ) → Query → Kept → Option Waiting → Memory → Facts
facts_by g all before q k waiting known = record {
  lines = length (said_by g all before);
  first = first_of before;
  left = left_behind q k.fed;
  stamps = k.stamps;
  told = k.told;
  waits = k.waits;
  names = texts.names_of g.source g.clocks (declared_by g all) before;
  known = known;
  memory = k.memory;
  waiting = waiting;
}

-- the names in their order, and then events
abbrev pub rest_text : List (List ℕ) → List Event → List ℕ
rest_text names events = list_text bytes_text names ++ list_text event_text events

-- the query over names with so many RECORDS
abbrev pub query_with : KeyedLog → ℤ → List (List ℕ) → Query
query_with g records all = of_names (program_with records g.program) all

-- a text says what lines come to, by these names and so many RECORDS
pub record SavedBy (g : KeyedLog) (records : ℤ) (all : List (List ℕ)) (before : List (List ℕ)) (text : List ℕ) : Type 0 where
  pub other : Kept
  pub room : taken (query_with g records all) other.fed < unsigned_abs records
  pub stands : KeptFor (plan_of g.program) (of_names g.program all) records (kept_by g all before) other
  pub some : 0 < length (said_by g all before)
  pub few : length other.stamps ≤ length (said_by g all before)
  pub waiting : Option Waiting
  pub known : Memory
  pub facts : let q = query_with g records all in
      let w = setting_by g.clocks (program_with records g.program) all in
      AreFacts g.clocks (count_in g.clocks (length all)) w (watermark w other.fed) (facts_by g all before q other waiting known)
  pub events : ListFits EventFits (needed_in_order (query_with g records all) other.fed)
  pub is : let q = query_with g records all in
      text ≡ facts_text g.clocks (facts_by g all before q other waiting known) (rest_text (names_of g before) (needed_in_order q other.fed))

-- a text says what lines come to, by the names so far and whichever come with later lines
pub record Saved (g : KeyedLog) (before : List (List ℕ)) (text : List ℕ) : Type 0 where
  pub records : ℤ
  pub lesser : IsTrue (is_program (program_with records g.program))
  pub fewer : unsigned_abs records ≤ unsigned_abs g.program.header.clock.records
  pub names : ListFits BytesFit (names_of g before)
  pub by : (later : List (List ℕ)) → SavedBy g records (names_of g (later ++ before)) before text

-- what was read from such a text by these names, with these events behind it
pub record IsReadBy (g : KeyedLog) (records : ℤ) (all : List (List ℕ)) (before : List (List ℕ)) (text : List ℕ) (saved : SavedBy g records all before text) (t : Standing) (events : List Event) : Type 0 where
  pub says : Says g.clocks (count_in g.clocks (length all)) t (facts_by g all before (query_with g records all) saved.other saved.waiting saved.known)
  pub needs : events ≡ needed_in_order (query_with g records all) saved.other.fed

-- and by all
pub record IsRead (g : KeyedLog) (before : List (List ℕ)) (text : List ℕ) (saved : Saved g before text) (t : Standing) (known : List (List ℕ)) (events : List Event) : Type 0 where
  pub names : known ≡ names_of g before
  pub by : (later : List (List ℕ)) → IsReadBy g saved.records (names_of g (later ++ before)) before text (saved.by later) t events

-- it can be said what lines come to: there is one, and RECORDS are left behind them
abbrev pub can_say : KeyedLog → List (List ℕ) → Bool
can_say g before = let all = names_of g before in nat_lt 0 (length before) && nat_lt 0 (left_behind (of_names g.program all) (kept_by g all before).fed)

-- the events that are needed are kept
abbrev pub keeps_events : KeyedIntake → Bool
keeps_events t = is_some t.told.staying
