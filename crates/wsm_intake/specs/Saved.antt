-- What an intake has come to, as a text. It says which events the engine needs and all else as it is; a run goes on from it as from the
-- lines themselves.
use Rattle.std.specs.Prelude.{◌≡◌, ◌<◌, ◌≤◌, ◌&&◌, ℕ, ℤ, nat_lt, Bool, List, length, Option, is_some, IsTrue, unsigned_abs}
use Rattle.wsm_record.specs.Event.{Event}
use Rattle.wsm_semantics.specs.Query.{Query}
use Rattle.wsm_program.specs.Program.{Program, is_program}
use Rattle.wsm_machine.specs.Meaning.{plan_of, query_of}
use Rattle.wsm_lines.specs.declared.source.Source.{Source}
use Rattle.wsm_doubles.specs.Memory.{Memory}
use Rattle.wsm_turns.specs.declared.clocks.Clocks.{Clocks}
use Rattle.wsm_turns.specs.declared.waiting.Waiting.{Waiting}
use Rattle.wsm_turns.specs.Clocks.{count_in}
use Rattle.wsm_turns.specs.Turns.{Kept, watermark}
use Rattle.wsm_head.specs.StandsFor.{program_with, taken}
use Rattle.wsm_head.specs.Behind.{KeptFor}
use Rattle.wsm_saved.specs.Lists.{ListFits, list_text}
use Rattle.wsm_saved.specs.Events.{EventFits, event_text}
use Rattle.wsm_log_text.specs.Needed.{needed_in_order, left_behind}
use Rattle.wsm_log_text.specs.LogText.{names_of, said}
use Rattle.wsm_log_text.specs.FirstLine.{first_of}
use Rattle.wsm_intake.specs.Turns.{setting_by}
use Rattle.wsm_intake.specs.GoesOn.{kept_of}
use Rattle.wsm_log_text.specs.Standing.{AreFacts, Facts, Says, facts_text}
use Rattle.wsm_intake.specs.declared.intake.Intake.{Intake}
use Rattle.wsm_log_text.specs.declared.standing.Standing.{Standing}

-- what is kept of lines, by a query whose events these are
abbrev pub facts_of : Source → Option Clocks → Program → List (List ℕ) → Query → Kept → Option Waiting → Memory → Facts
facts_of s clocks p before q k waiting known = record {
  lines = length (said s clocks p.header.schema before);
  first = first_of before;
  left = left_behind q k.fed;
  stamps = k.stamps;
  told = k.told;
  waits = k.waits;
  names = names_of s clocks p.header.schema before;
  known = known;
  memory = k.memory;
  waiting = waiting;
}

-- a text says what lines come to by a source, clocks and a program
pub record Saved (s : Source) (clocks : Option Clocks) (p : Program) (before : List (List ℕ)) (text : List ℕ) : Type 0 where
  pub records : ℤ
  pub other : Kept
  pub lesser : IsTrue (is_program (program_with records p))
  pub fewer : unsigned_abs records ≤ unsigned_abs p.header.clock.records
  pub room : taken (query_of (program_with records p)) other.fed < unsigned_abs records
  pub stands : KeptFor (plan_of p) (query_of p) records (kept_of s clocks p before) other
  pub some : 0 < length (said s clocks p.header.schema before)
  pub few : length other.stamps ≤ length (said s clocks p.header.schema before)
  pub waiting : Option Waiting
  pub known : Memory
  pub facts : let q = query_of (program_with records p) in
      let w = setting_by clocks (program_with records p) in
      AreFacts clocks (count_in clocks (length p.header.schema.keys)) w (watermark w other.fed) (facts_of s clocks p before q other waiting known)
  pub events : ListFits EventFits (needed_in_order (query_of (program_with records p)) other.fed)
  pub is : let q = query_of (program_with records p) in
      text ≡ facts_text clocks (facts_of s clocks p before q other waiting known) (list_text event_text (needed_in_order q other.fed))

-- what was read from such a text, with these events behind it
pub record IsRead (s : Source) (clocks : Option Clocks) (p : Program) (before : List (List ℕ)) (text : List ℕ) (saved : Saved s clocks p before text) (t : Standing) (events : List Event) : Type 0 where
  pub says : Says clocks (count_in clocks (length p.header.schema.keys)) t (facts_of s clocks p before (query_of (program_with saved.records p)) saved.other saved.waiting saved.known)
  pub needs : events ≡ needed_in_order (query_of (program_with saved.records p)) saved.other.fed

-- it can be said what lines come to: there is one, and RECORDS are left behind them
abbrev pub can_say : Source → Option Clocks → Program → List (List ℕ) → Bool
can_say s clocks p before = nat_lt 0 (length before) && nat_lt 0 (left_behind (query_of p) (kept_of s clocks p before).fed)

-- the events that are needed are kept
abbrev pub keeps_events : Intake → Bool
keeps_events t = is_some t.told.staying
