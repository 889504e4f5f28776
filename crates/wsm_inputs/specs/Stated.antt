-- What a run keeps to of what its program states: no section of it traps, and the panes that are held and the instructions that are
-- taken are at most those that it states.
use Rattle.std.specs.Prelude.{◌≡◌, ◌≤◌, List, ◌∷◌, map, length, None, Some, Result, Ok, Err}
use Rattle.std.specs.List.{AllByRecursion}
use Rattle.wsm_record.specs.Event.{Event, Record}
use Rattle.wsm_semantics.specs.Query.{verdict_on}
use Rattle.wsm_semantics.specs.Panes.{held}
use Rattle.wsm_semantics.specs.Firings.{firings}
use Rattle.wsm_semantics.specs.declared.ending.Totals.{Totals}
use Rattle.wsm_program.specs.Program.{Program}
use Rattle.wsm_machine.specs.Meaning.{query_of, record_cost, pane_cost}
use Rattle.wsm_firing.specs.Tally.{greatest}
use Rattle.wsm_engine.specs.Laws.{FiringEnds, RecordEnds}
use Rattle.wsm_inputs.specs.declared.end.End.{End}
use Rattle.wsm_inputs.specs.declared.end.End.TheVariants as ends
use Rattle.wsm_inputs.specs.declared.input.Input.{Input}
use Rattle.wsm_inputs.specs.Inputs.{IsAccepted}

-- WHERE and UPDATE come to their ends on an event that is a record and is admitted
abbrev pub TakenEnds : Program → List Event → Event → Type 0
TakenEnds p past (Record (Some key) time values) = verdict_on (query_of p) past (Record (Some key) time values) ≡ None → RecordEnds p key values
TakenEnds p past e = Unit {0}

-- what the program states holds of an event behind a history
pub record KeepsTo (p : Program) (past : List Event) (e : Event) : Type 0 where
  pub record_ends : TakenEnds p past e
  pub firings_end : AllByRecursion (FiringEnds p) (firings (query_of p) past e)
  pub held : length (held (query_of p) (e ∷ past)) ≤ p.header.budget.held
  pub record_within : record_cost p past e ≤ p.header.budget.per_record
  pub panes_within : greatest (map (pane_cost p) (firings (query_of p) past e)) ≤ p.header.budget.per_pane

-- a run of the input is one of an accepted program that it says, which keeps to what it states, whatever rows are read
pub record RunsStated (i : Input) : Type 0 where
  pub program : Program
  pub accepted : IsAccepted i program
  pub keeps : (past : List Event) (e : Event) → KeepsTo program past e

-- so it is where a run ended behind its begin: well, by a read that failed, or by a device
abbrev pub Stated : Input → Result Totals End → Type 0
Stated i (Ok totals) = RunsStated i
Stated i (Err ends.ReadFailed) = RunsStated i
Stated i (Err ends.WriteFailed) = RunsStated i
Stated i (Err end) = Unit {0}
