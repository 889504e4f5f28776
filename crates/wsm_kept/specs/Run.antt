-- What a run that is counted keeps, and how it fits the rows so far.
use Rattle.std.specs.Prelude.{◌≡◌, ℕ, false, List, Option, Ok, MatchOption}
use Rattle.wsm_record.specs.Event.{Event}
use Rattle.wsm_admission.specs.Clock.{admitted_count}
use Rattle.wsm_semantics.specs.declared.out_row.OutRow.{OutRow}
use Rattle.wsm_semantics.specs.Query.{Query}
use Rattle.wsm_semantics.specs.Relation.{turn_rows}
use Rattle.wsm_semantics.specs.Lines.{Row, events}
use Rattle.wsm_program.specs.Program.{Program}
use Rattle.wsm_machine.specs.Meaning.{query_of}
use Rattle.wsm_engine.specs.State.{State}
use Rattle.wsm_engine.specs.Meaning as engine
use Rattle.wsm_keep.specs.declared.keeper.Judged.{Judged}
use Rattle.wsm_keep.specs.Holds.{Written}
use Rattle.wsm_keep.specs.Staying.{is_event}
use Rattle.wsm_keep.specs.Keeper.{IsTold}
use Rattle.wsm_kept.specs.declared.counts.Counts.{Counts}
use Rattle.wsm_kept.specs.declared.run.Run.{Run}
use Rattle.wsm_kept.specs.Kept.{counts_of}

abbrev pub no_counts : Counts
no_counts = record { rows = 0; lines = 0; admitted = 0 }

-- how many records a program takes of a history
abbrev pub admitted_by : Program → List Event → ℕ
admitted_by p past = let q = query_of p in admitted_count q.clock q.shape q.declared past

-- the engine of the program, after a history of events
pub record EngineFits (p : Program) (s : State) (past : List Event) : Type 0 where
  pub program : s.program ≡ p
  pub fits : engine.Fits s past

-- a run of the program, after rows
pub record Fits (p : Program) (run : Run) (before : List Row) : Type 0 where
  pub engine : EngineFits p run.engine (events before)
  pub counts : run.counts ≡ counts_of (query_of p) before

-- a row behind others is an event, of which this is told
pub record IsTurn (q : Query) (before : List Written) (row : Row) (judged : Judged) : Type 0 where
  pub event : Event
  pub is : row ≡ Ok event
  pub told : IsTold q before event judged

-- of a row that is no event nothing is told
abbrev pub Tells : Query → List Written → Row → Option Judged → Type 0
Tells q before row told = MatchOption told (is_event row ≡ false) (IsTurn q before row)

-- these are the rows of the turn of a row behind events, if it is an event
abbrev pub HasRows : Query → List Event → Row → List OutRow → Type 0
HasRows q past row rows = (e : Event) → row ≡ Ok e → rows ≡ turn_rows q past e
