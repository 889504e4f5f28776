-- What an engine's fields come to, and what is true of them.
use Rattle.std.specs.Prelude.{List}
use Rattle.wsm_record.specs.Event.{Event}
use Rattle.wsm_panes.specs.Held.{entries_of}
use Rattle.wsm_engine.specs.declared.engine.Engine.TheInside.{Inside}
use Rattle.wsm_engine.specs.State.{State}
use Rattle.wsm_engine.specs.Meaning.{Fits}
use Rattle.wsm_engine.specs.Operator.{IsOf, last_relation}

abbrev pub state_of : Inside → State
state_of a = record {
  program = a.verified;
  machine = record { admission = a.admission; panes = entries_of a.operator.state.held; relation = last_relation a.operator.state.streams (entries_of a.operator.state.held); fed = a.fed; fired = a.fired };
  rows = a.operator.state.rows.written;
  room = a.operator.state.rows.room;
}

-- the operator is the program's, and what is kept is some history's
pub record IsSound (a : Inside) : Type 0 where
  pub operator : IsOf a.verified a.operator
  pub history : (past : List Event) × Fits (state_of a) past
