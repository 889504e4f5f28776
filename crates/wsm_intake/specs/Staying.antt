-- What stays of the events that an engine takes.
use Rattle.std.specs.Prelude.{◌≡◌, List, ◌∷◌}
use Rattle.wsm_record.specs.Event.{Event}
use Rattle.wsm_semantics.specs.Relation.{turn_rows}
use Rattle.wsm_program.specs.Program.{Program}
use Rattle.wsm_machine.specs.Meaning.{query_of}
use Rattle.wsm_engine.specs.State.{State}
use Rattle.wsm_engine.specs.declared.reply.Reply.{Reply}
use Rattle.wsm_engine.specs.Meaning as engine
use Rattle.wsm_engine.specs.Meaning.{reply_to}
use Rattle.wsm_keep.specs.Holds.{rows_with}
use Rattle.wsm_cut.specs.Cutter as cutter
use Rattle.wsm_cut.specs.declared.cutter.Cutter.{Cutter}
use Rattle.wsm_saved.specs.Events.{EventFits, event_text}
use Rattle.wsm_saved.specs.Lists.{EachFits}

-- a cutter has what it should of events, each with its saved text, from which it comes back
pub record Cuts (p : Program) (c : Cutter) (past : List Event) : Type 0 where
  pub fits : cutter.Fits p c (rows_with event_text past)
  pub each : EachFits EventFits past

-- the engine of the program took an event behind a history, with this reply
pub record Fed (p : Program) (new : State) (past : List Event) (e : Event) (reply : Reply) : Type 0 where
  pub program : new.program ≡ p
  pub fits : engine.Fits new (e ∷ past)
  pub is : reply ≡ reply_to p past e
  pub rows : new.rows ≡ turn_rows (query_of p) past e
