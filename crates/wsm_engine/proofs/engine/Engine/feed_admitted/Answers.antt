use Rattle.wsm_record.specs.Event.{event_of}
use Rattle.wsm_engine.proofs.Fed.{feeds_by_turn}
use Rattle.wsm_engine.proofs.engine.Engine.feed_admitted.Goals as goal

pub returns : goal.returns
returns c =
    let took = c.turn.ensures in
    feeds_by_turn c.args.self.now c.turn.new.self (event_of c.args.event.now) c.turn.result took.judged took.lawful took.history.0 took.history.1 took.state took.reply
