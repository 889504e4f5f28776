use Rattle.std.proofs.Common.{map}
use Rattle.wsm_doubles.specs.Passing.{numbered_delivery}
use Rattle.wsm_turn_laws.specs.Delivered.{EndsDeliveries}
use Rattle.wsm_turn_laws.proofs.Ends.{ends, feeds}
use Rattle.wsm_turn_laws.proofs.laws.feeds_deliveries.Goals as goal

pub returns-clause-so_far : goal.returns-clause-so_far
returns-clause-so_far g c = λ q clocks lines ok leave. feeds c.passes_by_number.ensures.numbers c.passes_by_number.ensures.passing q clocks ok lines leave

pub returns-clause-at_end : goal.returns-clause-at_end
returns-clause-at_end g c = λ q clocks lines ok leave. ends c.passes_by_number.ensures.numbers c.passes_by_number.ensures.passing q clocks ok lines leave

pub returns-clause-once : goal.returns-clause-once
returns-clause-once g c = λ q clocks lines ok leave time_of timed.
    let e : EndsDeliveries q clocks lines = ends c.passes_by_number.ensures.numbers c.passes_by_number.ensures.passing q clocks ok lines leave in
    record { ends = e; alike = c.passes_once.ensures q ok.shape time_of (map numbered_delivery e.deliveries) (e.timed time_of timed) }
