use Rattle.std.proofs.Common.{SFits, w64, to_z-of_z}
use Rattle.wsm_firing.proofs.retracting.retract_joined.Goals as goal

pub returns-then-retracts : goal.returns-then-retracts
returns-then-retracts c = record {
  room = c.retract_linked.ensures.room;
  rows = λ plan mark values.
      let time : SFits w64 c.args.time = c.ranges.time in
      simp to_z-of_z at c.retract_linked.ensures.rows plan mark values;
  few = λ plan lateness mark most before after.
      let time : SFits w64 c.args.time = c.ranges.time in
      simp to_z-of_z at c.retract_linked.ensures.few plan lateness mark most before after;
}
