use Rattle.std.proofs.Common.{SFits, w64, rules, arith, sym}
use Rattle.std.proofs.lemmas.Int.{to_z-of_z}
use Rattle.wsm_ring.proofs.Rows.{previous_grid, previous_last, previous_slot}
use Rattle.wsm_ring.proofs.ring.Ring.previous_row.Goals as goal

pub returns-then-row-eq0-clause-row : goal.returns-then-row-eq0-clause-row
returns-then-row-eq0-clause-row c =
    let start : SFits w64 c.args.row.start = search rules in
    let period : SFits w64 c.args.self.period = search rules in
    let previous = c.requires.previous in
    simp to_z-of_z (record {
      grid = previous_grid c.args.self c.args.row.start c.requires.ring.period_low c.requires.row.grid;
      slot = sym (previous_last c.args.self c.args.row c.requires.ring c.requires.row (omega (arith, c.if-row-eq0.true)));
    })

pub overflow_sub-slot-else-row-eq0 : goal.overflow_sub-slot-else-row-eq0
overflow_sub-slot-else-row-eq0 c =
    let whole = previous_slot c.args.self c.args.row c.requires.ring c.requires.row (λ same. c.if-row-eq0.false same) in
    omega (arith, whole)

pub returns-else-row-eq0-clause-row : goal.returns-else-row-eq0-clause-row
returns-else-row-eq0-clause-row c =
    let start : SFits w64 c.args.row.start = search rules in
    let period : SFits w64 c.args.self.period = search rules in
    let previous = c.requires.previous in
    let whole = previous_slot c.args.self c.args.row c.requires.ring c.requires.row (λ same. c.if-row-eq0.false same) in
    simp to_z-of_z (record {
      grid = previous_grid c.args.self c.args.row.start c.requires.ring.period_low c.requires.row.grid;
      slot = omega (arith, whole);
    })
