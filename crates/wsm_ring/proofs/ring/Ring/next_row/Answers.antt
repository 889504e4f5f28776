use Rattle.std.proofs.Common.{SFits, w64, rules, arith, sym}
use Rattle.std.proofs.lemmas.Int.{to_z-of_z}
use Rattle.wsm_ring.proofs.Rows.{next_grid, next_slot, round}
use Rattle.wsm_ring.proofs.ring.Ring.next_row.Goals as goal

pub returns-then-slot-self-clause-row : goal.returns-then-slot-self-clause-row
returns-then-slot-self-clause-row c =
    let start : SFits w64 c.args.row.start = search rules in
    let period : SFits w64 c.args.self.period = search rules in
    let next = c.requires.next in
    simp to_z-of_z (record {
      grid = next_grid c.args.self c.args.row c.requires.ring c.requires.row;
      slot = sym (round c.args.self c.args.row c.requires.ring c.requires.row (omega (arith, c.if-slot-self.true)));
    })

pub returns-else-slot-self-clause-row : goal.returns-else-slot-self-clause-row
returns-else-slot-self-clause-row c =
    let start : SFits w64 c.args.row.start = search rules in
    let period : SFits w64 c.args.self.period = search rules in
    let next = c.requires.next in
    simp to_z-of_z (record {
      grid = next_grid c.args.self c.args.row c.requires.ring c.requires.row;
      slot = sym (next_slot c.args.self c.args.row c.requires.ring c.requires.row (λ same. c.if-slot-self.false same));
    })
