use Rattle.std.proofs.Common.{◌≡◌, ◌+◌, ◌<◌, length, true, false, SFits, w64, arith, refl, sym, ◌∙◌}
use Rattle.std.proofs.lemmas.Int.{to_z-of_z}
use Rattle.wsm_ring.specs.Ring.{NoneInRow, starts_at}
use Rattle.wsm_slots.specs.Slots.{slot_at}
use Rattle.wsm_ring.proofs.Scan.{row_found, row_step, some_starts}
use Rattle.wsm_ring.proofs.walking.first_in_row.Goals as goal

pub returns-then-starts_at-clause-first : goal.returns-then-starts_at-clause-first
returns-then-starts_at-clause-first c =
    let fits : SFits w64 c.args.start = c.ranges.start in
    let within : c.args.row + c.loop-key.key < length c.args.slots.now.slots = omega (arith, c.requires.within, c.loop-key-test.true) in
    let starts : starts_at c.args.start (slot_at c.args.slots.now.slots (c.args.row + c.loop-key.key)) ≡ true = sym (simp to_z-of_z at c.starts_at.ensures) ∙ c.if-starts_at.true in
    let none : NoneInRow c.args.slots.now.slots c.args.row c.args.start c.args.key c.loop-key.key = simp to_z-of_z at c.loop-key.invariant in
    row_found c.args.slots.now.slots c.args.row c.args.start c.args.key c.loop-key.key c.args.keys (slot_at c.args.slots.now.slots (c.args.row + c.loop-key.key))
    c.loop-key.auto.key c.loop-key-test.true refl starts none

pub returns-then-starts_at-clause-there : goal.returns-then-starts_at-clause-there
returns-then-starts_at-clause-there c =
    let fits : SFits w64 c.args.start = c.ranges.start in
    let within : c.args.row + c.loop-key.key < length c.args.slots.now.slots = omega (arith, c.requires.within, c.loop-key-test.true) in
    let starts : starts_at c.args.start (slot_at c.args.slots.now.slots (c.args.row + c.loop-key.key)) ≡ true = sym (simp to_z-of_z at c.starts_at.ensures) ∙ c.if-starts_at.true in
    some_starts c.args.start (slot_at c.args.slots.now.slots (c.args.row + c.loop-key.key)) starts

pub loop-key-preserved : goal.loop-key-preserved
loop-key-preserved c =
    let fits : SFits w64 c.args.start = c.ranges.start in
    let within : c.args.row + c.loop-key.key < length c.args.slots.now.slots = omega (arith, c.requires.within, c.loop-key-test.true) in
    let starts : starts_at c.args.start (slot_at c.args.slots.now.slots (c.args.row + c.loop-key.key)) ≡ false = sym (simp to_z-of_z at c.starts_at.ensures) ∙ c.if-starts_at.false in
    let none : NoneInRow c.args.slots.now.slots c.args.row c.args.start c.args.key c.loop-key.key = simp to_z-of_z at c.loop-key.invariant in
    let next : NoneInRow c.args.slots.now.slots c.args.row c.args.start c.args.key (c.loop-key.key + 1) = row_step c.args.slots.now.slots c.args.row c.args.start c.args.key c.loop-key.key (slot_at c.args.slots.now.slots (c.args.row + c.loop-key.key)) refl starts none in
    simp to_z-of_z next
