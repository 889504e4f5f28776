use Rattle.std.proofs.Common.{◌≡◌, ◌<◌, ◌≤◌, ℕ, length, set, SFits, w64, to_z, of_z, ap, arith, sym, ◌∙◌}
use Rattle.std.proofs.lemmas.Int.{to_z-of_z}
use Rattle.std.proofs.lemmas.List.{length-set}
use Rattle.wsm_ring.specs.Ring.{held, kept_slot}
use Rattle.wsm_slots.specs.Slots.{slot_at}
use Rattle.wsm_ring.proofs.Placed.{held_length}
use Rattle.wsm_ring.proofs.Clears.{inside_more, outside_more}
use Rattle.wsm_ring.proofs.clearing.clear_row.Goals as goal

pub overflow_add-cleared : goal.overflow_add-cleared
overflow_add-cleared c =
    omega (arith, c.requires.few, c.loop-i.invariant.cleared.len, c.clear_slot-cleared.ensures.len, held_length c.args.slots.now.slots)

pub loop-i-preserved : goal.loop-i-preserved
loop-i-preserved c =
    let fits : SFits w64 c.args.limit = c.ranges.limit in
    let z : to_z w64 (of_z w64 c.args.limit) ≡ c.args.limit = to_z-of_z w64 c.args.limit fits in
    let os = c.loop-i.slots.slots in
    let old = c.args.slots.now.slots in
    let whole : c.clear_slot-cleared.new.slots ≡ record c.loop-i.slots { slots = set os c.loop-i.i (kept_slot c.args.limit (slot_at os c.loop-i.i)) } = rw z at c.clear_slot-cleared.ensures.slots in
    let slots : c.clear_slot-cleared.new.slots.slots ≡ set os c.loop-i.i (kept_slot c.args.limit (slot_at os c.loop-i.i)) = ap (λ s. s.slots) whole in
    let within : c.loop-i.i < length os = omega (arith, c.loop-i.invariant.cleared.size, c.requires.within, c.loop-i-test.true) in
    let inside : (j : ℕ) → c.args.row ≤ j → j < c.loop-i.i → slot_at os j ≡ kept_slot c.args.limit (slot_at old j) = rw z at c.loop-i.invariant.inside in
    rw (z, slots) (record {
      cleared = record {
        widths = ap (λ s. s.widths) whole ∙ c.loop-i.invariant.cleared.widths;
        size = length-set os c.loop-i.i (kept_slot c.args.limit (slot_at os c.loop-i.i)) ∙ c.loop-i.invariant.cleared.size;
        len = omega (arith, c.loop-i.invariant.cleared.len, ap (λ l. length (held l)) (sym slots), c.clear_slot-cleared.ensures.len);
      };
      inside = inside_more old os c.args.limit c.args.row c.loop-i.i within inside c.loop-i.invariant.outside;
      outside = outside_more old os c.args.limit c.args.row c.loop-i.i (omega (arith, c.loop-i.auto.i)) c.loop-i.invariant.outside;
    })
