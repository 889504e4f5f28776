use Rattle.std.proofs.Common.{◌≡◌, ◌+◌, ◌<◌, None, ap, length, set, suc, subst, take, ◌∙◌, arith}
use Rattle.wsm_list.specs.Stored.{AreFreed}
use Rattle.wsm_slots.proofs.Laid.{held_within}
use Rattle.wsm_list.proofs.Listed.{freed_next}
use Rattle.wsm_list.proofs.Stored.{in_row}
use Rattle.wsm_list.proofs.list.clear_first.Goals as goal

pub clear-requires : goal.clear-requires
clear-requires c =
    let os = c.args.slots.now.slots in
    let within = held_within os c.get.result (in_row os c.args.row.now.row c.loop-i.i c.get.result c.requires.there c.get.ensures.here) in
    omega (arith, within, c.loop-i.invariant.freed.count)

pub loop-i-preserved : goal.loop-i-preserved
loop-i-preserved c =
    let os = c.args.slots.now.slots in
    let ns = c.loop-i.slots.slots in
    let row = c.args.row.now.row in
    let i = c.loop-i.i in
    let k = c.get.result in
    let there = held_within os k (in_row os row i k c.requires.there c.get.ensures.here) in
    let within : k < length ns = omega (arith, there, c.loop-i.invariant.freed.count) in
    let new : c.clear.new.self.slots ≡ set ns k None = ap (λ s. s.slots) c.clear.ensures in
    let next : suc i ≡ i + 1 = omega arith in
    record {
      freed = subst (λ n. AreFreed (take n row) os c.clear.new.self.slots) next (rw new (freed_next os ns row i k c.get.ensures.here within c.loop-i.invariant.freed));
      widths = ap (λ s. s.widths) c.clear.ensures ∙ c.loop-i.invariant.widths;
    }
