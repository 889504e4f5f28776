use Rattle.std.proofs.Common.{◌≡◌, ◌+◌, ◌*◌, ◌<◌, ◌/◌, ◌%◌, get_or, length, refl, sym, arith}
use Rattle.std.specs.VecDeque.{deque_items, deque_with_item}
use Rattle.wsm_tiers.proofs.Filled.{count, full_before, len_of}
use Rattle.wsm_tiers.proofs.Joined.{put_other}
use Rattle.wsm_tiers.proofs.far.Far.set.Goals as goal

pub index_mut-tier-requires : goal.index_mut-tier-requires
index_mut-tier-requires g c =
    let less = rw (← c.self.view_is) at c.requires in
    let long = count c.self.inside.tiers.items c.self.inside.len c.self.invariant.0 in
    omega (arith, less, long, c.self.invariant.0.within, c.self.inside.tiers.ok)

pub index_mut-requires : goal.index_mut-requires
index_mut-requires g c =
    let xs = c.self.inside.tiers.items in
    let at = c.args.at in
    let d = c.index_mut-tier.result.now in
    let here : get_or xs (at / 2048) d ≡ d = sym c.index_mut-tier.ensures.value in
    let less = rw (← c.self.view_is) at c.requires in
    let long = count xs c.self.inside.len c.self.invariant.0 in
    let each = rw here at (c.self.invariant.0.each (at / 2048) d (omega (arith, less, long, c.self.invariant.0.within))) in
    omega (arith, less, long, each)

pub returns-clause-items : goal.returns-clause-items
returns-clause-items g c =
    let xs = c.self.inside.tiers.items in
    let at = c.args.at in
    let d = c.index_mut-tier.result.now in
    let here : get_or xs (at / 2048) d ≡ d = sym c.index_mut-tier.ensures.value in
    let less = rw (← c.self.view_is) at c.requires in
    let long = count xs c.self.inside.len c.self.invariant.0 in
    let begins : at / 2048 < length xs = omega (arith, less, long, c.self.invariant.0.within) in
    let is : 2048 * (at / 2048) + at % 2048 ≡ at = omega arith in
    let each = c.self.invariant.0.each (at / 2048) d begins in
    let within : at % 2048 < length (deque_items (get_or xs (at / 2048) d)) = omega (arith, len_of (get_or xs (at / 2048) d), each, less, long) in
    rw (← c.self.view_is) (rw is at (put_other deque_items 2048 xs (at / 2048) (at % 2048) (deque_with_item d (at % 2048) c.args.item) d c.args.item
    (full_before c.self.inside.len xs c.self.invariant.0 (at / 2048) begins (omega (arith, less, long))) begins within (rw here refl)))
