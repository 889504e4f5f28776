use Rattle.std.proofs.Common.{◌≡◌, ◌+◌, ◌*◌, ◌<◌, ◌≤◌, ◌/◌, ◌%◌, get_or, length, length-set, sym, ◌∙◌, arith}
use Rattle.std.specs.VecDeque.{deque_items}
use Rattle.wsm_tiers.proofs.Filled.{filled_same, full_before, len_of}
use Rattle.wsm_tiers.proofs.Joined.{next_is, passed, put_front, put_in, put_over}
use Rattle.wsm_tiers.proofs.far.put.Goals as goal

pub loop-tier-preserved : goal.loop-tier-preserved
loop-tier-preserved g c =
    let xs = c.loop-tier.tiers.items in
    let k = c.loop-tier.tier in
    let d = c.index_mut-in-loop-tier.result.now in
    let here : get_or xs k d ≡ d = sym c.index_mut-in-loop-tier.ensures.value in
    let fits : k < length xs = omega (arith, c.loop-tier-test.true, c.requires.room, c.loop-tier.invariant.room, length-set c.args.tiers.now.items (c.args.at / 2048) c.squeeze-carried.new.tier) in
    record {
      filled = filled_same c.args.len xs c.loop-tier.invariant.filled k c.pass-carried.new.tier d fits (rw here c.pass-carried.ensures.len) (rw here c.pass-carried.ensures.capacity);
      items = rw (next_is k) (sym (passed deque_items xs k c.pass-carried.new.tier d c.loop-tier.carried c.pass-carried.result fits (rw here c.pass-carried.ensures.items))) ∙ c.loop-tier.invariant.items;
      room = length-set xs k c.pass-carried.new.tier ∙ c.loop-tier.invariant.room;
      capacity = c.loop-tier.invariant.capacity;
    }

pub returns-then-first-last-clause-items : goal.returns-then-first-last-clause-items
returns-then-first-last-clause-items g c =
    let xs = c.args.tiers.now.items in
    let at = c.args.at in
    let d = c.index_mut.result.now in
    let here : get_or xs (at / 2048) d ≡ d = sym c.index_mut.ensures.value in
    let fits : at / 2048 < length xs = omega (arith, c.requires.at, c.requires.room) in
    let is : 2048 * (at / 2048) + at % 2048 ≡ at = omega arith in
    let each = c.requires.filled.each (at / 2048) d fits in
    let within : at % 2048 ≤ length (deque_items (get_or xs (at / 2048) d)) = omega (arith, len_of (get_or xs (at / 2048) d), each, c.requires.at, c.if-first-last.true) in
    rw is at (put_in deque_items 2048 xs (at / 2048) (at % 2048) c.place.new.tier d c.args.item
    (full_before c.args.len xs c.requires.filled (at / 2048) fits (omega (arith, c.requires.at))) fits within (rw here c.place.ensures.items))

pub returns-after-loop-tier-clause-items : goal.returns-after-loop-tier-clause-items
returns-after-loop-tier-clause-items g c =
    let old = c.args.tiers.now.items in
    let at = c.args.at in
    let e = c.index_mut-else-first-last.result.now in
    let there : get_or old (at / 2048) e ≡ e = sym c.index_mut-else-first-last.ensures.value in
    let begins : at / 2048 < length old = omega (arith, c.requires.at, c.requires.room) in
    let is : 2048 * (at / 2048) + at % 2048 ≡ at = omega arith in
    let before : at / 2048 < c.args.len / 2048 = omega (arith, c.requires.at, c.if-first-last.false) in
    let each = c.requires.filled.each (at / 2048) e begins in
    let within : at % 2048 ≤ length (deque_items (get_or old (at / 2048) e)) = omega (arith, len_of (get_or old (at / 2048) e), each, before) in
    let over = rw (is, ← next_is (at / 2048)) at (put_over deque_items 2048 old (at / 2048) (at % 2048) c.squeeze-carried.new.tier e c.args.item c.squeeze-carried.result
    (full_before c.args.len old c.requires.filled (at / 2048) begins (omega (arith, c.requires.at))) begins within (rw there c.squeeze-carried.ensures.items)) in
    let xs = c.loop-tier.tiers.items in
    let last = c.args.len / 2048 in
    let d = c.index_mut-else-first-last-2.result.now in
    let here : get_or xs last d ≡ d = sym c.index_mut-else-first-last-2.ensures.value in
    let ends : c.loop-tier.tier ≡ last = omega (arith, c.loop-tier-test.false, c.loop-tier.auto.tier-end (omega (arith, before))) in
    let long = length-set old (at / 2048) c.squeeze-carried.new.tier in
    let fits : last < length xs = omega (arith, c.requires.room, c.loop-tier.invariant.room, long) in
    put_front deque_items xs last c.push_front_reserved.new.self d c.loop-tier.carried fits (rw here c.push_front_reserved.ensures.items)
    ∙ rw (← ends) c.loop-tier.invariant.items ∙ over
