use Rattle.std.proofs.Common.{◌≡◌, ◌+◌, ◌*◌, ◌-◌, ◌<◌, ◌/◌, ◌%◌, get_or, length, length-set, set, sym, ◌∙◌, arith}
use Rattle.std.proofs.lemmas.Option.{slice_get_read}
use Rattle.std.specs.VecDeque.{deque_items}
use Rattle.wsm_tiers.specs.Tiers.{joined}
use Rattle.wsm_tiers.proofs.Filled.{count, full_before, lacks_last, lacks_next, len_of}
use Rattle.wsm_tiers.proofs.Joined.{inside, next_is, put_back, take_out, taken_front}
use Rattle.wsm_tiers.proofs.far.take.Goals as goal

pub loop-tier-preserved : goal.loop-tier-preserved
loop-tier-preserved g c =
    let xs = c.loop-tier.tiers.items in
    let k = c.loop-tier.tier in
    let z = c.pop_front.new.self in
    let y = c.push_back_reserved.new.self in
    let d = c.index_mut-in-loop-tier.result.now in
    let e = c.index_mut-in-loop-tier-2.result.now in
    let next : get_or xs (k + 1) d ≡ d = sym c.index_mut-in-loop-tier.ensures.value in
    let here : get_or (set xs (k + 1) z) k e ≡ e = sym c.index_mut-in-loop-tier-2.ensures.value in
    let some : 2048 * (k + 1) < c.args.len = omega (arith, c.loop-tier-test.true) in
    let fits : k + 1 < length xs = omega (arith, some, c.loop-tier.invariant.lacks.within) in
    let long = length-set xs (k + 1) z in
    let less = rw c.unwrap-next.ensures at c.pop_front.ensures.len in
    let first = rw c.unwrap-next.ensures at c.pop_front.ensures.items in
    record {
      lacks = lacks_next c.args.len k xs z y d e c.loop-tier.invariant.lacks fits some (rw next less) (rw next c.pop_front.ensures.capacity) (rw here c.push_back_reserved.ensures.len) (rw here c.push_back_reserved.ensures.capacity);
      items =
          put_back deque_items (set xs (k + 1) z) k y e c.unwrap-next.result (omega (arith, fits, long)) (rw here c.push_back_reserved.ensures.items)
          ∙ rw (← next_is k) (taken_front deque_items xs (k + 1) z d c.unwrap-next.result fits (rw next first)) ∙ c.loop-tier.invariant.items;
      room = length-set (set xs (k + 1) z) k y ∙ long ∙ c.loop-tier.invariant.room;
      capacity = c.loop-tier.invariant.capacity;
    }

pub returns-clause-item : goal.returns-clause-item
returns-clause-item g c =
    let old = c.args.tiers.now.items in
    let at = c.args.at in
    let d = c.index_mut.result.now in
    let item = c.unwrap-item.result in
    let here : get_or old (at / 2048) d ≡ d = sym c.index_mut.ensures.value in
    let begins : at / 2048 < length old = omega (arith, c.requires.at, c.requires.filled.within) in
    let is : 2048 * (at / 2048) + at % 2048 ≡ at = omega arith in
    let each = c.requires.filled.each (at / 2048) d begins in
    let within : at % 2048 < length (deque_items (get_or old (at / 2048) d)) = omega (arith, len_of (get_or old (at / 2048) d), each, c.requires.at) in
    let value = rw c.unwrap-item.ensures at c.remove.ensures.value in
    let there = rw (is, here) at (inside deque_items 2048 old (at / 2048) (at % 2048) d item (full_before c.args.len old c.requires.filled (at / 2048) begins (omega (arith, c.requires.at))) begins within) in
    slice_get_read (joined old) c.args.len at item (sym (count old c.args.len c.requires.filled)) c.requires.at (value ∙ sym there)

pub returns-clause-items : goal.returns-clause-items
returns-clause-items g c =
    let old = c.args.tiers.now.items in
    let at = c.args.at in
    let d = c.index_mut.result.now in
    let here : get_or old (at / 2048) d ≡ d = sym c.index_mut.ensures.value in
    let begins : at / 2048 < length old = omega (arith, c.requires.at, c.requires.filled.within) in
    let is : 2048 * (at / 2048) + at % 2048 ≡ at = omega arith in
    let each = c.requires.filled.each (at / 2048) d begins in
    let within : at % 2048 < length (deque_items (get_or old (at / 2048) d)) = omega (arith, len_of (get_or old (at / 2048) d), each, c.requires.at) in
    c.loop-tier.invariant.items ∙ rw is at (take_out deque_items 2048 old (at / 2048) (at % 2048) c.remove.new.self d
    (full_before c.args.len old c.requires.filled (at / 2048) begins (omega (arith, c.requires.at))) begins within (rw here (rw c.unwrap-item.ensures at c.remove.ensures.items)))

pub returns-clause-filled : goal.returns-clause-filled
returns-clause-filled g c = λ n is.
    let ends : c.loop-tier.tier ≡ (c.args.len - 1) / 2048 = omega (arith, c.loop-tier-test.false, c.loop-tier.auto.tier-end (omega (arith, c.requires.at))) in
    lacks_last n c.loop-tier.tier c.loop-tier.tiers.items (rw is c.loop-tier.invariant.lacks) (omega (arith, ends, is)) (omega (arith, ends, is))
