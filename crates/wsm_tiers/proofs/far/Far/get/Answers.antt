use Rattle.std.proofs.Common.{◌≡◌, ◌+◌, ◌*◌, ◌<◌, ◌/◌, ◌%◌, get_or, length, sym, ◌∙◌, arith}
use Rattle.std.proofs.lemmas.Option.{slice_get_read}
use Rattle.std.specs.VecDeque.{deque_items}
use Rattle.wsm_tiers.specs.Tiers.{joined}
use Rattle.wsm_tiers.proofs.Filled.{count, full_before, len_of}
use Rattle.wsm_tiers.proofs.Joined.{inside}
use Rattle.wsm_tiers.proofs.far.Far.get.Goals as goal

pub index-requires : goal.index-requires
index-requires g c =
    let less = rw (← c.self.view_is) at c.requires in
    let long = count c.self.inside.tiers.items c.self.inside.len c.self.invariant.0 in
    omega (arith, less, long, c.self.invariant.0.within, c.self.inside.tiers.ok)

pub index-requires-2 : goal.index-requires-2
index-requires-2 g c =
    let xs = c.self.inside.tiers.items in
    let at = c.args.at in
    let d = c.index.result.now in
    let here : get_or xs (at / 2048) d ≡ d = sym c.index.ensures in
    let less = rw (← c.self.view_is) at c.requires in
    let long = count xs c.self.inside.len c.self.invariant.0 in
    let each = rw here at (c.self.invariant.0.each (at / 2048) d (omega (arith, less, long, c.self.invariant.0.within))) in
    omega (arith, less, long, each)

pub returns : goal.returns
returns g c =
    let xs = c.self.inside.tiers.items in
    let at = c.args.at in
    let d = c.index.result.now in
    let here : get_or xs (at / 2048) d ≡ d = sym c.index.ensures in
    let less = rw (← c.self.view_is) at c.requires in
    let long = count xs c.self.inside.len c.self.invariant.0 in
    let begins : at / 2048 < length xs = omega (arith, less, long, c.self.invariant.0.within) in
    let is : 2048 * (at / 2048) + at % 2048 ≡ at = omega arith in
    let each = c.self.invariant.0.each (at / 2048) d begins in
    let within : at % 2048 < length (deque_items (get_or xs (at / 2048) d)) = omega (arith, len_of (get_or xs (at / 2048) d), each, less, long) in
    let there = rw (is, here) at (inside deque_items 2048 xs (at / 2048) (at % 2048) d c.index-2.result.now (full_before c.self.inside.len xs c.self.invariant.0 (at / 2048) begins (omega (arith, less, long))) begins within) in
    rw (← c.self.view_is) (slice_get_read (joined xs) c.self.inside.len at c.index-2.result.now (sym long) (omega (arith, less, long)) (c.index-2.ensures ∙ sym there))
