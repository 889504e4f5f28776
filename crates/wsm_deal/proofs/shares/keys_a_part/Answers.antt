use Rattle.std.proofs.Common.{◌<◌, ◌≤◌, arith, ap}
use Rattle.std.specs.Int.{div_ceil}
use Rattle.wsm_record.specs.declared.limits.TheConstants.{MAX_NAMES}
use Rattle.wsm_deal.proofs.Blocks.{no_more_filled, none_longer, some_filled}
use Rattle.wsm_deal.proofs.shares.keys_a_part.Goals as goal

pub returns-clause-most : goal.returns-clause-most
returns-clause-most c =
    let keys = c.args.keys in
    let parts = c.args.parts in
    let some : 0 < keys = omega (arith, c.if-keys-eq0.false) in
    let least = some_filled keys MAX_NAMES some (omega arith) in
    let enough : div_ceil keys MAX_NAMES ≤ parts = omega (arith, c.if-parts-least.false, c.div_ceil-least.ensures) in
    let within = none_longer keys parts MAX_NAMES (omega (arith, least, enough)) (omega arith) enough in
    omega (arith, within, c.div_ceil-block.ensures)

pub returns-clause-filled : goal.returns-clause-filled
returns-clause-filled c =
    let keys = c.args.keys in
    let parts = c.args.parts in
    let some : 0 < keys = omega (arith, c.if-keys-eq0.false) in
    let least = some_filled keys MAX_NAMES some (omega arith) in
    let there : 0 < parts = omega (arith, least, c.if-parts-least.false, c.div_ceil-least.ensures) in
    let all = no_more_filled keys parts there (some_filled keys parts some there) in
    let same = ap (div_ceil keys) c.div_ceil-block.ensures in
    omega (arith, all, same, c.if-filled-parts.false, c.div_ceil-filled.ensures)
