use Rattle.std.proofs.Common.{◌≡◌, ◌<◌, ap, false, length, nat_eq, rules}
use Rattle.wsm_doubles.specs.Entries.{Tabled}
use Rattle.wsm_doubles.proofs.Walk.{hash_differs}
use Rattle.wsm_doubles.proofs.table.Table.is_at.Goals as goal

pub returns-else-hash : goal.returns-else-hash
returns-else-hash c =
    let moment = c.args.moment in
    let same = ap (λ (t : Tabled). t.entries) c.self.view_is in
    let below : c.args.number < length c.self.inside.entries = search rules in
    let off : nat_eq c.hash.result c.args.hash ≡ false = search rules in
    hash_differs moment.clock moment.shape moment.mark c.args.identifier.now c.args.self.now.entries c.self.inside.entries same c.args.number
    c.self.inside.chains.hashes c.args.hash c.hash.result _ c.self.invariant.0 below c.hash.ensures c.requires.hash c.if-hash.false off
