use Rattle.std.proofs.Common.{◌≡◌, ◌∙◌, ◌-◌, ap, arith, get_or, length, refl, subst, sym}
use Rattle.wsm_doubles.specs.Chains.{bucket_of}
use Rattle.wsm_doubles.specs.Entries.{Tabled, counts_as, no_entry}
use Rattle.wsm_doubles.specs.Memory.{knows, live}
use Rattle.wsm_doubles.proofs.Walk.{Walks, as_many, begins, found, missed, steps}
use Rattle.wsm_doubles.proofs.table.Table.knows.Goals as goal

pub loop-at-init : goal.loop-at-init
loop-at-init c =
    let test = counts_as c.args.moment.clock c.args.moment.shape c.args.moment.mark c.args.identifier.now in
    let bucket = bucket_of c.self.inside.chains.buckets c.args.hash in
    subst (Walks c.self.inside.chains c.self.inside.entries test bucket) (sym c.last-at.ensures)
    (begins c.self.inside.chains c.self.inside.entries c.self.invariant.0 test bucket (length c.self.inside.chains.hashes) refl)

pub is_at-requires-clause-within : goal.is_at-requires-clause-within
is_at-requires-clause-within c = omega (arith, c.loop-at.invariant.within, c.loop-at-test.true, ap (λ (t : Tabled). length t.entries) c.self.view_is)

pub returns-then-is_at : goal.returns-then-is_at
returns-then-is_at c =
    found c.args.moment.clock c.args.moment.shape c.args.moment.mark c.args.identifier.now c.args.self.now.entries c.is_at.result (c.loop-at.at - 1)
    (omega (arith, c.loop-at.invariant.within, c.loop-at-test.true, ap (λ (t : Tabled). length t.entries) c.self.view_is)) c.is_at.ensures c.if-is_at.true

pub before-at-requires : goal.before-at-requires
before-at-requires c = omega (arith, c.loop-at.invariant.within, c.loop-at-test.true, as_many c.self.inside.chains c.self.inside.entries c.self.invariant.0)

pub loop-at-preserved : goal.loop-at-preserved
loop-at-preserved c =
    let test = counts_as c.args.moment.clock c.args.moment.shape c.args.moment.mark c.args.identifier.now in
    steps c.self.inside.chains c.self.inside.entries c.self.invariant.0 test (bucket_of c.self.inside.chains.buckets c.args.hash) c.loop-at.at c.before-at.result c.loop-at-test.true c.loop-at.invariant
    (ap (λ (t : Tabled). test (get_or t.entries (c.loop-at.at - 1) no_entry)) c.self.view_is ∙ sym c.is_at.ensures ∙ c.if-is_at.false) c.before-at.ensures.value

pub returns : goal.returns
returns c =
    let moment = c.args.moment in
    let end : c.loop-at.at ≡ 0 = omega (arith, c.loop-at-test.false) in
    missed moment.clock moment.shape moment.mark c.args.identifier.now c.self.inside.entries c.self.inside.chains c.args.hash c.loop-at.at c.self.invariant.0 c.requires end c.loop-at.invariant
    ∙ ap (λ (t : Tabled). knows c.args.identifier.now (live moment.clock moment.shape moment.mark t.entries)) c.self.view_is
