use Rattle.std.proofs.Common.{◌≡◌, ◌<◌, ap, arith, length, rules, subst, to_z, of_z, w64}
use Rattle.std.proofs.lemmas.Int.{to_z-of_z}
use Rattle.wsm_doubles.specs.Entries.{Tabled}
use Rattle.wsm_doubles.specs.Memory.{Memory, live}
use Rattle.wsm_doubles.proofs.Left.{all_more, all_stay}
use Rattle.wsm_doubles.proofs.table.Table.is_live.Goals as goal

pub loop-number-preserved : goal.loop-number-preserved
loop-number-preserved c =
    let moment = c.args.moment in
    let below : c.loop-number.number < length c.self.inside.entries = omega (arith, c.loop-number-test.true, c.len-number-end.ensures) in
    let is : to_z w64 (of_z w64 c.time.result) ≡ c.time.result = to_z-of_z w64 c.time.result (search rules) in
    all_more moment.clock moment.shape moment.mark c.self.inside.entries c.loop-number.number below 0 c.time.result _ c.is_late.result c.time.ensures is c.is_late.ensures
    c.if-is_late.false c.loop-number.invariant

pub returns : goal.returns
returns c = λ _.
    let moment = c.args.moment in
    let all : c.loop-number.number ≡ length c.self.inside.entries = omega (arith, c.loop-number-test.false, c.loop-number.auto.number-end, c.len-number-end.ensures) in
    subst (λ (m : Memory). live moment.clock moment.shape moment.mark m ≡ m) (ap (λ (t : Tabled). t.entries) c.self.view_is)
    (all_stay moment.clock moment.shape moment.mark c.self.inside.entries c.loop-number.number all c.loop-number.invariant)
