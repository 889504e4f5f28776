use Rattle.std.proofs.Common.{◌≡◌, ◌<◌, Some, arith, false, length, subst}
use Rattle.std.specs.Prelude.{slice_get}
use Rattle.std.proofs.lemmas.Result.{err_from_is_err_and}
use Rattle.wsm_deal.specs.declared.part.Part.{Part}
use Rattle.wsm_deal.proofs.EachPart.{BeganAt, HasAt, each_set, has_began, set_works, some_set}
use Rattle.wsm_deal.proofs.Lists.{there}
use Rattle.wsm_deal.proofs.dealing.hand_on.Goals as goal

pub hand_on-requires : goal.hand_on-requires
hand_on-requires g c =
    let i = c.loop-part.part-index in
    let within : i < length c.loop-part.parts = omega (arith, c.loop-part-test.true, c.loop-part.auto.parts) in
    let at : slice_get c.loop-part.parts i ≡ Some c.part-item.result = there c.loop-part.parts i c.part-item.result within c.part-item.is in
    let works = c.loop-part.invariant.works i c.part-item.result at in
    record { works = subst (λ (p : Part g.row.D.Denot). g.D.Device.has_failed p.out ≡ false) c.part-item.is works }

pub loop-part-preserved : goal.loop-part-preserved
loop-part-preserved g c =
    let taken = g.D.Device.taken in
    let i = c.loop-part.part-index in
    let within : i < length c.loop-part.parts = omega (arith, c.loop-part-test.true, c.loop-part.auto.parts) in
    let at : slice_get c.loop-part.parts i ≡ Some c.part-item.result = there c.loop-part.parts i c.part-item.result within c.part-item.is in
    record {
      has = λ olds hands each.
          let inv = c.loop-part.invariant.has olds hands each in
          each_set (HasAt taken olds hands) (HasAt taken olds hands) c.loop-part.parts i c.hand_on.new.self inv
          (c.in_ok-hand_on.ensures.gives.gives (olds i) (hands i) (search (inv i c.part-item.result at, subst (HasAt taken olds hands i) c.part-item.is (inv i c.part-item.result at)))) (λ k p other h. h);
      works = set_works g.D.Device.has_failed c.loop-part.parts i c.hand_on.new.self c.loop-part.invariant.works c.in_ok-hand_on.ensures.gives.works;
    }

pub returns-in_err-hand_on : goal.returns-in_err-hand_on
returns-in_err-hand_on g c =
    let e = err_from_is_err_and c.from_residual.result c.from_residual.ensures.1 in
    let taken = g.D.Device.taken in
    let i = c.loop-part.part-index in
    let within : i < length c.loop-part.parts = omega (arith, c.loop-part-test.true, c.loop-part.auto.parts) in
    let at : slice_get c.loop-part.parts i ≡ Some c.part-item.result = there c.loop-part.parts i c.part-item.result within c.part-item.is in
    rw (e.1, e.2) (record {
      gives = λ olds hands each. tt;
      began = λ olds hands each.
          let inv = c.loop-part.invariant.has olds hands each in
          each_set (HasAt taken olds hands) (BeganAt taken olds hands) c.loop-part.parts i c.hand_on.new.self inv
          (c.in_err-hand_on.ensures.gives.part (olds i) (hands i) (search (inv i c.part-item.result at, subst (HasAt taken olds hands i) c.part-item.is (inv i c.part-item.result at)))) (λ k p other h. has_began taken olds hands k p h);
      works = tt;
      fails = some_set g.D.Device.has_failed c.loop-part.parts i c.hand_on.new.self within c.in_err-hand_on.ensures.gives.fails;
    })

pub returns : goal.returns
returns g c = record {
  gives = c.loop-part.invariant.has;
  began = λ olds hands each. tt;
  works = c.loop-part.invariant.works;
  fails = tt;
}
