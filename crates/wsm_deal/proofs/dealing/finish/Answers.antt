use Rattle.std.proofs.Common.{◌≡◌, ◌<◌, Some, arith, false, length, subst}
use Rattle.std.specs.Prelude.{slice_get}
use Rattle.std.proofs.lemmas.Option.{slice_get_within}
use Rattle.std.proofs.lemmas.Result.{err_from_is_err_and}
use Rattle.wsm_deal.specs.declared.part.Part.{Part}
use Rattle.wsm_deal.proofs.EachPart.{BeganAt, HasAt, TookAt, first_all, first_broken, first_more, has_began, set_flushed, set_works, some_set, took_began}
use Rattle.wsm_deal.proofs.Lists.{there}
use Rattle.wsm_deal.proofs.dealing.finish.Goals as goal

pub finish-requires : goal.finish-requires
finish-requires g c =
    let i = c.loop-part.part-index in
    let within : i < length c.loop-part.parts = omega (arith, c.loop-part-test.true, c.loop-part.auto.parts) in
    let at : slice_get c.loop-part.parts i ≡ Some c.part-item.result = there c.loop-part.parts i c.part-item.result within c.part-item.is in
    let works = c.loop-part.invariant.works i c.part-item.result at in
    record { works = subst (λ (p : Part g.row.D.Denot). g.D.Device.has_failed p.out ≡ false) c.part-item.is works }

pub loop-part-preserved : goal.loop-part-preserved
loop-part-preserved g c =
    let taken = g.D.Device.taken in
    let i = c.loop-part.part-index in
    let within : i < length c.loop-part.parts = omega (arith, c.loop-part-test.true, c.loop-part.auto.parts) in
    let at : slice_get c.loop-part.parts i ≡ Some c.part-item.result = there c.loop-part.parts i c.part-item.result within c.part-item.is in
    record {
      took = λ olds hands each.
          first_more (TookAt taken olds hands) (HasAt taken olds hands) c.loop-part.parts i c.part-item.result c.finish.new.self at (c.loop-part.invariant.took olds hands each)
          (λ has. c.in_ok-finish.ensures.gives.gives (olds i) (hands i) (search (has, subst (HasAt taken olds hands i) c.part-item.is has)));
      flushed = set_flushed g.D.Device.is_flushed c.loop-part.parts i c.finish.new.self c.loop-part.invariant.flushed c.in_ok-finish.ensures.flushed;
      works = set_works g.D.Device.has_failed c.loop-part.parts i c.finish.new.self c.loop-part.invariant.works c.in_ok-finish.ensures.gives.works;
    }

pub returns-clause-flushed : goal.returns-clause-flushed
returns-clause-flushed g c = λ k p at. c.loop-part.invariant.flushed k p at (let within = slice_get_within c.loop-part.parts k p at in omega (arith, within, c.loop-part-test.false, c.loop-part.auto.parts))

pub returns-in_err-finish-clause-gives : goal.returns-in_err-finish-clause-gives
returns-in_err-finish-clause-gives g c =
    let e = err_from_is_err_and c.from_residual.result c.from_residual.ensures.1 in
    let taken = g.D.Device.taken in
    let i = c.loop-part.part-index in
    let within : i < length c.loop-part.parts = omega (arith, c.loop-part-test.true, c.loop-part.auto.parts) in
    let at : slice_get c.loop-part.parts i ≡ Some c.part-item.result = there c.loop-part.parts i c.part-item.result within c.part-item.is in
    rw (e.1, e.2) (record {
      gives = λ olds hands each. tt;
      began = λ olds hands each.
          let inv = c.loop-part.invariant.took olds hands each in
          first_broken (TookAt taken olds hands) (HasAt taken olds hands) (BeganAt taken olds hands) c.loop-part.parts i c.finish.new.self inv
          (c.in_err-finish.ensures.gives.part (olds i) (hands i) (let has = (inv i c.part-item.result at).1 (omega arith) in search (has, subst (HasAt taken olds hands i) c.part-item.is has))) (took_began taken olds hands) (has_began taken olds hands);
      works = tt;
      fails = some_set g.D.Device.has_failed c.loop-part.parts i c.finish.new.self within c.in_err-finish.ensures.gives.fails;
    })

pub returns-clause-gives : goal.returns-clause-gives
returns-clause-gives g c = record {
  gives = λ olds hands each.
      first_all (TookAt g.D.Device.taken olds hands) (HasAt g.D.Device.taken olds hands) c.loop-part.parts c.loop-part.part-index (omega (arith, c.loop-part-test.false, c.loop-part.auto.parts)) (c.loop-part.invariant.took olds hands each);
  began = λ olds hands each. tt;
  works = c.loop-part.invariant.works;
  fails = tt;
}
