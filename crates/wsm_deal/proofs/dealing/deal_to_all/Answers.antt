use Rattle.std.proofs.Common.{◌≡◌, ◌<◌, Some, arith, false, length, subst}
use Rattle.std.specs.Prelude.{slice_get}
use Rattle.std.proofs.lemmas.Result.{err_from_is_err_and}
use Rattle.csv.specs.Records.{fields_of}
use Rattle.wsm_deal.specs.Parts.{one_more}
use Rattle.wsm_deal.specs.declared.part.Part.{Part}
use Rattle.wsm_deal.specs.declared.shares.Goal.TheVariants.{All}
use Rattle.wsm_deal.proofs.EachPart.{BeganAt, HasAt, first_all, first_broken, first_more, has_began, held, more_began, set_tells, set_works, tells_memory, tells_ok}
use Rattle.wsm_deal.proofs.Lists.{there}
use Rattle.wsm_deal.proofs.dealing.deal_to_all.Goals as goal

pub add_text-requires-clause-works : goal.add_text-requires-clause-works
add_text-requires-clause-works g c =
    let i = c.loop-part.part-index in
    let within : i < length c.loop-part.parts = omega (arith, c.loop-part-test.true, c.loop-part.auto.parts) in
    let at : slice_get c.loop-part.parts i ≡ Some c.part-item.result = there c.loop-part.parts i c.part-item.result within c.part-item.is in
    let works = c.loop-part.invariant.works i c.part-item.result at in
    subst (λ (p : Part g.row.D.Denot). g.D.Device.has_failed p.out ≡ false) c.part-item.is works

pub loop-part-preserved : goal.loop-part-preserved
loop-part-preserved g c =
    let taken = g.D.Device.taken in
    let i = c.loop-part.part-index in
    let within : i < length c.loop-part.parts = omega (arith, c.loop-part-test.true, c.loop-part.auto.parts) in
    let at : slice_get c.loop-part.parts i ≡ Some c.part-item.result = there c.loop-part.parts i c.part-item.result within c.part-item.is in
    record {
      has = λ olds hands each.
          let more = one_more All (fields_of c.args.row.now) hands in
          first_more (HasAt taken olds more) (HasAt taken olds hands) c.loop-part.parts i c.part-item.result c.add_text.new.self at (c.loop-part.invariant.has olds hands each)
          (λ has. c.in_ok-add_text.ensures.adds (olds i) (hands i) (search (has, subst (HasAt taken olds hands i) c.part-item.is has)));
      works = set_works g.D.Device.has_failed c.loop-part.parts i c.add_text.new.self c.loop-part.invariant.works (held _ _ c.in_ok-add_text.ensures.tells.works);
    }

pub returns-in_err-add_text : goal.returns-in_err-add_text
returns-in_err-add_text g c =
    let e = err_from_is_err_and c.from_residual-in_err-add_text.result c.from_residual-in_err-add_text.ensures.1 in
    let taken = g.D.Device.taken in
    let row = fields_of c.args.row.now in
    let i = c.loop-part.part-index in
    let within : i < length c.loop-part.parts = omega (arith, c.loop-part-test.true, c.loop-part.auto.parts) in
    let at : slice_get c.loop-part.parts i ≡ Some c.part-item.result = there c.loop-part.parts i c.part-item.result within c.part-item.is in
    rw (e.1, e.2) (record {
      dealt = λ olds hands each. tt;
      began = λ olds hands each.
          let more = one_more All row hands in
          let inv = c.loop-part.invariant.has olds hands each in
          first_broken (HasAt taken olds more) (HasAt taken olds hands) (BeganAt taken olds more) c.loop-part.parts i c.add_text.new.self inv
          (c.in_err-add_text.ensures.part (olds i) (hands i) (let has = (inv i c.part-item.result at).1 (omega arith) in search (has, subst (HasAt taken olds hands i) c.part-item.is has))) (has_began taken olds more) (more_began taken olds hands row);
      tells = set_tells g.D.Device.has_failed c.loop-part.parts i c.add_text.new.self _ within c.loop-part.invariant.works c.in_err-add_text.ensures.tells;
    })

pub returns : goal.returns
returns g c = record {
  dealt = λ olds hands each.
      let more = one_more All (fields_of c.args.row.now) hands in
      first_all (HasAt g.D.Device.taken olds more) (HasAt g.D.Device.taken olds hands) c.loop-part.parts c.loop-part.part-index (omega (arith, c.loop-part-test.false, c.loop-part.auto.parts)) (c.loop-part.invariant.has olds hands each);
  began = λ olds hands each. tt;
  tells = tells_ok _ c.loop-part.invariant.works;
}

pub returns-in_err-add_row : goal.returns-in_err-add_row
returns-in_err-add_row g c =
    let e = err_from_is_err_and c.from_residual.result c.from_residual.ensures.1 in
    rw (e.1, e.2) (record {
      dealt = λ olds hands each. tt;
      began = λ olds hands each k p at. more_began g.D.Device.taken olds hands (fields_of c.args.row.now) k p (each k p at);
      tells = tells_memory c.requires.works;
    })
