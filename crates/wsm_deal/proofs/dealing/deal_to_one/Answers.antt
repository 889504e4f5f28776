use Rattle.std.proofs.Common.{◌≢◌, arith, get_or}
use Rattle.std.proofs.lemmas.Option.{slice_get-get_or, slice_get_within}
use Rattle.std.proofs.lemmas.Result.{err_from_is_err_and}
use Rattle.csv.specs.Records.{fields_of}
use Rattle.wsm_deal.proofs.DealtRows.{ended_well, to_one}
use Rattle.wsm_deal.proofs.EachPart.{same_for, tells_ok}
use Rattle.wsm_deal.proofs.dealing.deal_to_one.Goals as goal

pub add-requires : goal.add-requires
add-requires g c =
    let item = c.index-parts-part.result in
    let there = slice_get-get_or c.args.parts.now c.args.part item c.if-part-parts.true in
    record { works = c.requires.works c.args.part (get_or c.args.parts.now c.args.part item) there }

pub returns-in_ok-add : goal.returns-in_ok-add
returns-in_ok-add g c =
    let item = c.index-parts-part.result in
    let there = slice_get-get_or c.args.parts.now c.args.part item c.if-part-parts.true in
    ended_well _ (to_one g.D.Device.taken g.D.Device.has_failed (fields_of c.args.row.now) c.args.parts.now c.args.part (get_or c.args.parts.now c.args.part item) c.add.new.self _ c.if-part-parts.true there c.requires.works c.in_ok-add.ensures)

pub returns-in_err-add : goal.returns-in_err-add
returns-in_err-add g c =
    let e = err_from_is_err_and c.from_residual.result c.from_residual.ensures.1 in
    let item = c.index-parts-part.result in
    let there = slice_get-get_or c.args.parts.now c.args.part item c.if-part-parts.true in
    rw (e.1, e.2) (to_one g.D.Device.taken g.D.Device.has_failed (fields_of c.args.row.now) c.args.parts.now c.args.part (get_or c.args.parts.now c.args.part item) c.add.new.self _ c.if-part-parts.true there c.requires.works c.in_err-add.ensures)

pub returns-else-part-parts : goal.returns-else-part-parts
returns-else-part-parts g c = record {
  dealt = λ olds hands each k p at.
      let within = slice_get_within c.args.parts.now k p at in
      let other : k ≢ c.args.part = omega (arith, within, c.if-part-parts.false) in
      same_for g.D.Device.taken olds hands (fields_of c.args.row.now) c.args.part k p other (each k p at);
  began = λ olds hands each. tt;
  tells = tells_ok _ c.requires.works;
}
