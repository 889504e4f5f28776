use Rattle.std.proofs.Common.{◌∙◌, ap}
use Rattle.std.proofs.lemmas.Result.{err_from_is_err_and}
use Rattle.csv.specs.Records.{fields_of}
use Rattle.wsm_deal.proofs.DealtRows.{not_handed, not_kept, was_handed}
use Rattle.wsm_deal.proofs.part.Part.add.Goals as goal

pub returns-in_err-keep : goal.returns-in_err-keep
returns-in_err-keep g c =
    let e = err_from_is_err_and c.from_residual.result c.from_residual.ensures.1 in
    rw (e.1, e.2) (not_kept g.D.Device.taken g.D.Device.has_failed (fields_of c.args.row.now) c.args.self.now c.keep.new.self c.in_err-keep.ensures.out c.requires.works)

pub hand_on_if_full-requires : goal.hand_on_if_full-requires
hand_on_if_full-requires g c = record { works = ap g.D.Device.has_failed c.in_ok-keep.ensures.out ∙ c.requires.works }

pub returns-in_err-hand_on_if_full : goal.returns-in_err-hand_on_if_full
returns-in_err-hand_on_if_full g c =
    let e = err_from_is_err_and c.from_residual-in_err-hand_on_if_full.result c.from_residual-in_err-hand_on_if_full.ensures.1 in
    rw (e.1, e.2) (not_handed g.D.Device.taken g.D.Device.has_failed (fields_of c.args.row.now) c.args.self.now c.keep.new.self c.hand_on_if_full.new.self _ c.in_ok-keep.ensures.adds c.in_err-hand_on_if_full.ensures)

pub returns : goal.returns
returns g c =
    was_handed g.D.Device.taken g.D.Device.has_failed (fields_of c.args.row.now) c.args.self.now c.keep.new.self c.hand_on_if_full.new.self _ _ c.in_ok-keep.ensures.adds c.in_ok-hand_on_if_full.ensures
