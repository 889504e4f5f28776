use Rattle.std.proofs.Common.{◌∙◌, Err, ap, inl, inr}
use Rattle.std.proofs.lemmas.Result.{err_from_is_err_and}
use Rattle.wsm_deal.specs.Parts.{hands_of}
use Rattle.wsm_deal.proofs.EachPart.{held, none_some}
use Rattle.wsm_deal.proofs.Outcomes.{if_err}
use Rattle.wsm_deal.proofs.FirstRows.{all_first}
use Rattle.wsm_deal.proofs.dealing.deal.Goals as goal

pub returns-in_err-deal_rows-clause-ends_early : goal.returns-in_err-deal_rows-clause-ends_early
returns-in_err-deal_rows-clause-ends_early g c = λ known olds follows each.
    if_err c.from_residual.result (c.in_err-deal_rows.ensures.ends_early known olds follows each)

pub returns-in_err-finish-clause-ends_early : goal.returns-in_err-finish-clause-ends_early
returns-in_err-finish-clause-ends_early g c = λ known olds follows each.
    let (cells, all, has) = c.in_ok-deal_rows.ensures.dealt known olds follows each in
    if_err c.from_residual-in_err-finish.result (cells, record { first = all_first known cells all; began = c.in_err-finish.ensures.gives.began olds (hands_of c.args.shares.now cells) has })

pub returns-clause-dealt : goal.returns-clause-dealt
returns-clause-dealt g c = λ known olds follows each.
    let (cells, all, has) = c.in_ok-deal_rows.ensures.dealt known olds follows each in
    (cells, record { all = all; took = c.in_ok-finish.ensures.gives.gives olds (hands_of c.args.shares.now cells) has })

pub returns-in_err-deal_rows-clause-device : goal.returns-in_err-deal_rows-clause-device
returns-in_err-deal_rows-clause-device g c = λ some.
    let e = err_from_is_err_and c.from_residual.result c.from_residual.ensures.1 in
    elim c.in_err-deal_rows.ensures.works [
      | inl told ↦ e.1 ∙ ap Err e.2 ∙ told
      | inr works ↦ absurd (none_some g.D.Device.has_failed c.deal_rows.new.parts works some)
    ]

pub returns-in_err-finish-clause-device : goal.returns-in_err-finish-clause-device
returns-in_err-finish-clause-device g c = λ some.
    let e = err_from_is_err_and c.from_residual-in_err-finish.result c.from_residual-in_err-finish.ensures.1 in
    e.1 ∙ ap Err e.2

pub returns-clause-device : goal.returns-clause-device
returns-clause-device g c = λ some. absurd (none_some g.D.Device.has_failed c.finish.new.parts c.in_ok-finish.ensures.gives.works some)

pub finish-requires : goal.finish-requires
finish-requires g c = record { works = held _ _ c.in_ok-deal_rows.ensures.works }

pub returns-in_err-finish-clause-write_failed : goal.returns-in_err-finish-clause-write_failed
returns-in_err-finish-clause-write_failed g c = λ _. c.in_err-finish.ensures.gives.fails
