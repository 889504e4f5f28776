use Rattle.std.proofs.Common.{◌∙◌, ◌++◌, ◌∷◌, [], Err, List, ℕ, ap, inl, inr, subst}
use Rattle.std.proofs.lemmas.Result.{err_from_is_err_and}
use Rattle.wsm_csv.specs.Rows.{cells_of}
use Rattle.wsm_csv.proofs.RowsLemmas.{Follows-first}
use Rattle.wsm_deal.specs.Parts.{EachBegan, EachHas, bytes_of, hands_of, with_row}
use Rattle.wsm_deal.proofs.DealtRows.{began_more, has_more}
use Rattle.wsm_deal.proofs.EachPart.{has_began, held}
use Rattle.wsm_deal.proofs.Outcomes.{if_err}
use Rattle.wsm_deal.proofs.dealing.deal_rows.Goals as goal

pub returns-in_err-advance-clause-ends_early : goal.returns-in_err-advance-clause-ends_early
returns-in_err-advance-clause-ends_early g c = λ known olds follows each.
    let (cells, read, has) = c.loop-text.invariant.dealt known olds follows each in
    let ended = c.in_err-advance.ensures.advances known cells read in
    let hands = hands_of c.args.shares.now cells in
    if_err c.from_residual.result (cells, record { first = ended.0; began = λ k p at. has_began g.D.Device.taken olds hands k p (has k p at) })

pub returns-in_err-deal_row-clause-ends_early : goal.returns-in_err-deal_row-clause-ends_early
returns-in_err-deal_row-clause-ends_early g c = λ known olds follows each.
    let (cells, read, has) = c.loop-text.invariant.dealt known olds follows each in
    let row = cells_of c.advance.new.self in
    let more = rw c.if-branch.true at (c.in_ok-advance.ensures.advances known cells read) in
    let began = subst (λ (f : List (List ℕ)). EachBegan g.D.Device.taken olds (hands_of c.args.shares.now (with_row cells f)) c.deal_row.new.parts) c.row.ensures (began_more g.D.Device.taken olds c.args.shares.now cells _ c.deal_row.new.parts (c.in_err-deal_row.ensures.began olds (hands_of c.args.shares.now cells) has)) in
    if_err c.from_residual-in_err-deal_row.result (cells ++ row ∷ [], record { first = Follows-first (bytes_of g.R.Read.remaining) known (cells ++ row ∷ []) c.advance.new.self more; began = began })

pub returns-in_err-pass_on-clause-ends_early : goal.returns-in_err-pass_on-clause-ends_early
returns-in_err-pass_on-clause-ends_early g c = λ known olds follows each.
    let (cells, read, has) = c.loop-text.invariant.dealt known olds follows each in
    let row = cells_of c.advance.new.self in
    let more = rw c.if-branch.true at (c.in_ok-advance.ensures.advances known cells read) in
    let dealt = subst (λ (f : List (List ℕ)). EachHas g.D.Device.taken olds (hands_of c.args.shares.now (with_row cells f)) c.deal_row.new.parts) c.row.ensures (has_more g.D.Device.taken olds c.args.shares.now cells _ c.deal_row.new.parts (c.in_ok-deal_row.ensures.dealt olds (hands_of c.args.shares.now cells) has)) in
    let began = c.in_err-pass_on.ensures.began olds (hands_of c.args.shares.now (with_row cells row)) dealt in
    if_err c.from_residual-in_err-pass_on.result (cells ++ row ∷ [], record { first = Follows-first (bytes_of g.R.Read.remaining) known (cells ++ row ∷ []) c.advance.new.self more; began = began })

pub pass_on-requires : goal.pass_on-requires
pass_on-requires g c = record { works = held _ _ c.in_ok-deal_row.ensures.tells.works }

pub loop-text-preserved : goal.loop-text-preserved
loop-text-preserved g c = record {
  dealt = λ known olds follows each.
      let (cells, read, has) = c.loop-text.invariant.dealt known olds follows each in
      let row = cells_of c.advance.new.self in
      let more = rw c.if-branch.true at (c.in_ok-advance.ensures.advances known cells read) in
      let dealt = subst (λ (f : List (List ℕ)). EachHas g.D.Device.taken olds (hands_of c.args.shares.now (with_row cells f)) c.deal_row.new.parts) c.row.ensures (has_more g.D.Device.taken olds c.args.shares.now cells _ c.deal_row.new.parts (c.in_ok-deal_row.ensures.dealt olds (hands_of c.args.shares.now cells) has)) in
      (cells ++ row ∷ [], more, c.in_ok-pass_on.ensures.gives olds (hands_of c.args.shares.now (with_row cells row)) dealt);
  works = c.in_ok-pass_on.ensures.works;
}

pub returns-in_err-advance-clause-works : goal.returns-in_err-advance-clause-works
returns-in_err-advance-clause-works g c = inr c.loop-text.invariant.works

pub returns-in_err-deal_row-clause-works : goal.returns-in_err-deal_row-clause-works
returns-in_err-deal_row-clause-works g c =
    let e = err_from_is_err_and c.from_residual-in_err-deal_row.result c.from_residual-in_err-deal_row.ensures.1 in
    elim c.in_err-deal_row.ensures.tells.works [
      | inl told ↦ inl (e.1 ∙ ap Err e.2 ∙ told)
      | inr works ↦ inr works
    ]

pub returns-in_err-pass_on-clause-works : goal.returns-in_err-pass_on-clause-works
returns-in_err-pass_on-clause-works g c =
    let e = err_from_is_err_and c.from_residual-in_err-pass_on.result c.from_residual-in_err-pass_on.ensures.1 in
    inl (e.1 ∙ ap Err e.2)

pub returns-clause-works : goal.returns-clause-works
returns-clause-works g c = inr c.loop-text.invariant.works

pub returns-clause-dealt : goal.returns-clause-dealt
returns-clause-dealt g c = λ known olds follows each.
    let (cells, read, has) = c.loop-text.invariant.dealt known olds follows each in
    let all = rw c.if-branch.false at (c.in_ok-advance.ensures.advances known cells read) in
    (cells, all, has)

pub returns-in_err-pass_on-clause-write_failed : goal.returns-in_err-pass_on-clause-write_failed
returns-in_err-pass_on-clause-write_failed g c = λ _. c.in_err-pass_on.ensures.fails
