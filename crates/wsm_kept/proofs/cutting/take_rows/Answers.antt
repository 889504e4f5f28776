use Rattle.std.proofs.Common.{◌∙◌, ◌∷◌, ◌++◌, [], subst}
use Rattle.wsm_csv.specs.Rows.{cells_of}
use Rattle.wsm_kept.specs.Kept.{Cells}
use Rattle.wsm_kept.specs.Pass.{Taken}
use Rattle.wsm_kept.proofs.Passed.{was_cut, was_left}
use Rattle.std.proofs.lemmas.Result.{err_from_is_err_and}
use Rattle.wsm_machine.specs.Meaning.{query_of}
use Rattle.wsm_kept.specs.declared.asked.Asked.{Asked}
use Rattle.wsm_kept.specs.Ends.{TakeEnds}
use Rattle.wsm_kept.proofs.Ending.{reads_end, taken_ends}
use Rattle.wsm_kept.proofs.cutting.take_rows.Goals as goal

pub loop-pass-preserved : goal.loop-pass-preserved
loop-pass-preserved g c = record {
  asked = c.take.ensures.asked ∙ c.loop-pass.invariant.asked;
  ready = c.take.ensures.ready;
  passes = λ known p start fits.
      let (past, follows, is) = c.loop-pass.invariant.passes known p start fits in
      let row = cells_of c.advance.new.self in
      let next = rw c.if-branch.true at (c.in_ok-advance.ensures.advances known past follows) in
      let taken = subst (λ (f : Cells). Taken p c.take.new.self past f c.in_ok-take.field-0) c.row.ensures (c.in_ok-take.ensures.taken p past is) in
      (past ++ row ∷ [], next, was_cut p c.take.new.self past row c.in_ok-take.field-0 c.if-not-branch.false taken);
}

pub returns-then-not-branch-clause-passes : goal.returns-then-not-branch-clause-passes
returns-then-not-branch-clause-passes g c = λ known p start fits.
    let (past, follows, is) = c.loop-pass.invariant.passes known p start fits in
    let row = cells_of c.advance.new.self in
    let next = rw c.if-branch.true at (c.in_ok-advance.ensures.advances known past follows) in
    let taken = subst (λ (f : Cells). Taken p c.take.new.self past f c.in_ok-take.field-0) c.row.ensures (c.in_ok-take.ensures.taken p past is) in
    (past, next, was_left p c.take.new.self past row c.in_ok-take.field-0 c.if-not-branch.true taken)

pub returns-clause-passes : goal.returns-clause-passes
returns-clause-passes g c = λ known p start fits.
    let (past, follows, is) = c.loop-pass.invariant.passes known p start fits in
    (past, rw c.if-branch.false at (c.in_ok-advance.ensures.advances known past follows), is.cuts)

pub returns-in_err-advance-clause-ends : goal.returns-in_err-advance-clause-ends
returns-in_err-advance-clause-ends g c =
    let e = err_from_is_err_and c.from_residual.result c.from_residual.ensures.1 in
    rw (e.1, e.2) (λ known p start fits. reads_end g.R.Read.remaining known (query_of p) c.args.pass.now.asked c.advance.new.self c.in_err-advance.field-0.0 c.in_err-advance.ensures.told)

pub returns-in_err-take-clause-ends : goal.returns-in_err-take-clause-ends
returns-in_err-take-clause-ends g c =
    let e = err_from_is_err_and c.from_residual-in_err-take.result c.from_residual-in_err-take.ensures.1 in
    rw (e.1, e.2) (λ known p start fits.
    let (past, follows, is) = c.loop-pass.invariant.passes known p start fits in
    let row = cells_of c.advance.new.self in
    let next = rw c.if-branch.true at (c.in_ok-advance.ensures.advances known past follows) in
    let ends = subst (λ (f : Cells). TakeEnds (query_of p) c.loop-pass.pass.asked past f c.in_err-take.field-0.0) c.row.ensures (c.in_err-take.ensures.ends p past is) in
    taken_ends g.R.Read.remaining known (query_of p) c.args.pass.now.asked c.advance.new.self past c.in_err-take.field-0.0 next
    (subst (λ (a : Asked). TakeEnds (query_of p) a past row c.in_err-take.field-0.0) c.loop-pass.invariant.asked ends))
