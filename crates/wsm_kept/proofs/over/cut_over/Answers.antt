use Rattle.std.proofs.Common.{ℕ, List, Option, inl, inr, refl}
use Rattle.std.proofs.lemmas.Result.{err_from_is_err_and}
use Rattle.wsm_machine.specs.Meaning.{query_of}
use Rattle.wsm_kept.proofs.over.cut_over.Goals as goal

pub returns-in_err-cut-clause-begun : goal.returns-in_err-cut-clause-begun
returns-in_err-cut-clause-begun g c =
    let known : Option (List ℕ) = g.R.Read.remaining c.args.reader in
    let e = err_from_is_err_and c.from_residual.result c.from_residual.ensures.1 in
    rw (e.1, e.2) (inl (refl, c.requires, c.cut_rows.new.rows, c.in_err-cut.ensures.ends known c.new-rows.ensures))

pub returns-in_err-write_cut-clause-begun : goal.returns-in_err-write_cut-clause-begun
returns-in_err-write_cut-clause-begun g c =
    let known : Option (List ℕ) = g.R.Read.remaining c.args.reader in
    let cut = c.in_ok-cut.ensures.cut known c.new-rows.ensures in
    let e = err_from_is_err_and c.from_residual-in_err-write_cut.result c.from_residual-in_err-write_cut.ensures.1 in
    rw (e.1, e.2) (inr (
      c.cut_rows.new.rows,
      c.write_cut.new.rows,
      c.in_ok-cut.cut,
      cut,
      c.in_err-write_cut.ensures.begun known (query_of c.args.verified) c.args.asked.sum cut.cut,
      c.in_err-write_cut.ensures.ends,
    ))

pub returns-clause-written : goal.returns-clause-written
returns-clause-written g c =
    let known : Option (List ℕ) = g.R.Read.remaining c.args.reader in
    let cut = c.in_ok-cut.ensures.cut known c.new-rows.ensures in
    record {
      rows = c.cut_rows.new.rows;
      made = c.in_ok-cut.cut;
      cut = cut;
      front = refl;
      text = c.in_ok-write_cut.ensures.written known (query_of c.args.verified) c.args.asked.sum cut.cut;
    }
