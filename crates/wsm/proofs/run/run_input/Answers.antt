use Rattle.std.proofs.Common.{[]}
use Rattle.std.proofs.lemmas.Result.{err_from_is_err_and}
use Rattle.wsm.specs.Written.{RowsBroken, RowsWritten}
use Rattle.wsm_machine.specs.Meaning.{query_of}
use Rattle.wsm_inputs.proofs.RunsBeforeRows.{begun, unbegun}
use Rattle.wsm.proofs.SameText.{text_completes, text_ends_early}
use Rattle.wsm.proofs.SaidTexts.{begun_by_ranges, input_written, unbegun_by_ranges}
use Rattle.wsm.proofs.StatedRuns.{begun_stated, unbegun_stated}
use Rattle.wsm_deal.proofs.FirstRows.{none_first}
use Rattle.wsm.proofs.Texts.{Appends-none}
use Rattle.wsm.proofs.run.run_input.Goals as goal

pub returns-in_err-verified-clause-ends : goal.returns-in_err-verified-clause-ends
returns-in_err-verified-clause-ends g c =
    let e = err_from_is_err_and c.from_residual.result c.from_residual.ensures.1 in
    let old = g.D.Device.taken c.args.out.now in
    rw (e.1, e.2) (λ known start.
    unbegun c.args.input (RowsWritten known old old) (RowsBroken known old old) old (g.D.Device.is_flushed c.args.out.now) (g.D.Device.has_failed c.args.out.now) c.in_err-verified.field-0.0
    c.in_err-verified.ensures.unaccepted (λ m. ([], record { first = none_first known; text = Appends-none m old })) c.in_err-verified.ensures.memory_apart)

pub returns-clause-ends : goal.returns-clause-ends
returns-clause-ends g c = λ known start.
    let old = g.D.Device.taken c.args.out.now in
    let new = g.D.Device.taken c.run_verified.new.out in
    begun c.args.input (RowsWritten known old new) (RowsBroken known old new)
    (λ text q accepted totals h. text_completes text q accepted known old new totals h)
    (λ text q accepted end h. text_ends_early text q accepted known old new end h)
    c.in_ok-verified.verified c.in_ok-verified.ensures.accepted old new (g.D.Device.is_flushed c.run_verified.new.out) (g.D.Device.has_failed c.run_verified.new.out) c.run_verified.result
    (c.run_verified.ensures.completes known start) (c.run_verified.ensures.ends_early known start) c.run_verified.ensures.flushed c.run_verified.ensures.write_failed c.run_verified.ensures.memory_apart

pub returns-clause-well : goal.returns-clause-well
returns-clause-well g c = λ known start.
    input_written c.args.input c.in_ok-verified.verified c.in_ok-verified.ensures.accepted known (g.D.Device.taken c.args.out.now) (g.D.Device.taken c.run_verified.new.out) c.run_verified.result
    (returns-clause-ends g c known start).completes

pub returns-in_err-verified-clause-ranges : goal.returns-in_err-verified-clause-ranges
returns-in_err-verified-clause-ranges g c =
    let e = err_from_is_err_and c.from_residual.result c.from_residual.ensures.1 in
    rw (e.1, e.2) (unbegun_by_ranges c.args.input c.in_err-verified.field-0.0 c.in_err-verified.ensures.unaccepted)

pub returns-clause-ranges : goal.returns-clause-ranges
returns-clause-ranges g c =
    let (known, start) = c.requires.fresh in
    begun_by_ranges c.args.input c.in_ok-verified.verified c.in_ok-verified.ensures.accepted known (g.D.Device.taken c.args.out.now) (g.D.Device.taken c.run_verified.new.out)
    (query_of c.in_ok-verified.verified) c.run_verified.result (c.run_verified.ensures.ends_early known start)

pub returns-in_err-verified-clause-stated : goal.returns-in_err-verified-clause-stated
returns-in_err-verified-clause-stated g c =
    let e = err_from_is_err_and c.from_residual.result c.from_residual.ensures.1 in
    rw (e.1, e.2) (unbegun_stated c.args.input c.in_err-verified.field-0.0 c.in_err-verified.ensures.unaccepted)

pub returns-clause-stated : goal.returns-clause-stated
returns-clause-stated g c = begun_stated c.args.input c.run_verified.result (record { program = c.in_ok-verified.verified; accepted = c.in_ok-verified.ensures.accepted; keeps = c.run_verified.ensures.keeps })
