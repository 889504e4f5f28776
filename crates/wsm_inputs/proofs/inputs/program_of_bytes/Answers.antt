use Rattle.std.proofs.lemmas.Result.{err_from_is_err_and}
use Rattle.wsm_inputs.proofs.Judgements.{bytes_end, bytes_pass}
use Rattle.wsm_inputs.proofs.inputs.program_of_bytes.Goals as goal

pub returns-in_err-decode-clause-refused : goal.returns-in_err-decode-clause-refused
returns-in_err-decode-clause-refused c =
    let p = err_from_is_err_and c.from_residual.result c.from_residual.ensures.1 in
    rw (p.1, p.2) (bytes_end c.args.bytes.now c.in_err-decode.field-0.0 c.in_err-decode.ensures.exact)

pub returns-clause-read : goal.returns-clause-read
returns-clause-read c = bytes_pass c.args.bytes.now c.in_ok-decode.field-0 c.in_ok-decode.ensures.exact
