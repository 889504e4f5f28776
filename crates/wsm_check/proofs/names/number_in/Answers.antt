use Rattle.std.proofs.Common.{◌∙◌, ap, position, bytes_eq}
use Rattle.wsm_check.proofs.NamedFields.{listed}
use Rattle.wsm_check.proofs.names.number_in.Goals as goal

pub returns : goal.returns
returns c =
    let names = c.args.names.now in
    listed c.args.name.now names c.number_of.result (c.number_of.ensures ∙ ap (λ text. position (bytes_eq text) names) c.as_bytes.ensures.bytes)
