use Rattle.std.proofs.Common.{arith, sym, ◌∙◌, ap}
use Rattle.wsm_tokens.specs.Tokens.{first_sign}
use Rattle.wsm_tokens.proofs.Text.{sign_fits, sign_some}
use Rattle.wsm_tokens.proofs.scan.first_sign.Goals as goal

pub returns-in-Some : goal.returns-in-Some
returns-in-Some c =
    let found = sym c.sign_of.ensures ∙ c.in-Some.is in
    let fits = sign_fits c.args.text.now c.in-Some.sign found in
    let some = sign_some c.in-Some.sign in
    rw c.text.ensures (omega arith, tt, ap first_sign found)
