use Rattle.std.proofs.Common.{◌≡◌, ◌∙◌, ap, false, rules}
use Rattle.serde_json.specs.View.{view}
use Rattle.serde_json.specs.Written.{compact_text, has_float}
use Rattle.wsm_explain.proofs.NoFloats.{explained_plain}
use Rattle.wsm_explain.proofs.explaining.explained_text.Goals as goal

pub returns : goal.returns
returns c =
    let plain : has_float (view c.in_ok-value.value) ≡ false = ap has_float c.in_ok-value.ensures ∙ explained_plain c.args.input c.args.judgement.now in
    let written = c.in_ok-text.ensures.text plain ∙ ap compact_text c.in_ok-value.ensures in
    search (rules, written)
