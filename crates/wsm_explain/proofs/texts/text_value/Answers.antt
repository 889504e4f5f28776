use Rattle.std.proofs.Common.{rules}
use Rattle.std.proofs.lemmas.Str.{IsUtf8-from_is_utf8, is_utf8-from_IsUtf8}
use Rattle.std.proofs.lemmas.Bool.{false_from_ne_true}
use Rattle.serde_json.specs.declared.value.Value.{the_lemmas}
use Rattle.wsm_explain.proofs.texts.text_value.Goals as goal

pub returns-in-Ok : goal.returns-in-Ok
returns-in-Ok c =
    let valid = is_utf8-from_IsUtf8 c.args.bytes.now c.in-Ok.ensures.cases.1 in
    search (rules, valid)

pub returns-in-Err : goal.returns-in-Err
returns-in-Err c =
    let broken = false_from_ne_true _ (λ valid. c.in-Err.ensures.cases.0 (IsUtf8-from_is_utf8 c.args.bytes.now valid)) in
    search (rules, the_lemmas, broken)
