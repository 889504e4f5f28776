use Rattle.std.proofs.Common.{◌∙◌, ap}
use Rattle.std.specs.Prelude.{drop}
use Rattle.std.proofs.lemmas.Str.Ascii.{trim_ascii_end_is}
use Rattle.wsm_explain.specs.Parts.{trimmed}
use Rattle.wsm_explain.proofs.parts.between.Goals as goal

pub returns : goal.returns
returns c =
    trim_ascii_end_is c.behind.result.now c.trim_ascii_end.result.now c.trim_ascii_end.ensures.value
    ∙ ap trimmed (c.behind.ensures ∙ ap (drop c.args.begin) c.front.ensures)
