use Rattle.std.proofs.Common.{◌∙◌}
use Rattle.clap.specs.Words.{found_of}
use Rattle.clap.proofs.WalkLemmas.{one_text-rows}
use Rattle.wsm_words.proofs.entries.flag_of.Goals as goal

pub returns : goal.returns
returns c =
    let text = one_text-rows (found_of c.args.inner.now) c.args.name.now in
    let flag = c.get_flag.ensures in
    (λ e. flag.none (text ∙ e), λ e. flag.value (text ∙ e), λ e. flag.other (text ∙ e))
