use Rattle.std.proofs.Common.{◌∙◌, ap, codes}
use Rattle.clap.specs.Words.{found_of}
use Rattle.clap.proofs.WalkLemmas.{first_value-rows}
use Rattle.wsm_words.specs.Words.{rows_named}
use Rattle.wsm_words.proofs.entries.rows_in.Goals as goal

pub returns : goal.returns
returns c = c.in_ok-rows.ensures ∙ ap rows_named (c.get_str.ensures ∙ first_value-rows (found_of c.args.inner.now) (codes "rows"))
