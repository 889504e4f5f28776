use Rattle.std.proofs.Common.{◌∙◌, sym, ap, option_map, string_bytes}
use Rattle.clap.specs.Words.{found_of}
use Rattle.clap.proofs.WalkLemmas.{first_value-rows}
use Rattle.wsm_words.proofs.entries.file_of.Goals as goal

pub returns-in-Some : goal.returns-in-Some
returns-in-Some c = sym (first_value-rows (found_of c.args.inner.now) c.args.id.now) ∙ sym c.get_str.ensures ∙ sym c.in_ok-name.ensures ∙ ap (option_map string_bytes) c.in-Some.is
