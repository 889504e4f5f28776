use Rattle.std.proofs.Common.{◌∙◌, sym, ap}
use Rattle.wsm_lines.specs.Entries.{number_in}
use Rattle.wsm_lines.proofs.TableLemmas.{number_in-map}
use Rattle.wsm_lines.proofs.table.Table.number_of.Goals as goal

pub returns : goal.returns
returns c =
    c.copied.ensures ∙ c.get.ensures.value
    ∙ sym (number_in-map (λ v. v.items) c.args.text.now c.self.inside.numbers.entries)
    ∙ ap (λ es. number_in es c.args.text.now) c.self.view_is
