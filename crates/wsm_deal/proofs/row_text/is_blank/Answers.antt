use Rattle.std.proofs.Common.{◌∙◌, ◌==◌, List, ℕ, sym, ap, length}
use Rattle.csv.specs.Records.{fields_of}
use Rattle.wsm_deal.proofs.RowTexts.{blank_of_none, blank_of_one}
use Rattle.wsm_deal.proofs.row_text.is_blank.Goals as goal

pub returns-in-0 : goal.returns-in-0
returns-in-0 c = blank_of_none (fields_of c.args.row.now) (sym c.len.ensures ∙ c.in-0.is)

pub returns-in-1 : goal.returns-in-1
returns-in-1 c =
    c.is_empty.ensures ∙ ap (λ (cell : List ℕ). length cell == 0) c.cell_at.ensures ∙ sym (blank_of_one (fields_of c.args.row.now) (sym c.len.ensures ∙ c.in-1.is))
