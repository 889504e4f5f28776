use Rattle.std.proofs.Common.{◌∙◌}
use Rattle.std.specs.Fmt.{decimal}
use Rattle.csv.specs.Records.{fields_of}
use Rattle.wsm_csv.proofs.CellLemmas.{field_at-slice_get}
use Rattle.wsm_kept.proofs.Heads.{none_some, some_same}
use Rattle.wsm_kept.proofs.head.number_at.Goals as goal

pub returns-in-Some : goal.returns-in-Some
returns-in-Some c = λ n fits is.
    c.number_of.ensures n fits (some_same c.in-Some.cell.now (decimal n) (c.in-Some.ensures.value ∙ field_at-slice_get (fields_of c.args.row.now) c.args.place ∙ is))

pub returns-in-None : goal.returns-in-None
returns-in-None c = λ n fits is. absurd (none_some (decimal n) (c.in-None.ensures.value ∙ field_at-slice_get (fields_of c.args.row.now) c.args.place ∙ is))
