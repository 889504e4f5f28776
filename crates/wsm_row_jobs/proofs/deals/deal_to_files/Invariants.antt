use Rattle.wsm_csv.specs.declared.guarded.Guarded.{Guarded}
use Rattle.wsm_deal.specs.Parts.{AreNew, NoneFailed}
use Rattle.wsm_row_jobs.proofs.deals.deal_to_files.Given as goal

-- the parts so far are new, and their files work
abbrev pub invariant-loop-number : goal.invariant-loop-number
invariant-loop-number g l = record {
  new : AreNew (λ (d : Guarded g.row.R-File.Denot). g.R.File.Write.contents d.writer) l.parts.items;
  works : NoneFailed (λ (d : Guarded g.row.R-File.Denot). d.failed) l.parts.items;
}
