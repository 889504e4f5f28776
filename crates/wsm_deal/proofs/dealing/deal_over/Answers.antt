use Rattle.std.proofs.Common.{[], subst}
use Rattle.wsm_csv.specs.Rows.{Follows}
use Rattle.wsm_deal.specs.Parts.{bytes_of, hands_of}
use Rattle.wsm_deal.proofs.FirstRows.{none_first}
use Rattle.wsm_deal.proofs.Outcomes.{if_err}
use Rattle.wsm_deal.proofs.PartTexts.{Has-part}
use Rattle.wsm_deal.proofs.dealing.deal_over.Goals as goal

pub returns-in_err-ahead-clause-ends_early : goal.returns-in_err-ahead-clause-ends_early
returns-in_err-ahead-clause-ends_early g c = λ olds each.
    if_err c.from_residual.result (
      [],
      record {
        first = none_first (g.R.Read.remaining c.args.reader);
        began = λ k p at. Has-part g.D.Device.taken (olds k) (hands_of c.args.shares.now [] k) p (each k p at);
      },
    )

pub returns-clause-dealt : goal.returns-clause-dealt
returns-clause-dealt g c = λ olds each.
    c.deal.ensures.dealt (g.R.Read.remaining c.args.reader) olds
    (subst (λ known. Follows (bytes_of g.R.Read.remaining) known [] c.new-rows.result) c.in_ok-ahead.ensures c.new-rows.ensures) each

pub returns-clause-ends_early : goal.returns-clause-ends_early
returns-clause-ends_early g c = λ olds each.
    c.deal.ensures.ends_early (g.R.Read.remaining c.args.reader) olds
    (subst (λ known. Follows (bytes_of g.R.Read.remaining) known [] c.new-rows.result) c.in_ok-ahead.ensures c.new-rows.ensures) each
