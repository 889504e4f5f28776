use Rattle.std.proofs.Common.{◌∙◌}
use Rattle.wsm_deal.proofs.RowTexts.{last_given_way}
use Rattle.wsm_deal.proofs.row_text.end_line.Goals as goal

pub returns : goal.returns
returns c = λ line is.
    c.push_reserved.ensures.items ∙ last_given_way line c.args.out.now.items c.pop-comma.new.self.items _ is c.args.out.now.ok.0 c.pop-comma.ensures.rest
