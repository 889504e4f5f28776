use Rattle.wsm_query.specs.Seen.{seen}
use Rattle.wsm_query.proofs.RoundTrip.{printed_again}
use Rattle.wsm_query.proofs.reading.parse.Goals as goal

pub returns-in-Ok-clause-printed : goal.returns-in-Ok-clause-printed
returns-in-Ok-clause-printed c = printed_again c.args.text.now _ (seen c.in-Ok.query) _ c.new-reader.ensures c.in-Ok.ensures
