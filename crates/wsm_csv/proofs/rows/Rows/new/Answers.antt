use Rattle.std.proofs.Common.{◌∙◌, inr}
use Rattle.wsm_csv.proofs.RowsLemmas.{HasRest-start}
use Rattle.wsm_csv.proofs.rows.Rows.new.Goals as goal

pub returns : goal.returns
returns g c =
    let from = c.from_reader.ensures in record {
      plain = rw (c.flexible.ensures, c.has_headers.ensures) at from.trim ∙ c.new.ensures.trim;
      flexible = rw c.flexible.ensures at from.flexible;
      config = rw (c.flexible.ensures, c.has_headers.ensures) at from.config ∙ c.new.ensures.config;
      ready = inr (inr (rw (c.flexible.ensures, c.has_headers.ensures) at from.has_headers, from.headers));
      rest = HasRest-start g.R.Read.remaining _ c.from_reader.result from.state from.source;
    }
