use Rattle.std.proofs.Common.{◌∙◌, ◌++◌, List, ℕ, ap}
use Rattle.wsm_semantics.specs.Text.{line_text}
use Rattle.wsm.specs.Written.{line_of}
use Rattle.wsm.proofs.turns.Turns.end.Goals as goal

pub returns : goal.returns
returns c = λ p rows fits.
    record {
      lines = c.in_ok-end_text.ensures p.header.schema
          ∙ ap (λ (l : List ℕ). l ++ line_text p.header.schema (line_of c.totals-totals.result)) c.clear.ensures.items;
      numbers = c.totals-totals.ensures p rows fits;
    }
