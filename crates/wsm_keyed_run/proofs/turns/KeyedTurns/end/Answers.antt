use Rattle.std.proofs.Common.{◌∙◌, ◌++◌, List, ℕ, ap}
use Rattle.wsm_semantics.specs.Text.{line_text}
use Rattle.wsm.specs.Written.{line_of}
use Rattle.wsm_keyed_run.proofs.turns.KeyedTurns.end.Goals as goal

pub returns : goal.returns
returns c = λ k cells fits.
    record {
      lines = c.in_ok-end_text.ensures k.program.header.schema
          ∙ ap (λ (l : List ℕ). l ++ line_text k.program.header.schema (line_of c.totals-totals.result)) c.clear.ensures.items;
      numbers = c.totals-totals.ensures k cells fits;
    }
