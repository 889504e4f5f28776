use Rattle.std.proofs.Common.{◌≡◌, ◌++◌, ℕ, OnOk, subst}
use Rattle.wsm_semantics.specs.Lines.{refusal_lines}
use Rattle.wsm_semantics.specs.Text.{lines_text}
use Rattle.wsm_keyed_run.proofs.turns.KeyedTurns.tell.Goals as goal

pub returns-clause-lines : goal.returns-clause-lines
returns-clause-lines c = λ p rows counts declared.
    subst (λ (n : ℕ). OnOk c.refusal_text.result (c.refusal_text.new.out.items ≡ c.args.self.now.lines.items ++ lines_text declared (refusal_lines n c.args.refusal))) (c.row_count.ensures p rows counts) (c.refusal_text.ensures declared)
