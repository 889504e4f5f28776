use Rattle.std.proofs.Common.{◌≡◌, ◌∙◌, ◌++◌, List, ℕ, ap, sym, append-nil}
use Rattle.wsm_follow.specs.Ended.{ended_lines}
use Rattle.wsm_journal.specs.Text.{are_rows}
use Rattle.wsm_live.specs.Kept.{rows_of}
use Rattle.wsm_live.proofs.RowLemmas.{rows_are}
use Rattle.wsm_live.proofs.rows.put_rows.Goals as goal

pub returns-clause-are_rows : goal.returns-clause-are_rows
returns-clause-are_rows c =
    let rows : List ℕ = c.loop-end.rows.items in
    let all : rows ≡ rows_of (ended_lines c.args.text.now) = sym (append-nil rows) ∙ ap (λ (ls : List (List ℕ)). rows ++ rows_of ls) (sym c.in_default.ensures) ∙ c.loop-end.invariant.rows in
    ap are_rows all ∙ rows_are c.args.text.now
