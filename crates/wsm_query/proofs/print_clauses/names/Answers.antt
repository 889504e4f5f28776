use Rattle.std.proofs.Common.{ℕ, List, [], ◌∷◌, arith}
use Rattle.wsm_tokens.specs.Tokens.{Word}
use Rattle.wsm_query.proofs.Written.{commas_next}
use Rattle.wsm_query.proofs.print_clauses.names.Goals as goal

pub loop-place-preserved : goal.loop-place-preserved
loop-place-preserved c =
    commas_next (λ (x : List ℕ). Word x ∷ []) c.args.names.now c.loop-place.place c.index-names-place.result (omega arith) c.index-names-place.is
    c.args.text.now.items c.loop-place.text.items c.comma.new.text.items c.word.new.text.items
    c.loop-place.invariant c.in_ok-comma.ensures (rw c.as_bytes.ensures.bytes at c.in_ok-word.ensures)
