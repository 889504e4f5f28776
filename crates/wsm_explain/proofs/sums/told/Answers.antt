use Rattle.std.proofs.Common.{◌∙◌, ◌++◌, List, ℕ, ap, sym, is_some, append-nil, arith}
use Rattle.wsm_tokens.specs.Tokens.{token_of}
use Rattle.wsm_explain.proofs.Walks.{seen_counts, told_end, told_step}
use Rattle.wsm_explain.proofs.sums.told.Goals as goal

pub loop-token-smaller : goal.loop-token-smaller
loop-token-smaller c =
    let some = seen_counts c.loop-token.reader (ap is_some (sym c.in-Some.ensures.token)) in
    omega (arith, some, c.advance.ensures.onward)

pub loop-token-preserved : goal.loop-token-preserved
loop-token-preserved c =
    told_step c.loop-token.is_first c.loop-token.is_behind_records c.begins-is_records.result c.loop-token.reader c.advance.new.self (token_of c.in-Some.token)
    c.loop-token.told.items c.add_told.new.told.items _
    c.in-Some.ensures.token c.begins-is_records.ensures.which c.advance.ensures.rest c.in_ok-add_told.ensures c.loop-token.invariant

pub returns : goal.returns
returns c =
    sym (append-nil c.loop-token.told.items)
    ∙ ap (λ (rest : List ℕ). c.loop-token.told.items ++ rest) (sym (told_end c.loop-token.is_first c.loop-token.is_behind_records c.loop-token.reader (sym c.in_default.ensures.token)))
    ∙ c.loop-token.invariant
