use Rattle.std.proofs.Common.{◌≡◌, ◌∙◌, true, List, [], ◌∷◌, length, nat_lt, sym, ap, length-append}
use Rattle.wsm_record.specs.declared.words.CellType.{CellType}
use Rattle.wsm_check.proofs.AddedColumns.{column_judged, columns_added}
use Rattle.wsm_check.proofs.expressions.+resolve_columns.Goals as goal

pub returns-clause-judged : goal.returns-clause-judged
returns-clause-judged t c = λ q h.
    let types = c.args.fired.now.types.items in
    let passed : c.len-passed.result ≡ length types = c.len-passed.ensures ∙ c.args.fired.now.types.ok.0 in
    let few : nat_lt (length types) 16 ≡ true = ap (λ n. nat_lt n 16) (sym passed) ∙ c.in_ok-want.ensures.holds in
    let next = ap (λ (ts : List CellType). length ts) c.in_ok-push.ensures.items ∙ length-append types (c.in_ok-ty.ty ∷ []) in
    column_judged q (length types) _ c.args.exprs.now c.first-item.result c.in_ok-ty.ty c.resolve_columns.result c.in-len1-up.len_at_least c.first-item.is few (c.in_ok-ty.ensures.resolved q h).has_type next (c.resolve_columns.ensures.judged q h)

pub returns-clause-resolved : goal.returns-clause-resolved
returns-clause-resolved t c = λ q h.
    columns_added q c.args.exprs.now c.first-item.result c.args.fired.now (record { types = c.push.new.self; columns = c.push-2.new.self; foldings = c.resolve.new.foldings }) c.resolve_columns.new.fired c.in_ok-ty.ty c.in_ok-ty.term c.resolve_columns.result
    c.in-len1-up.len_at_least c.first-item.is (c.in_ok-ty.ensures.resolved q h) c.in_ok-push.ensures.items c.in_ok-push-2.ensures.items (c.resolve_columns.ensures.resolved q h)
