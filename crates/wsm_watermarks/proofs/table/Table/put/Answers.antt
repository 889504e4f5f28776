use Rattle.std.proofs.Common.{◌∙◌, ◌≡◌, ◌<◌, ◌+◌, ℕ, None, Option, Some, ap, arith, cond, get_or, length, set, subst, sym}
use Rattle.std.proofs.lemmas.List.{get_or_default, length-set}
use Rattle.wsm_watermarks.specs.declared.table.Said.{Said}
use Rattle.wsm_watermarks.specs.Table.{Sayings, counted, is_counted}
use Rattle.wsm_watermarks.proofs.Tables.{counted_at, counted_set, few_counted}
use Rattle.wsm_watermarks.proofs.table.Table.put.Goals as goal

pub recounted-self-inside-requires-clause-some : goal.recounted-self-inside-requires-clause-some
recounted-self-inside-requires-clause-some c =
    let a = c.self.inside in
    let within : c.args.stamp.clock < length a.said.items = subst (λ (k : Sayings). c.args.stamp.clock < length k.said) (sym c.self.view_is) c.requires.clock in
    let was : c.is_counted-was.result ≡ is_counted a.since a.need (get_or a.said.items c.args.stamp.clock None) = c.is_counted-was.ensures ∙ ap (is_counted a.since a.need) (c.index.ensures ∙ get_or_default a.said.items c.args.stamp.clock _ None within) in
    let at = counted_at a.since a.need a.said.items c.args.stamp.clock (length a.said.items) within in
    rw was (omega (arith, at, c.self.invariant.0))

pub recounted-self-inside-requires-clause-room : goal.recounted-self-inside-requires-clause-room
recounted-self-inside-requires-clause-room c =
    let a = c.self.inside in
    let few = few_counted a.since a.need a.said.items in
    omega (arith, few, c.self.invariant.0, c.self.invariant.2)

pub invariant_of-self : goal.invariant_of-self
invariant_of-self c =
    let a = c.self.inside in
    let within : c.args.stamp.clock < length a.said.items = subst (λ (k : Sayings). c.args.stamp.clock < length k.said) (sym c.self.view_is) c.requires.clock in
    let v : Option Said = Some (record { time = c.args.stamp.time; number = a.heard + 1 }) in
    let was : c.is_counted-was.result ≡ is_counted a.since a.need (get_or a.said.items c.args.stamp.clock None) = c.is_counted-was.ensures ∙ ap (is_counted a.since a.need) (c.index.ensures ∙ get_or_default a.said.items c.args.stamp.clock _ None within) in
    let old = ap {B = ℕ} (λ b. cond b 1 0) was in
    let now = ap {B = ℕ} (λ b. cond b 1 0) c.is_counted-is.ensures in
    let put = counted_set a.since a.need a.said.items c.args.stamp.clock (length a.said.items) v within within in
    let long = length-set a.said.items c.args.stamp.clock v in
    let whole = ap (counted a.since a.need (set a.said.items c.args.stamp.clock v)) long in
    (omega (arith, c.recounted-self-inside.ensures, old, now, put, whole, c.self.invariant.0), omega (arith, c.self.invariant.1), omega (arith, long, c.self.invariant.2))
