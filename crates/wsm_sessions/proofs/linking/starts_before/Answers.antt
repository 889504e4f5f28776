use Rattle.std.proofs.Common.{◌∙◌, ap, get_or, sym, SFits, w64, to_z-of_z, nat_lt, ◌≡◌, false, arith}
use Rattle.std.proofs.lemmas.Option.{get_or_from_slice_get}
use Rattle.std.specs.Prelude.{int_lt}
use Rattle.wsm_windows.specs.declared.window.Window.{Window}
use Rattle.std.proofs.lemmas.Bool.Decides.{nat_tests}
use Rattle.wsm_sessions.proofs.SessionEdits.{before_at, before_past}
use Rattle.wsm_sessions.proofs.linking.starts_before.Goals as goal

pub returns-then-i-len : goal.returns-then-i-len
returns-then-i-len c =
    let fits : SFits w64 c.args.time = c.ranges.time in
    let ws = c.args.windows.now.items in
    let w = c.get.result in
    let read : get_or ws c.args.i w ≡ w = get_or_from_slice_get ws c.args.i w w c.get.ensures in
    simp to_z-of_z at c.is_before.ensures ∙ ap (λ (v : Window). int_lt v.start c.args.time) (sym read) ∙ before_at c.args.time ws c.args.i w (omega (arith, c.if-i-len.true, c.len.ensures.len))

pub returns-else-i-len : goal.returns-else-i-len
returns-else-i-len c =
    let past : nat_lt c.args.i c.len.result ≡ false = grind (arith, nat_tests, c.if-i-len.false) in
    past ∙ before_past c.args.time c.args.windows.now.items c.args.i (omega (arith, c.if-i-len.false, c.len.ensures.len))
