use Rattle.std.proofs.Common.{rules, ◌≡◌, ◌||◌, ◌+ℤ◌, Bool, false, SFits, w64, sym, ap}
use Rattle.std.proofs.lemmas.Int as int
use Rattle.std.specs.Prelude.{int_lt, int_le}
use Rattle.wsm_keep.proofs.sessions.is_beside.Goals as goal

pub returns-else-parting-window : goal.returns-else-parting-window
returns-else-parting-window c =
    let gap : SFits w64 c.args.parting.gap = search rules in
    let time : SFits w64 c.args.parting.time = search rules in
    let sum : SFits w64 (c.args.parting.time +ℤ c.args.parting.gap) = search rules in
    let end : SFits w64 c.args.window.end = search rules in
    let start : SFits w64 c.args.window.start = search rules in
    let no : int_lt c.args.parting.time c.args.window.start ≡ false = simp int.to_z-of_z at c.if-parting-window.false in
    simp int.to_z-of_z (sym (ap (λ (b : Bool). b || int_le c.args.window.end (c.args.parting.time +ℤ c.args.parting.gap)) no))
