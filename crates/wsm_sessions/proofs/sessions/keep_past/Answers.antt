use Rattle.std.proofs.Common.{◌≡◌, false, ap, drop, sym, ◌∙◌, SFits, w64, to_z-of_z}
use Rattle.wsm_sessions.specs.Placing.{first_ends_by}
use Rattle.wsm_sessions.proofs.SessionEdits.{first_after, left_after}
use Rattle.wsm_sessions.proofs.sessions.keep_past.Goals as goal

pub returns-then-first_ends_by-clause-items : goal.returns-then-first_ends_by-clause-items
returns-then-first_ends_by-clause-items c =
    let fits : SFits w64 c.args.limit = c.ranges.limit in
    let ws = c.args.windows.now.items in
    let count = simp to_z-of_z at c.count_ended-count.ensures.count in
    c.drop_first.ensures.items ∙ ap (λ n. drop n ws) count ∙ sym (left_after c.args.limit ws c.requires)

pub returns-else-first_ends_by-clause-items : goal.returns-else-first_ends_by-clause-items
returns-else-first_ends_by-clause-items c =
    let fits : SFits w64 c.args.limit = c.ranges.limit in
    let told = simp to_z-of_z at c.first_ends_by.ensures in
    let first : first_ends_by c.args.limit c.args.windows.now.items ≡ false = sym told ∙ c.if-first_ends_by.false in
    sym (first_after c.args.limit c.args.windows.now.items c.requires first)
