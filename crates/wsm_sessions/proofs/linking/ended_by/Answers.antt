use Rattle.std.proofs.Common.{◌≡◌, ◌-◌, ◌∙◌, true, false, length, sym, SFits, w64, to_z-of_z}
use Rattle.wsm_sessions.specs.Placing.{is_ended_at}
use Rattle.wsm_sessions.proofs.Ended.{ended_all, ended_all_but}
use Rattle.wsm_sessions.proofs.linking.ended_by.Goals as goal

pub returns-then-is_ended_at-clause-count : goal.returns-then-is_ended_at-clause-count
returns-then-is_ended_at-clause-count c =
    let time : SFits w64 c.args.time = c.ranges.time in
    let long = c.len-count.ensures.len in
    let last : is_ended_at c.args.time c.args.windows.now.items (length c.args.windows.now.items) ≡ true = rw long at (sym (simp to_z-of_z at c.is_ended_at.ensures) ∙ c.if-is_ended_at.true) in
    long ∙ ended_all c.args.time c.args.windows.now.items c.requires last

pub returns-then-is_ended_at-2-clause-count : goal.returns-then-is_ended_at-2-clause-count
returns-then-is_ended_at-2-clause-count c =
    let time : SFits w64 c.args.time = c.ranges.time in
    let long = c.len-count.ensures.len in
    let newest : is_ended_at c.args.time c.args.windows.now.items (length c.args.windows.now.items) ≡ false = rw long at (sym (simp to_z-of_z at c.is_ended_at.ensures) ∙ c.if-is_ended_at.false) in
    let last : is_ended_at c.args.time c.args.windows.now.items (length c.args.windows.now.items - 1) ≡ true = rw long at (sym (simp to_z-of_z at c.is_ended_at-else-is_ended_at.ensures) ∙ c.if-is_ended_at-2.true) in
    rw long (ended_all_but c.args.time c.args.windows.now.items c.requires newest last)
