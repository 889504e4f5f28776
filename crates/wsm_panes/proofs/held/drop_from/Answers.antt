use Rattle.std.proofs.Common.{◌≤◌, length, ap, subst, sym, ◌∙◌, arith, SFits, w64, to_z-of_z}
use Rattle.std.specs.Prelude.{filter}
use Rattle.std.specs.FinMap as map
use Rattle.std.specs.FinMap.{len-entries}
use Rattle.wsm_panes.specs.OfKeys.{AreOfKeys}
use Rattle.wsm_slots.specs.Place.{is_kept}
use Rattle.wsm_list.proofs.Tables.{entries_kept}
use Rattle.wsm_panes.proofs.Enters.{all_left, keys_dropped}
use Rattle.wsm_panes.proofs.held.drop_from.Goals as goal

pub returns-then-len-count-clause-sessions : goal.returns-then-len-count-clause-sessions
returns-then-len-count-clause-sessions c gap keys live of =
    let limit : SFits w64 c.args.limit = c.ranges.limit in
    let m = c.args.list.now.panes in
    let left = ap map.entries (simp to_z-of_z at c.drop_expired.ensures.panes) ∙ entries_kept m (is_kept c.args.limit) in
    subst (λ es. AreOfKeys gap keys live es c.drop_sessions.new.sessions.items.items) (sym left)
    (keys_dropped c.args.limit gap keys live (map.entries m) c.args.sessions.now.items.items c.drop_sessions.new.sessions.items.items of (simp to_z-of_z at c.drop_sessions.ensures))

-- as many are left as there were, so all are
pub returns-else-len-count-clause-sessions : goal.returns-else-len-count-clause-sessions
returns-else-len-count-clause-sessions c gap keys live of =
    let limit : SFits w64 c.args.limit = c.ranges.limit in
    let m = c.args.list.now.panes in
    let left = ap map.entries (simp to_z-of_z at c.drop_expired.ensures.panes) ∙ entries_kept m (is_kept c.args.limit) in
    let as_many : length (map.entries m) ≤ length (filter (λ e. is_kept c.args.limit e.0) (map.entries m)) =
    let old = c.len-count.ensures ∙ len-entries m in let new = c.len.ensures ∙ len-entries c.drop_expired.new.self.panes ∙ ap length left in omega (arith, old, new, c.if-len-count.false) in
    subst (λ es. AreOfKeys gap keys live es c.args.sessions.now.items.items) (sym (left ∙ all_left (λ e. is_kept c.args.limit e.0) (map.entries m) as_many)) of
