use Rattle.std.proofs.Common.{◌≡◌, ◌-◌, ◌∙◌, ap, get_or, sym, SFits, w64, to_z-of_z}
use Rattle.std.proofs.lemmas.Option.{get_or_from_slice_get}
use Rattle.std.specs.Prelude.{int_le}
use Rattle.wsm_windows.specs.declared.window.Window.{Window}
use Rattle.wsm_sessions.proofs.Ended.{ended_before}
use Rattle.wsm_sessions.proofs.linking.is_ended_at.Goals as goal

pub returns-else-place-eq0 : goal.returns-else-place-eq0
returns-else-place-eq0 c =
    let fits : SFits w64 c.args.time = c.ranges.time in
    let ws = c.args.windows.now.items in
    let w = c.get.result in
    let read : get_or ws (c.args.place - 1) w ≡ w = get_or_from_slice_get ws (c.args.place - 1) w w c.get.ensures in
    simp to_z-of_z at c.ends_by.ensures ∙ ap (λ (v : Window). int_le v.end c.args.time) (sym read) ∙ ended_before c.args.time ws c.args.place w c.if-place-eq0.false c.requires
