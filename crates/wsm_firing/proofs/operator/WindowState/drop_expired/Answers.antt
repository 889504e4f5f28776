use Rattle.std.proofs.Common.{◌≡◌, ◌∙◌, ℤ, sym, subst, SFits, w64, to_z-of_z, rules}
use Rattle.std.specs.Prelude.{int_lt}
use Rattle.wsm_windows.specs.declared.window.Window.{Window}
use Rattle.wsm_windows.specs.Life.{is_live}
use Rattle.wsm_windows.specs.Windows.{IsPlaced}
use Rattle.wsm_panes.specs.Held.{entries_of}
use Rattle.wsm_firing.specs.Streams.{IsTold, standing_rows}
use Rattle.wsm_firing.proofs.StandingRows.{Panes}
use Rattle.wsm_firing.proofs.Past.{live_left}
use Rattle.wsm_firing.proofs.operator.WindowState.drop_expired.Goals as goal

pub returns-clause-panes : goal.returns-clause-panes
returns-clause-panes c =
    let mark : SFits w64 c.args.mark = c.ranges.mark in
    let lateness : SFits w64 c.args.lateness = c.ranges.lateness in
    let limit : ℤ = c.last_expired-limit.result in
    let fits : SFits w64 limit = search rules in
    let live : (w : Window) → IsPlaced w → int_lt limit w.end ≡ is_live w c.args.lateness c.args.mark = simp to_z-of_z at c.last_expired-limit.ensures.live in
    (simp to_z-of_z at c.drop_expired.ensures.panes) ∙ live_left limit c.args.lateness c.args.mark live (entries_of c.args.self.now.held) c.requires.placed

pub returns-clause-told : goal.returns-clause-told
returns-clause-told c = λ relation told.
    let fits : SFits w64 c.last_expired-limit.result = search rules in
    subst (λ (es : Panes). IsTold c.lose_expired.new.streams relation (standing_rows es)) (sym c.drop_expired.ensures.panes) (c.lose_expired.ensures.told relation told)
