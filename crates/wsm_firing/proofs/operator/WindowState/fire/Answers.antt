use Rattle.std.proofs.Common.{◌≡◌, ℕ, ◌+◌, ◌<◌, ◌^◌, ◌++◌, length, max, sym, ap, subst, ◌∙◌, arith}
use Rattle.std.specs.Prelude.{IfSome, option_map}
use Rattle.std.specs.FinMap as map
use Rattle.std.specs.FinMap.Entries.{put}
use Rattle.wsm_record.specs.declared.words.Mode.{Mode}
use Rattle.wsm_record.specs.Modes.{retracts}
use Rattle.wsm_windows.specs.Places.{place_cmp}
use Rattle.wsm_program.specs.Program.{Program, Header}
use Rattle.wsm_program.specs.View.{header_of}
use Rattle.wsm_panes.specs.Held.{entries_of}
use Rattle.wsm_slots.specs.Panes.{once_fired}
use Rattle.wsm_firing.specs.Due.{row_written}
use Rattle.wsm_firing.specs.Streams.{Tells}
use Rattle.wsm_firing.proofs.StandingRows.{Panes, can_lose, can_gain, tells_fired}
use Rattle.wsm_firing.proofs.Walk.{some_same}
use Rattle.wsm_firing.proofs.operator.WindowState.fire.Goals as goal

pub lose_held-requires-clause-can : goal.lose_held-requires-clause-can
lose_held-requires-clause-can c = λ pane found.
    let held = c.args.self.now.held in
    can_lose c.args.due.spot.place pane (entries_of held) (map.entries_sorted held.panes) found c.args.self.now.streams c.requires.ready.tells

pub fire_at-requires-clause-wide : goal.fire_at-requires-clause-wide
fire_at-requires-clause-wide c = subst (λ (n : ℕ). IfSome c.args.ran.row (λ cells. length cells.now ≡ n)) (sym c.requires.ready.wide) c.requires.as_wide

pub fire_at-requires-clause-windows : goal.fire_at-requires-clause-windows
fire_at-requires-clause-windows c =
    let mode : c.header-header.result.now.mode ≡ c.args.verified.now.header.mode = ap (λ (h : Header). h.mode) (c.header-header.ensures.header ∙ ap (λ (p : Program). p.header) c.program.ensures.program) in
    c.requires.ready.windows ∙ ap (λ (m : Mode). retracts m) (sym mode)

pub gain-requires-clause-can : goal.gain-requires-clause-can
gain-requires-clause-can c =
    let held = c.args.self.now.held in let place = c.args.due.spot.place in
    let e = c.fire_at.ensures.panes in
    can_gain place e.0 (entries_of held) (map.entries_sorted held.panes) e.1 c.args.self.now.streams c.lose_held.new.self (c.lose_held.ensures.told e.0 e.1) c.lose_held.ensures.alike (option_map (λ cells. cells.now) c.args.ran.row) c.requires.ready.tells

pub count-requires-clause-fired : goal.count-requires-clause-fired
count-requires-clause-fired c = let e = c.fire_at.ensures.panes in (c.requires.can e.0 e.1).fired

pub count-requires-clause-steps : goal.count-requires-clause-steps
count-requires-clause-steps c =
    let e = c.fire_at.ensures.panes in
    subst (λ (n : ℕ). c.args.tally.now.steps_total + n < 2 ^ 64) (sym (c.requires.run e.0 e.1).steps) (c.requires.can e.0 e.1).steps

pub write-requires-clause-room : goal.write-requires-clause-room
write-requires-clause-room c =
    let e = c.fire_at.ensures.panes in
    omega (arith, (c.requires.can e.0 e.1).room)

pub returns : goal.returns
returns c = λ h found.
    let held = c.args.self.now.held in let place = c.args.due.spot.place in let p = c.args.verified.now in
    let header : header_of c.header-header.result.now ≡ p.header = c.header-header.ensures.header ∙ ap (λ (p : Program). p.header) c.program.ensures.program in
    let mode : c.header-header.result.now.mode ≡ p.header.mode = ap (λ (h : Header). h.mode) header in
    let form : c.header-header.result.now.form ≡ p.header.form = ap (λ (h : Header). h.form) header in
    let e = c.fire_at.ensures.panes in
    let was : e.0 ≡ h = some_same (sym e.1 ∙ found) in
    let ran = c.requires.run h found in
    record {
      panes = e.2 ∙ (λ i. put place_cmp place (once_fired (mode i) place (ran.row i) (was i)) (entries_of held));
      keeps = c.fire_at.ensures.keeps;
      tells =
          subst (λ (es : Panes). Tells c.args.self.now.streams c.gain.new.self (entries_of held) es) (sym e.2)
          (tells_fired place e.0 (entries_of held) (map.entries_sorted held.panes) e.1 c.args.self.now.streams c.lose_held.new.self (c.lose_held.ensures.told e.0 e.1) c.gain.new.self (once_fired c.header-header.result.now.mode place (option_map (λ cells. cells.now) c.args.ran.row) e.0) c.lose_held.ensures.alike c.gain.ensures.alike c.gain.ensures.told);
      rows = c.write.ensures.rows ∙ (λ i. c.args.self.now.rows.written ++ row_written (form i) c.args.due (ran.row i));
      room = c.write.ensures.room;
      tally = c.count.ensures ∙ ap (λ (n : ℕ). record { fired = c.args.tally.now.fired + 1; steps_max = max c.args.tally.now.steps_max n; steps_total = c.args.tally.now.steps_total + n }) ran.steps;
    }
