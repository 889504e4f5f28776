use Rattle.std.proofs.Common.{◌≡◌, ◌∙◌, ◌+◌, ℕ, max, map, Some, sym, ap, subst}
use Rattle.wsm_watermarks.specs.declared.rule.Rule.{Rule}
use Rattle.wsm_watermarks.specs.Agreement.{mark_after}
use Rattle.wsm_watermarks.specs.Held.{Went, last_mark, left, let_go}
use Rattle.wsm_turns.specs.Numbered.{Numbered}
use Rattle.wsm_turns.specs.Turns.{numbered}
use Rattle.wsm_turns.specs.Waits.{Hears}
use Rattle.wsm_turns.specs.Noted.{noted_by, raised}
use Rattle.wsm_turns.specs.declared.waiting.Waiting.{Waiting}
use Rattle.wsm_turns.proofs.waiting.Waiting.note.Goals as goal

pub returns : goal.returns
returns g c = λ by count k hears.
    let w = c.args.self.now in
    let marks = c.note.new.self in
    let mark = c.args.mark in
    let to = raised mark by in
    let gone = let_go marks.rule 0 marks.mark w.told w.held.rows in
    let fits = c.note.ensures.fits k.stamps hears.fits in
    let rule : to.rule ≡ marks.rule = sym (c.note.ensures.rule ∙ ap (λ (r : Rule). record r { start = max r.start mark }) hears.by) in
    let agreed : mark_after to.rule k.stamps ≡ marks.mark = ap (λ (r : Rule). mark_after r k.stamps) rule ∙ sym fits.mark in
    let same : noted_by (Some by) k mark ≡ record { out = gone; mark = max (last_mark w.told gone) mark; held = left (marks.mark + 0) w.held.rows }
    = λ i. record {
      out = let_go (rule i) 0 (agreed i) (sym hears.last i) (sym hears.rows i);
      mark = max (last_mark (sym hears.last i) (let_go (rule i) 0 (agreed i) (sym hears.last i) (sym hears.rows i))) mark;
      held = left (agreed i + 0) (sym hears.rows i);
    } in
    let Took = g.T.Taker.took c.args.taker.now c.let_go.new.taker in
    let new : Waiting = record { marks = marks; held = c.let_go.new.held; ahead = w.ahead; told = c.max-self.result } in
    let done = subst (λ (v : Went Numbered). Hears to count new k.stamps v.mark v.held × Took (map (numbered c.args.number) v.out)) (sym same) (
      record {
        by = sym rule;
        clocks = c.note.ensures.clocks ∙ hears.clocks;
        fits = record { table = fits.table; mark = fits.mark };
        ahead = hears.ahead;
        room = c.in_ok-last.ensures.room ∙ hears.room;
        last = c.max-self.ensures ∙ ap (λ (m : ℕ). max m mark) c.in_ok-last.ensures.mark;
        rows = c.in_ok-last.ensures.rows;
      },
      c.in_ok-last.ensures.took,
    ) in
    record { hears = done.0; took = done.1 }
