use Rattle.std.proofs.Common.{◌≡◌, ◌∙◌, ◌++◌, ◌+◌, max, [], ◌∷◌, map, refl, sym, ap, subst}
use Rattle.std.proofs.lemmas.Result.{on_ok_weaker}
use Rattle.wsm_record.specs.Event.{event_of}
use Rattle.wsm_watermarks.specs.Agreement.{mark_after}
use Rattle.wsm_watermarks.specs.Held.{Went, is_near, last_mark, left, let_go, mark_item, went_on}
use Rattle.wsm_turns.specs.Numbered.{Numbered, timed}
use Rattle.wsm_turns.specs.Turns.{numbered}
use Rattle.wsm_turns.specs.Waits.{Hears}
use Rattle.wsm_turns.specs.declared.waiting.Waiting.{Waiting}
use Rattle.wsm_turns.proofs.Going.{on_ok_both, parts, took_on, went_parts}
use Rattle.wsm_turns.proofs.waiting.Waiting.take.Goals as goal

pub returns : goal.returns
returns g c = λ by count k hears clock few.
    let w = c.args.self.now in
    let marks = c.tell.new.self in
    let stamp = c.args.stamp in
    let number = c.args.number in
    let row = timed stamp.time number (event_of c.args.event.now) in
    let top = c.mark-top.result in
    let last = c.in_ok-last.last in
    let held = c.let_go.new.held in
    let gone = let_go marks.rule w.ahead marks.mark w.told w.held.rows in
    let fits = c.tell.ensures.fits k.stamps hears.fits in
    let rule : by.rule ≡ marks.rule = sym (c.tell.ensures.rule ∙ hears.by) in
    let agreed : mark_after by.rule (stamp ∷ k.stamps) ≡ marks.mark = ap (λ r. mark_after r (stamp ∷ k.stamps)) rule ∙ sym fits.mark in
    let same : went_on by.rule by.ahead by.room (record { out = []; mark = k.told; held = k.waits }) (row, mark_after by.rule (stamp ∷ k.stamps))
    ≡ went_on marks.rule w.ahead w.held.room (record { out = []; mark = w.told; held = w.held.rows }) (row, marks.mark)
    = λ i. went_on (rule i) (sym hears.ahead i) (sym hears.room i) (record { out = []; mark = sym hears.last i; held = sym hears.rows i }) (row, agreed i) in
    let risen : marks.mark ≡ top = sym c.mark-top.ensures in
    let told : last_mark w.told gone ≡ last = sym c.in_ok-last.ensures.mark in
    let greatest : max (last_mark w.told gone) marks.mark ≡ c.max-self.result = (λ i. max (told i) (risen i)) ∙ sym c.max-self.ensures in
    let now : parts (is_near (marks.mark + w.ahead) row) w.held.room row (left (marks.mark + w.ahead) w.held.rows) (gone ++ mark_item (last_mark w.told gone) marks.mark) (max (last_mark w.told gone) marks.mark)
    ≡ parts (is_near (top + w.ahead) row) held.room row held.rows (gone ++ mark_item last top) c.max-self.result
    = λ i. parts (is_near (risen i + w.ahead) row) (sym c.in_ok-last.ensures.room i) row (sym c.in_ok-last.ensures.rows i) (gone ++ mark_item (told i) (risen i)) (greatest i) in
    let whole = same ∙ went_parts marks.rule w.ahead w.held.room w.told w.held.rows row marks.mark ∙ now in
    let Took = g.T.Taker.took c.args.taker.now c.hand_on.new.taker in
    let new : Waiting = record { marks = marks; held = c.hand_on.new.held; ahead = w.ahead; told = c.max-self.result } in
    on_ok_weaker c.hand_on.result (λ both.
    let done = subst (λ (v : Went Numbered). Hears by count new (stamp ∷ k.stamps) v.mark v.held × Took (map (numbered number) v.out)) (sym whole) (
      record {
        by = c.tell.ensures.rule ∙ hears.by;
        clocks = c.tell.ensures.clocks ∙ hears.clocks;
        fits = record { table = fits.table; mark = fits.mark };
        ahead = hears.ahead;
        room = c.hand_on.ensures.room ∙ c.in_ok-last.ensures.room ∙ hears.room;
        last = refl;
        rows = both.0;
      },
      took_on g.T.Taker.took g.met.T.Taker.join c.args.taker.now c.let_go.new.taker c.hand_mark.new.taker c.hand_on.new.taker number gone (mark_item last top) _ c.in_ok-last.ensures.took c.in_ok-hand_mark.ensures both.1,
    ) in
    record { hears = done.0; took = done.1 })
    (on_ok_both _ _ c.hand_on.result c.hand_on.ensures.rows c.hand_on.ensures.took)
