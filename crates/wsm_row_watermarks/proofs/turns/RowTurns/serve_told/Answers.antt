use Rattle.std.proofs.Common.{◌∙◌, ◌∷◌, length, map, subst}
use Rattle.std.proofs.lemmas.Result.{on_ok_weaker}
use Rattle.wsm_record.specs.Event.{Event, Watermark}
use Rattle.wsm_turns.specs.Noted.{noted_by}
use Rattle.wsm_turns.specs.Turns.{fed_with, numbered}
use Rattle.wsm_turns.proofs.Going.{on_ok_both}
use Rattle.wsm_row_watermarks.specs.Handed.{Serves}
use Rattle.wsm_row_watermarks.proofs.Turning.{mark_tells}
use Rattle.wsm_row_watermarks.proofs.turns.RowTurns.serve_told.Goals as goal

pub returns : goal.returns
returns c = λ w s line source time is begins.
    let old = c.args.self.now in
    let k = s.kept in
    let n = old.counts.lines in
    let e = Watermark source time in
    let mark = c.args.mark in
    let mid = c.take_mark.new.taker in
    let new = c.add_marked_line.new.self in
    let same = c.event.ensures ∙ is in
    let notes = c.in_ok-take_mark.ensures s.clocks (length w.declared.keys) k begins.holds.waiting in
    let past = fed_with k.fed (map (numbered n) (noted_by s.clocks k mark).out) in
    let serves : Serves w mid past = (notes.took w k.fed begins.holds.told).serves in
    on_ok_weaker c.add_marked_line.result (λ both.
    mark_tells w s line old begins mid new c.take_mark.new.waiting e mark notes (subst (λ (y : Event). Serves w new (y ∷ past)) same both.0) both.1)
    (on_ok_both _ _ c.add_marked_line.result (c.add_marked_line.ensures.serves w past serves) c.add_marked_line.ensures.text)
