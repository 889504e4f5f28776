use Rattle.std.proofs.Common.{◌∙◌, ◌∷◌, ℕ, Option, false, sym, subst}
use Rattle.std.proofs.lemmas.Result.{on_ok_weaker}
use Rattle.std.specs.Prelude.{OnOk}
use Rattle.wsm_record.specs.Event.{Event, Watermark}
use Rattle.wsm_turns.proofs.Going.{on_ok_both}
use Rattle.wsm_row_watermarks.specs.Fits.{Goes}
use Rattle.wsm_row_watermarks.specs.Handed.{Serves}
use Rattle.wsm_row_watermarks.specs.Turns.{marked}
use Rattle.wsm_row_watermarks.proofs.Turning.{mark_goes}
use Rattle.wsm_row_watermarks.proofs.turns.RowTurns.serve_mark.Goals as goal

pub returns-in-None : goal.returns-in-None
returns-in-None c = λ w s line source time is begins.
    let old = c.args.self.now in
    let e = Watermark source time in
    let new = c.add_marked_line.new.self in
    let same = c.event.ensures ∙ is in
    subst (λ (o : Option ℕ). OnOk c.add_marked_line.result (Goes w old (record old { handed = new }) (marked w s old.counts.lines line e o) false false)) (sym c.in-None.is)
    (on_ok_weaker c.add_marked_line.result (λ both.
    mark_goes w s line old begins new e (subst (λ (y : Event). Serves w new (y ∷ s.kept.fed)) same both.0) both.1)
    (on_ok_both _ _ c.add_marked_line.result (c.add_marked_line.ensures.serves w s.kept.fed begins.holds.told) c.add_marked_line.ensures.text))

pub returns-in-Some : goal.returns-in-Some
returns-in-Some c = λ w s line source time is begins.
    let old = c.args.self.now in
    subst (λ (o : Option ℕ). OnOk c.serve_told.result (Goes w old c.serve_told.new.self (marked w s old.counts.lines line (Watermark source time) o) false false)) (sym c.in-Some.is)
    (c.serve_told.ensures w s line source time is begins)
