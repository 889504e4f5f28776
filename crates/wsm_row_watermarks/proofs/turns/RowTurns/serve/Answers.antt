use Rattle.std.proofs.Common.{◌≡◌, ◌∙◌, ℕ, false, Bool, Option, Ok, SFits, rules, sym, ap, subst, w64}
use Rattle.std.proofs.lemmas.Int.{to_z-of_z}
use Rattle.std.specs.Prelude.{OnOk}
use Rattle.wsm_record.specs.Event.{Watermark, event_of}
use Rattle.wsm_row_watermarks.specs.Fits.{Goes, spoken_read}
use Rattle.wsm_row_watermarks.specs.Lines.{Said}
use Rattle.wsm_row_watermarks.specs.Turns.{RowTurn, is_left_out, marked, told_at, turn_at, turn_by_said}
use Rattle.wsm_row_watermarks.proofs.LinesTaken.{mark_stays, turn_of_record}
use Rattle.wsm_row_watermarks.proofs.turns.RowTurns.serve.Goals as goal

pub returns-in-Record : goal.returns-in-Record
returns-in-Record c = λ w s line is begins.
    let old = c.args.self.now in
    let x = spoken_read old in
    let n = old.counts.lines in
    let new = c.serve_record.new.self in
    let event = sym c.event.ensures ∙ ap event_of c.in-Record.is in
    let turn = turn_of_record w s n line x.identifier x.event _ _ _ event in
    subst (λ (said : Said). OnOk c.serve_record.result (Goes w old new (turn_by_said w s n line said) false (is_left_out w s said))) (sym is)
    (subst (λ (t : RowTurn). OnOk c.serve_record.result (Goes w old new t false (is_left_out w s (Ok x)))) (sym turn) (c.serve_record.ensures w s line begins))

pub returns-in-Watermark : goal.returns-in-Watermark
returns-in-Watermark c = λ w s line is begins.
    let old = c.args.self.now in
    let x = spoken_read old in
    let n = old.counts.lines in
    let new = c.serve_mark.new.self in
    let r = c.serve_mark.result in
    let source = c.in-Watermark.source in
    let time = c.in-Watermark.time in
    let e = Watermark source time in
    let event : x.event ≡ e = sym c.event.ensures ∙ ap event_of c.in-Watermark.is in
    let turn : turn_at w s n line x.identifier x.event ≡ marked w s n line e (told_at source time) = ap (turn_at w s n line x.identifier) event in
    let fits : SFits w64 time = search rules in
    let told : c.told_at-told.result ≡ told_at source time = c.told_at-told.ensures ∙ ap (told_at source) (to_z-of_z w64 time fits) in
    let by_told = subst (λ (o : Option ℕ). OnOk r (Goes w old new (marked w s n line e o) false false)) told (c.serve_mark.ensures w s line source time event begins) in
    let by_left = subst (λ (b : Bool). OnOk r (Goes w old new (marked w s n line e (told_at source time)) false b)) (sym (mark_stays w s x source time event)) by_told in
    subst (λ (said : Said). OnOk r (Goes w old new (turn_by_said w s n line said) false (is_left_out w s said))) (sym is)
    (subst (λ (t : RowTurn). OnOk r (Goes w old new t false (is_left_out w s (Ok x)))) (sym turn) by_left)
