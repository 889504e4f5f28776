use Rattle.std.proofs.Common.{◌∙◌, ◌++◌, SFits, length, rules, sym, subst, w64}
use Rattle.std.proofs.lemmas.Int.{to_z-of_z}
use Rattle.wsm_admission.specs.Clock.{source_mark}
use Rattle.wsm_turns.specs.Turns.{at_end}
use Rattle.wsm_row_watermarks.specs.declared.handed.Handed.{Handed}
use Rattle.wsm_row_watermarks.specs.Fits.{read_by}
use Rattle.wsm_row_watermarks.specs.Handed.{Serves}
use Rattle.wsm_row_watermarks.specs.Turns.{events_text, gone, last_row, state_of}
use Rattle.wsm_row_watermarks.proofs.turns.RowTurns.end.Goals as goal

pub returns : goal.returns
returns c = λ w once lines fits.
    let old = c.args.self.now in
    let k = (state_of w (read_by w once lines)).kept in
    let begun = c.begin.new.self in
    let told = fits.holds.told in
    let serves : Serves w begun k.fed = subst (λ (t : Handed). Serves w t k.fed) (sym c.begin.ensures.others) (record { declared = told.declared; shape = told.shape; marks = told.marks; latest = told.latest }) in
    let tells = c.in_ok-take_rest.ensures (state_of w (read_by w once lines)).clocks (length w.declared.keys) k fits.holds.waiting w k.fed serves in
    let first = source_mark w.clock 0 (gone w (read_by w once lines)) in
    let past = gone w (read_by w once lines) in
    let behind = subst (λ (t : Handed). Serves w t past) (sym c.in_ok-add_last.ensures.others)
    (record { declared = tells.serves.declared; shape = tells.serves.shape; marks = tells.serves.marks; latest = tells.serves.latest }) in
    let late = c.late.ensures w past behind in
    let latest = c.latest.ensures w past behind in
    let whole : SFits w64 c.mark.result = search rules in
    let mark = to_z-of_z w64 c.mark.result whole ∙ c.mark.ensures w past behind in
    let heard = c.clocks_heard.ensures (state_of w (read_by w once lines)).clocks (length w.declared.keys) k fits.holds.waiting in
    record {
      text = c.in_ok-add_last.ensures.text
          ∙ (λ i. tells.text i ++ last_row (tells.serves.declared i) c.args.last (tells.serves.marks.first i))
          ∙ (λ i. (c.begin.ensures.text i ++ events_text w.declared (c.begin.ensures.number i) (c.begin.ensures.line i) (at_end k)) ++ last_row w.declared c.args.last first);
      totals = λ i. record { counts = fits.counts i; late = late i; latest = latest i; mark = mark i; heard = heard i };
    }
