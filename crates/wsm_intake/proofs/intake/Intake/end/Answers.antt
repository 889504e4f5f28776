use Rattle.std.proofs.Common.{◌≡◌, ◌∙◌, ◌++◌, List, ℕ, length, ap}
use Rattle.wsm_semantics.specs.Lines.{Line}
use Rattle.wsm_semantics.specs.Text.{line_text}
use Rattle.wsm_machine.specs.Meaning.{query_of}
use Rattle.wsm_turns.specs.Clocks.{count_in}
use Rattle.wsm_turns.specs.Turns.{at_end, fed_with, kept}
use Rattle.wsm_log_text.specs.LogText.{end_line, events_text, said, line_of}
use Rattle.wsm_intake.specs.Turns.{setting_by}
use Rattle.wsm_intake.proofs.intake.Intake.end.Goals as goal

pub returns : goal.returns
returns c = λ s clocks p lines fits.
    let d = p.header.schema in
    let all = said s clocks d lines in
    let k = kept (setting_by clocks p) all in
    let rest = events_text (query_of p) k.fed (at_end k) in
    let told = c.in_ok-take_rest.ensures clocks (count_in clocks (length d.keys)) k fits.holds.waiting p k.fed (record { program = fits.holds.told.program; fits = fits.holds.told.fits; staying = fits.holds.told.staying }) in
    let numbers : line_of c.totals-totals.result ≡ end_line (query_of p) clocks all =
    c.totals-totals.ensures p (fed_with k.fed (at_end k)) all (record { program = told.serves.program; fits = told.serves.fits; staying = told.serves.staying }) fits.taken fits.faults in
    record {
      text = c.in_ok-end_text.ensures d
          ∙ ap (λ (l : List ℕ). l ++ line_text d (line_of c.totals-totals.result)) (told.text ∙ ap (λ (l : List ℕ). l ++ rest) c.clear.ensures.items)
          ∙ ap (λ (l : Line). rest ++ line_text d l) numbers;
      numbers = numbers;
      counts = c.counts-counts.ensures s clocks p lines fits;
    }
