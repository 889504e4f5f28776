use Rattle.std.proofs.Common.{◌≡◌, ◌∙◌, ◌++◌, List, ℕ, [], length, ap}
use Rattle.wsm_semantics.specs.Lines.{Line}
use Rattle.wsm_semantics.specs.Text.{line_text}
use Rattle.wsm_turns.specs.Clocks.{count_in}
use Rattle.wsm_turns.specs.Turns.{at_end, fed_with}
use Rattle.wsm_part_programs.specs.Names.{of_names}
use Rattle.wsm_keyed_told.specs.KeyedLines.{events_text}
use Rattle.wsm_log_text.specs.LogText.{line_behind, line_of}
use Rattle.wsm_keyed_intake.specs.KeyedLog.{kept_by, last_line, names_of, said_by}
use Rattle.wsm_keyed_intake.proofs.Telling.{told_text}
use Rattle.wsm_keyed_intake.proofs.intake.KeyedIntake.end.Goals as goal

pub returns : goal.returns
returns c = λ g lines fits.
    let by = fits.by [] in
    let p = g.program in
    let d = p.header.schema in
    let all = names_of g lines in
    let said = said_by g all lines in
    let k = kept_by g all lines in
    let rest = events_text p all k.fed (at_end k) in
    let cleared = record c.args.self.now.told { lines = c.clear.new.self } in
    let tells = c.in_ok-take_rest.ensures g.clocks (count_in g.clocks (length all)) k by.holds.waiting p k.fed
    (record { lawful = by.holds.told.lawful; panes = by.holds.told.panes; parts = by.holds.told.parts; staying = by.holds.told.staying }) in
    let new = c.take_rest.new.taker in
    let names : new.names ≡ all = tells.names ∙ fits.reads.known in
    let numbers : line_of c.totals-totals.result ≡ last_line p all g.clocks said =
    c.totals-totals.ensures p (fed_with k.fed (at_end k)) said (record { lawful = tells.serves.lawful; panes = tells.serves.panes; parts = tells.serves.parts; staying = tells.serves.staying }) by.taken by.faults
    ∙ ap (λ (ns : List (List ℕ)). line_behind (of_names p ns) said (fed_with k.fed (at_end k))) names in
    record {
      text = c.in_ok-end_text.ensures d
          ∙ ap (λ (l : List ℕ). l ++ line_text d (line_of c.totals-totals.result)) (told_text p cleared new k.fed (at_end k) all by.holds.grows tells ∙ ap (λ (l : List ℕ). l ++ rest) c.clear.ensures.items)
          ∙ ap (λ (l : Line). rest ++ line_text d l) numbers;
      numbers = numbers;
      counts = c.counts-counts.ensures g lines fits;
    }
