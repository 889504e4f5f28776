use Rattle.std.proofs.Common.{◌∙◌, ◌++◌, ◌∷◌, ℕ, List, Err, length, refl, sym, ap}
use Rattle.std.proofs.lemmas.Result.{on_ok_weaker}
use Rattle.wsm_admission.proofs.FittedHistory.{counted}
use Rattle.wsm_semantics.specs.Lines.{Faulty, fault_count}
use Rattle.wsm_semantics.specs.Text.{line_text}
use Rattle.wsm.proofs.RowTurns.{one_more}
use Rattle.wsm_csv.proofs.TurnLines.{one_line}
use Rattle.wsm_keyed_run.specs.Turns.{Counts}
use Rattle.wsm_keyed_run.proofs.turns.KeyedTurns.refuse.Goals as goal

pub returns-clause-adds : goal.returns-clause-adds
returns-clause-adds c = λ p before ready.
    let old = c.args.self.now in
    let why = c.args.why in
    let counts = ready.counts in
    let next : Counts p (record old { faults = c.saturating_add-self.result }) (Err why ∷ before) = record {
      lawful = counts.lawful;
      panes = counts.panes;
      parts = counts.parts;
      faults = c.saturating_add-self.ensures ∙ counted old.faults (fault_count before) counts.faults;
    } in
    on_ok_weaker c.fault_text.result (λ told. record {
      counts = record { lawful = next.lawful; panes = next.panes; parts = next.parts; faults = next.faults };
      events = refl;
      lines = λ more. told
          ∙ ap (λ (n : ℕ). old.lines.items ++ line_text p.header.schema (Faulty n why)) (c.row_count.ensures p (Err why ∷ before) next ∙ one_more (length before))
          ∙ ap (λ (l : List ℕ). old.lines.items ++ l) (sym (one_line p.header.schema (Faulty _ why)));
    }) (c.fault_text.ensures p.header.schema)
