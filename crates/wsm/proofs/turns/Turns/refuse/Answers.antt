use Rattle.std.proofs.Common.{◌∙◌, ◌++◌, ◌∷◌, ℕ, Err, length, sym, ap}
use Rattle.wsm_admission.proofs.FittedHistory.{counted}
use Rattle.wsm_semantics.specs.Lines.{Faulty, fault_count}
use Rattle.wsm_semantics.specs.Text.{line_text}
use Rattle.wsm.specs.Turns.{Fits}
use Rattle.wsm.proofs.RowTurns.{one_more}
use Rattle.wsm_csv.proofs.TurnLines.{one_line}
use Rattle.wsm.proofs.turns.Turns.refuse.Goals as goal

pub returns : goal.returns
returns c = λ p before fits.
    let old = c.args.self.now in
    let why = c.args.why in
    let next : Fits p (record old { faults = c.saturating_add-self.result }) (Err why ∷ before) = record { engine = fits.engine; faults = c.saturating_add-self.ensures ∙ counted old.faults (fault_count before) fits.faults } in
    record {
      fits = record { engine = next.engine; faults = next.faults };
      lines = c.in_ok-fault_text.ensures p.header.schema
          ∙ ap (λ (n : ℕ). old.lines.items ++ line_text p.header.schema (Faulty n why)) (c.row_count.ensures p (Err why ∷ before) next ∙ one_more (length before))
          ∙ ap (λ l. old.lines.items ++ l) (sym (one_line p.header.schema (Faulty _ why)));
    }
