-- A turn of a row, by what the row says.
use Rattle.std.proofs.Common.{◌≡◌, ◌∙◌, ◌+◌, ◌++◌, ℕ, suc, List, [], ◌∷◌, length, Ok, Err, refl, ap, arith}
use Rattle.wsm_admission.specs.Admission.{counter}
use Rattle.wsm_semantics.specs.Lines.{Row, events, fault_count, turn_lines}
use Rattle.wsm_semantics.specs.Text.{lines_text}
use Rattle.wsm_program.specs.Program.{Program}
use Rattle.wsm_machine.specs.Meaning.{query_of}
use Rattle.wsm.specs.declared.turns.Turns.{Turns}
use Rattle.wsm.specs.Turns.{Adds, Turned}

-- the number of the next row
pub one_more : (k : ℕ) → counter (suc k) ≡ counter (k + 1)
one_more k = omega arith

-- each row is an event or a fault
events_and_faults : (rows : List Row) → length (events rows) + fault_count rows ≡ length rows
events_and_faults [] = refl
events_and_faults (Ok e ∷ rows) = let h = events_and_faults rows in omega arith
events_and_faults (Err fault ∷ rows) = let h = events_and_faults rows in omega arith

-- so the rows are counted by counting these
pub rows_counted : (rows : List Row) (fed faults : ℕ) → fed ≡ counter (length (events rows)) → faults ≡ counter (fault_count rows) → counter (fed + faults) ≡ counter (length rows)
rows_counted rows fed faults h k = let all = events_and_faults rows in omega arith

-- a turn whose lines stand behind none
pub turned : (p : Program) (mid new : Turns) (before : List Row) (row : Row) → mid.lines.items ≡ [] → Adds p mid new before row → Turned p new before row
turned p mid new before row none adds = record {
  fits = adds.fits;
  lines = adds.lines ∙ ap (λ (l : List ℕ). l ++ lines_text p.header.schema (turn_lines (query_of p) before row)) none;
}
