-- A turn of a row: what is kept behind it, and its lines by the names so far and by whichever come.
use Rattle.std.proofs.Common.{◌≡◌, ◌∙◌, ◌++◌, ◌∷◌, ℕ, true, List, [], Some, None, refl, sym, subst}
use Rattle.wsm_record.specs.Event.{Event, Record, Watermark}
use Rattle.wsm_semantics.specs.Lines.{Row, events, turn_lines}
use Rattle.wsm_csv.specs.Cells.{event_of_cells}
use Rattle.wsm_part_programs.specs.Names.{of_names}
use Rattle.wsm_part_engines.specs.State.{State}
use Rattle.wsm_part_engines.specs.Fits as parts
use Rattle.wsm_key_names.specs.Reading.{IsInBlock, by_names, is_named}
use Rattle.wsm.specs.Written.{Cells, rows_of}
use Rattle.wsm.proofs.Texts.{rows_of-more}
use Rattle.wsm_keyed_told.specs.KeyedLines.{keyed_lines}
use Rattle.wsm_keyed_run.specs.declared.turns.KeyedTurns.{KeyedTurns}
use Rattle.wsm_keyed_run.specs.Keyed.{Keyed, names_of, query_behind}
use Rattle.wsm_keyed_run.specs.Turns.{Adds, Counts, Fits, HasName, Reads, Ready, Turned}
use Rattle.wsm_keyed_run.proofs.Coming.{names_behind, rows_stay}
use Rattle.wsm_keyed_told.proofs.More.{fits_more}
use Rattle.wsm_keyed_run.proofs.Steps.{text_more}

-- ---- places and names of one crate, as another says them

pub placed : (block : ℕ) (e : Event) → IsInBlock block e → parts.IsPlaced block e
placed block (Record None t vs) h = tt
placed block (Record (Some n) t vs) h = h
placed block (Watermark s t) h = tt

pub named : (names : List (List ℕ)) (e : Event) → is_named names e ≡ true → parts.is_named names e ≡ true
named names (Record None t vs) h = refl
named names (Record (Some n) t vs) h = h
named names (Watermark s t) h = refl

-- ---- one row more

module _ (k : Keyed) (cells : List Cells) (c : Cells) where
  abbrev before : List Row
  before = rows_of (query_behind k cells) cells

  -- a row was read, by the names that are known with it
  pub ready : (old mid : KeyedTurns) (row : Row) → Fits k old cells → Reads k mid.events (cells ++ c ∷ []) → mid.parts ≡ old.parts → mid.faults ≡ old.faults
      → HasName mid.events.names row → Ready k.program mid before row
  ready old mid row fits reads same faults has =
      let grows = names_behind k cells (c ∷ []) in
      let all : mid.events.names ≡ names_of k cells ++ grows.0 = reads.names ∙ grows.1 in
      let now : parts.Fits k.program (names_of k cells) old.parts (events before) = subst (λ (ns : List (List ℕ)). parts.Fits k.program ns old.parts (events before)) fits.reads.names fits.counts.parts in
      record {
        counts = record {
          lawful = fits.counts.lawful;
          panes = fits.counts.panes;
          parts = subst (λ (ns : List (List ℕ)). parts.Fits k.program ns mid.parts (events before)) (sym all)
              (subst (λ (s : State). parts.Fits k.program (names_of k cells ++ grows.0) s (events before)) (sym same) (fits_more (names_of k cells) grows.0 k.program old.parts (events before) now));
          faults = faults ∙ fits.counts.faults;
        };
        named = has;
      }

  -- its turn was taken, behind no lines
  pub turned : (mid new : KeyedTurns) (row : Row) → Reads k mid.events (cells ++ c ∷ []) → event_of_cells (by_names (names_of k (cells ++ c ∷ [])) k.program.header.schema) c ≡ row
      → mid.lines.items ≡ [] → Adds k.program mid new before row → Turned k new cells c
  turned mid new row reads said none adds =
      let all = names_of k (cells ++ c ∷ []) in
      let is : rows_of (query_behind k (cells ++ c ∷ [])) (cells ++ c ∷ []) ≡ row ∷ before =
      rows_of-more (query_behind k (cells ++ c ∷ [])) cells c ∙ (λ i. said i ∷ rows_stay k cells (c ∷ []) i) in
      record {
        fits = record {
          reads = subst (λ r. Reads k r (cells ++ c ∷ [])) (sym adds.events) reads;
          counts = subst (Counts k.program new) (sym is) adds.counts;
        };
        lines = text_more k cells c new.lines.items
            (λ more. adds.lines more
            ∙ (λ i. none i ++ keyed_lines k.program.header.schema (reads.names i ++ more) (turn_lines (of_names k.program (reads.names i ++ more)) before (sym said i))));
      }
