-- Queries with the same lines for every input have the same runs.
use Rattle.std.proofs.Common.{◌≡◌, ◌∙◌, ℕ, List, Option, refl, ap, subst, inl, inr}
use Rattle.wsm_semantics.specs.Query.{Query}
use Rattle.wsm_semantics.specs.Lines.{Row, lines_so_far, end_line, all_lines}
use Rattle.wsm_semantics.specs.Text.{lines_text}
use Rattle.wsm_semantics.specs.declared.ending.Totals.{Totals}
use Rattle.wsm_csv.specs.Device.{TakesPart}
use Rattle.std.specs.Io.KnownBytes.{Appends}
use Rattle.wsm_query.specs.Tree as tree
use Rattle.wsm_machine.specs.Meaning.{query_of}
use Rattle.wsm_compiler.specs.Program.{program_of}
use Rattle.wsm_compiler.specs.Means.{meant}
use Rattle.wsm_inputs.specs.declared.end.End.{End}
use Rattle.wsm_inputs.specs.declared.end.End.TheVariants.{Refused, Rejected, Memory, ReadFailed, WriteFailed}
use Rattle.wsm_inputs.specs.Begun.{IsAcceptedQuery}
use Rattle.wsm_inputs.proofs.SameLines.{end_same_rows, so_far_same, text_lines}
use Rattle.wsm.specs.Written.{Cells, Completes, BreaksOff, EndsEarly, input_text, rows_of, turns_text}

-- queries with the same lines for every input
module _ (q m : Query) (declared : q.declared ≡ m.declared) (lines : (rows : List Row) → all_lines q rows ≡ all_lines m rows) where
  rows_same : (cells : List Cells) → rows_of q cells ≡ rows_of m cells
  rows_same cells = ap (λ d. rows_of (record q { declared = d }) cells) declared

  turns_same : (cells : List Cells) → turns_text q cells ≡ turns_text m cells
  unfolding turns_text
  turns_same cells = (λ i. lines_text (declared i) (so_far_same q m lines (rows_of q cells) i)) ∙ ap (λ rows. lines_text m.declared (lines_so_far m rows)) (rows_same cells)

  input_same : (cells : List Cells) → input_text q cells ≡ input_text m cells
  unfolding input_text
  input_same cells = (λ i. lines_text (declared i) (lines (rows_of q cells) i)) ∙ ap (λ rows. lines_text m.declared (all_lines m rows)) (rows_same cells)

  end_same : (cells : List Cells) → end_line q (rows_of q cells) ≡ end_line m (rows_of m cells)
  end_same cells =
      end_same_rows q m lines (rows_of q cells) ∙ ap (end_line m) (rows_same cells)

  Completes-same : (known : Option (List ℕ)) (cells : List Cells) (old new : Option (List ℕ)) (totals : Totals) → Completes known q cells old new totals → Completes known m cells old new totals
  Completes-same known cells old new totals h = record { all = h.all; text = subst (Appends old new) (input_same cells) h.text; numbers = h.numbers ∙ end_same cells }

  BreaksOff-same : (known : Option (List ℕ)) (cells : List Cells) (old new : Option (List ℕ)) → BreaksOff known q cells old new → BreaksOff known m cells old new
  BreaksOff-same known cells old new h = record { first = h.first; text = subst (Appends old new) (turns_same cells) h.text }

  EndsEarly-same : (known : Option (List ℕ)) (cells : List Cells) (old new : Option (List ℕ)) (end : End) → EndsEarly known q cells old new end → EndsEarly known m cells old new end
  EndsEarly-same known cells old new (Refused why) h = absurd h
  EndsEarly-same known cells old new (Rejected why) h = absurd h
  EndsEarly-same known cells old new Memory h = BreaksOff-same known cells old new h
  EndsEarly-same known cells old new ReadFailed h = BreaksOff-same known cells old new h
  EndsEarly-same known cells old new WriteFailed (inl h) = inl (record { first = h.first; part = subst (TakesPart old new) (turns_same cells) h.part })
  EndsEarly-same known cells old new WriteFailed (inr h) = inr (record { all = h.all; part = subst (TakesPart old new) (input_same cells) h.part })

pub text_completes : (text : List ℕ) (q : tree.Query) → IsAcceptedQuery text q → (known : Option (List ℕ)) (old new : Option (List ℕ)) (totals : Totals)
    → (cells : List Cells) × Completes known (query_of (program_of q)) cells old new totals → (cells : List Cells) × Completes known (meant q) cells old new totals
text_completes text q a known old new totals (cells, h) =
    (cells, Completes-same (query_of (program_of q)) (meant q) refl (text_lines text q a) known cells old new totals h)

pub text_ends_early : (text : List ℕ) (q : tree.Query) → IsAcceptedQuery text q → (known : Option (List ℕ)) (old new : Option (List ℕ)) (end : End)
    → (cells : List Cells) × EndsEarly known (query_of (program_of q)) cells old new end → (cells : List Cells) × EndsEarly known (meant q) cells old new end
text_ends_early text q a known old new end (cells, h) =
    (cells, EndsEarly-same (query_of (program_of q)) (meant q) refl (text_lines text q a) known cells old new end h)
