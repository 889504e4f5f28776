-- Queries with the same lines for every input have the same lines of each turn, and the same last line.
use Rattle.std.proofs.Common.{◌≡◌, ◌∙◌, ◌++◌, ◌∷◌, ℕ, List, [], length, take, sym, ap, arith, length-append}
use Rattle.std.proofs.Math.Seq.{take-append_seam}
use Rattle.std.proofs.lemmas.List.{append_cancel_left}
use Rattle.wsm_semantics.specs.Query.{Query}
use Rattle.wsm_semantics.specs.Lines.{Row, lines_so_far, end_line, all_lines}
use Rattle.wsm_query.specs.Tree as tree
use Rattle.wsm_machine.specs.Meaning.{query_of}
use Rattle.wsm_compiler.specs.Program.{program_of}
use Rattle.wsm_compiler.specs.Means.{meant}
use Rattle.wsm_compiler.proofs.SameLines.{same_lines}
use Rattle.wsm_compiler.proofs.Texts.{parsed_is_spelt}
use Rattle.wsm_inputs.specs.Begun.{IsAcceptedQuery}
use Rattle.wsm_inputs.proofs.Judgements.{judged_ok}

-- lists with the same last element added are the same, and so is the element
same_length : {A : Type 0} (xs ys : List A) (x y : A) → xs ++ x ∷ [] ≡ ys ++ y ∷ [] → length xs ≡ length ys
same_length xs ys x y e = omega (arith, simp length-append at (ap length e))

same_front : {A : Type 0} (xs ys : List A) (x y : A) → xs ++ x ∷ [] ≡ ys ++ y ∷ [] → xs ≡ ys
same_front xs ys x y e = sym (take-append_seam xs (x ∷ [])) ∙ (λ i. take (same_length xs ys x y e i) (e i)) ∙ take-append_seam ys (y ∷ [])

same_last : {A : Type 0} (xs ys : List A) (x y : A) → xs ++ x ∷ [] ≡ ys ++ y ∷ [] → x ≡ y
same_last xs ys x y e =
    let one : x ∷ [] ≡ y ∷ [] = append_cancel_left ys (x ∷ []) (y ∷ []) (ap (λ zs. zs ++ x ∷ []) (sym (same_front xs ys x y e)) ∙ e) in
    cc

-- queries with the same lines for every input
module _ (q m : Query) (lines : (rows : List Row) → all_lines q rows ≡ all_lines m rows) where
  pub so_far_same : (rows : List Row) → lines_so_far q rows ≡ lines_so_far m rows
  so_far_same rows = same_front (lines_so_far q rows) (lines_so_far m rows) (end_line q rows) (end_line m rows) (lines rows)

  pub end_same_rows : (rows : List Row) → end_line q rows ≡ end_line m rows
  end_same_rows rows = same_last (lines_so_far q rows) (lines_so_far m rows) (end_line q rows) (end_line m rows) (lines rows)

-- the program of a text's query has the lines that the text means
pub text_lines : (text : List ℕ) (q : tree.Query) → IsAcceptedQuery text q → (rows : List Row) → all_lines (query_of (program_of q)) rows ≡ all_lines (meant q) rows
text_lines text q a =
    let (read, checked) = judged_ok text q a.judged in
    same_lines q (record { checked = checked; spelt = parsed_is_spelt text q read; accepted = a.accepted })
