-- Behind each column of an accepted query the verifier knows its range.
use Rattle.std.proofs.Common.{◌≡◌, ℕ, ◌+◌, ◌≤◌, true, List, [], ◌∷◌, ◌++◌, length, take, Some, refl, sym, ap, subst, ◌∙◌, arith, append_assoc, length-append, append-nil}
use Rattle.std.specs.List.{flat_map}
use Rattle.std.proofs.Math.Seq.{take-append_seam}
use Rattle.std.proofs.lemmas.Bool.{and_parts}
use Rattle.wsm_program.specs.declared.instr.Instr.{Instr}
use Rattle.wsm_program.specs.declared.program.Costs.{Costs}
use Rattle.wsm_query.specs.Tree.{Query, Expr}
use Rattle.wsm_record.specs.declared.words.CellType.{CellType}
use Rattle.wsm_check.specs.Types.{typed}
use Rattle.wsm_check.specs.declared.types.Around.TheVariants.{InColumn}
use Rattle.wsm_check.specs.Aggregates.{accumulators_of, aggregates, fired}
use Rattle.wsm_rules.specs.declared.known.Known.{Known}
use Rattle.wsm_rules.specs.Labels.{State, Ranges, Visit, Reached, label_of, label_at, visits, visited_next}
use Rattle.wsm_rules.specs.Rules.{Setting, entry, known_fields, known_accumulators, update_visits}
use Rattle.wsm_compiler.specs.Code.{code, size, need, columns_code}
use Rattle.wsm_compiler.specs.Ranges.{Range, range, fits}
use Rattle.wsm_check.specs.Parts.{aggregates_of, type_or_int}
use Rattle.wsm_compiler.specs.Program.{program_stating, program_of, stated, needed_of}
use Rattle.wsm_compiler.specs.Labelled.{known_as, ColumnLabels, LabelsAreRanges}
use Rattle.wsm_compiler.proofs.Visits.{extended, added, extended_is, visits_are}
use Rattle.wsm_compiler.proofs.Parts.{Comes, Labels, shorter, continued}
use Rattle.wsm_compiler.proofs.Tests.{with_known, pushed_on}
use Rattle.wsm_compiler.proofs.QueryTerms.{columns_size, columns_need}
use Rattle.wsm_compiler.proofs.Sizes.{length-code, sizes_are_lengths, some_code, some_columns, some_columns_size}
use Rattle.wsm_compiler.proofs.FoundRanges.{suits, known_of}
use Rattle.wsm_compiler.proofs.ExpressionRanges.{Reads, Accs, accs_left, accs_right, range_suits, found_here}
use Rattle.wsm_compiler.proofs.CodeLabels.{labelled}
use Rattle.wsm_compiler.proofs.KnownFields.{reads_fire}
use Rattle.wsm_compiler.proofs.Conditions.{in_condition, condition_fits, ColumnsTyped, columns_fit}
use Rattle.wsm_compiler.proofs.Folded.{all_values}
use Rattle.wsm_compiler.proofs.FireFaults.{firing, accs_known, accs_are}
use Rattle.wsm_compiler.proofs.Checked.{fine}
use Rattle.wsm_compiler.proofs.Accepted.{accs_of_all, fired_fit, all_fit}
use Rattle.wsm_compiler.proofs.Rooms.{first_room, rest_room}
use Rattle.wsm_check.proofs.PassedChecks.{length-accumulators_of}

known_is : (t : CellType) (r : Range) → suits t r ≡ true → fits r ≡ true → known_of t r ≡ Some (known_as t r)
known_is t r h l = grind arith

extended_append : (e : State) (r : Ranges) (vs : List Visit) (is js : List Instr) → extended e r vs (is ++ js) ≡ extended e r (extended e r vs is) js
extended_append e r vs [] js = refl
extended_append e r vs (i ∷ is) js = extended_append e r (visited_next e r i vs) is js

-- the visits of a section's first instructions
visits_front : (e : State) (r : Ranges) (is js : List Instr) (n : ℕ) → n ≡ length is → visits e r (take n (is ++ js)) ≡ extended e r [] is
visits_front e r is js n h = grind (arith, take-append_seam, visits_are, extended_is, append-nil, added)

module _ (q : Query) (b : Costs) (e : State) (c : Setting) (reads : Reads c q InColumn) where
  columns_labelled : (front : List Instr) (h k a : ℕ) (es : List Expr) (below : List Known) → length front ≡ k → ColumnsTyped q es → columns_fit q es ≡ true → Accs c q a (flat_map accumulators_of es ++ in_condition q.having) →
      length below + columns_need q h a es ≤ 32 → k + columns_size q h a es ≤ c.n → e.folded ≡ (entry (program_of q)).folded → e.fields ≡ known_fields 0 q.fields →
      Comes e (extended e c.ranges [] front) k (record e { stack = below }) (length (columns_code q h k a es)) →
      ColumnLabels q (label_at e c.ranges (front ++ columns_code q h k a es)) k a es below
  columns_labelled front h k a [] below lf hc fit accs room more flags fields comes = tt
  columns_labelled front h k a (x ∷ es) below lf hc fit accs room more flags fields comes =
      let s : State = record e { stack = below } in
      let t = hc.0.0 in
      let hx = hc.0.1 in
      let is = code q k a x in
      let j = k + size q a x in
      let a' = a + aggregates x in
      let rest = columns_code q h j a' es in
      let vs = extended e c.ranges [] front in
      let f = and_parts (fits (range q x)) (columns_fit q es) fit in
      let y = known_as (type_or_int (typed q InColumn x)) (range q x) in
      let whole : Accs c q a (accumulators_of x ++ (flat_map accumulators_of es ++ in_condition q.having)) =
      subst (λ xs. Accs c q a xs) (append_assoc (accumulators_of x) (flat_map accumulators_of es) (in_condition q.having)) accs in
      let here = accs_left c q a (accumulators_of x) (flat_map accumulators_of es ++ in_condition q.having) whole in
      let behind = accs_right c q a (aggregates x) (accumulators_of x) (flat_map accumulators_of es ++ in_condition q.having) (length-accumulators_of x) whole in
      let known' = found_here c q InColumn reads s.fields fields a x t hx (λ _. here) ∙ known_is t (range q x) (range_suits c q InColumn x t hx) f.0 ∙ ap (λ u. Some (known_as u (range q x))) (sym (ap type_or_int hx)) in
      let la = length-append is rest in
      let lc = length-code q k a x in
      let comes' : Comes e vs k s (length is + length rest) = subst (λ m. Comes e vs k s m) la comes in
      let first : Labels e c vs k is (Some (with_known y s)) =
      subst (λ o. Labels e c vs k is (pushed_on s o)) known'
      (labelled e c q InColumn reads k a x t s fields hx (λ _. here) (first_room (length below) (need q a x) _ room) (omega (arith, more, some_columns_size q h a' es)) vs (shorter e vs k s (length is) (length rest) comes')) in
      let next = continued e c vs k is (length rest) s (with_known y s) (some_code q k a x) (some_columns q h j a' es) comes' first in
      let lfc = length-append front is in
      let place : k + length is ≡ j = ap (λ n. k + n) lc in
      let there : j ≡ length (front ++ is) = omega (arith, lfc, lf, lc) in
      let grouped : front ++ (is ++ rest) ≡ (front ++ is) ++ rest = sym (append_assoc front is rest) in
      let seen = extended_append e c.ranges [] front is in
      let label : label_at e c.ranges (front ++ (is ++ rest)) j ≡ Reached (with_known y s) =
      ap (λ xs. label_at e c.ranges xs j) grouped
      ∙ ap (label_of e j) (visits_front e c.ranges (front ++ is) rest j there ∙ seen)
      ∙ ap (λ n. label_of e n (extended e c.ranges vs is)) (sym place)
      ∙ next.label in (
        label ∙ (λ i. Reached (record { stack = y ∷ below; folded = flags i; fields = fields i })),
        subst (λ xs. ColumnLabels q (label_at e c.ranges xs) j a' es (y ∷ below)) (sym grouped)
            (columns_labelled (front ++ is) h j a' es (y ∷ below) (sym there) hc.1 f.1 behind (rest_room (length below) (need q a x) _ room) (omega (arith, more)) flags fields
            (subst (λ n. Comes e (extended e c.ranges [] (front ++ is)) n (with_known y s) (length rest)) place (subst (λ ws. Comes e ws (k + length is) (with_known y s) (length rest)) (sym seen) next))),
      )

pub labels_are_ranges : (q : Query) → LabelsAreRanges q
labels_are_ranges q checked fit =
    let b = stated (needed_of q) q.budget in
    let p = program_stating q b in
    let f = fine q b checked in
    let parts = and_parts (condition_fits q q.condition) (columns_fit q (fired q)) (sym (all_fit q b) ∙ fit) in
    let columns = and_parts (columns_fit q q.columns) (condition_fits q q.having) (sym (fired_fit q b) ∙ parts.1) in
    let accs = accs_of_all q b (fired q) parts.1 in
    let l = (sizes_are_lengths q).2 in
    columns_labelled q b (entry p) (firing q b) (reads_fire q b (known_accumulators q.clock.records 0 p.header.kinds (update_visits p))) [] (aggregates_of q.columns) 0 0 q.columns [] refl f.columns columns.0
    (subst (λ xs. Accs (firing q b) q 0 xs) (accs_are q b) (accs_known q b f.accs accs (all_values q b f.accs f.update_need accs))) (omega (arith, f.fire_need)) (omega (arith, l)) refl refl
    (record { long = refl; label = refl; quiet = λ d u w. refl })
