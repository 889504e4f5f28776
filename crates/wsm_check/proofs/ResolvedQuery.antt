-- The expressions of a query as terms.
use Rattle.std.proofs.Common.{◌≡◌, ◌∙◌, List, [], ◌++◌, length, map, option_map, None, sym, ap, arith, length-append}
use Rattle.std.specs.List.{flat_map, list_all}
use Rattle.std.proofs.lemmas.Bool.{and_from}
use Rattle.std.proofs.lemmas.List.{length-map}
use Rattle.std.proofs.lemmas.List.Folds.{list_all-append}
use Rattle.std.proofs.lemmas.Grind.{flat_map-append}
use Rattle.wsm_query.specs.Tree.{Query}
use Rattle.wsm_check.specs.declared.refusal.Part.TheVariants as part
use Rattle.wsm_check.specs.declared.expressions.Fired.{Fired}
use Rattle.wsm_check.specs.declared.expressions.Expressions.{Expressions}
use Rattle.wsm_check.specs.declared.term.Term.{Term as Code}
use Rattle.wsm_check.specs.Types.{InWhere}
use Rattle.wsm_check.specs.Aggregates.{Acc, accumulators, accumulators_of, fired, in_option}
use Rattle.wsm_check.specs.Checks.{condition_refusal}
use Rattle.wsm_check.specs.Spelt.{numbers_fit}
use Rattle.wsm_check.specs.Terms.{resolved}
use Rattle.wsm_check.specs.Parts.{Folding, aggregates_of, column_type, columns_from, folding}
use Rattle.wsm_check.specs.Seen.{seen_folding, seen_term}
use Rattle.wsm_check.specs.Resolved.{AddsColumns, AreResolvedIfFew, ResolvesCondition, seen_foldings}
use Rattle.wsm_check.proofs.PassedChecks.{condition_plain, counted_all}
use Rattle.wsm_check.proofs.Resolving.{foldings_join}

folded : (q : Query) (xs : List Acc) (fs : List Folding) → fs ≡ map (folding q) xs → length fs ≡ length xs
folded q xs fs h = ap (λ (ys : List Folding). length ys) h ∙ length-map xs (folding q)

-- the condition on records, the columns and the condition on panes
pub all_resolved : (q : Query) (r : Expressions) (none : List Folding) (before f : Fired) → condition_refusal q InWhere part.Where q.condition ≡ None →
    ResolvesCondition q q.condition [] none (option_map seen_term r.condition) → AddsColumns q q.columns before f → ResolvesCondition q q.having (seen_foldings f) (seen_foldings r.fired) (option_map seen_term r.having) →
    before.types.items ≡ [] → before.columns.items ≡ [] → seen_foldings before ≡ [] → r.fired.types.items ≡ f.types.items → r.fired.columns.items ≡ f.columns.items →
    AreResolvedIfFew q r
all_resolved q r none before f passed tested shown had no_types no_columns no_foldings types columns =
    let first = flat_map accumulators_of q.columns in
    let second = flat_map accumulators_of (in_option q.having) in
    let both : length (accumulators q) ≡ length (first ++ second) = ap (λ (xs : List Acc). length xs) (flat_map-append accumulators_of q.columns (in_option q.having)) in
    let sum = length-append first second in
    let columns_fold : seen_foldings f ≡ map (folding q) first = shown.foldings ∙ ap (λ fs. fs ++ map (folding q) first) no_foldings in
    let all_fold : seen_foldings r.fired ≡ map (folding q) (first ++ second) = foldings_join q [] (seen_foldings f) (seen_foldings r.fired) first second columns_fold had.foldings in
    let counted = folded q first (seen_foldings f) columns_fold in
    let counted_both = folded q (first ++ second) (seen_foldings r.fired) all_fold in
    let before_having : length (seen_foldings f) ≡ aggregates_of q.columns = counted ∙ counted_all q.columns in
    let code = length-map r.fired.foldings.items seen_folding in
    record {
      count = omega (arith, code, counted_both, both, length-map (accumulators q) (folding q));
      terms = λ few. record {
        condition = tested.term (omega (arith, folded q (flat_map accumulators_of (in_option q.condition)) none tested.foldings, condition_plain q part.Where q.condition passed));
        types = types ∙ shown.types ∙ ap (λ ts. ts ++ map (column_type q) q.columns) no_types;
        foldings = all_fold ∙ ap (map (folding q)) (sym (flat_map-append accumulators_of q.columns (in_option q.having)));
        columns = ap (λ (ts : List Code). map seen_term ts) columns ∙ shown.columns (omega (arith, few, code, counted_both, sum, counted))
            ∙ ap (λ (ts : List Code). map seen_term ts ++ columns_from q (length (seen_foldings before)) q.columns) no_columns
            ∙ ap (λ (fs : List Folding). columns_from q (length fs) q.columns) no_foldings;
        having = had.term (omega (arith, few, code)) ∙ ap (λ n. option_map (resolved q n) q.having) before_having;
        spelt = list_all-append numbers_fit (in_option q.condition) (fired q)
            ∙ and_from (list_all numbers_fit (in_option q.condition)) (list_all numbers_fit (fired q)) tested.spelt
            (list_all-append numbers_fit q.columns (in_option q.having) ∙ and_from (list_all numbers_fit q.columns) (list_all numbers_fit (in_option q.having)) shown.spelt had.spelt);
      };
    }
