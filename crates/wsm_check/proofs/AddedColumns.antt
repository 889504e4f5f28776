-- A condition or a column, and the columns behind it.
use Rattle.std.proofs.Common.{◌≡◌, ◌∙◌, ◌+◌, ◌-◌, ◌≤◌, ℕ, suc, true, List, [], ◌∷◌, ◌++◌, length, map, take, drop, get_or, nat_lt, Option, Some, None, Result, Ok, Err, append_assoc, append-nil, add-one, refl, sym, ap, ap₂, subst, arith, length-append}
use Rattle.std.specs.Prelude.{OnOk}
use Rattle.std.specs.List.{flat_map, list_all}
use Rattle.std.proofs.lemmas.Bool.{and_from}
use Rattle.std.proofs.lemmas.Grind.{common_steps}
use Rattle.std.proofs.lemmas.List.{map-append}
use Rattle.wsm_record.specs.declared.words.CellType.{CellType}
use Rattle.wsm_record.specs.declared.words.CellType.TheVariants as types
use Rattle.wsm_query.specs.declared.expr.Expr.{Expr as CodeExpr}
use Rattle.wsm_query.specs.Tree.{Query, Expr}
use Rattle.wsm_query.specs.Seen.{seen_expr}
use Rattle.wsm_check.specs.declared.refusal.CheckRefusal.{CheckRefusal}
use Rattle.wsm_check.specs.declared.refusal.CheckFault.TheVariants.{Limit}
use Rattle.wsm_check.specs.declared.refusal.Part.{Part}
use Rattle.wsm_check.specs.declared.refusal.Part.TheVariants as part
use Rattle.wsm_check.specs.declared.expressions.Fired.{Fired}
use Rattle.wsm_check.specs.declared.term.Term.{Term as Code}
use Rattle.wsm_check.specs.Types.{Around, InColumn, typed}
use Rattle.wsm_check.specs.Aggregates.{accumulators_of}
use Rattle.wsm_check.specs.Checks.{Judges, or_else, unless, typed_refusal, condition_refusal, columns_refusal}
use Rattle.wsm_check.specs.Spelt.{numbers_fit}
use Rattle.wsm_check.specs.Terms.{Term}
use Rattle.wsm_check.specs.Parts.{Folding, column_type, columns_from, folding, type_or_int}
use Rattle.wsm_check.specs.Seen.{seen_term}
use Rattle.wsm_check.specs.Resolved.{AddsColumns, Resolves, ResolvesAs, ResolvesCondition, seen_foldings}
use Rattle.wsm_check.proofs.ChecksInOrder.{goes_on}
use Rattle.wsm_check.proofs.Resolving.{accumulators_behind, foldings_join}

pub condition_passed : (q : Query) (around : Around) (p : Part) (o : Option Expr) (e : Expr) (a b : List Folding) (x : Term) → o ≡ Some e → ResolvesAs q around types.Bool e a b x → condition_refusal q around p o ≡ None
condition_passed q around p o e a b x there h = rw (there, h.is.has_type, h.wanted) refl

pub condition_resolved : (q : Query) (around : Around) (want : CellType) (o : Option Expr) (e : Expr) (a b : List Folding) (x y : Term) → o ≡ Some e → ResolvesAs q around want e a b x → y ≡ x → ResolvesCondition q o a b (Some y)
condition_resolved q around want o e a b x y there h same = rw there (record {
  term = λ few. ap Some (same ∙ h.is.term few);
  foldings = h.is.foldings ∙ ap (λ accs. a ++ map (folding q) accs) (sym (append-nil (accumulators_of e)));
  spelt = and_from (numbers_fit e) true h.is.spelt refl;
})

-- the last of several checks
last_of : {A : Type 0} (r : Option CheckRefusal) (answer : Result A CheckRefusal) → Judges answer r → Judges answer (or_else r None)
last_of r answer h = grind arith

abbrev behind_first : List CodeExpr → List CodeExpr
behind_first exprs = take (length exprs - 1) (drop 1 exprs)

split : {X : Type 0} (xs : List X) (x : X) → 1 ≤ length xs → x ≡ get_or xs 0 x → x ∷ take (length xs - 1) (drop 1 xs) ≡ xs
split xs x h e = grind (arith, common_steps)

pub column_judged : {A : Type 0} (q : Query) (i j : ℕ) (exprs : List CodeExpr) (x : CodeExpr) (t : CellType) (answer : Result A CheckRefusal) → 1 ≤ length exprs → x ≡ get_or exprs 0 x → nat_lt i 16 ≡ true → typed q InColumn (seen_expr x) ≡ Ok t → j ≡ i + 1 →
    Judges answer (columns_refusal q j (map seen_expr (behind_first exprs))) → Judges answer (columns_refusal q i (map seen_expr exprs))
column_judged q i j exprs x t answer some first few has_type next rest =
    let p = part.Column (suc i) in
    let es = map seen_expr (behind_first exprs) in
    let behind = subst (λ n. Judges answer (columns_refusal q n es)) (next ∙ add-one i) rest in
    let here = goes_on (typed_refusal p (typed q InColumn (seen_expr x))) _ answer (ap (typed_refusal p) has_type) (last_of (columns_refusal q (suc i) es) answer behind) in
    subst (λ (cs : List CodeExpr). Judges answer (columns_refusal q i (map seen_expr cs))) (split exprs x some first) (goes_on (unless (nat_lt i 16) Limit p) _ answer (ap (λ b. unless b Limit p) few) here)

column_added : (q : Query) (e : Expr) (es : List Expr) (before mid after : Fired) (t : CellType) (x : Code) → Resolves q InColumn e (seen_foldings before) (seen_foldings mid) t (seen_term x) →
    mid.types.items ≡ before.types.items ++ t ∷ [] → mid.columns.items ≡ before.columns.items ++ x ∷ [] → AddsColumns q es mid after → AddsColumns q (e ∷ es) before after
column_added q e es before mid after t x here types columns rest =
    let fold = map (folding q) (flat_map accumulators_of es) in
    let more = accumulators_behind q InColumn e (seen_foldings before) (seen_foldings mid) t (seen_term x) here in
    let counted = ap (λ (fs : List Folding). length fs) rest.foldings in
    let sum = length-append (seen_foldings mid) fold in
    let others = map (column_type q) es in
    let put : map seen_term mid.columns.items ≡ map seen_term before.columns.items ++ seen_term x ∷ [] = ap (λ (ts : List Code). map seen_term ts) columns ∙ map-append seen_term before.columns.items (x ∷ []) in
    record {
      types = rest.types ∙ ap (λ ts. ts ++ others) types ∙ append_assoc before.types.items (t ∷ []) others ∙ ap (λ u. before.types.items ++ type_or_int u ∷ others) (sym here.has_type);
      columns = λ few.
          let terms = columns_from q (length (seen_foldings mid)) es in
          rest.columns few ∙ ap (λ ts. ts ++ terms) put ∙ append_assoc (map seen_term before.columns.items) (seen_term x ∷ []) terms
          ∙ ap₂ (λ u n. map seen_term before.columns.items ++ u ∷ columns_from q n es) (here.term (omega (arith, few, counted, sum))) more;
      foldings = foldings_join q (seen_foldings before) (seen_foldings mid) (seen_foldings after) (accumulators_of e) (flat_map accumulators_of es) here.foldings rest.foldings;
      spelt = and_from (numbers_fit e) (list_all numbers_fit es) here.spelt rest.spelt;
    }

pub columns_added : {A E : Type 0} (q : Query) (exprs : List CodeExpr) (x : CodeExpr) (before mid after : Fired) (t : CellType) (term : Code) (r : Result A E) → 1 ≤ length exprs → x ≡ get_or exprs 0 x →
    Resolves q InColumn (seen_expr x) (seen_foldings before) (seen_foldings mid) t (seen_term term) → mid.types.items ≡ before.types.items ++ t ∷ [] → mid.columns.items ≡ before.columns.items ++ term ∷ [] →
    OnOk r (AddsColumns q (map seen_expr (behind_first exprs)) mid after) → OnOk r (AddsColumns q (map seen_expr exprs) before after)
columns_added q exprs x before mid after t term (Ok a) some first here types columns rest =
    subst (λ (cs : List CodeExpr). AddsColumns q (map seen_expr cs) before after) (split exprs x some first) (column_added q (seen_expr x) (map seen_expr (behind_first exprs)) before mid after t term here types columns rest)
columns_added q exprs x before mid after t term (Err e) some first here types columns rest = rest
