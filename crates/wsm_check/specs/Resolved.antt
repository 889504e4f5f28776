-- What an expression says and what it means, tied by one law: its type, its term, and what its accumulators fold.
use Rattle.std.specs.Prelude.{◌≡◌, ◌⊎◌, ◌≤◌, true, List, ◌++◌, length, map, option_map, Option, Some, Ok}
use Rattle.std.specs.List.{flat_map, list_all}
use Rattle.wsm_record.specs.declared.limits.TheConstants.{MAX_ACCUMULATORS}
use Rattle.wsm_record.specs.declared.words.CellType.{CellType}
use Rattle.wsm_record.specs.Types.{is_type}
use Rattle.wsm_query.specs.Tree as tree
use Rattle.wsm_query.specs.Tree.{Query, Expr}
use Rattle.wsm_check.specs.declared.refusal.Part.{Part}
use Rattle.wsm_check.specs.declared.refusal.CheckRefusal.{CheckRefusal}
use Rattle.wsm_check.specs.declared.refusal.CheckRefusal.TheVariants.{Memory}
use Rattle.wsm_check.specs.declared.expressions.Fired.{Fired}
use Rattle.wsm_check.specs.declared.expressions.Expressions.{Expressions}
use Rattle.wsm_check.specs.Types.{Around, Typed, typed, op_ty, logic_ty}
use Rattle.wsm_check.specs.Aggregates.{accumulators_of, in_option}
use Rattle.wsm_check.specs.Checks.{typed_refusal}
use Rattle.wsm_check.specs.Spelt.{numbers_fit, NumbersFit}
use Rattle.wsm_check.specs.Terms.{Term, Binary, And, Or, resolved}
use Rattle.wsm_check.specs.Parts.{Folding, column_type, columns_from, folding, parts_of}
use Rattle.wsm_check.specs.Seen.{seen_folding, seen_term}

-- An expression has this type and this term, and its accumulators stand behind those before. Where there are more than a program may have
-- a term's numbers say nothing.
pub record Resolves (q : Query) (around : Around) (e : Expr) (before after : List Folding) (t : CellType) (x : Term) : Type 0 where
  pub has_type : typed q around e ≡ Ok t
  pub term : length after ≤ MAX_ACCUMULATORS → x ≡ resolved q (length before) e
  pub foldings : after ≡ before ++ map (folding q) (accumulators_of e)
  pub spelt : numbers_fit e ≡ true

-- the same of one that is to have a type
pub record ResolvesAs (q : Query) (around : Around) (want : CellType) (e : Expr) (before after : List Folding) (x : Term) : Type 0 where
  pub type : CellType
  pub is : Resolves q around e before after type x
  pub wanted : is_type type want ≡ true

-- why an expression of this type or fault is refused, unless memory ran out
abbrev pub IsRefused : Part → Typed → CheckRefusal → Type 0
IsRefused p x r = (r ≡ Memory) ⊎ (typed_refusal p x ≡ Some r)

-- two terms, joined as the expression joins its operands
abbrev pub joined : Expr → Term → Term → Term
joined (tree.Binary op x y) left right = Binary op left right
joined (tree.And x y) left right = And left right
joined _ left right = Or left right

-- the type of what joins operands of these types
abbrev pub two_ty : Expr → CellType → CellType → Typed
two_ty (tree.Binary op x y) t u = op_ty op t u
two_ty _ t u = logic_ty t u

-- a condition's term, if it is there
pub record ResolvesCondition (q : Query) (o : Option Expr) (before after : List Folding) (x : Option Term) : Type 0 where
  pub term : length after ≤ MAX_ACCUMULATORS → x ≡ option_map (resolved q (length before)) o
  pub foldings : after ≡ before ++ map (folding q) (flat_map accumulators_of (in_option o))
  pub spelt : list_all numbers_fit (in_option o) ≡ true

abbrev pub seen_foldings : Fired → List Folding
seen_foldings f = map seen_folding f.foldings.items

-- columns are put behind others
pub record AddsColumns (q : Query) (es : List Expr) (before after : Fired) : Type 0 where
  pub types : after.types.items ≡ before.types.items ++ map (column_type q) es
  pub columns : length (seen_foldings after) ≤ MAX_ACCUMULATORS →
      map seen_term after.columns.items ≡ map seen_term before.columns.items ++ columns_from q (length (seen_foldings before)) es
  pub foldings : seen_foldings after ≡ seen_foldings before ++ map (folding q) (flat_map accumulators_of es)
  pub spelt : list_all numbers_fit es ≡ true

-- the expressions of a query
pub record AreResolved (q : Query) (r : Expressions) : Type 0 where
  pub condition : option_map seen_term r.condition ≡ (parts_of q).condition
  pub types : r.fired.types.items ≡ (parts_of q).types
  pub foldings : seen_foldings r.fired ≡ (parts_of q).foldings
  pub columns : map seen_term r.fired.columns.items ≡ (parts_of q).columns
  pub having : option_map seen_term r.having ≡ (parts_of q).having
  pub spelt : NumbersFit q

-- So they are where they fold no more than a program may, and as many they fold as the query.
pub record AreResolvedIfFew (q : Query) (r : Expressions) : Type 0 where
  pub count : length r.fired.foldings.items ≡ length (parts_of q).foldings
  pub terms : length r.fired.foldings.items ≤ MAX_ACCUMULATORS → AreResolved q r
