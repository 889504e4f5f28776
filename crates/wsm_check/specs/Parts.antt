-- What a checked query has.
use Rattle.std.specs.Prelude.{ℕ, ◌+◌, List, [], ◌∷◌, map, Option, option_map, Ok, Err}
use Rattle.wsm_record.specs.declared.words.Kind.{Kind}
use Rattle.wsm_admission.specs.declared.clock.Clock.{Clock}
use Rattle.wsm_record.specs.Schema.{Declared}
use Rattle.wsm_query.specs.declared.query.Budget.{Budget}
use Rattle.wsm_query.specs.declared.query.Output.{Output}
use Rattle.wsm_query.specs.Tree.{Query, Expr}
use Rattle.wsm_record.specs.declared.words.CellType.{CellType}
use Rattle.wsm_record.specs.declared.words.CellType.TheVariants as types
use Rattle.wsm_check.specs.Types.{Typed, InColumn, typed}
use Rattle.wsm_check.specs.Aggregates.{Acc, aggregates, accumulators}
pub use Rattle.wsm_check.specs.Names.{schema_of}
use Rattle.wsm_check.specs.Terms.{Term, resolved}

-- what an accumulator folds
pub record Folding : Type 0 where
  pub kind : Kind
  pub operand : Term

pub record Parts : Type 0 where
  pub schema : Declared
  pub clock : Clock
  pub budget : Option Budget
  pub output : Output
  pub condition : Option Term  -- WHERE
  pub foldings : List Folding
  pub types : List CellType  -- of the columns
  pub columns : List Term
  pub having : Option Term

-- a query that no check refuses has a type for each column
abbrev pub type_or_int : Typed → CellType
type_or_int (Ok t) = t
type_or_int (Err f) = types.Int

abbrev pub column_type : Query → Expr → CellType
column_type q e = type_or_int (typed q InColumn e)

-- the accumulators before HAVING
abbrev pub aggregates_of : List Expr → ℕ
aggregates_of [] = 0
aggregates_of (e ∷ es) = aggregates e + aggregates_of es

-- an operand has no aggregate
abbrev pub folding : Query → Acc → Folding
folding q acc = record { kind = acc.kind; operand = resolved q 0 acc.operand }

-- the columns whose first aggregate is the a-th of the query
abbrev pub columns_from : Query → ℕ → List Expr → List Term
columns_from q a [] = []
columns_from q a (e ∷ es) = resolved q a e ∷ columns_from q (a + aggregates e) es

abbrev pub parts_of : Query → Parts
parts_of q = record {
  schema = schema_of q;
  clock = q.clock;
  budget = q.budget;
  output = q.output;
  condition = option_map (resolved q 0) q.condition;
  foldings = map (folding q) (accumulators q);
  types = map (column_type q) q.columns;
  columns = columns_from q 0 q.columns;
  having = option_map (resolved q (aggregates_of q.columns)) q.having;
}
