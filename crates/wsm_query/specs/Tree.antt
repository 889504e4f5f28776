-- The tree of a query text. This project's own language; windows, triggers and accumulation modes are those of
-- Akidau et al. 2015, "The Dataflow Model", and the forms of the output those of Arasu et al. 2006, "The CQL continuous query language".
use Rattle.std.specs.Prelude.{ℕ, Bool, List, ℤ, Option}
use Rattle.wsm_record.specs.declared.words.Kind.{Kind}
use Rattle.wsm_record.specs.Schema.{DeclaredField}
use Rattle.wsm_admission.specs.declared.clock.Clock.{Clock}
use Rattle.wsm_query.specs.declared.expr.Op.{Op}
use Rattle.wsm_query.specs.declared.query.Budget.{Budget}
use Rattle.wsm_query.specs.declared.query.Output.{Output}

-- a name, as its bytes
abbrev pub Name : Type 0
Name = List ℕ

-- an expression, with a case for each form of the grammar, brackets too
pub data Expr : Type 0 where
  Number : (value : ℤ) → Expr
  Truth : (value : Bool) → Expr
  Field : (field : Name) → Expr
  EnumName : (field : Name) → (name : Name) → Expr  -- color.red
  Key : Expr
  KeyName : (name : Name) → Expr  -- KEY.a
  Count : Expr
  Aggregate : (kind : Kind) → (operand : Expr) → Expr
  If : (test : Expr) → (first : Expr) → (second : Expr) → Expr
  Brackets : (inner : Expr) → Expr
  Minus : (operand : Expr) → Expr
  Not : (operand : Expr) → Expr
  Binary : (op : Op) → (left : Expr) → (right : Expr) → Expr
  And : (left : Expr) → (right : Expr) → Expr
  Or : (left : Expr) → (right : Expr) → Expr

-- what is selected, and of which records and panes
pub record Selection : Type 0 where
  pub columns : List Expr
  pub condition : Option Expr  -- WHERE
  pub having : Option Expr

-- a query, by its clauses
pub record Query : Type 0 where
  pub keys : List Name
  pub fields : List DeclaredField
  pub sources : List Name  -- none without the clause
  pub clock : Clock  -- START to RECORDS
  pub budget : Option Budget
  pub columns : List Expr
  pub condition : Option Expr  -- WHERE
  pub having : Option Expr
  pub output : Output  -- WINDOW to EMIT
