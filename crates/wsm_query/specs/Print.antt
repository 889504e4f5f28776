-- The text that a query is printed as: its tokens, with one space between each two. Brackets stand where the tree has them.
use Rattle.std.specs.Prelude.{ℕ, suc, Bool, true, false, List, [], ◌∷◌, ◌++◌, map, ℤ, pos, negsuc, Option, Some, None, codes}
use Rattle.std.specs.List.{flat_map}
use Rattle.wsm_record.specs.declared.words.Kind.{Kind}
use Rattle.wsm_record.specs.declared.words.Kind.TheVariants.{Sum, Min, Max, Any, All}
use Rattle.wsm_record.specs.declared.words.Mode.{Mode}
use Rattle.wsm_record.specs.declared.words.Mode.TheVariants.{Discarding, Accumulating, Retracting}
use Rattle.wsm_record.specs.declared.words.Form.{Form}
use Rattle.wsm_record.specs.declared.words.Form.TheVariants.{Panes, Istream, Dstream, Rstream}
use Rattle.wsm_windows.specs.declared.window.Shape.{Shape}
use Rattle.wsm_windows.specs.declared.window.Shape.TheVariants.{Fixed, Sliding, Session}
use Rattle.wsm_tokens.specs.declared.token.Sign.{Sign}
use Rattle.wsm_tokens.specs.declared.token.Sign.TheVariants as signs
use Rattle.wsm_tokens.specs.Tokens.{Token, Word, Mark, Number as Figure}
use Rattle.wsm_tokens.specs.Written.{written}
use Rattle.wsm_admission.specs.declared.clock.Clock.{Clock}
use Rattle.wsm_query.specs.declared.expr.Op.{Op}
use Rattle.wsm_query.specs.declared.query.Budget.{Budget}
use Rattle.wsm_query.specs.declared.query.Output.{Output}
use Rattle.wsm_interval.specs.declared.Arithmetic.TheVariants.{Add, Sub, Mul, Div, Rem}
use Rattle.wsm_interval.specs.declared.Comparison.TheVariants.{Eq, Ne, Lt, Le, Gt, Ge}
use Rattle.wsm_query.specs.declared.expr.Op.TheVariants.{Compute, Compare}
use Rattle.wsm_record.specs.Schema.{FieldType, DeclaredField}
use Rattle.wsm_record.specs.Schema as field_types
use Rattle.wsm_query.specs.Tree.{Name, Query, Expr, Number, Truth, Field, EnumName, Key, KeyName, Count, Aggregate, If, Brackets, Minus, Not, Binary, And, Or}

-- a number, behind a minus sign where it is negative
abbrev pub figures : ℤ → List Token
figures (pos n) = Figure (pos n) ∷ []
figures (negsuc n) = Mark signs.Minus ∷ Figure (pos (suc n)) ∷ []

abbrev pub op_sign : Op → Sign
op_sign (Compute Add) = signs.Plus
op_sign (Compute Sub) = signs.Minus
op_sign (Compute Mul) = signs.Star
op_sign (Compute Div) = signs.Slash
op_sign (Compute Rem) = signs.Percent
op_sign (Compare Eq) = signs.Equal
op_sign (Compare Ne) = signs.NotEqual
op_sign (Compare Lt) = signs.Less
op_sign (Compare Le) = signs.LessOrEqual
op_sign (Compare Gt) = signs.Greater
op_sign (Compare Ge) = signs.GreaterOrEqual

abbrev pub kind_word : Kind → List ℕ
kind_word Sum = codes "SUM"
kind_word Min = codes "MIN"
kind_word Max = codes "MAX"
kind_word Any = codes "ANY"
kind_word All = codes "ALL"

abbrev pub truth_word : Bool → List ℕ
truth_word true = codes "TRUE"
truth_word false = codes "FALSE"

abbrev pub bracketed : List Token → List Token
bracketed ts = Mark signs.Open ∷ ts ++ Mark signs.Close ∷ []

abbrev pub expr_tokens : Expr → List Token
expr_tokens (Number n) = figures n
expr_tokens (Truth b) = Word (truth_word b) ∷ []
expr_tokens (Field x) = Word x ∷ []
expr_tokens (EnumName x y) = Word x ∷ Mark signs.Dot ∷ Word y ∷ []
expr_tokens Key = Word (codes "KEY") ∷ []
expr_tokens (KeyName x) = Word (codes "KEY") ∷ Mark signs.Dot ∷ Word x ∷ []
expr_tokens Count = Word (codes "COUNT") ∷ bracketed (Mark signs.Star ∷ [])
expr_tokens (Aggregate kind e) = Word (kind_word kind) ∷ bracketed (expr_tokens e)
expr_tokens (If c x y) =
    Word (codes "IF") ∷ expr_tokens c ++ Word (codes "THEN") ∷ expr_tokens x ++ Word (codes "ELSE") ∷ expr_tokens y ++ Word (codes "END") ∷ []
expr_tokens (Brackets e) = bracketed (expr_tokens e)
expr_tokens (Minus e) = Mark signs.Minus ∷ expr_tokens e
expr_tokens (Not e) = Word (codes "NOT") ∷ expr_tokens e
expr_tokens (Binary op x y) = expr_tokens x ++ Mark (op_sign op) ∷ expr_tokens y
expr_tokens (And x y) = expr_tokens x ++ Word (codes "AND") ∷ expr_tokens y
expr_tokens (Or x y) = expr_tokens x ++ Word (codes "OR") ∷ expr_tokens y

-- a comma between each two
abbrev pub with_commas : List (List Token) → List Token
with_commas [] = []
with_commas (ts ∷ []) = ts
with_commas (ts ∷ us ∷ tss) = ts ++ Mark signs.Comma ∷ with_commas (us ∷ tss)

abbrev pub name_tokens : List Name → List Token
name_tokens xs = with_commas (map (λ x. Word x ∷ []) xs)

abbrev pub ty_tokens : FieldType → List Token
ty_tokens (field_types.Int lo hi) = Word (codes "INT") ∷ figures lo ++ Mark signs.DotDot ∷ figures hi
ty_tokens field_types.Truth = Word (codes "BOOL") ∷ []
ty_tokens (field_types.Enum names) = Word (codes "ENUM") ∷ bracketed (name_tokens names)

-- a word and what belongs to it, with a semicolon
abbrev pub clause_tokens : List ℕ → List Token → List Token
clause_tokens w ts = Word w ∷ ts ++ Mark signs.Semicolon ∷ []

abbrev pub field_tokens : DeclaredField → List Token
field_tokens d = clause_tokens (codes "FIELD") (Word d.name ∷ ty_tokens d.type)

-- a clause of the sources, where there are any
abbrev pub sources_tokens : List Name → List Token
sources_tokens [] = []
sources_tokens (x ∷ xs) = clause_tokens (codes "SOURCES") (name_tokens (x ∷ xs))

-- what stands behind the number of LATENESS
abbrev pub from_window_tokens : Bool → List Token
from_window_tokens true = Word (codes "FROM") ∷ Word (codes "WINDOW") ∷ []
from_window_tokens false = []

abbrev pub budget_tokens : Option Budget → List Token
budget_tokens None = []
budget_tokens (Some b) =
    clause_tokens (codes "BUDGET")
    (Word (codes "RECORD") ∷ figures b.per_record ++ Word (codes "PANE") ∷ figures b.per_pane ++ Word (codes "HELD") ∷ figures b.held)

abbrev pub condition_tokens : List ℕ → Option Expr → List Token
condition_tokens w None = []
condition_tokens w (Some e) = Word w ∷ expr_tokens e

abbrev pub shape_tokens : Shape → List Token
shape_tokens (Fixed s) = Word (codes "FIXED") ∷ figures s
shape_tokens (Sliding s d) = Word (codes "SLIDING") ∷ figures s ++ Word (codes "EVERY") ∷ figures d
shape_tokens (Session g) = Word (codes "SESSION") ∷ figures g

abbrev pub mode_word : Mode → List ℕ
mode_word Accumulating = codes "ACCUMULATING"
mode_word Discarding = codes "DISCARDING"
mode_word Retracting = codes "RETRACTING"

abbrev pub every_tokens : List ℕ → Option ℤ → List Token
every_tokens w None = []
every_tokens w (Some n) = Word w ∷ Word (codes "EVERY") ∷ figures n

abbrev pub form_word : Form → List ℕ
form_word Panes = codes "PANES"
form_word Istream = codes "ISTREAM"
form_word Dstream = codes "DSTREAM"
form_word Rstream = codes "RSTREAM"

-- from START to RECORDS
abbrev pub clock_tokens : Clock → List Token
clock_tokens c =
    clause_tokens (codes "START") (figures c.start)
    ++ clause_tokens (codes "SKEW") (figures c.skew)
    ++ clause_tokens (codes "LATENESS") (figures c.lateness ++ from_window_tokens c.from_window)
    ++ clause_tokens (codes "RECORDS") (figures c.records)

-- from WINDOW to EMIT
abbrev pub output_tokens : Output → List Token
output_tokens o =
    Word (codes "WINDOW") ∷ shape_tokens o.shape
    ++ Word (mode_word o.mode) ∷ every_tokens (codes "EARLY") o.early
    ++ every_tokens (codes "LATE") o.late
    ++ clause_tokens (codes "EMIT") (Word (form_word o.form) ∷ [])

abbrev pub query_tokens : Query → List Token
query_tokens q =
    clause_tokens (codes "KEYS") (name_tokens q.keys)
    ++ flat_map field_tokens q.fields
    ++ sources_tokens q.sources
    ++ clock_tokens q.clock
    ++ budget_tokens q.budget
    ++ Word (codes "SELECT") ∷ with_commas (map expr_tokens q.columns)
    ++ condition_tokens (codes "WHERE") q.condition
    ++ condition_tokens (codes "HAVING") q.having
    ++ output_tokens q.output

unfoldable pub print : Query → List ℕ
print q = written (query_tokens q)
