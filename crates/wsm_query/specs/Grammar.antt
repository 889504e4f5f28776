-- The grammar of query texts, a rule each, over tokens. This project's own rule.
use Rattle.std.specs.Prelude.{ℕ, zero, suc, Bool, true, false, List, [], ◌∷◌, ℤ, neg_ℤ, Option, Some, None, codes}
use Rattle.wsm_record.specs.declared.limits.TheConstants.{MAX_CHAIN, MAX_LEVELS}
use Rattle.wsm_record.specs.declared.words.Kind.{Kind}
use Rattle.wsm_record.specs.declared.words.Kind.TheVariants.{Sum, Min, Max, Any, All}
use Rattle.wsm_record.specs.declared.words.Mode.{Mode}
use Rattle.wsm_record.specs.declared.words.Mode.TheVariants.{Discarding, Accumulating, Retracting}
use Rattle.wsm_record.specs.declared.words.Form.{Form}
use Rattle.wsm_record.specs.declared.words.Form.TheVariants.{Panes, Istream, Dstream, Rstream}
use Rattle.wsm_windows.specs.declared.window.Shape.{Shape}
use Rattle.wsm_windows.specs.declared.window.Shape.TheVariants.{Fixed, Sliding, Session}
use Rattle.wsm_tokens.specs.Tokens.{Tokens}
use Rattle.wsm_tokens.specs.Read.{Rule, Took, Stopped, ◌>>=◌, give, and_then, unexpected, too_deep, begins, begins_number, behind, count, ask, number, name}
use Rattle.wsm_query.specs.declared.expr.Op.{Op}
use Rattle.wsm_admission.specs.declared.clock.Clock.{Clock}
use Rattle.wsm_query.specs.declared.query.Budget.{Budget}
use Rattle.wsm_query.specs.declared.query.Output.{Output}
use Rattle.wsm_interval.specs.declared.Arithmetic.TheVariants.{Add, Sub, Mul, Div, Rem}
use Rattle.wsm_interval.specs.declared.Comparison.TheVariants.{Eq, Ne, Lt, Le, Gt, Ge}
use Rattle.wsm_query.specs.declared.expr.Op.TheVariants.{Compute, Compare}
use Rattle.wsm_record.specs.Schema.{FieldType, DeclaredField}
use Rattle.wsm_record.specs.Schema as field_types
use Rattle.wsm_query.specs.Tree.{Name, Query, Selection, Expr, Number, Truth, Field, EnumName, Key, KeyName, Count, Aggregate, If, Brackets, Minus, Not, Binary, And, Or}

-- what stands beside the next token in a table of words and signs
abbrev pub looked_up : {A : Type 0} → List (List ℕ × A) → Tokens → Option A
looked_up [] ts = None
looked_up (p ∷ ps) ts = elim (begins p.0 ts) [ true ↦ Some p.1 | false ↦ looked_up ps ts ]

-- one of the words of a table
abbrev pub one_of : {A : Type 0} → List (List ℕ × A) → Rule A
one_of table ts = elim (looked_up table ts) [ Some x ↦ Took x (behind ts) | None ↦ Stopped (unexpected ts) ]

-- the first rule where the next token is the word or sign, which it takes, and the second elsewhere
abbrev pub either : {A : Type 0} → List ℕ → Rule A → Rule A → Rule A
either s first second ts = elim (begins s ts) [ true ↦ first (behind ts) | false ↦ second ts ]

-- a word or sign, and a rule
abbrev pub after : {A : Type 0} → List ℕ → Rule A → Rule A
after s rule = do
  _ ← ask s
  rule

-- a rule, and a word or sign
abbrev pub until : {A : Type 0} → List ℕ → Rule A → Rule A
until s rule = do
  x ← rule
  _ ← ask s
  give x

-- a word, a rule and a semicolon
abbrev pub clause : {A : Type 0} → List ℕ → Rule A → Rule A
clause s rule = after s (until (codes ";") rule)

-- a part in square brackets
abbrev pub optional : {A : Type 0} → List ℕ → Rule A → Rule (Option A)
optional s rule = either s (rule >>= λ x. give (Some x)) (give None)

-- turns of a brace, each taken where the next token begins it; n is at least their number
abbrev pub turns : {A : Type 0} → ℕ → List ℕ → Rule A → Rule (List A)
turns zero s rule = give []
turns (suc n) s rule = either s (rule >>= λ x. turns n s rule >>= λ xs. give (x ∷ xs)) (give [])

-- a brace whose turns begin with a word or sign, each with at least this token
unfoldable pub brace : {A : Type 0} → List ℕ → Rule A → Rule (List A)
brace s rule ts = turns (count ts) s rule ts

-- one, and a brace of more behind commas
unfoldable pub list_of : {A : Type 0} → Rule A → Rule (List A)
list_of rule = do
  x ← rule
  xs ← brace (codes ",") rule
  give (x ∷ xs)

-- the rules as they read one level deeper
pub record Deeper : Type 0 where
  pub expr : Rule Expr
  pub neg : Rule Expr
  pub unary : Rule Expr

-- a token that opens a level; none where all levels are open
abbrev pub opened : Option Deeper → Rule Deeper
opened None ts = Stopped (too_deep ts)
opened (Some d) ts = Took d (behind ts)

abbrev pub kinds : List (List ℕ × Kind)
kinds = (codes "SUM", Sum) ∷ (codes "MIN", Min) ∷ (codes "MAX", Max) ∷ (codes "ANY", Any) ∷ (codes "ALL", All) ∷ []

-- agg "(" expr ")"
unfoldable pub aggregate : Option Deeper → Kind → Rule Expr
aggregate d kind = do
  d ← opened d
  _ ← ask (codes "(")
  e ← d.expr
  _ ← ask (codes ")")
  give (Aggregate kind e)

-- "COUNT" "(" "*" ")"
unfoldable pub count_of : Option Deeper → Rule Expr
count_of d = do
  _ ← opened d
  _ ← ask (codes "(")
  _ ← ask (codes "*")
  _ ← ask (codes ")")
  give Count

-- "IF" expr "THEN" expr "ELSE" expr "END"
unfoldable pub choice : Option Deeper → Rule Expr
choice d = do
  d ← opened d
  c ← d.expr
  x ← after (codes "THEN") d.expr
  y ← after (codes "ELSE") d.expr
  _ ← ask (codes "END")
  give (If c x y)

-- "(" expr ")"
unfoldable pub brackets : Option Deeper → Rule Expr
brackets d = do
  d ← opened d
  e ← d.expr
  _ ← ask (codes ")")
  give (Brackets e)

-- a point and a name behind a first name or KEY, or the first alone
unfoldable pub pointed : Expr → (Name → Expr) → Rule Expr
pointed alone with_name = either (codes ".") (name >>= λ x. give (with_name x)) (give alone)

-- "TRUE" | "FALSE" | "KEY" [ "." name ] | name [ "." name ]
unfoldable pub leaf : Rule Expr
leaf =
    either (codes "TRUE") (give (Truth true))
    (either (codes "FALSE") (give (Truth false))
    (either (codes "KEY") (pointed Key KeyName)
    (name >>= λ x. pointed (Field x) (EnumName x))))

-- a rule where the next token is the word or sign, which it sees, and another elsewhere
abbrev pub at : {A : Type 0} → List ℕ → Rule A → Rule A → Rule A
at s first second ts = elim (begins s ts) [ true ↦ first ts | false ↦ second ts ]

unfoldable pub atom : Option Deeper → Rule Expr
atom d ts =
    elim (begins_number ts) [
      | true ↦ (number >>= λ n. give (Number n)) ts
      | false ↦ elim (looked_up kinds ts) [
        | Some kind ↦ aggregate d kind ts
        | None ↦ at (codes "COUNT") (count_of d) (at (codes "IF") (choice d) (at (codes "(") (brackets d) leaf)) ts
      ]
    ]

-- "-" unary | atom
unfoldable pub unary : Option Deeper → Rule Expr
unary d =
    at (codes "-")
    (opened d >>= λ d. d.unary >>= λ e. give (Minus e))
    (atom d)

-- the rest of a chain behind its first operands, with at most n operators more; it leans to the left
unfoldable pub chain : ℕ → List (List ℕ × (Expr → Expr → Expr)) → Rule Expr → Expr → Rule Expr
chain zero table rule x ts = elim (looked_up table ts) [ None ↦ Took x ts | Some make ↦ Stopped (too_deep ts) ]
chain (suc n) table rule x ts =
    elim (looked_up table ts) [
      | None ↦ Took x ts
      | Some make ↦ and_then (rule (behind ts)) (λ y. chain n table rule (make x y))
    ]

-- an operand, and a chain
unfoldable pub chained : List (List ℕ × (Expr → Expr → Expr)) → Rule Expr → Rule Expr
chained table rule = do
  x ← rule
  chain MAX_CHAIN table rule x

abbrev pub binary : Op → Expr → Expr → Expr
binary op x y = Binary op x y

abbrev pub products : List (List ℕ × (Expr → Expr → Expr))
products = (codes "*", Binary (Compute Mul)) ∷ (codes "/", Binary (Compute Div)) ∷ (codes "%", Binary (Compute Rem)) ∷ []

abbrev pub sums : List (List ℕ × (Expr → Expr → Expr))
sums = (codes "+", Binary (Compute Add)) ∷ (codes "-", Binary (Compute Sub)) ∷ []

abbrev pub comparisons : List (List ℕ × (Expr → Expr → Expr))
comparisons =
    (codes "=", Binary (Compare Eq)) ∷ (codes "<>", Binary (Compare Ne)) ∷ (codes "<", Binary (Compare Lt)) ∷ (codes "<=", Binary (Compare Le)) ∷ (codes ">", Binary (Compare Gt)) ∷ (codes ">=", Binary (Compare Ge)) ∷ []

abbrev pub ands : List (List ℕ × (Expr → Expr → Expr))
ands = (codes "AND", And) ∷ []

abbrev pub ors : List (List ℕ × (Expr → Expr → Expr))
ors = (codes "OR", Or) ∷ []

-- unary { ("*" | "/" | "%") unary }
unfoldable pub prod : Option Deeper → Rule Expr
prod d = chained products (unary d)

-- prod { ("+" | "-") prod }
unfoldable pub sum : Option Deeper → Rule Expr
sum d = chained sums (prod d)

-- the rest of a comparison behind its left operand
abbrev pub compared : Rule Expr → Expr → Rule Expr
compared rule x ts =
    elim (looked_up comparisons ts) [
      | None ↦ Took x ts
      | Some make ↦ and_then (rule (behind ts)) (λ y. give (make x y))
    ]

-- sum [ ("=" | "<>" | "<" | "<=" | ">" | ">=") sum ]
unfoldable pub cmp : Option Deeper → Rule Expr
cmp d = do
  x ← sum d
  compared (sum d) x

-- "NOT" neg | cmp
unfoldable pub neg : Option Deeper → Rule Expr
neg d =
    at (codes "NOT")
    (opened d >>= λ d. d.neg >>= λ e. give (Not e))
    (cmp d)

-- neg { "AND" neg }
unfoldable pub conj : Option Deeper → Rule Expr
conj d = chained ands (neg d)

-- conj { "OR" conj }
unfoldable pub expr_in : Option Deeper → Rule Expr
expr_in d = chained ors (conj d)

abbrev pub deeper : Option Deeper → Deeper
deeper d = record { expr = expr_in d; neg = neg d; unary = unary d }

-- what may be read one level deeper, where n levels are left
unfoldable pub levels : ℕ → Option Deeper
levels zero = None
levels (suc n) = Some (deeper (levels n))

unfoldable pub expr : Rule Expr
expr = expr_in (levels MAX_LEVELS)

-- [ "-" ] num
unfoldable pub int : Rule ℤ
int = either (codes "-") (number >>= λ n. give (neg_ℤ n)) number

unfoldable pub names : Rule (List Name)
names = list_of name

unfoldable pub type_of : Rule FieldType
type_of =
    either (codes "INT") (int >>= λ lo. after (codes "..") int >>= λ hi. give (field_types.Int lo hi))
    (either (codes "BOOL") (give field_types.Truth)
    (after (codes "ENUM") (after (codes "(") (until (codes ")") (names >>= λ xs. give (field_types.Enum xs))))))

-- behind FIELD
unfoldable pub field : Rule DeclaredField
field = do
  x ← name
  t ← type_of
  _ ← ask (codes ";")
  give (record { name = x; type = t })

-- behind BUDGET
unfoldable pub budget : Rule Budget
budget = do
  r ← after (codes "RECORD") number
  p ← after (codes "PANE") number
  h ← after (codes "HELD") number
  _ ← ask (codes ";")
  give (record { per_record = r; per_pane = p; held = h })

unfoldable pub shape : Rule Shape
shape =
    either (codes "FIXED") (number >>= λ s. give (Fixed s))
    (either (codes "SLIDING") (number >>= λ s. after (codes "EVERY") number >>= λ d. give (Sliding s d))
    (after (codes "SESSION") (number >>= λ g. give (Session g))))

unfoldable pub mode : Rule Mode
mode = one_of ((codes "ACCUMULATING", Accumulating) ∷ (codes "DISCARDING", Discarding) ∷ (codes "RETRACTING", Retracting) ∷ [])

unfoldable pub form : Rule Form
form = one_of ((codes "PANES", Panes) ∷ (codes "ISTREAM", Istream) ∷ (codes "DSTREAM", Dstream) ∷ (codes "RSTREAM", Rstream) ∷ [])

-- behind EARLY or LATE
unfoldable pub every : Rule ℤ
every = after (codes "EVERY") number

-- [ "SOURCES" names ";" ], behind the fields; no sources where the clause is absent
unfoldable pub sources : Rule (List Name)
sources = either (codes "SOURCES") (until (codes ";") names) (give [])

-- [ "FROM" "WINDOW" ], behind the number of LATENESS
unfoldable pub from_window : Rule Bool
from_window = either (codes "FROM") (after (codes "WINDOW") (give true)) (give false)

-- START to RECORDS
unfoldable pub clock : Rule Clock
clock = do
  start ← clause (codes "START") number
  skew ← clause (codes "SKEW") number
  lateness ← after (codes "LATENESS") number
  from_window ← until (codes ";") from_window
  records ← clause (codes "RECORDS") number
  give (record { start = start; skew = skew; lateness = lateness; from_window = from_window; records = records })

-- SELECT to HAVING
unfoldable pub selection : Rule Selection
selection = do
  columns ← after (codes "SELECT") (list_of expr)
  condition ← optional (codes "WHERE") expr
  having ← optional (codes "HAVING") expr
  give (record { columns = columns; condition = condition; having = having })

-- WINDOW to EMIT
unfoldable pub output : Rule Output
output = do
  shape ← after (codes "WINDOW") shape
  mode ← mode
  early ← optional (codes "EARLY") every
  late ← optional (codes "LATE") every
  form ← clause (codes "EMIT") form
  give (record { shape = shape; mode = mode; early = early; late = late; form = form })

unfoldable pub query : Rule Query
query = do
  keys ← clause (codes "KEYS") names
  fields ← brace (codes "FIELD") field
  sources ← sources
  clock ← clock
  budget ← optional (codes "BUDGET") budget
  selection ← selection
  output ← output
  give (record {
    keys = keys;
    fields = fields;
    sources = sources;
    clock = clock;
    budget = budget;
    columns = selection.columns;
    condition = selection.condition;
    having = selection.having;
    output = output;
  })
