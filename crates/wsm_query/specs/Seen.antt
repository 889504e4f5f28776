-- A query of the code as the tree that it stands for: without pointers, and each name as its bytes.
use Rattle.std.specs.Prelude.{map, option_map}
use Rattle.wsm_query.specs.declared.expr.Expr.{Expr as Code}
use Rattle.wsm_query.specs.declared.expr.Expr.TheVariants as code
use Rattle.wsm_record.specs.Fields.{declared_field}
use Rattle.wsm_query.specs.declared.query.Query.{Query as CodeQuery}
use Rattle.wsm_query.specs.declared.reading.Selected.{Selected}
use Rattle.wsm_query.specs.Tree.{Query, Selection, Expr, Number, Truth, Field, EnumName, Key, KeyName, Count, Aggregate, If, Brackets, Minus, Not, Binary, And, Or}

abbrev pub seen_expr : Code → Expr
seen_expr (code.Number n) = Number n
seen_expr (code.Truth b) = Truth b
seen_expr (code.Field x) = Field x
seen_expr (code.EnumName x y) = EnumName x y
seen_expr code.Key = Key
seen_expr (code.KeyName x) = KeyName x
seen_expr code.Count = Count
seen_expr (code.Aggregate' kind p e) = Aggregate kind (seen_expr e)
seen_expr (code.If' p c q x r y) = If (seen_expr c) (seen_expr x) (seen_expr y)
seen_expr (code.Brackets' p e) = Brackets (seen_expr e)
seen_expr (code.Minus' p e) = Minus (seen_expr e)
seen_expr (code.Not' p e) = Not (seen_expr e)
seen_expr (code.Binary' op p x q y) = Binary op (seen_expr x) (seen_expr y)
seen_expr (code.And' p x q y) = And (seen_expr x) (seen_expr y)
seen_expr (code.Or' p x q y) = Or (seen_expr x) (seen_expr y)

abbrev pub seen_selection : Selected → Selection
seen_selection s = record { columns = map seen_expr s.columns.items; condition = option_map (λ b. seen_expr b.value) s.condition; having = option_map (λ b. seen_expr b.value) s.having }

abbrev pub seen : CodeQuery → Query
seen q = record {
  keys = q.keys.items;
  fields = map declared_field q.fields.items;
  sources = q.sources.items;
  clock = q.clock;
  budget = q.budget;
  columns = map seen_expr q.columns.items;
  condition = option_map seen_expr q.condition;
  having = option_map seen_expr q.having;
  output = q.output;
}
