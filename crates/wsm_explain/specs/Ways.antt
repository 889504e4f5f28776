-- How a column of two panes that share no record comes to that of all their records. This project's own rule.
use Rattle.std.specs.Prelude.{ℕ, List, codes}
use Rattle.serde_json.specs.Data.{Data, string}
use Rattle.wsm_record.specs.declared.words.Kind.{Kind}
use Rattle.wsm_record.specs.declared.words.Kind.TheVariants as kinds
use Rattle.wsm_interval.specs.declared.Arithmetic.TheVariants.{Add, Sub, Mul}
use Rattle.wsm_query.specs.declared.expr.Op.{Op}
use Rattle.wsm_query.specs.declared.expr.Op.TheVariants.{Compute}
use Rattle.wsm_query.specs.Tree.{Expr, Number, Truth, EnumName, Key, KeyName, Count, Aggregate, Brackets, Minus, Binary}
use Rattle.wsm_explain.specs.declared.ways.Way.{Way}
use Rattle.wsm_explain.specs.declared.ways.Way.TheVariants.{Sum, Least, Greatest, Same, Not}

-- false is less than true
abbrev pub way_of_kind : Kind → Way
way_of_kind kinds.Sum = Sum
way_of_kind kinds.Min = Least
way_of_kind kinds.Max = Greatest
way_of_kind kinds.Any = Greatest
way_of_kind kinds.All = Least

abbrev pub turned : Way → Way
turned Least = Greatest
turned Greatest = Least
turned w = w

abbrev pub added : Way → Way → Way
added Sum Sum = Sum
added Same Same = Same
added v w = Not

abbrev pub multiplied : Way → Way → Way
multiplied Sum Same = Sum
multiplied Same Sum = Sum
multiplied Same Same = Same
multiplied v w = Not

abbrev pub combined : Op → Way → Way → Way
combined (Compute Add) v w = added v w
combined (Compute Sub) v w = added v w
combined (Compute Mul) v w = multiplied v w
combined op v w = Not

abbrev pub way_of : Expr → Way
way_of (Number n) = Same
way_of (Truth b) = Same
way_of (EnumName x y) = Same
way_of Key = Same
way_of (KeyName x) = Same
way_of Count = Sum
way_of (Aggregate kind e) = way_of_kind kind
way_of (Brackets e) = way_of e
way_of (Minus e) = turned (way_of e)
way_of (Binary op x y) = combined op (way_of x) (way_of y)
way_of e = Not

abbrev pub way_word : Way → List ℕ
way_word Sum = codes "sum"
way_word Least = codes "least"
way_word Greatest = codes "greatest"
way_word Same = codes "same"
way_word Not = codes "not"

abbrev pub way_data : Way → Data
way_data w = string (way_word w)
