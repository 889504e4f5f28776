-- What holds of every query of the code: names are names, and numbers have 64 bits.
use Rattle.std.specs.Prelude.{◌≡◌, Bool, true, ◌&&◌, ◌++◌}
use Rattle.std.specs.List.{list_all}
use Rattle.wsm_record.specs.Name.{is_name}
use Rattle.wsm_record.specs.Schema.{is_spelt_field, is_i64}
use Rattle.wsm_query.specs.Tree.{Query, Expr, Number, Aggregate, If, Brackets, Minus, Not, Binary, And, Or}
use Rattle.wsm_check.specs.Aggregates.{in_option, fired}

-- each number in an expression has 64 bits
abbrev pub numbers_fit : Expr → Bool
numbers_fit (Number n) = is_i64 n
numbers_fit (Aggregate kind e) = numbers_fit e
numbers_fit (If c x y) = numbers_fit c && (numbers_fit x && numbers_fit y)
numbers_fit (Brackets e) = numbers_fit e
numbers_fit (Minus e) = numbers_fit e
numbers_fit (Not e) = numbers_fit e
numbers_fit (Binary op x y) = numbers_fit x && numbers_fit y
numbers_fit (And x y) = numbers_fit x && numbers_fit y
numbers_fit (Or x y) = numbers_fit x && numbers_fit y
numbers_fit _ = true

-- the numbers of a query's expressions fit
abbrev pub NumbersFit : Query → Type 0
NumbersFit q = list_all numbers_fit (in_option q.condition ++ fired q) ≡ true

-- each name that the query declares is a name, and each number of its types and expressions has 64 bits
pub record IsSpelt (q : Query) : Type 0 where
  pub keys : list_all is_name q.keys ≡ true
  pub fields : list_all is_spelt_field q.fields ≡ true
  pub sources : list_all is_name q.sources ≡ true
  pub numbers : NumbersFit q
