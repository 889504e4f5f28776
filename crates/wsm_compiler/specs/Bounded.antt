-- The meaning as code computes it: none where a number leaves 64 bits.
use Rattle.std.specs.Prelude.{◌≡◌, ℕ, ◌+◌, true, false, cond, Option, Some, None}
use Rattle.wsm_record.specs.declared.event.Value.{Value}
use Rattle.wsm_record.specs.declared.event.Value.TheVariants.{Int, Bool as Truth', Enum}
use Rattle.wsm_record.specs.Schema.{is_i64}
use Rattle.wsm_query.specs.Tree.{Query, Expr, If, Brackets, Minus, Not, Binary, And, Or}
use Rattle.wsm_check.specs.Aggregates.{aggregates}
use Rattle.wsm_compiler.specs.Meaning.{Scene, meaning_from, meets_i64, on_two, both, minus, negated, chosen}

-- a value, unless it is a number outside 64 bits
abbrev pub kept : Option Value → Option Value
kept None = None
kept (Some (Int n)) = cond (is_i64 n) (Some (Int n)) None
kept (Some (Truth' b)) = Some (Truth' b)
kept (Some (Enum i)) = Some (Enum i)

abbrev pub bounded_from : Query → Scene → ℕ → Expr → Option Value
bounded_from q s a (If c x y) =
    chosen (bounded_from q s a c) (bounded_from q s (a + aggregates c) x) (bounded_from q s (a + (aggregates c + aggregates x)) y)
bounded_from q s a (Brackets e) = bounded_from q s a e
bounded_from q s a (Minus e) = kept (minus (bounded_from q s a e))
bounded_from q s a (Not e) = negated (bounded_from q s a e)
bounded_from q s a (Binary op x y) = kept (both (on_two op) (bounded_from q s a x) (bounded_from q s (a + aggregates x) y))
bounded_from q s a (And x y) = chosen (bounded_from q s a x) (bounded_from q s (a + aggregates x) y) (Some (Truth' false))
bounded_from q s a (Or x y) = chosen (bounded_from q s a x) (Some (Truth' true)) (bounded_from q s (a + aggregates x) y)
bounded_from q s a e = kept (meaning_from q s a e)

-- it is the meaning where every number met has 64 bits, and else none
abbrev pub IsBounded : Query → Scene → ℕ → Expr → Type 0
IsBounded q s a e = bounded_from q s a e ≡ cond (meets_i64 q s a e) (meaning_from q s a e) None
