-- What code computes is the meaning where every number met has 64 bits.
use Rattle.std.proofs.Common.{◌≡◌, ℕ, ◌+◌, Bool, true, false, ◌&&◌, cond, List, [], ◌∷◌, ◌++◌, ℤ, Option, Some, None, refl, sym, ap, ◌∙◌, arith}
use Rattle.std.specs.List.{list_all}
use Rattle.std.proofs.Math.Bool.{and_assoc}
use Rattle.wsm_record.specs.declared.event.Value.{Value}
use Rattle.wsm_record.specs.declared.event.Value.TheVariants.{Bool as Truth'}
use Rattle.wsm_record.specs.Schema.{is_i64}
use Rattle.wsm_query.specs.Tree.{Query, Expr, Number, Field, Count, Aggregate, If, Brackets, Minus, Not, Binary, And, Or}
use Rattle.wsm_check.specs.Aggregates.{aggregates}
use Rattle.wsm_compiler.specs.Meaning.{Scene, meaning_from, met_from, on_two, both, minus, negated, chosen, chosen_numbers, number_of}
use Rattle.wsm_compiler.specs.Bounded.{kept, IsBounded}

-- a value where a test holds
abbrev given : Bool → Option Value → Option Value
given b v = cond b v None

abbrev fit : List ℤ → Bool
fit ns = list_all is_i64 ns

fit-append : (ms ns : List ℤ) → fit (ms ++ ns) ≡ (fit ms && fit ns)
fit-append [] ns = refl
fit-append (m ∷ ms) ns = ap (λ b. is_i64 m && b) (fit-append ms ns) ∙ sym (and_assoc (is_i64 m) (fit ms) (fit ns))

given_and_true : (b : Bool) (v : Option Value) → given (b && true) v ≡ given b v
given_and_true b v = grind arith

-- a value alone
kept_is : (v : Option Value) → kept v ≡ given (fit (number_of v)) v
kept_is v = grind (arith, given_and_true)

minus_is : (b : Bool) (v : Option Value) → kept (minus (given b v)) ≡ given (b && fit (number_of (minus v))) (minus v)
minus_is b v = grind (arith, kept_is)

negated_is : (b : Bool) (v : Option Value) → negated (given b v) ≡ given b (negated v)
negated_is b v = grind arith

both_none : (f : Value → Value → Option Value) (v : Option Value) → both f v None ≡ None
both_none f v = grind arith

both_is : (f : Value → Value → Option Value) (b c : Bool) (v w : Option Value) → kept (both f (given b v) (given c w)) ≡ given (b && (c && fit (number_of (both f v w)))) (both f v w)
both_is f b c v w = grind (arith, kept_is, both_none)

chosen_is : (b : Bool) (v x y : Option Value) (ms ns : List ℤ) → chosen (given b v) (given (fit ms) x) (given (fit ns) y) ≡ given (b && fit (chosen_numbers v ms ns)) (chosen v x y)
chosen_is b v x y ms ns = grind arith

-- the joined numbers fit where both parts do
joined : (ms ns : List ℤ) (v : Option Value) → given (fit ms && fit ns) v ≡ given (fit (ms ++ ns)) v
joined ms ns v = ap (λ b. given b v) (sym (fit-append ms ns))

joined_thrice : (ls ms ns : List ℤ) (v : Option Value) → given (fit ls && (fit ms && fit ns)) v ≡ given (fit (ls ++ (ms ++ ns))) v
joined_thrice ls ms ns v = ap (λ b. given (fit ls && b) v) (sym (fit-append ms ns)) ∙ joined ls (ms ++ ns) v

pub bounded_is : (q : Query) (s : Scene) (a : ℕ) (e : Expr) → IsBounded q s a e
bounded_is q s a (Number n) = kept_is (meaning_from q s a (Number n))
bounded_is q s a (Field x) = kept_is (meaning_from q s a (Field x))
bounded_is q s a Count = kept_is (meaning_from q s a Count)
bounded_is q s a (Aggregate kind e) = kept_is (meaning_from q s a (Aggregate kind e))
bounded_is q s a (If c x y) =
    let b = a + aggregates c in
    let d = a + (aggregates c + aggregates x) in
    (λ i. chosen (bounded_is q s a c i) (bounded_is q s b x i) (bounded_is q s d y i))
    ∙ chosen_is (fit (met_from q s a c)) (meaning_from q s a c) (meaning_from q s b x) (meaning_from q s d y) (met_from q s b x) (met_from q s d y)
    ∙ joined (met_from q s a c) (chosen_numbers (meaning_from q s a c) (met_from q s b x) (met_from q s d y)) (meaning_from q s a (If c x y))
bounded_is q s a (Brackets e) = bounded_is q s a e
bounded_is q s a (Minus e) =
    ap (λ v. kept (minus v)) (bounded_is q s a e)
    ∙ minus_is (fit (met_from q s a e)) (meaning_from q s a e)
    ∙ joined (met_from q s a e) (number_of (minus (meaning_from q s a e))) (minus (meaning_from q s a e))
bounded_is q s a (Not e) = ap negated (bounded_is q s a e) ∙ negated_is (fit (met_from q s a e)) (meaning_from q s a e)
bounded_is q s a (Binary op x y) =
    let b = a + aggregates x in
    let v = meaning_from q s a (Binary op x y) in
    (λ i. kept (both (on_two op) (bounded_is q s a x i) (bounded_is q s b y i)))
    ∙ both_is (on_two op) (fit (met_from q s a x)) (fit (met_from q s b y)) (meaning_from q s a x) (meaning_from q s b y)
    ∙ joined_thrice (met_from q s a x) (met_from q s b y) (number_of v) v
bounded_is q s a (And x y) =
    let b = a + aggregates x in
    (λ i. chosen (bounded_is q s a x i) (bounded_is q s b y i) (Some (Truth' false)))
    ∙ chosen_is (fit (met_from q s a x)) (meaning_from q s a x) (meaning_from q s b y) (Some (Truth' false)) (met_from q s b y) []
    ∙ joined (met_from q s a x) (chosen_numbers (meaning_from q s a x) (met_from q s b y) []) (meaning_from q s a (And x y))
bounded_is q s a (Or x y) =
    let b = a + aggregates x in
    (λ i. chosen (bounded_is q s a x i) (Some (Truth' true)) (bounded_is q s b y i))
    ∙ chosen_is (fit (met_from q s a x)) (meaning_from q s a x) (Some (Truth' true)) (meaning_from q s b y) [] (met_from q s b y)
    ∙ joined (met_from q s a x) (chosen_numbers (meaning_from q s a x) [] (met_from q s b y)) (meaning_from q s a (Or x y))
bounded_is q s a e = refl
