-- The terms of a query: their tests, and what the code of its conditions, accumulators and columns adds up to.
use Rattle.std.proofs.Common.{◌≡◌, ℕ, ◌+◌, List, map, Option, Some, None, refl, ap, arith}
use Rattle.std.specs.Prelude.{option_map}
use Rattle.std.proofs.lemmas.Simd.{map-map}
use Rattle.wsm_record.specs.declared.words.Kind.{Kind}
use Rattle.wsm_query.specs.Tree.{Query, Expr, Brackets, Minus, Binary}
use Rattle.wsm_check.specs.Aggregates.{Acc, aggregates}
use Rattle.wsm_check.specs.Tested.{comparison_of, negative, plain_term_number, term_number, term_field, test_by, term_test}
use Rattle.wsm_check.specs.Sizes.{ending_size, ending_need, foldings_size, foldings_need, firing_size, firing_need}
use Rattle.wsm_check.specs.Terms.{Term, resolved}
use Rattle.wsm_check.specs.Parts.{folding, columns_from}
use Rattle.wsm_compiler.specs.Code.{size, test_of}

-- ---- a test doesn't see where accumulators are numbered from

-- they are the same number, field or test, if they are one
abbrev Alike : Term → Term → Type 0
Alike t u = (plain_term_number t ≡ plain_term_number u) × (term_number t ≡ term_number u) × (term_field t ≡ term_field u) × (term_test t ≡ term_test u)

alike : (q : Query) (a b : ℕ) (e : Expr) → Alike (resolved q a e) (resolved q b e)
alike q a b (Brackets e) = alike q a b e
alike q a b (Minus e) = (refl, ap negative (alike q a b e).0, refl, refl)
alike q a b (Binary op x y) = (refl, refl, refl, (λ i. test_by (comparison_of op) ((alike q a b x).2 i) ((alike q (a + aggregates x) (b + aggregates x) y).1 i)))
alike q a b e = (refl, refl, refl, refl)

pub same_test : (q : Query) (a : ℕ) (e : Expr) → test_of q a e ≡ test_of q 0 e
same_test q a e = (alike q a 0 e).3

-- ---- conditions

-- the return aside
abbrev pub condition_size : Query → ℕ → Option Expr → ℕ
condition_size q a None = 1
condition_size q a (Some e) = size q a e

abbrev pub condition_need : Query → ℕ → Option Expr → ℕ
condition_need q a o = ending_need (option_map (resolved q a) o)

pub ended_size : (q : Query) (a : ℕ) (o : Option Expr) → ending_size (option_map (resolved q a) o) ≡ condition_size q a o + 1
ended_size q a o = grind arith

-- ---- accumulators

abbrev pub folds_size : Query → List Acc → ℕ
folds_size q accs = foldings_size (map (folding q) accs)

abbrev pub folds_need : Query → List Acc → ℕ
folds_need q accs = foldings_need (map (folding q) accs)

-- how the accumulators from some place on fold
abbrev pub kinds_of : Query → List Acc → List Kind
kinds_of q accs = map (λ f. f.kind) (map (folding q) accs)

pub kinds_are : (q : Query) (accs : List Acc) → kinds_of q accs ≡ map (λ acc. acc.kind) accs
kinds_are q accs = map-map (λ f. f.kind) (folding q) accs

-- ---- columns, then HAVING, whose first aggregate is the h-th

abbrev pub columns_size : Query → ℕ → ℕ → List Expr → ℕ
columns_size q h a es = firing_size (option_map (resolved q h) q.having) (columns_from q a es)

abbrev pub columns_need : Query → ℕ → ℕ → List Expr → ℕ
columns_need q h a es = firing_need (option_map (resolved q h) q.having) (columns_from q a es)
