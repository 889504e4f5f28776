-- Lengths of code, and that no part of it is empty.
use Rattle.std.proofs.Common.{◌≡◌, ℕ, suc, ◌+◌, ◌<◌, true, false, List, [], ◌∷◌, ◌++◌, length, map, Option, refl, ap, ap₂, ◌∙◌, arith, length-append}
use Rattle.std.specs.Prelude.{option_map}
use Rattle.wsm_program.specs.declared.instr.Instr.{Instr}
use Rattle.wsm_program.specs.declared.instr.Instr.TheVariants as instr
use Rattle.wsm_query.specs.Tree.{Query, Expr}
use Rattle.wsm_check.specs.Tested.{unless_tested}
use Rattle.wsm_check.specs.Aggregates.{Acc, accumulators}
use Rattle.wsm_check.specs.Sizes.{term_need}
use Rattle.wsm_check.specs.Terms.{Term, If, Minus, Not, Binary, And, Or, resolved}
use Rattle.wsm_check.specs.Parts.{Folding, aggregates_of, folding, columns_from}
use Rattle.wsm_compiler.specs.TermCode.{choice, instruction, test_code, jump_unless, term_test, term_size, term_code, ending_code, ending_size, foldings_code, foldings_size, firing_code, firing_size}
use Rattle.wsm_compiler.specs.Code.{code, size, need, condition_code, folds, columns_code}
use Rattle.wsm_compiler.specs.Sized.{SizesAreLengths}
use Rattle.wsm_compiler.proofs.QueryTerms.{condition_size, ended_size, folds_size, columns_size}

pub length-test_code : {A : Type 0} (o : Option A) (is : List Instr) (n : ℕ) → length is ≡ n → length (test_code o is) ≡ unless_tested o n
length-test_code o is n h = grind arith

pub length-choice : (jump : ℕ → Instr) (j : ℕ) (first : List Instr) (m : ℕ) (second : List Instr) (n : ℕ) → length (choice jump j first m second n) ≡ length first + length second + 2
length-choice jump j first m second n = let l = length-append first (instr.Jump (j + m + 1 + n) ∷ second) in omega (arith, l)

-- a test, and the choice behind it
length-chosen : {A : Type 0} (o : Option A) (is : List Instr) (jump : ℕ → Instr) (j : ℕ) (first : List Instr) (m : ℕ) (second : List Instr) (n : ℕ) →
    length (test_code o is ++ choice jump j first m second n) ≡ unless_tested o (length is) + (length first + length second) + 2
length-chosen o is jump j first m second n = grind (arith, length-append, length-test_code, length-choice)

-- a term has as many instructions as its size says
pub length-term_code : (k : ℕ) (t : Term) → length (term_code k t) ≡ term_size t
length-term_code k (If c x y) =
    let j = k + unless_tested (term_test c) (term_size c) + 1 in
    let end = j + term_size x + 1 in
    length-chosen (term_test c) (term_code k c) (jump_unless (term_test c)) j (term_code j x) (term_size x) (term_code end y) (term_size y)
    ∙ (λ i. unless_tested (term_test c) (length-term_code k c i) + (length-term_code j x i + length-term_code end y i) + 2)
length-term_code k (Minus x) = length-append (term_code k x) (instr.Neg ∷ []) ∙ ap (λ n. n + 1) (length-term_code k x)
length-term_code k (Not x) = length-append (term_code k x) (instr.Not ∷ []) ∙ ap (λ n. n + 1) (length-term_code k x)
length-term_code k (Binary op x y) =
    let right = term_code (k + term_size x) y in
    let l = length-append (term_code k x) (right ++ instruction op ∷ []) in
    let m = length-append right (instruction op ∷ []) in
    omega (arith, l, m, length-term_code k x, length-term_code (k + term_size x) y)
length-term_code k (And x y) =
    let j = k + unless_tested (term_test x) (term_size x) + 1 in
    let l = length-chosen (term_test x) (term_code k x) (jump_unless (term_test x)) j (term_code j y) (term_size y) (instr.PushBool false ∷ []) 1 in
    omega (arith, l, ap (unless_tested (term_test x)) (length-term_code k x), length-term_code j y)
length-term_code k (Or x y) =
    let j = k + unless_tested (term_test x) (term_size x) + 1 in
    let l = length-chosen (term_test x) (term_code k x) (jump_unless (term_test x)) j (instr.PushBool true ∷ []) 1 (term_code (j + 1 + 1) y) (term_size y) in
    omega (arith, l, ap (unless_tested (term_test x)) (length-term_code k x), length-term_code (j + 1 + 1) y)
length-term_code k t = refl

-- and so has an expression
pub length-code : (q : Query) (k a : ℕ) (e : Expr) → length (code q k a e) ≡ size q a e
length-code q k a e = length-term_code k (resolved q a e)

-- ---- sections

length-ending : (k : ℕ) (o : Option Term) → length (ending_code k o) ≡ ending_size o
length-ending k o = grind (arith, length-append, length-term_code)

length-foldings : (k a : ℕ) (fs : List Folding) → length (foldings_code k a fs) ≡ foldings_size fs
length-foldings k a [] = refl
length-foldings k a (f ∷ fs) =
    let l = length-append (term_code k f.operand) (instr.Fold a ∷ foldings_code (k + term_size f.operand + 1) (suc a) fs) in
    omega (arith, l, length-term_code k f.operand, length-foldings (k + term_size f.operand + 1) (suc a) fs)

length-firing : (k : ℕ) (having : Option Term) (ts : List Term) → length (firing_code k having ts) ≡ firing_size having ts
length-firing k having [] = length-ending k having
length-firing k having (t ∷ ts) =
    length-append (term_code k t) (firing_code (k + term_size t) having ts) ∙ ap₂ (λ m n. m + n) (length-term_code k t) (length-firing (k + term_size t) having ts)

pub length-condition : (q : Query) (k a : ℕ) (o : Option Expr) → length (condition_code q k a o ++ instr.Return ∷ []) ≡ condition_size q a o + 1
length-condition q k a o = length-ending k (option_map (resolved q a) o) ∙ ended_size q a o

pub length-folds : (q : Query) (k a : ℕ) (accs : List Acc) → length (folds q k a accs) ≡ folds_size q accs
length-folds q k a accs = length-foldings k a (map (folding q) accs)

pub length-columns : (q : Query) (h k a : ℕ) (es : List Expr) → length (columns_code q h k a es) ≡ columns_size q h a es
length-columns q h k a es = length-firing k (option_map (resolved q h) q.having) (columns_from q a es)

pub sizes_are_lengths : (q : Query) → SizesAreLengths q
sizes_are_lengths q = (length-ending 0 (option_map (resolved q 0) q.condition), length-folds q 0 0 (accumulators q), length-columns q (aggregates_of q.columns) 0 0 q.columns)

-- ---- nothing is empty

not_empty : (t : Term) → (0 < term_size t) × (0 < term_need t)
not_empty (Minus x) = (omega arith, (not_empty x).1)
not_empty (Not x) = (omega arith, (not_empty x).1)
not_empty (If c x y) = let h = not_empty x in (omega arith, omega (arith, h.1))
not_empty (And x y) = let h = not_empty y in (omega arith, omega (arith, h.1))
not_empty (Or x y) = let h = not_empty y in (omega arith, omega (arith, h.1))
not_empty t = (omega arith, omega arith)

pub some_size : (q : Query) (a : ℕ) (e : Expr) → 0 < size q a e
some_size q a e = (not_empty (resolved q a e)).0

pub some_need : (q : Query) (a : ℕ) (e : Expr) → 0 < need q a e
some_need q a e = (not_empty (resolved q a e)).1

some_ending : (o : Option Term) → 0 < ending_size o
some_ending o = grind arith

pub some_folds_size : (q : Query) (accs : List Acc) → 0 < folds_size q accs
some_folds_size q [] = omega arith
some_folds_size q (acc ∷ accs) = omega arith

pub some_columns_size : (q : Query) (h a : ℕ) (es : List Expr) → 0 < columns_size q h a es
some_columns_size q h a [] = some_ending (option_map (resolved q h) q.having)
some_columns_size q h a (x ∷ es) = omega (arith, some_size q a x)

pub some_code : (q : Query) (k a : ℕ) (e : Expr) → 0 < length (code q k a e)
some_code q k a e = omega (arith, length-code q k a e, some_size q a e)

pub some_folds : (q : Query) (k a : ℕ) (accs : List Acc) → 0 < length (folds q k a accs)
some_folds q k a accs = omega (arith, length-folds q k a accs, some_folds_size q accs)

pub some_columns : (q : Query) (h k a : ℕ) (es : List Expr) → 0 < length (columns_code q h k a es)
some_columns q h k a es = omega (arith, length-columns q h k a es, some_columns_size q h a es)
