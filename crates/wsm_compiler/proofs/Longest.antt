-- The longest path of generated code is found by the structure of the query's terms.
use Rattle.std.proofs.Common.{◌≡◌, ℕ, zero, suc, ◌+◌, ◌*◌, ◌≤◌, max, true, false, List, [], ◌∷◌, ◌++◌, length, map, Option, Some, None, refl, sym, ap, ◌∙◌, arith, append_assoc, length-append}
use Rattle.std.specs.Prelude.{option_map, unwrap_or, slice_index_or}
use Rattle.std.proofs.lemmas.Bool.{lt-ltb}
use Rattle.std.proofs.lemmas.List.{length-map}
use Rattle.wsm_program.specs.declared.instr.FieldTest.{FieldTest}
use Rattle.wsm_program.specs.declared.instr.Instr.{Instr}
use Rattle.wsm_program.specs.declared.instr.Instr.TheVariants as instr
use Rattle.wsm_program.specs.declared.program.Costs.{Costs}
use Rattle.wsm_rules.specs.Costs.{longer, longest_of, one_more, way_from, way_of, ways, needed, windows_of_a_record, join_steps}
use Rattle.wsm_program.specs.Instructions.{next}
use Rattle.wsm_query.specs.Tree.{Query}
use Rattle.wsm_check.specs.Tested.{unless_tested}
use Rattle.wsm_check.specs.Terms.{Term, Number, Truth, Field, Name, Key, Count, Accumulator, If, Minus, Not, Binary, And, Or}
use Rattle.wsm_check.specs.Parts.{Folding, Parts, parts_of}
use Rattle.wsm_compiler.specs.TermCode.{instruction, choice, test_code, jump_unless, term_test, term_size, term_code, ending_code, foldings_code, firing_code}
use Rattle.wsm_compiler.specs.Program.{assembled, program_of}
use Rattle.wsm_compiler.specs.Longest.{longest, longest_ending, longest_foldings, longest_firing, needed_by_structure, NeededByStructure, untested_longest, NotLonger}
use Rattle.wsm_compiler.proofs.Operators.{of_operator}
use Rattle.wsm_compiler.proofs.Tests.{plain, plain_next}
use Rattle.wsm_compiler.proofs.Sizes.{length-term_code, length-test_code}

-- the longest way from the q-th of some instructions, of which the first stands at place p
abbrev at : ℕ → List Instr → ℕ → Option ℕ
at p is q = slice_index_or (ways p is) q None

abbrev plus : ℕ → Option ℕ → Option ℕ
plus n o = option_map (λ m. n + m) o

plus_plus : (m n : ℕ) (o : Option ℕ) → plus m (plus n o) ≡ plus (m + n) o
plus_plus m n None = refl
plus_plus m n (Some k) = ap Some (sums m n k)
  where
    sums : (m n k : ℕ) → m + (n + k) ≡ m + n + k
    sums m n k = omega arith

one_is : (o : Option ℕ) → one_more o ≡ plus 1 o
one_is o = grind arith

longest_alone : (o : Option ℕ) → longer o None ≡ o
longest_alone o = grind arith

-- two ways to one end
longer_plus : (m n : ℕ) (o : Option ℕ) → longer (plus m o) (longer (plus n o) None) ≡ plus (max m n) o
longer_plus m n o = grind arith

-- behind some instructions
at_behind : (p : ℕ) (xs ys : List Instr) (n q : ℕ) → n ≡ length xs + q → at p (xs ++ ys) n ≡ at (p + length xs) ys q
at_behind p [] ys n q h =
    let e : p ≡ p + 0 = omega arith in let f : n ≡ q = omega (arith, h) in (λ i. at (e i) ys (f i))
at_behind p (x ∷ xs) ys zero q h = absurd (omega (arith, h))
at_behind p (x ∷ xs) ys (suc n) q h =
    let f : n ≡ length xs + q = omega (arith, h) in
    let e : suc p + length xs ≡ p + suc (length xs) = omega arith in
    at_behind (suc p) xs ys n q f ∙ ap (λ r. at r ys q) e

-- the way over an edge, to the q-th instruction behind
over_edge : (k t q : ℕ) (is : List Instr) → t ≡ suc k + q → way_from k (ways (suc k) is) t ≡ at (suc k) is q
over_edge k t q is h = grind (arith, lt-ltb)

plain_way : (k : ℕ) (i : Instr) (later : List (Option ℕ)) → plain i ≡ true → way_of k i later ≡ one_more (longest_of (map (way_from k later) (next i k)))
plain_way k i later h = grind arith

plain_at : (k : ℕ) (i : Instr) (rest : List Instr) → plain i ≡ true → at k (i ∷ rest) 0 ≡ plus 1 (at (k + 1) rest 0)
plain_at k i rest h =
    let later = ways (suc k) rest in
    let e : suc k ≡ k + 1 = omega arith in
    let f : suc k ≡ suc k + 0 = omega arith in
    plain_way k i later h
    ∙ ap (λ ns. one_more (longest_of (map (way_from k later) ns))) (plain_next i k h)
    ∙ ap one_more (longest_alone (way_from k later (suc k)) ∙ over_edge k (suc k) 0 rest f ∙ ap (λ n. at n rest 0) e)
    ∙ one_is (at (k + 1) rest 0)

jump_at : (k t q : ℕ) (rest : List Instr) → t ≡ k + 1 + q → at k (instr.Jump t ∷ rest) 0 ≡ plus 1 (at (k + 1) rest q)
jump_at k t q rest h = grind (arith, longest_alone, over_edge, one_is)

-- to the next place or to a target
branch_at : (k t q : ℕ) (rest : List Instr) (m n : ℕ) (o : Option ℕ) → t ≡ k + 1 + q → at (k + 1) rest 0 ≡ plus m o → at (k + 1) rest q ≡ plus n o →
    one_more (longest_of (map (way_from k (ways (suc k) rest)) (suc k ∷ t ∷ []))) ≡ plus (1 + max m n) o
branch_at k t q rest m n o h first second = grind (arith, over_edge, longer_plus, one_is, plus_plus)

test_at : (x : Option FieldTest) (k t q : ℕ) (rest : List Instr) (m n : ℕ) (o : Option ℕ) → t ≡ k + 1 + q → at (k + 1) rest 0 ≡ plus m o → at (k + 1) rest q ≡ plus n o → at k (jump_unless x t ∷ rest) 0 ≡ plus (1 + max m n) o
test_at x k t q rest m n o h first second = grind (arith, branch_at)

-- some instructions take at most n steps to the place behind them
abbrev Takes : ℕ → List Instr → ℕ → Type 0
Takes k is n = (rest : List Instr) → at k (is ++ rest) 0 ≡ plus n (at (k + length is) rest 0)

plain_takes : (k : ℕ) (i : Instr) → plain i ≡ true → Takes k (i ∷ []) 1
plain_takes k i h rest = plain_at k i rest h

sequence_takes : (k : ℕ) (is js : List Instr) (j m n : ℕ) → j ≡ k + length is → Takes k is m → Takes j js n → Takes k (is ++ js) (m + n)
sequence_takes k is js j m n h first second rest = grind (arith, length-append, append_assoc, plus_plus)

-- the code of a test, where there is some
test_takes : {A : Type 0} (o : Option A) (k : ℕ) (is : List Instr) (n : ℕ) → Takes k is n → Takes k (test_code o is) (unless_tested o n)
test_takes None k is n h rest = h rest
test_takes (Some t) k is n h rest = let e : k ≡ k + 0 = omega arith in sym (plus_none (at k rest 0)) ∙ ap (λ p. plus 0 (at p rest 0)) e
  where
    plus_none : (o : Option ℕ) → plus 0 o ≡ o
    plus_none None = refl
    plus_none (Some n) = let e : 0 + n ≡ n = omega arith in ap Some e

choice_takes : (x : Option FieldTest) (i m n : ℕ) (first second : List Instr) (f g : ℕ) → length first ≡ m → length second ≡ n → Takes (i + 1) first f → Takes (i + 1 + m + 1) second g → Takes i (choice (jump_unless x) (i + 1) first m second n) (1 + max (f + 1) g)
choice_takes x i m n first second f g hm hn takes_first takes_second rest =
    let p = i + 1 + m + 1 in
    let end = p + n in
    let jump = instr.Jump end in
    let behind = first ++ (jump ∷ (second ++ rest)) in
    let o = at end rest 0 in
    let la = length-append first (jump ∷ second) in
    let lb = length-append first (jump ∷ []) in
    let grouped : (first ++ jump ∷ second) ++ rest ≡ behind = append_assoc first (jump ∷ second) rest in
    let over : i + length (choice (jump_unless x) (i + 1) first m second n) ≡ end = omega (arith, la, hm, hn) in
    let at_jump : i + 1 + length first ≡ i + 1 + m = omega (arith, hm) in
    let by_jump : at (i + 1 + m) (jump ∷ (second ++ rest)) 0 ≡ plus 1 o =
    jump_at (i + 1 + m) end n (second ++ rest) refl ∙ ap (plus 1) (at_behind p second rest n 0 (omega (arith, hn)) ∙ ap (λ r. at r rest 0) (ap (λ r. p + r) hn)) in
    let by_first : at (i + 1) behind 0 ≡ plus (f + 1) o =
    takes_first (jump ∷ (second ++ rest)) ∙ ap (λ r. plus f (at r (jump ∷ (second ++ rest)) 0)) at_jump ∙ ap (plus f) by_jump ∙ plus_plus f 1 o in
    let target : i + 1 + length (first ++ jump ∷ []) ≡ p = omega (arith, lb, hm) in
    let by_second : at (i + 1) behind (m + 1) ≡ plus g o =
    ap (λ xs. at (i + 1) xs (m + 1)) (sym (append_assoc first (jump ∷ []) (second ++ rest)))
    ∙ at_behind (i + 1) (first ++ jump ∷ []) (second ++ rest) (m + 1) 0 (omega (arith, lb, hm))
    ∙ ap (λ r. at r (second ++ rest) 0) target ∙ takes_second rest ∙ ap (λ r. plus g (at (p + r) rest 0)) hn in
    let jumps : p ≡ i + 1 + (m + 1) = omega arith in
    ap (λ xs. at i (jump_unless x p ∷ xs) 0) grouped
    ∙ test_at x i p (m + 1) behind (f + 1) g o jumps by_first by_second
    ∙ ap (λ r. plus (1 + max (f + 1) g) (at r rest 0)) (sym over)

behind_code : (k : ℕ) (t : Term) → k + term_size t ≡ k + length (term_code k t)
behind_code k t = ap (λ n. k + n) (sym (length-term_code k t))

-- a choice by a test
chosen_takes : (k : ℕ) (c : Term) (first second : List Instr) (m n f g : ℕ) → Takes k (term_code k c) (longest c) → length first ≡ m → length second ≡ n →
    Takes (k + unless_tested (term_test c) (term_size c) + 1) first f → Takes (k + unless_tested (term_test c) (term_size c) + 1 + m + 1) second g →
    Takes k (test_code (term_test c) (term_code k c) ++ choice (jump_unless (term_test c)) (k + unless_tested (term_test c) (term_size c) + 1) first m second n) (unless_tested (term_test c) (longest c) + (1 + max (f + 1) g))
chosen_takes k c first second m n f g takes hm hn takes_first takes_second =
    let o = term_test c in
    let i = k + unless_tested o (term_size c) in
    sequence_takes k (test_code o (term_code k c)) (choice (jump_unless o) (i + 1) first m second n) i (unless_tested o (longest c)) (1 + max (f + 1) g)
    (ap (λ l. k + l) (sym (length-test_code o (term_code k c) (term_size c) (length-term_code k c)))) (test_takes o k (term_code k c) (longest c) takes) (choice_takes o i m n first second f g hm hn takes_first takes_second)

-- the code of a term
code_takes : (k : ℕ) (t : Term) → Takes k (term_code k t) (longest t)
code_takes k (If c x y) =
    let j = k + unless_tested (term_test c) (term_size c) + 1 in
    let end = j + term_size x + 1 in
    chosen_takes k c (term_code j x) (term_code end y) (term_size x) (term_size y) (longest x) (longest y) (code_takes k c) (length-term_code j x) (length-term_code end y) (code_takes j x) (code_takes end y)
code_takes k (Minus x) =
    sequence_takes k (term_code k x) (instr.Neg ∷ []) (k + term_size x) (longest x) 1 (behind_code k x) (code_takes k x) (plain_takes (k + term_size x) instr.Neg refl)
code_takes k (Not x) =
    sequence_takes k (term_code k x) (instr.Not ∷ []) (k + term_size x) (longest x) 1 (behind_code k x) (code_takes k x) (plain_takes (k + term_size x) instr.Not refl)
code_takes k (Binary op x y) =
    let i = k + term_size x in
    sequence_takes k (term_code k x) (term_code i y ++ instruction op ∷ []) i (longest x) (longest y + 1) (behind_code k x) (code_takes k x)
    (sequence_takes i (term_code i y) (instruction op ∷ []) (i + term_size y) (longest y) 1 (behind_code i y) (code_takes i y) (plain_takes (i + term_size y) (instruction op) (of_operator (λ i. plain i ≡ true) (λ a. refl) (λ c. refl) op)))
code_takes k (And x y) =
    let j = k + unless_tested (term_test x) (term_size x) + 1 in
    chosen_takes k x (term_code j y) (instr.PushBool false ∷ []) (term_size y) 1 (longest y) 1 (code_takes k x) (length-term_code j y) refl (code_takes j y) (plain_takes (j + term_size y + 1) (instr.PushBool false) refl)
code_takes k (Or x y) =
    let j = k + unless_tested (term_test x) (term_size x) + 1 in
    chosen_takes k x (instr.PushBool true ∷ []) (term_code (j + 1 + 1) y) 1 (term_size y) 1 (longest y) (code_takes k x) refl (length-term_code (j + 1 + 1) y) (plain_takes j (instr.PushBool true) refl) (code_takes (j + 1 + 1) y)
code_takes k (Number n) = plain_takes k (instr.PushInt n) refl
code_takes k (Truth b) = plain_takes k (instr.PushBool b) refl
code_takes k (Field f) = plain_takes k (instr.Field f) refl
code_takes k (Name e i) = plain_takes k (instr.PushEnum e i) refl
code_takes k Key = plain_takes k instr.Key refl
code_takes k Count = plain_takes k instr.Count refl
code_takes k (Accumulator a) = plain_takes k (instr.Acc a) refl

-- ---- sections

-- a term, and what leads from behind it to the end
path_behind : (k : ℕ) (t : Term) (rest : List Instr) (n : ℕ) → at (k + term_size t) rest 0 ≡ Some n → at k (term_code k t ++ rest) 0 ≡ Some (longest t + n)
path_behind k t rest n h = code_takes k t rest ∙ ap (λ p. plus (longest t) (at p rest 0)) (sym (behind_code k t)) ∙ ap (plus (longest t)) h

ending_path : (k : ℕ) (o : Option Term) → at k (ending_code k o) 0 ≡ Some (longest_ending o)
ending_path k None = plain_at k (instr.PushBool true) (instr.Return ∷ []) refl
ending_path k (Some t) = path_behind k t (instr.Return ∷ []) 1 refl

foldings_path : (k a : ℕ) (fs : List Folding) → at k (foldings_code k a fs) 0 ≡ Some (longest_foldings fs)
foldings_path k a [] = refl
foldings_path k a (f ∷ fs) =
    let j = k + term_size f.operand in
    let rest = foldings_code (j + 1) (suc a) fs in
    path_behind k f.operand (instr.Fold a ∷ rest) (1 + longest_foldings fs) (fold_at j a rest ∙ ap (plus 1) (foldings_path (j + 1) (suc a) fs))
  where
    fold_at : (k a : ℕ) (rest : List Instr) → at k (instr.Fold a ∷ rest) 0 ≡ plus 1 (at (k + 1) rest 0)
    fold_at k a rest =
        let e : suc k ≡ k + 1 = omega arith in
        let f : suc k ≡ suc k + 0 = omega arith in
        ap one_more (longest_alone (way_from k (ways (suc k) rest) (suc k)) ∙ over_edge k (suc k) 0 rest f ∙ ap (λ n. at n rest 0) e) ∙ one_is (at (k + 1) rest 0)

firing_path : (k : ℕ) (having : Option Term) (ts : List Term) → at k (firing_code k having ts) 0 ≡ Some (longest_firing having ts)
firing_path k having [] = ending_path k having
firing_path k having (t ∷ ts) = path_behind k t (firing_code (k + term_size t) having ts) (longest_firing having ts) (firing_path (k + term_size t) having ts)

-- whatever the program states
needed_of_parts : (p : Parts) (b : Costs) → needed (assembled p b) ≡ needed_by_structure p
needed_of_parts p b =
    let path = λ (o : Option ℕ). unwrap_or o 0 in
    (λ i. record {
      per_record = path (ending_path 0 p.condition i) + windows_of_a_record p.output.shape * path (foldings_path 0 0 p.foldings i) + join_steps p.output.shape (length-map p.foldings (λ (f : Folding). f.kind) i);
      per_pane = path (firing_path 0 p.having p.columns i);
      held = (needed_by_structure p).held;
    })

pub needed_is : (q : Query) → NeededByStructure q
needed_is q = needed_of_parts (parts_of q) (program_of q).header.budget

-- ---- tests make no path longer

test_shorter : {A : Type 0} (t : Option A) (l m : ℕ) → l ≤ m → unless_tested t l ≤ m
test_shorter t l m h = grind arith

if_shorter : (l m n c x y : ℕ) → l ≤ c → m ≤ x → n ≤ y → l + (1 + max (m + 1) n) ≤ c + (1 + max (x + 1) y)
if_shorter l m n c x y h i j = omega (arith, h, i, j)

-- of a test and two parts
chosen_shorter : (c : Term) (m n x y : ℕ) → NotLonger c → m ≤ x → n ≤ y → unless_tested (term_test c) (longest c) + (1 + max (m + 1) n) ≤ untested_longest c + (1 + max (x + 1) y)
chosen_shorter c m n x y h i j = grind (arith, if_shorter, test_shorter)

pub not_longer : (t : Term) → NotLonger t
not_longer (If c x y) = chosen_shorter c (longest x) (longest y) (untested_longest x) (untested_longest y) (not_longer c) (not_longer x) (not_longer y)
not_longer (Minus x) = let h = not_longer x in omega (arith, h)
not_longer (Not x) = let h = not_longer x in omega (arith, h)
not_longer (Binary op x y) = let h = not_longer x in let l = not_longer y in omega (arith, h, l)
not_longer (And x y) = chosen_shorter x (longest y) 1 (untested_longest y) 1 (not_longer x) (not_longer y) (omega arith)
not_longer (Or x y) = chosen_shorter x 1 (longest y) 1 (untested_longest y) (not_longer x) (omega arith) (not_longer y)
not_longer t = omega arith
