-- Code that is added part by part.
use Rattle.std.proofs.Common.{◌≡◌, ℕ, ◌+◌, ◌<◌, false, true, List, [], ◌∷◌, ◌++◌, length, map, drop, get_or, refl, sym, ◌∙◌, ap, arith, add-one, append_assoc, length-append}
use Rattle.std.proofs.lemmas.List.{drop_more}
use Rattle.wsm_program.specs.declared.instr.Instr.{Instr}
use Rattle.wsm_program.specs.declared.instr.Instr.TheVariants as instr
use Rattle.wsm_check.specs.Terms.{Term}
use Rattle.wsm_check.specs.Tested.{unless_tested}
use Rattle.wsm_check.specs.Parts.{Folding}
use Rattle.wsm_compiler.specs.TermCode.{test_code, term_size, term_test, term_code, foldings_code}
use Rattle.wsm_compiler.proofs.Sizes.{length-test_code, length-term_code}

-- and so many stand there more once it is added
pub length-added : (code : List Instr) (k : ℕ) (t : Term) → length (code ++ term_code k t) ≡ length code + term_size t
length-added code k t = length-append code (term_code k t) ∙ ap (λ n. length code + n) (length-term_code k t)

-- the same behind an instruction
pub length-added_behind : (code : List Instr) (i : Instr) (k : ℕ) (t : Term) → length (code ++ i ∷ term_code k t) ≡ length code + 1 + term_size t
length-added_behind code i k t = let l = length-append code (i ∷ term_code k t) in omega (arith, l, length-term_code k t)

-- the same of a test
pub length-added_test : (code : List Instr) (k : ℕ) (t : Term) → length (code ++ test_code (term_test t) (term_code k t)) ≡ length code + unless_tested (term_test t) (term_size t)
length-added_test code k t = grind (arith, length-append, length-test_code, length-term_code)

-- the elements from place i on are the one there and those behind it
pub seen_rest : {X Y : Type 0} (f : X → Y) (xs : List X) (i : ℕ) (x : X) → i < length xs → x ≡ get_or xs i x → map f (drop i xs) ≡ f x ∷ map f (drop (i + 1) xs)
seen_rest f xs i x h e = ap (map f) (drop_more xs i x h ∙ ap (λ y. y ∷ drop (i + 1) xs) (sym e))

-- what is added to code
pub ruleset added = (length-added, length-added_behind, length-added_test, append_assoc)

-- an operand's code, and its FOLD
pub folded : (code mid next : List Instr) (a : ℕ) (f : Folding) (fs : List Folding) → mid ≡ code ++ term_code (length code) f.operand → next ≡ mid ++ instr.Fold a ∷ [] →
    (length next ≡ length code + term_size f.operand + 1) × (next ++ foldings_code (length next) (a + 1) fs ≡ code ++ foldings_code (length code) a (f ∷ fs))
folded code mid next a f fs m n = grind (arith, length-append, length-added, add-one, append_assoc)

-- a column's code
pub computed : (code next : List Instr) (t : Term) (rest : ℕ → List Instr) → next ≡ code ++ term_code (length code) t →
    (length next ≡ length code + term_size t) × (next ++ rest (length next) ≡ code ++ (term_code (length code) t ++ rest (length code + term_size t)))
computed code next t rest n = grind (arith, length-added, append_assoc)
