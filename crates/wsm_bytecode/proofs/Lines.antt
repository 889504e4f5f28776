-- The lines of a section, one behind the other.
use Rattle.std.proofs.Common.{◌≡◌, ℕ, suc, ◌+◌, ◌<◌, List, [], ◌∷◌, ◌++◌, length, get_or, drop, pos, refl, sym, ap, ◌∙◌, append_assoc, add-one, drop-cons}
use Rattle.std.specs.Fmt.{decimal}
use Rattle.wsm_program.specs.declared.instr.Instr.{Instr}
use Rattle.wsm_program.specs.declared.instr.SectionId.{SectionId}
use Rattle.wsm_program.specs.Text.{Letters, Number, instr_words, instr_text, section_name, line_text}
use Rattle.wsm_bytecode.specs.Text.{section_text}

-- section, place and instruction, joined by one space
line_is : (id : SectionId) (place : ℕ) (i : Instr) → line_text (Letters (section_name id) ∷ Number (pos place) ∷ instr_words i) ≡ section_name id ++ (32 ∷ (decimal place ++ (32 ∷ instr_text i)))
line_is id place i = refl

ended : (a b c : List ℕ) → (a ++ (32 ∷ (b ++ (32 ∷ c)))) ++ 10 ∷ [] ≡ a ++ (32 ∷ (b ++ (32 ∷ (c ++ 10 ∷ []))))
ended a b c = append_assoc a (32 ∷ (b ++ (32 ∷ c))) (10 ∷ []) ∙ ap (λ x. a ++ (32 ∷ x)) (append_assoc b (32 ∷ c) (10 ∷ []))

-- the line of the next instruction, and the lines after it
pub lines_go_on : (id : SectionId) (place : ℕ) (is : List Instr) (d : Instr) (before new total : List ℕ) → place < length is
    → before ++ section_text id place (drop place is) ≡ total
    → new ≡ before ++ (section_name id ++ (32 ∷ (decimal place ++ (32 ∷ (instr_text (get_or is place d) ++ 10 ∷ [])))))
    → new ++ section_text id (place + 1) (drop (place + 1) is) ≡ total
lines_go_on id place is d before new total lt so_far written =
    let i = get_or is place d in
    let rest : drop place is ≡ i ∷ drop (place + 1) is = rw add-one (drop-cons is place d lt) in
    let line = line_text (Letters (section_name id) ∷ Number (pos place) ∷ instr_words i) ++ 10 ∷ [] in
    let others = section_text id (suc place) (drop (place + 1) is) in
    let made : section_text id place (drop place is) ≡ line ++ others = ap (λ (xs : List Instr). section_text id place xs) rest in
    let same : new ≡ before ++ line = written ∙ ap (λ x. before ++ x) (sym (ended (section_name id) (decimal place) (instr_text i)) ∙ ap (λ x. x ++ 10 ∷ []) (sym (line_is id place i))) in
    let next : section_text id (place + 1) (drop (place + 1) is) ≡ others = ap (λ k. section_text id k (drop (place + 1) is)) (add-one place) in
    ap (λ x. new ++ x) next ∙ ap (λ x. x ++ others) same ∙ append_assoc before line others ∙ ap (λ x. before ++ x) (sym made) ∙ so_far
