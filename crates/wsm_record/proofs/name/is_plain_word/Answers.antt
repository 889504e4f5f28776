use Rattle.std.proofs.Common.{◌≡◌, ◌<◌, ◌-◌, ◌∙◌, ◌&&◌, ℕ, List, [], ◌∷◌, length, take, drop, get_or, true, sym, ap, arith}
use Rattle.std.proofs.lemmas.Grind.{common_steps}
use Rattle.std.specs.List.{list_all}
use Rattle.wsm_record.specs.Name.{is_word, is_word_byte, is_letter}
use Rattle.wsm_record.proofs.name.is_plain_word.Goals as goal

-- a text that begins with a letter is a word where the rest may stand in one
word_by_head : (t : List ℕ) → 0 < length t → is_letter (get_or t 0 0) ≡ true → list_all is_word_byte (drop 1 t) ≡ is_word t
word_by_head [] some h = absurd (omega arith)
word_by_head (c ∷ cs) some h = ap (λ b. b && list_all is_word_byte cs) (sym h)

whole_rest : (t : List ℕ) → take (length t - 1) (drop 1 t) ≡ drop 1 t
whole_rest t = grind (arith, common_steps)

pub returns-then-is_ascii_alphabetic : goal.returns-then-is_ascii_alphabetic
returns-then-is_ascii_alphabetic c =
    let letter : is_letter (get_or c.args.text.now 0 0) ≡ true = sym c.is_ascii_alphabetic.ensures.value ∙ c.if-is_ascii_alphabetic.true in
    let some : 0 < length c.args.text.now = omega arith in
    c.are_parts.ensures ∙ ap (list_all is_word_byte) (whole_rest c.args.text.now) ∙ word_by_head c.args.text.now some letter
