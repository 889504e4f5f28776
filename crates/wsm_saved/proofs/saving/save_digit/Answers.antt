use Rattle.std.proofs.Common.{rules, ◌≡◌, ◌+◌, ◌<◌, ◌++◌, ◌∷◌, [], ℕ, List, sym, ap, subst, OnOk}
use Rattle.std.proofs.lemmas.Fmt.{decimal_digit}
use Rattle.wsm_saved.specs.Numbers.{number_text}
use Rattle.wsm_saved.proofs.saving.save_digit.Goals as goal

-- a digit and a comma are the number's text
is_text : (n : ℕ) → n < 10 → (48 + n) ∷ 44 ∷ [] ≡ number_text n
unfolding number_text
is_text n small = ap (λ (t : List ℕ). t ++ (44 ∷ [])) (sym (decimal_digit n small))

pub returns : goal.returns
returns c =
    let front : List ℕ = c.args.out.now.items in
    subst (λ (t : List ℕ). OnOk c.extend_from_slice.result (c.extend_from_slice.new.self.items ≡ front ++ t)) (is_text c.args.digit c.requires) (search rules)
