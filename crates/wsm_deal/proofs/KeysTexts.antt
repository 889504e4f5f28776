-- The keys of a part as the code cuts them, and the text of names with one more.
use Rattle.std.proofs.Common.{◌≡◌, ◌∙◌, ◌∷◌, ◌++◌, [], ℕ, List, ap, append_assoc, append-nil, arith, inl, inr, length, min, refl, sym}
use Rattle.std.proofs.lemmas.Bool.{cases_lt}
use Rattle.std.proofs.lemmas.List.{drop_all, length-drop, take_all}
use Rattle.std.specs.Prelude.{◌+◌, ◌-◌, ◌≤◌, codes, drop, take}
use Rattle.wsm_deal.specs.KeysText.{further_text}

-- so many elements behind the first ones, by the places where they begin and end
pub cut_is : {A : Type 0} (xs : List A) (m n start end : ℕ) → start ≡ min m (length xs) → end ≡ min (start + n) (length xs) → take (end - start) (drop start xs) ≡ take n (drop m xs)
cut_is xs m n start end starts ends =
    let left = length-drop m xs in
    elim (cases_lt m (length xs)) [
      | inl within ↦
          let begins : start ≡ m = omega (arith, starts, within) in
          elim (cases_lt (m + n) (length xs)) [
            | inl more ↦
                let size : end - start ≡ n = omega (arith, ends, begins, more) in
                rw (size, begins) refl
            | inr all ↦
                let size : length (drop m xs) ≤ end - start = omega (arith, ends, begins, all, left) in
                rw begins (take_all (end - m) (drop m xs) (rw begins at size) ∙ sym (take_all n (drop m xs) (omega (arith, all, left))))
          ]
      | inr past ↦
          let begins : length xs ≤ start = omega (arith, starts, past) in
          rw (drop_all start xs begins, drop_all m xs past) (take_all (end - start) [] (omega arith) ∙ sym (take_all n [] (omega arith)))
    ]

-- one name more
pub further_more : (names : List (List ℕ)) (name : List ℕ) → further_text (names ++ name ∷ []) ≡ further_text names ++ (codes ", " ++ name)
unfolding further_text
further_more [] name = ap (λ (t : List ℕ). codes ", " ++ t) (append-nil name)
further_more (x ∷ xs) name =
    rw (further_more xs name) (ap (λ (t : List ℕ). codes ", " ++ t) (sym (append_assoc x (further_text xs) (codes ", " ++ name))))

-- what two pieces more make of a text of three
pub regrouped : (front first rest sep name : List ℕ) → ((front ++ (first ++ rest)) ++ sep) ++ name ≡ front ++ (first ++ (rest ++ (sep ++ name)))
regrouped front first rest sep name =
    append_assoc (front ++ (first ++ rest)) sep name
    ∙ append_assoc front (first ++ rest) (sep ++ name)
    ∙ ap (λ (t : List ℕ). front ++ t) (append_assoc first rest (sep ++ name))
