-- A word that begins with no capital is none of words that do.
use Rattle.std.proofs.Common.{◌≡◌, ◌∙◌, ℕ, Bool, true, false, ◌&&◌, ◌||◌, List, [], ◌∷◌, nat_eq, refl, sym, ap}
use Rattle.std.specs.Prelude.{bytes_eq}
use Rattle.std.specs.List.{list_all, list_any}
use Rattle.std.proofs.lemmas.Bool.{and_parts, eqb-true}
use Rattle.wsm_record.specs.Name.{is_among, is_between, reserved_words}

abbrev begins : List ℕ → Bool
begins [] = true
begins (c ∷ cs) = is_between 65 90 c

differs : (first c : ℕ) (same : Bool) → nat_eq first c ≡ same → is_between 65 90 first ≡ false → is_between 65 90 c ≡ true → same ≡ false
differs first c true is low high = sym high ∙ ap (is_between 65 90) (sym (eqb-true first c is)) ∙ low
differs first c false is low high = refl

none_of : (first : ℕ) (rest : List ℕ) (words : List (List ℕ)) → is_between 65 90 first ≡ false → list_all begins words ≡ true → list_any (bytes_eq (first ∷ rest)) words ≡ false
none_of first rest [] low all = refl
none_of first rest ([] ∷ words) low all = none_of first rest words low all
none_of first rest ((c ∷ cs) ∷ words) low all =
    let parts = and_parts (is_between 65 90 c) (list_all begins words) all in
    ap (λ (same : Bool). (same && bytes_eq rest cs) || list_any (bytes_eq (first ∷ rest)) words) (differs first c (nat_eq first c) refl low parts.0)
    ∙ none_of first rest words low parts.1

pub none_reserved : (word : List ℕ) (capital : Bool) → ((first : ℕ) (rest : List ℕ) → word ≡ first ∷ rest → capital ≡ is_between 65 90 first) → capital ≡ false
    → capital ≡ is_among word reserved_words
none_reserved [] capital says none = none
none_reserved (first ∷ rest) capital says none = none ∙ sym (none_of first rest reserved_words (sym (says first rest refl) ∙ none) refl)
