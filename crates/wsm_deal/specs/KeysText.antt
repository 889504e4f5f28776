-- The KEYS clause of a part's query.
use Rattle.std.specs.Prelude.{◌≡◌, ◌∷◌, ◌++◌, [], ℕ, List, codes, refl}

-- names behind another, each behind a comma
unfoldable pub further_text : List (List ℕ) → List ℕ
further_text [] = []
further_text (name ∷ names) = codes ", " ++ (name ++ further_text names)

abbrev pub names_text : List (List ℕ) → List ℕ
names_text [] = []
names_text (name ∷ names) = name ++ further_text names

-- the clause, and a line feed
abbrev pub keys_text : List (List ℕ) → List ℕ
keys_text names = codes "KEYS " ++ (names_text names ++ codes ";\n")

two_keys : keys_text (codes "a" ∷ codes "b" ∷ []) ≡ codes "KEYS a, b;\n"
unfolding further_text
two_keys = refl
