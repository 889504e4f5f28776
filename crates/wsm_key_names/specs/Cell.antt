-- A name as a cell of CSV (RFC 4180, section 2, rules 5 to 7).
use Rattle.std.specs.Prelude.{◌≡◌, refl, ℕ, ◌==◌, ◌||◌, Bool, false, List, [], ◌∷◌, ◌++◌, map, Some, codes, if◌then◌else◌}
use Rattle.std.specs.List.{list_any}
use Rattle.csv.specs.Machine.{next_record}
use Rattle.csv.specs.Reading.{default_config}
use Rattle.csv.specs.declared.parser.State.TheVariants as st
use Rattle.wsm_semantics.specs.Text.{joined}

-- a comma, a quote, a carriage return and a line feed
abbrev pub is_mark : ℕ → Bool
is_mark b = (b == 44) || (b == 34) || (b == 13) || (b == 10)

abbrev pub needs_quotes : List ℕ → Bool
needs_quotes text = list_any is_mark text

-- each quote twice
unfoldable pub doubled : List ℕ → List ℕ
doubled [] = []
doubled (b ∷ bs) = if b == 34 then 34 ∷ 34 ∷ doubled bs else b ∷ doubled bs

-- between quotes
abbrev pub quoted : List ℕ → List ℕ
quoted text = 34 ∷ (doubled text ++ 34 ∷ [])

-- a text with a mark stands between quotes, any other as it is
abbrev pub cell_of : List ℕ → List ℕ
cell_of text = if needs_quotes text then quoted text else text

-- the cells of names
abbrev pub cells_of : List (List ℕ) → List (List ℕ)
cells_of names = map cell_of names

-- what is kept of a cell: nothing where it is the name
abbrev pub kept_of : List ℕ → List ℕ
kept_of text = if needs_quotes text then quoted text else []

-- a line with the cell of a text among others that need no quotes reads as these cells with the text
abbrev pub ReadsBack : Type 0
ReadsBack = (first : List ℕ) (front : List (List ℕ)) (text : List ℕ) (back : List (List ℕ)) (rest : List ℕ) →
    list_any needs_quotes (first ∷ front ++ back) ≡ false →
    next_record default_config st.StartRecord [] [] ((joined (first ∷ front ++ cell_of text ∷ back) ++ 10 ∷ []) ++ rest) ≡ Some (first ∷ front ++ text ∷ back, st.StartRecord, rest)

some_cells : cells_of (codes "k1" ∷ codes "a b" ∷ codes "a,b" ∷ codes "say \"hi\"" ∷ codes "x\r" ∷ codes "\"" ∷ [])
    ≡ codes "k1" ∷ codes "a b" ∷ codes "\"a,b\"" ∷ codes "\"say \"\"hi\"\"\"" ∷ codes "\"x\r\"" ∷ codes "\"\"\"\"" ∷ []
unfolding doubled
some_cells = refl
