-- Which texts are names.
use Rattle.std.specs.Prelude.{ℕ, Bool, false, ◌&&◌, ◌||◌, not, List, [], ◌∷◌, ◌++◌, length, nat_le, nat_eq, bytes_eq, codes}
use Rattle.std.specs.List.{list_any, list_all}
use Rattle.wsm_record.specs.declared.limits.TheConstants.{MAX_NAME}

abbrev pub is_between : ℕ → ℕ → ℕ → Bool
is_between lo hi c = nat_le lo c && nat_le c hi

abbrev pub is_letter : ℕ → Bool
is_letter c = is_between 65 90 c || is_between 97 122 c

abbrev pub is_digit : ℕ → Bool
is_digit c = is_between 48 57 c

abbrev pub is_word_byte : ℕ → Bool
is_word_byte c = is_letter c || (is_digit c || nat_eq c 95)

abbrev pub is_among : List ℕ → List (List ℕ) → Bool
is_among x xs = list_any (bytes_eq x) xs

-- the 49 words of query texts
abbrev pub reserved_words : List (List ℕ)
reserved_words =
    codes "KEYS" ∷ codes "KEY" ∷ codes "FIELD" ∷ codes "INT" ∷ codes "BOOL" ∷ codes "ENUM" ∷ codes "START" ∷ codes "SKEW" ∷ codes "LATENESS" ∷ codes "RECORDS" ∷ codes "BUDGET" ∷ codes "RECORD" ∷ codes "PANE" ∷ codes "HELD" ∷
    codes "SELECT" ∷ codes "WHERE" ∷ codes "HAVING" ∷ codes "WINDOW" ∷ codes "FIXED" ∷ codes "SLIDING" ∷ codes "SESSION" ∷ codes "EVERY" ∷ codes "ACCUMULATING" ∷ codes "DISCARDING" ∷ codes "RETRACTING" ∷ codes "EARLY" ∷ codes "LATE" ∷
    codes "EMIT" ∷ codes "PANES" ∷ codes "ISTREAM" ∷ codes "DSTREAM" ∷ codes "RSTREAM" ∷ codes "AND" ∷ codes "OR" ∷ codes "NOT" ∷ codes "TRUE" ∷ codes "FALSE" ∷ codes "COUNT" ∷ codes "SUM" ∷ codes "MIN" ∷ codes "MAX" ∷ codes "ANY" ∷ codes "ALL" ∷ codes "IF" ∷ codes "THEN" ∷ codes "ELSE" ∷ codes "END" ∷ codes "FROM" ∷ codes "SOURCES" ∷ []

-- a word of query texts, which is no name
unfoldable pub is_reserved : List ℕ → Bool
is_reserved word = is_among word reserved_words

-- a letter, then letters, digits and _
abbrev pub is_word : List ℕ → Bool
is_word [] = false
is_word (c ∷ cs) = is_letter c && list_all is_word_byte cs

-- a word of at most 32 bytes that isn't reserved
abbrev pub is_name : List ℕ → Bool
is_name word = is_word word && (nat_le (length word) MAX_NAME && not (is_reserved word))

-- a name stands behind those before it or behind itself
abbrev pub repeats_after : List (List ℕ) → List (List ℕ) → Bool
repeats_after before [] = false
repeats_after before (x ∷ xs) = is_among x before || repeats_after (before ++ x ∷ []) xs
