-- Words that are names and words that are none, and counters at their greatest value.
use Rattle.std.specs.Prelude.{◌≡◌, refl, ℕ, Bool, true, false, List, [], ◌∷◌, map, replicate, codes}
use Rattle.std.specs.List.{list_any}
use Rattle.wsm_record.specs.Name.{is_name, is_reserved}
use Rattle.wsm_admission.specs.Admission.{counter}

-- both ends of the letters and of the digits, and what stands beside them; 32 bytes and one more
abbrev names : List (List ℕ × Bool)
names =
    (codes "a", true) ∷ (codes "z", true) ∷ (codes "A", true) ∷ (codes "Z", true)
    ∷ (codes "x0", true) ∷ (codes "x9", true) ∷ (codes "x_y", true) ∷ (codes "from", true)
    ∷ ([], false) ∷ (codes "0x", false) ∷ (codes "_x", false) ∷ (codes "x y", false)
    ∷ (codes "x/", false) ∷ (codes "x:", false) ∷ (codes "x@", false) ∷ (codes "x[", false) ∷ (codes "x`", false) ∷ (codes "x{", false)
    ∷ (replicate 32 97, true) ∷ (replicate 33 97, false)
    ∷ []

names_told : map (λ n. (n.0, is_name n.0)) names ≡ names
unfolding is_reserved
names_told = refl

-- the words of query texts, by the alphabet
abbrev words : List (List ℕ)
words =
    codes "ACCUMULATING" ∷ codes "ALL" ∷ codes "AND" ∷ codes "ANY" ∷ codes "BOOL" ∷ codes "BUDGET" ∷ codes "COUNT" ∷ codes "DISCARDING" ∷ codes "DSTREAM" ∷ codes "EARLY" ∷ codes "ELSE" ∷ codes "EMIT" ∷ codes "END"
    ∷ codes "ENUM" ∷ codes "EVERY" ∷ codes "FALSE" ∷ codes "FIELD" ∷ codes "FIXED" ∷ codes "FROM" ∷ codes "HAVING" ∷ codes "HELD" ∷ codes "IF" ∷ codes "INT" ∷ codes "ISTREAM" ∷ codes "KEY" ∷ codes "KEYS"
    ∷ codes "LATE" ∷ codes "LATENESS" ∷ codes "MAX" ∷ codes "MIN" ∷ codes "NOT" ∷ codes "OR" ∷ codes "PANE" ∷ codes "PANES" ∷ codes "RECORD" ∷ codes "RECORDS" ∷ codes "RETRACTING" ∷ codes "RSTREAM"
    ∷ codes "SELECT" ∷ codes "SESSION" ∷ codes "SKEW" ∷ codes "SLIDING" ∷ codes "SOURCES" ∷ codes "START" ∷ codes "SUM" ∷ codes "THEN" ∷ codes "TRUE" ∷ codes "WHERE" ∷ codes "WINDOW"
    ∷ []

words_are_no_names : list_any is_name words ≡ false
unfolding is_reserved
words_are_no_names = refl

the_greatest_count : counter 18446744073709551615 ≡ 18446744073709551615
the_greatest_count = refl

a_count_past_it : counter 18446744073709551616 ≡ 18446744073709551615
a_count_past_it = refl
