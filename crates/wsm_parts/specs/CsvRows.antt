-- Rows of CSV with their cells, computed.
use Rattle.std.specs.Prelude.{◌≡◌, [], ◌∷◌, ◌++◌, Some, None, codes, refl}
use Rattle.wsm_parts.specs.Csv.{cells_of, columns_of, picked}

three_cells : cells_of 44 (codes "a,b c,12") ≡ Some (codes "a" ∷ codes "b c" ∷ codes "12" ∷ [])
three_cells = refl

no_byte : cells_of 44 [] ≡ Some ([] ∷ [])
no_byte = refl

empty_cells : cells_of 44 (codes ",\"\",") ≡ Some ([] ∷ [] ∷ [] ∷ [])
empty_cells = refl

another_separator : cells_of 59 (codes "a,b;c") ≡ Some (codes "a,b" ∷ codes "c" ∷ [])
another_separator = refl

blanks_count : cells_of 44 (codes " a , b") ≡ Some (codes " a " ∷ codes " b" ∷ [])
blanks_count = refl

a_separator_in_quotes : cells_of 44 (codes "\"a,b\",c") ≡ Some (codes "a,b" ∷ codes "c" ∷ [])
a_separator_in_quotes = refl

doubled_quotes : cells_of 44 (codes "\"a\"\"b\"\"\",\"\"\"\"") ≡ Some (codes "a\"b\"" ∷ codes "\"" ∷ [])
doubled_quotes = refl

a_quote_that_is_not_closed : cells_of 44 (codes "a,\"b,c") ≡ None
a_quote_that_is_not_closed = refl

a_doubled_quote_closes_nothing : cells_of 44 (codes "\"a\"\"") ≡ None
a_doubled_quote_closes_nothing = refl

a_quote_in_a_plain_cell : cells_of 44 (codes "a\"b,c") ≡ None
a_quote_in_a_plain_cell = refl

a_blank_before_a_quote : cells_of 44 (codes "a, \"b\"") ≡ None
a_blank_before_a_quote = refl

a_byte_behind_a_quote : cells_of 44 (codes "\"a\"b,c") ≡ None
a_byte_behind_a_quote = refl

a_nul : cells_of 44 (codes "a" ++ 0 ∷ []) ≡ None
a_nul = refl

a_nul_in_quotes : cells_of 44 (codes "\"a" ++ 0 ∷ codes "\"") ≡ None
a_nul_in_quotes = refl

-- the columns come in the order of the names, and of a name that comes twice the first counts
columns_by_name : columns_of (codes "c" ∷ codes "a" ∷ []) (codes "a" ∷ codes "b" ∷ codes "c" ∷ codes "a" ∷ []) ≡ Some (2 ∷ 0 ∷ [])
columns_by_name = refl

a_name_that_is_missing : columns_of (codes "a" ∷ codes "d" ∷ []) (codes "a" ∷ codes "b" ∷ []) ≡ None
a_name_that_is_missing = refl

cells_by_column : picked (2 ∷ 0 ∷ []) (codes "x" ∷ codes "y" ∷ codes "z" ∷ []) ≡ codes "z" ∷ codes "x" ∷ []
cells_by_column = refl
