-- How often each word came among rows: of each row its first cell, and of one that was refused why.
use Rattle.std.specs.Prelude.{ℕ, Bool, ◌+◌, ◌^◌, ◌-◌, ◌==◌, List, [], ◌∷◌, codes, bytes_eq, min, if◌then◌else◌}
use Rattle.std.specs.List.{before_first, after_first}

pub record Counted : Type 0 where
  pub word : List ℕ
  pub times : ℕ

-- ---- words

-- one time more, as long as it fits
abbrev pub once_more : Counted → Counted
once_more c = record c { times = min (c.times + 1) (2 ^ 64 - 1) }

-- a word came: one that came before comes once more, and another stands last
abbrev pub counted : List Counted → List ℕ → List Counted
counted [] word = record { word = word; times = 1 } ∷ []
counted (c ∷ cs) word = if bytes_eq c.word word then once_more c ∷ cs else c ∷ counted cs word

-- ---- rows

pub record Counts : Type 0 where
  pub kinds : List Counted
  pub refused : List Counted

abbrev pub is_comma : ℕ → Bool
is_comma byte = byte == 44

-- the first cell of a row, which says what kind of row it is
abbrev pub kind_of : List ℕ → List ℕ
kind_of row = before_first is_comma row

-- of a row `refused,LINE,WHY`
abbrev pub why_of : List ℕ → List ℕ
why_of row = after_first is_comma (after_first is_comma row)

-- a row was written
abbrev pub row_counted : Counts → List ℕ → Counts
row_counted cs row = record {
  kinds = counted cs.kinds (kind_of row);
  refused = if bytes_eq (kind_of row) (codes "refused") then counted cs.refused (why_of row) else cs.refused;
}
