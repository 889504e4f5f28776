-- The row in front of rows that were cut, which says what they stand for.
use Rattle.std.specs.Prelude.{◌≡◌, ◌≢◌, ◌≤◌, ℕ, Bool, true, false, List, [], ◌∷◌, ◌++◌, Option, Some, None, slice_get, codes, bytes_eq, refl}
use Rattle.std.specs.Bool.{MatchBool}
use Rattle.std.specs.Fmt.{decimal, digits}
use Rattle.csv.specs.Writing.{default_writer, row_text}
use Rattle.wsm_csv.specs.Lines.{cells_text}
use Rattle.wsm_kept.specs.declared.head.Head.{Head}

-- its first cell, which no event has
abbrev pub head_tag : List ℕ
head_tag = codes "kept"

-- that of rows of which none is gone
abbrev pub no_head : Head
no_head = record { rows = 0; lines = 0; kept = 0; own = 0; records = 0; sum = 0 }

-- the numbers of a head are some that it can say
pub record IsSaid (h : Head) : Type 0 where
  pub rows : h.rows ≤ 18446744073709551615
  pub lines : h.lines ≤ 18446744073709551615
  pub kept : h.kept ≤ 18446744073709551615
  pub own : h.own ≤ 18446744073709551615
  pub records : h.records ≤ 18446744073709551615
  pub sum : h.sum ≤ 18446744073709551615

-- the cells of a head
abbrev pub head_cells : Head → List (List ℕ)
head_cells h = head_tag ∷ decimal h.rows ∷ decimal h.lines ∷ decimal h.kept ∷ decimal h.own ∷ decimal h.records ∷ decimal h.sum ∷ []

-- the bytes of a head
unfoldable pub head_text : Head → List ℕ
head_text h = head_tag ++ (cells_text (decimal h.rows ∷ decimal h.lines ∷ decimal h.kept ∷ decimal h.own ∷ decimal h.records ∷ decimal h.sum ∷ []) ++ 10 ∷ [])

abbrev pub is_tag : Option (List ℕ) → Bool
is_tag None = false
is_tag (Some cell) = bytes_eq cell head_tag

abbrev pub is_tagged : List (List ℕ) → Bool
is_tagged row = is_tag (slice_get row 0)

-- a first row says this: one with the tag is written so, and with another no row is gone
abbrev pub Says : List (List ℕ) → Head → Type 0
Says row h = MatchBool (is_tagged row) (row_text default_writer row ≡ head_text h) (h ≡ no_head)

-- a first row begins as a head does, and is written as none
abbrev pub IsNoHead : List (List ℕ) → Type 0
IsNoHead row = (is_tagged row ≡ true) × ((h : Head) → IsSaid h → row_text default_writer row ≢ head_text h)

-- the rows that follow on this
abbrev pub BeginWith : List (List (List ℕ)) → Head → Type 0
BeginWith [] h = h ≡ no_head
BeginWith (row ∷ rows) h = Says row h

a_head : head_text (record { rows = 150; lines = 41; kept = 25; own = 10; records = 999894; sum = 1677770491 }) ≡ codes "kept,150,41,25,10,999894,1677770491\n"
unfolding head_text digits
a_head = refl
