-- Which rows are dealt to which part.
use Rattle.std.specs.Prelude.{◌≡◌, ◌==◌, ◌/◌, ℕ, Bool, true, List, [], ◌∷◌, Option, Some, None, slice_get, filter, position, unwrap_or, option_map, if◌then◌else◌, codes, bytes_eq, refl}
use Rattle.wsm_semantics.specs.ByKey.{Keys}
use Rattle.wsm_csv.specs.Cells.{record_tag, watermark_tag}
use Rattle.wsm_deal.specs.declared.shares.Goal.{Goal}
use Rattle.wsm_deal.specs.declared.shares.Goal.TheVariants.{One, All}

-- the keys of all parts in their order, and how many of them a part has
pub record Sharing : Type 0 where
  pub names : List (List ℕ)
  pub block : ℕ

-- the keys of all parts
abbrev pub names_of : Sharing → List (List ℕ)
names_of s = s.names

-- the part of a key: each has a block of the keys, and part 0 what is no key
abbrev pub part_of : Sharing → List ℕ → ℕ
part_of s key = unwrap_or (option_map (λ n. n / s.block) (position (bytes_eq key) s.names)) 0

-- the part of a record, by the cell of its key
abbrev pub record_part : Sharing → Option (List ℕ) → ℕ
record_part s None = 0
record_part s (Some key) = part_of s key

-- a record goes to the part of its key, a watermark to each, and what is neither to part 0
abbrev pub goal_of : Sharing → List (List ℕ) → Goal
goal_of s [] = One 0
goal_of s (tag ∷ cells) = if bytes_eq tag record_tag then One (record_part s (slice_get cells 0)) else if bytes_eq tag watermark_tag then All else One 0

abbrev pub is_for : ℕ → Goal → Bool
is_for part (One n) = part == n
is_for part All = true

-- the rows of a part: those of the whole without what goes elsewhere
abbrev pub dealt_to : Sharing → ℕ → List (List (List ℕ)) → List (List (List ℕ))
dealt_to s part rows = filter (λ row. is_for part (goal_of s row)) rows

-- the keys of a part, by their numbers among all of them; part 0 has what is of no key
abbrev pub keys_of : Sharing → ℕ → Keys
keys_of s part None = part == 0
keys_of s part (Some n) = part == n / s.block

-- two parts of two keys
abbrev pub letters : Sharing
letters = record { names = codes "a" ∷ codes "b" ∷ codes "c" ∷ codes "d" ∷ []; block = 2 }

abbrev some_rows : List (List (List ℕ))
some_rows =
    (codes "r" ∷ codes "d" ∷ codes "1" ∷ []) ∷ (codes "r" ∷ codes "a" ∷ codes "2" ∷ []) ∷ (codes "w" ∷ codes "2" ∷ []) ∷ (codes "r" ∷ codes "z" ∷ []) ∷ (codes "r" ∷ []) ∷ (codes "q" ∷ codes "d" ∷ [])
    ∷ (codes "r" ∷ codes "c" ∷ []) ∷ []

the_first_part : dealt_to letters 0 some_rows ≡ (codes "r" ∷ codes "a" ∷ codes "2" ∷ []) ∷ (codes "w" ∷ codes "2" ∷ []) ∷ (codes "r" ∷ codes "z" ∷ []) ∷ (codes "r" ∷ []) ∷ (codes "q" ∷ codes "d" ∷ []) ∷ []
the_first_part = refl

the_second_part : dealt_to letters 1 some_rows ≡ (codes "r" ∷ codes "d" ∷ codes "1" ∷ []) ∷ (codes "w" ∷ codes "2" ∷ []) ∷ (codes "r" ∷ codes "c" ∷ []) ∷ []
the_second_part = refl
