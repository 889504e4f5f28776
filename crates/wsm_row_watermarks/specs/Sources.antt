-- What a query declares, with the source of which watermarks are written first.
use Rattle.std.specs.Prelude.{ℕ, List, [], ◌∷◌, ◌++◌, Option, Some, None, bytes_eq, option_map, option_to_list, position, remove, slice_get}
use Rattle.wsm_record.specs.Schema.{Declared}

-- the number of that source: the one with the name, where sources are declared, and 0 where none is and none is named
abbrev pub first_source : Option (List ℕ) → List (List ℕ) → Option ℕ
first_source (Some name) sources = position (bytes_eq name) sources
first_source None [] = Some 0
first_source None (x ∷ xs) = None

-- the same names, with the one of a number first
abbrev pub with_first : ℕ → List (List ℕ) → List (List ℕ)
with_first first names = option_to_list (slice_get names first) ++ remove names first

abbrev pub with_source_first : ℕ → Declared → Declared
with_source_first first d = record { keys = d.keys; fields = d.fields; sources = with_first first d.sources }

-- the same with that source first
abbrev pub by_source : Declared → Option (List ℕ) → Option Declared
by_source d source = option_map (λ first. with_source_first first d) (first_source source d.sources)
