-- What stands at a place of a line.
use Rattle.std.specs.Prelude.{ℕ, List, [], ◌∷◌, true, false, codes, Option, Some, None, option_and_then, slice_index_or}
use Rattle.json.specs.Json.{Json, null, boolean, string, array, object}
use Rattle.json.specs.Json.{number as json_number}
use Rattle.json.specs.Find.{get}
use Rattle.wsm_lines.specs.declared.source.Place.{Place}
use Rattle.wsm_lines.specs.declared.source.Place.TheVariants as place

-- nothing, also what JSON writes as null, and a cell without text; what has no text, as an array; a text;
-- and what JSON itself writes as a number
pub data Scalar : Type 0 where
  absent : Scalar
  odd : Scalar
  text : List ℕ → Scalar
  number : List ℕ → Scalar

-- a line taken apart
pub data Taken : Type 0 where
  json : Json → Taken
  cells : List (List ℕ) → Taken

-- a boolean has its word for a text
abbrev pub of_json : Json → Scalar
of_json null = absent
of_json (boolean true) = text (codes "true")
of_json (boolean false) = text (codes "false")
of_json (json_number s) = number s
of_json (string s) = text s
of_json (array js) = odd
of_json (object ms) = odd

abbrev pub of_found : Option Json → Scalar
of_found None = absent
of_found (Some j) = of_json j

-- the value that members lead to, by name after name
abbrev pub found_at : List (List ℕ) → Json → Option Json
found_at [] j = Some j
found_at (name ∷ names) j = option_and_then (found_at names) (get name j)

abbrev pub of_cell : List ℕ → Scalar
of_cell [] = absent
of_cell (byte ∷ bytes) = text (byte ∷ bytes)

-- what stands at a place; where a line of the form has no such places, nothing
abbrev pub scalar_at : Taken → Place → Scalar
scalar_at (json j) (place.Path names) = of_found (found_at names j)
scalar_at (json j) (place.Column k) = absent
scalar_at (cells cs) (place.Path names) = absent
scalar_at (cells cs) (place.Column k) = of_cell (slice_index_or cs k [])
