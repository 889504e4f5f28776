-- Which members of a line's object count: those whose names a filter passes. Each name that a source asks for passes, and
-- others may.
use Rattle.std.specs.Prelude.{◌≡◌, ℕ, ◌+◌, ◌*◌, ◌%◌, List, [], ◌∷◌, length, Bool, true, false, if◌then◌else◌, slice_index, slice_index_or, ◌&&◌, Option, Some, None}
use Rattle.json.specs.Json.{Json, null, boolean, number, string, array, object, no_items, Members, no_members, member}
use Rattle.wsm_lines.specs.declared.source.Field.{Field}
use Rattle.wsm_lines.specs.declared.source.Place.{Place}
use Rattle.wsm_lines.specs.declared.source.Place.TheVariants as place
use Rattle.wsm_lines.specs.declared.source.Source.{Source}

-- the bucket of a name, by its length and its first byte
abbrev pub bucket_of : List ℕ → ℕ
bucket_of name = length name % 16 * 16 + slice_index name 0 % 16

-- a name passes
abbrev pub passes : List Bool → List ℕ → Bool
passes buckets name = slice_index_or buckets (bucket_of name) false

-- the members that pass
abbrev pub passing : List Bool → Members → Members
passing buckets no_members = no_members
passing buckets (member name j ms) = if passes buckets name then member name j (passing buckets ms) else passing buckets ms

-- a value with no members but those that pass, and no items
abbrev pub sifted : List Bool → Json → Json
sifted buckets null = null
sifted buckets (boolean b) = boolean b
sifted buckets (number s) = number s
sifted buckets (string s) = string s
sifted buckets (array js) = array no_items
sifted buckets (object ms) = object (passing buckets ms)

-- the names that passed pass
abbrev pub Widens : List Bool → List Bool → Type 0
Widens old new = (name : List ℕ) → passes old name ≡ true → passes new name ≡ true

-- the first of some names passes, if there is one
abbrev pub passes_first : List Bool → List (List ℕ) → Bool
passes_first buckets [] = true
passes_first buckets (name ∷ names) = passes buckets name

-- the first name of a place passes
abbrev pub passes_place : List Bool → Place → Bool
passes_place buckets (place.Path names) = passes_first buckets names
passes_place buckets (place.Column k) = true

abbrev pub passes_fields : List Bool → List Field → Bool
passes_fields buckets [] = true
passes_fields buckets (f ∷ fields) = passes_place buckets f.at && passes_fields buckets fields

abbrev pub passes_maybe : List Bool → Option Place → Bool
passes_maybe buckets None = true
passes_maybe buckets (Some p) = passes_place buckets p

-- the first name of each place that a source asks for passes
pub record PassesSource (buckets : List Bool) (s : Source) : Type 0 where
  pub key : passes_place buckets s.key.at ≡ true
  pub time : passes_place buckets s.time.at ≡ true
  pub fields : passes_fields buckets s.fields ≡ true
  pub identifier : passes_maybe buckets s.identifier ≡ true
  pub clock : passes_maybe buckets s.clock ≡ true
