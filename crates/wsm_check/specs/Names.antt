-- Where names stand in the lists that a query declares.
use Rattle.std.specs.Prelude.{◌≡◌, ◌<◌, ℕ, Bool, true, false, ◌||◌, cond, List, [], ◌∷◌, map, bytes_eq}
use Rattle.std.specs.List.{position_or_len}
use Rattle.wsm_record.specs.declared.limits.TheConstants.{MAX_FIELDS}
use Rattle.wsm_record.specs.Name.{is_among}
use Rattle.wsm_record.specs.Schema.{FieldType, DeclaredField, Declared}
use Rattle.wsm_record.specs.Schema as field_types
use Rattle.wsm_query.specs.Tree.{Name, Query}

-- the number of names before it, so its number where it is among them
abbrev pub place_of : Name → List Name → ℕ
place_of x xs = position_or_len (bytes_eq x) xs

abbrev pub has_repeats : List Name → Bool
has_repeats [] = false
has_repeats (x ∷ xs) = is_among x xs || has_repeats xs

abbrev pub field_names : List DeclaredField → List Name
field_names ds = map (λ d. d.name) ds

-- the number of a field
abbrev pub field_place : List DeclaredField → Name → ℕ
field_place ds x = place_of x (field_names ds)

-- the names that a type declares
abbrev pub names_of : FieldType → List Name
names_of (field_types.Int lo hi) = []
names_of field_types.Truth = []
names_of (field_types.Enum names) = names

-- the type of the first field of that name; a name that no field has is refused elsewhere
abbrev pub type_of : Name → List DeclaredField → FieldType
type_of x [] = field_types.Truth
type_of x (d ∷ ds) = cond (bytes_eq x d.name) d.type (type_of x ds)

-- the number of a name in the list that its field declares
abbrev pub name_place : List DeclaredField → Name → Name → ℕ
name_place ds x y = place_of y (names_of (type_of x ds))

-- a field of that name is declared, one of the first 16, with this number and type
pub record Found (ds : List DeclaredField) (x : Name) (number : ℕ) (ty : FieldType) : Type 0 where
  pub there : is_among x (field_names ds) ≡ true
  pub few : number < MAX_FIELDS
  pub place : number ≡ field_place ds x
  pub declared : ty ≡ type_of x ds

-- a name that is one of a list, with its number there
pub record IsListed (names : List Name) (x : Name) (number : ℕ) : Type 0 where
  pub there : is_among x names ≡ true
  pub place : number ≡ place_of x names

-- the keys, fields and sources
abbrev pub schema_of : Query → Declared
schema_of q = record { keys = q.keys; fields = q.fields; sources = q.sources }
