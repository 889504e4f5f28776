-- Which keys may stand in a table.
use Rattle.std.specs.Prelude.{ℕ, List, codes, Bool, ◌||◌, if◌then◌else◌, Option, Some, None, Result, Ok}
use Rattle.std.specs.Str.{bytes_eq}
use Rattle.toml.specs.Data.{Members, no_members, member}
use Rattle.wsm_description.specs.declared.keys.Section.{Section}
use Rattle.wsm_description.specs.declared.keys.Section.TheVariants.{Whole, Key, Time, Field, Clock, Identifier}
use Rattle.wsm_description.specs.declared.refusal.SourceFault.TheVariants.{UnknownKey}
use Rattle.wsm_description.specs.declared.refusal.Refusal.{Refusal}
use Rattle.wsm_description.specs.Refusals.{refused}

abbrev pub is_whole_key : List ℕ → Bool
is_whole_key key =
    bytes_eq key (codes "format") || bytes_eq key (codes "longest") || bytes_eq key (codes "separator") || bytes_eq key (codes "keys") || bytes_eq key (codes "key")
    || bytes_eq key (codes "time") || bytes_eq key (codes "fields") || bytes_eq key (codes "clock")
    || bytes_eq key (codes "identifier")

abbrev pub is_key_key : List ℕ → Bool
is_key_key key = bytes_eq key (codes "at") || bytes_eq key (codes "names") || bytes_eq key (codes "prefixes") || bytes_eq key (codes "other")

abbrev pub is_time_key : List ℕ → Bool
is_time_key key =
    bytes_eq key (codes "at") || bytes_eq key (codes "form") || bytes_eq key (codes "zone") || bytes_eq key (codes "fold") || bytes_eq key (codes "unit")

abbrev pub is_field_key : List ℕ → Bool
is_field_key key =
    bytes_eq key (codes "at") || bytes_eq key (codes "scale") || bytes_eq key (codes "point") || bytes_eq key (codes "group")
    || bytes_eq key (codes "default") || bytes_eq key (codes "true") || bytes_eq key (codes "false") || bytes_eq key (codes "words")

abbrev pub is_clock_key : List ℕ → Bool
is_clock_key key =
    bytes_eq key (codes "agree") || bytes_eq key (codes "bound") || bytes_eq key (codes "step") || bytes_eq key (codes "forget")
    || bytes_eq key (codes "room") || bytes_eq key (codes "at") || bytes_eq key (codes "clocks")

-- whether a key means something in a section
abbrev pub has_key : Section → List ℕ → Bool
has_key Whole key = is_whole_key key
has_key Key key = is_key_key key
has_key Time key = is_time_key key
has_key Field key = is_field_key key
has_key Clock key = is_clock_key key
has_key Identifier key = bytes_eq key (codes "at")

-- the first key that means nothing in a section
abbrev pub unknown_in : Section → Members → Option (List ℕ)
unknown_in kind no_members = None
unknown_in kind (member key d ms) = if has_key kind key then unknown_in kind ms else Some key

abbrev pub none_unknown : List ℕ → Option (List ℕ) → Result (Unit {0}) Refusal
none_unknown section None = Ok tt
none_unknown section (Some key) = refused UnknownKey section key

abbrev pub known_keys : Section → List ℕ → Members → Result (Unit {0}) Refusal
known_keys kind section ms = none_unknown section (unknown_in kind ms)
