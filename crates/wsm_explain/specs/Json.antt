-- Values of JSON for texts, numbers and lists.
use Rattle.std.specs.Prelude.{ℕ, List, map, ℤ, Option, Some, None, cond}
use Rattle.std.specs.Str.{is_utf8}
use Rattle.serde_json.specs.Data.{Data, null, number, unsigned, string, array}
use Rattle.serde_json.specs.Find.{of_integer}
use Rattle.serde_json.specs.View.{items_of}

-- bytes as a text; null where they are no UTF-8, as no name is
abbrev pub text_data : List ℕ → Data
text_data bytes = cond (is_utf8 bytes) (string bytes) null

abbrev pub natural : ℕ → Data
natural n = number (unsigned n)

abbrev pub whole : ℤ → Data
whole n = number (of_integer n)

abbrev pub or_null : {A : Type 0} → (A → Data) → Option A → Data
or_null f None = null
or_null f (Some x) = f x

abbrev pub list_data : {A : Type 0} → (A → Data) → List A → Data
list_data f xs = array (items_of (map f xs))
