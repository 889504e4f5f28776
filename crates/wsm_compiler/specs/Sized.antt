-- The sizes by which a query is checked are the lengths of its sections.
use Rattle.std.specs.Prelude.{◌≡◌, length}
use Rattle.wsm_query.specs.Tree.{Query}
use Rattle.wsm_check.specs.Sizes.{where_size, update_size, fire_size}
use Rattle.wsm_compiler.specs.Code.{where_section, update_section, fire_section}

abbrev pub SizesAreLengths : Query → Type 0
SizesAreLengths q = (length (where_section q) ≡ where_size q) × (length (update_section q) ≡ update_size q) × (length (fire_section q) ≡ fire_size q)
