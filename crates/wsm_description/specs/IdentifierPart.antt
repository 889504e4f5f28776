-- Where a record has its identifier.
use Rattle.std.specs.Prelude.{ℕ, List, codes, Option, Some, None, Result, Ok}
use Rattle.toml.specs.Data.{Members}
use Rattle.wsm_description.specs.declared.keys.Section.TheVariants as section
use Rattle.wsm_description.specs.declared.refusal.Refusal.{Refusal}
use Rattle.wsm_description.specs.Refusals.{on_ok}
use Rattle.wsm_description.specs.Keys.{known_keys}
use Rattle.wsm_description.specs.Reading.{required_text, table_at}

abbrev pub identifier_in : Members → Result (List ℕ) Refusal
identifier_in ms =
    on_ok (known_keys section.Identifier (codes "identifier") ms) (λ _. required_text (codes "identifier") (codes "at") ms)

abbrev pub identifier_or_none : Option Members → Result (Option (List ℕ)) Refusal
identifier_or_none None = Ok None
identifier_or_none (Some ms) = on_ok (identifier_in ms) (λ at. Ok (Some at))

abbrev pub identifier_of : Members → Result (Option (List ℕ)) Refusal
identifier_of ms = on_ok (table_at (codes "") (codes "identifier") ms) identifier_or_none
