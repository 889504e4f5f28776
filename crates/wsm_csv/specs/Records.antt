-- The rows of a reader: the records that `csv` reads, in order.
use Rattle.std.specs.Prelude.{ℕ, List, Option, Some, None, ⊤}
use Rattle.csv.specs.Reading.{AreRecords, Reached, default_config, strip_bom}
use Rattle.csv.specs.declared.parser.State.{State}
use Rattle.csv.specs.declared.parser.State.TheVariants as st

-- these rows are a beginning of the records of a reader's bytes, where those are known
abbrev pub AreFirst : Option (List ℕ) → List (List (List ℕ)) → Type 0
AreFirst None rows = ⊤
AreFirst (Some bytes) rows = (s : State) × (rest : List ℕ) × Reached default_config st.StartRecord (strip_bom bytes) rows s rest

-- these rows are all the records of a reader's bytes, where those are known
abbrev pub AreAll : Option (List ℕ) → List (List (List ℕ)) → Type 0
AreAll None rows = ⊤
AreAll (Some bytes) rows = AreRecords default_config st.StartRecord (strip_bom bytes) rows
