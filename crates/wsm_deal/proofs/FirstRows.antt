-- All records of a reader's bytes are a beginning of them, and so are none.
use Rattle.std.proofs.Common.{ℕ, List, [], Option, Some, None, refl}
use Rattle.csv.specs.Reading.{Reached, strip_bom}
use Rattle.csv.specs.declared.parser.State.TheVariants as st
use Rattle.wsm_csv.specs.Records.{AreAll, AreFirst}

pub all_first : (known : Option (List ℕ)) (rows : List (List (List ℕ))) → AreAll known rows → AreFirst known rows
all_first None rows all = tt
all_first (Some bytes) rows (s, rest, reached, none) = (s, rest, reached)

pub none_first : (known : Option (List ℕ)) → AreFirst known []
unfolding Reached
none_first None = tt
none_first (Some bytes) = (st.StartRecord, strip_bom bytes, (refl, refl))
