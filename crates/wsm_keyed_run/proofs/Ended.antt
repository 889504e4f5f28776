-- A run that ends early.
use Rattle.std.proofs.Common.{ℕ, List, Option, Some, None}
use Rattle.std.specs.Io.KnownBytes.{Appends}
use Rattle.wsm_csv.specs.Records.{AreAll, AreFirst}
use Rattle.wsm_csv.specs.declared.rows.ReadEnd.{ReadEnd}
use Rattle.wsm_csv.specs.declared.rows.ReadEnd.TheVariants as read
use Rattle.wsm_inputs.specs.Ends.{end_of_read}
use Rattle.wsm.specs.Written.{Cells}
use Rattle.wsm_keyed_run.specs.Keyed.{Keyed, turns_text}
use Rattle.wsm_keyed_run.specs.Written.{EndsEarly}

pub EndsEarly-read : (known : Option (List ℕ)) (k : Keyed) (cells : List Cells) (old new : Option (List ℕ)) (e : ReadEnd) → AreFirst known cells → Appends old new (turns_text k cells) → EndsEarly known k cells old new (end_of_read e)
EndsEarly-read known k cells old new read.Failed first text = record { first = first; text = text }
EndsEarly-read known k cells old new read.Memory first text = record { first = first; text = text }

-- all rows are the first of them
pub all_first : (known : Option (List ℕ)) (rows : List Cells) → AreAll known rows → AreFirst known rows
all_first None rows all = tt
all_first (Some bytes) rows (s, rest, reached, none) = (s, rest, reached)
