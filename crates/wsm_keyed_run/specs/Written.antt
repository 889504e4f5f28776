-- What a run by any number of names writes for the rows that it reads, and how it ends: as a run of one query over all of them.
use Rattle.std.specs.Prelude.{◌≡◌, ◌⊎◌, ℕ, List, Option}
use Rattle.std.specs.Io.KnownBytes.{Appends, Keeps}
use Rattle.wsm_program.specs.Program.{Program}
use Rattle.wsm_semantics.specs.declared.ending.Totals.{Totals}
use Rattle.wsm_csv.specs.Device.{TakesPart}
use Rattle.wsm_csv.specs.Records.{AreAll, AreFirst}
use Rattle.wsm_inputs.specs.declared.end.End.{End as Ending}
use Rattle.wsm_inputs.specs.declared.end.End.TheVariants as ends
use Rattle.wsm.specs.Written.{Cells, line_of}
use Rattle.wsm_ends.specs.declared.keyed.KeyedStop.{KeyedStop}
use Rattle.wsm_ends.specs.declared.keyed.KeyedStop.TheVariants as stops
use Rattle.wsm_keyed_run.specs.Keyed.{Keyed, input_text, last_line, turns_text}
use Rattle.wsm_keyed_run.specs.Places.{IsByPlaces, IsUnrun}

-- a run that ends well: it read all rows, and wrote their text
pub record Completes (known : Option (List ℕ)) (k : Keyed) (cells : List Cells) (old new : Option (List ℕ)) (totals : Totals) : Type 0 where
  pub all : AreAll known cells
  pub text : Appends old new (input_text k cells)
  pub numbers : line_of totals ≡ last_line k cells

-- a run that ends between two turns: it wrote the turns of the first rows, each whole
pub record BreaksOff (known : Option (List ℕ)) (k : Keyed) (cells : List Cells) (old new : Option (List ℕ)) : Type 0 where
  pub first : AreFirst known cells
  pub text : Appends old new (turns_text k cells)

-- a run that ends within a turn: it wrote a beginning of the turns of the rows that it read
pub record BreaksWithin (known : Option (List ℕ)) (k : Keyed) (cells : List Cells) (old new : Option (List ℕ)) : Type 0 where
  pub first : AreFirst known cells
  pub part : TakesPart old new (turns_text k cells)

-- a run that ends in its last line: it read all rows, and wrote a beginning of their text
pub record BreaksLast (known : Option (List ℕ)) (k : Keyed) (cells : List Cells) (old new : Option (List ℕ)) : Type 0 where
  pub all : AreAll known cells
  pub part : TakesPart old new (input_text k cells)

-- how a run that was begun ends early: want of memory and of rows comes between turns, a failed device anywhere
abbrev pub EndsEarly : Option (List ℕ) → Keyed → List Cells → Option (List ℕ) → Option (List ℕ) → Ending → Type 0
EndsEarly known k cells old new (ends.Refused why) = ⊥
EndsEarly known k cells old new (ends.Rejected why) = ⊥
EndsEarly known k cells old new ends.Memory = BreaksOff known k cells old new
EndsEarly known k cells old new ends.ReadFailed = BreaksOff known k cells old new
EndsEarly known k cells old new ends.WriteFailed = BreaksWithin known k cells old new ⊎ BreaksLast known k cells old new

-- all rows were read, and what the query over all names means for them was written
abbrev pub KeyedWritten : Option (List ℕ) → Option (List ℕ) → Option (List ℕ) → Keyed → Totals → Type 0
KeyedWritten known old new k totals = (cells : List Cells) × Completes known k cells old new totals

-- the same of a text's program over places, by these names, of which there may be so many
abbrev pub KeyedOver : List ℕ → List (List ℕ) → ℕ → Option (List ℕ) → Option (List ℕ) → Option (List ℕ) → Totals → Type 0
KeyedOver text names most known old new totals = (p : Program) × IsByPlaces text p × KeyedWritten known old new (record { program = p; names = names; most = most }) totals

-- a beginning of that was written
abbrev pub KeyedBroken : Option (List ℕ) → Option (List ℕ) → Option (List ℕ) → Keyed → Ending → Type 0
KeyedBroken known old new k end = (cells : List Cells) × EndsEarly known k cells old new end

-- how a run of a text ends early: it isn't run, and nothing was written; or a beginning was
abbrev pub Stops : List ℕ → Option (List ℕ) → List (List ℕ) → ℕ → Option (List ℕ) → Option (List ℕ) → KeyedStop → Type 0
Stops text known names most old new stop =
    (IsUnrun text stop × Keeps old new)
    ⊎ ((end : Ending) × (p : Program) × (stop ≡ stops.End end) × IsByPlaces text p × KeyedBroken known old new (record { program = p; names = names; most = most }) end)
