-- Whose clock a record tells its time by: its key's, or one that its line names. Clocks that are named are numbered as they first speak.
use Rattle.std.specs.Prelude.{ℕ, List, [], ◌∷◌, ◌++◌, length, nat_lt, position, bytes_eq, Option, Some, None, if◌then◌else◌}
use Rattle.wsm_watermarks.specs.declared.stamp.Stamp.{Stamp}
use Rattle.wsm_turns.specs.declared.voice.Voice.{Voice}
use Rattle.wsm_turns.specs.declared.voice.Voice.TheVariants.{Key, Named, Silent}

-- the stamp by which a record tells its time that has this one by its key
abbrev pub stamp_by : Voice → Stamp → Option Stamp
stamp_by Key stamp = Some stamp
stamp_by (Named clock) stamp = Some (record { clock = clock; time = stamp.time })
stamp_by Silent stamp = None

-- whose clock it is, and the names of the clocks that have spoken then, the first first
pub record Voiced : Type 0 where
  pub voice : Voice
  pub names : List (List ℕ)

-- a clock that has spoken has its number; a new one has the next, as long as there are fewer than there may be
abbrev pub numbered_by : ℕ → List (List ℕ) → List ℕ → Option ℕ → Voiced
numbered_by most names name (Some clock) = record { voice = Named clock; names = names }
numbered_by most names name None =
    if nat_lt (length names) most then record { voice = Named (length names); names = names ++ name ∷ [] } else record { voice = Silent; names = names }

-- where lines name clocks, of which there may be so many, a line that names none has no voice
abbrev pub voiced_by : ℕ → List (List ℕ) → Option (List ℕ) → Voiced
voiced_by most names None = record { voice = Silent; names = names }
voiced_by most names (Some name) = numbered_by most names name (position (bytes_eq name) names)

-- where they don't, a clock is a key
abbrev pub voiced : Option ℕ → List (List ℕ) → Option (List ℕ) → Voiced
voiced None names name = record { voice = Key; names = names }
voiced (Some most) names name = voiced_by most names name

-- only what has a stamp by its key names a clock
abbrev pub voiced_at : Option Stamp → Option ℕ → List (List ℕ) → Option (List ℕ) → Voiced
voiced_at None named names name = record { voice = Key; names = names }
voiced_at (Some stamp) named names name = voiced named names name
