-- What a device takes of a text.
use Rattle.std.specs.Prelude.{ℕ, ◌≤◌, List, length, take, Option}
use Rattle.std.specs.Io.KnownBytes.{Appends}

-- a beginning of the text was taken
abbrev pub TakesPart : Option (List ℕ) → Option (List ℕ) → List ℕ → Type 0
TakesPart old new text = (n : ℕ) × (n ≤ length text) × Appends old new (take n text)
