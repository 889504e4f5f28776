-- Identifiers that stand behind one another in one list of bytes, each with a time, and their hashes.
use Rattle.std.specs.Prelude.{ℕ, ◌/◌, ◌^◌, ◌≤◌, ◌&&◌, Bool, List, [], map, length, ℤ, pos, bytes_eq, slice_range}
use Rattle.std.specs.Hash.FoldHasher.{finish, initial, write}
use Rattle.wsm_windows.specs.declared.window.Shape.{Shape}
use Rattle.wsm_admission.specs.declared.clock.Clock.{Clock}
use Rattle.wsm_doubles.specs.declared.entries.Spot.{Spot}
use Rattle.wsm_doubles.specs.declared.entry.Entry.{Entry}
use Rattle.wsm_doubles.specs.Memory.{Memory, may_count}

-- the identifier at a spot, with its time
abbrev pub entry_at : List ℕ → Spot → List ℕ × ℤ
entry_at texts s = (slice_range texts s.start s.end, s.time)

abbrev pub entries_of : List ℕ → List Spot → Memory
entries_of texts spots = map (entry_at texts) spots

-- a spot lies within the bytes
abbrev pub Lies : List ℕ → Spot → Type 0
Lies texts s = (s.start ≤ s.end) × (s.end ≤ length texts)

-- an identifier that is handed over, with its time
abbrev pub entry_of : Entry → List ℕ × ℤ
entry_of e = (e.identifier.items, e.time)

-- what stands for an entry where there is none
abbrev pub no_entry : List ℕ × ℤ
no_entry = ([], pos 0)

-- the hash of a text: the high half of what the hasher tells
unfoldable pub hash_of : List ℕ → ℕ
hash_of text = finish (write initial text) / 2 ^ 32

-- the hashes of entries
abbrev pub hashes_in : Memory → List ℕ
hashes_in memory = map (λ k. hash_of k.0) memory

-- entries, and among how many buckets their hashes fall
pub record Tabled : Type 0 where
  pub entries : Memory
  pub buckets : ℕ

-- an entry has an identifier, and may count at a watermark
abbrev pub counts_as : Clock → Shape → ℤ → List ℕ → List ℕ × ℤ → Bool
counts_as c shape mark i k = may_count c shape mark k && bytes_eq i k.0
