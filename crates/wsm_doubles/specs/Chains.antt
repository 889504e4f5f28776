-- Hashes in their order, and the chains through those that fall into one bucket.
use Rattle.std.specs.Prelude.{◌≡◌, ℕ, zero, suc, ◌-◌, ◌<◌, List, length, map, nat_eq, if◌then◌else◌, slice_index, slice_index_or, bit_and}
use Rattle.wsm_doubles.specs.declared.chains.Link.{Link}

-- hashes, and among how many buckets they fall
pub record Hashed : Type 0 where
  pub hashes : List ℕ
  pub buckets : ℕ

-- the bucket of a hash, where there are some
abbrev pub bucket_of : ℕ → ℕ → ℕ
bucket_of buckets hash = bit_and hash (buckets - 1)

-- one more than the number of the last of the first n hashes that is in a bucket, 0 where none is
abbrev pub last_in : Hashed → ℕ → ℕ → ℕ
last_in t bucket zero = zero
last_in t bucket (suc n) = if nat_eq (bucket_of t.buckets (slice_index t.hashes n)) bucket then suc n else last_in t bucket n

abbrev pub hashes_of : List Link → List ℕ
hashes_of links = map (λ l. l.hash) links

abbrev pub no_link : Link
no_link = record { hash = 0; before = 0 }

-- each bucket leads to its last hash, and each hash to the last before it that is in its bucket
pub record AreLinked (heads : List ℕ) (links : List Link) : Type 0 where
  pub lasts : (b : ℕ) → b < length heads → slice_index heads b ≡ last_in (record { hashes = hashes_of links; buckets = length heads }) b (length links)
  pub befores : (i : ℕ) → i < length links → (slice_index_or links i no_link).before
      ≡ last_in (record { hashes = hashes_of links; buckets = length heads }) (bucket_of (length heads) (slice_index_or links i no_link).hash) i
