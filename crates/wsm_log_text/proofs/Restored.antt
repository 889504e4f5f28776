-- What was read is what was written.
use Rattle.std.proofs.Common.{◌≡◌, ◌∙◌, ◌<◌, ◌^◌, ℕ, List, ◌++◌, Option, Some, ap}
use Rattle.wsm_journal.specs.Reading.{number_of}
use Rattle.wsm_saved.specs.Numbers.{number_text}
use Rattle.wsm_saved.specs.Lists.{BytesFit, bytes_text, read_bytes}
use Rattle.wsm_saved.specs.Back.{bytes_back, number_back}
use Rattle.wsm_saved_turns.proofs.Reading.{both}

pub number_restored : (m : ℕ) (new from : List ℕ) (n : ℕ) (rest : List ℕ) → ◌≡◌ {A = Option (ℕ × List ℕ)} (Some (m, new)) (number_of from) → n < 2 ^ 64 → from ≡ number_text n ++ rest → (m ≡ n) × (new ≡ rest)
number_restored m new from n rest read small is = both m n new rest (read ∙ ap number_of is ∙ number_back n rest small)

pub bytes_restored : (items new from bytes rest : List ℕ) → ◌≡◌ {A = Option (List ℕ × List ℕ)} (Some (items, new)) (read_bytes from) → BytesFit bytes → from ≡ bytes_text bytes ++ rest → (items ≡ bytes) × (new ≡ rest)
bytes_restored items new from bytes rest read fits is = both items bytes new rest (read ∙ ap read_bytes is ∙ bytes_back bytes rest fits)
