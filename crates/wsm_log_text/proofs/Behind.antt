-- Texts behind a text.
use Rattle.std.proofs.Common.{◌≡◌, ◌∙◌, ◌++◌, ℕ, List, length, take, drop, sym, ap, append_assoc}
use Rattle.std.proofs.Math.Seq.{take-append_seam}
use Rattle.std.proofs.lemmas.List.{take-append-drop}

pub behind : (old mid new a b : List ℕ) → mid ≡ old ++ a → new ≡ mid ++ b → new ≡ old ++ (a ++ b)
behind old mid new a b h k = k ∙ ap (λ (t : List ℕ). t ++ b) h ∙ append_assoc old a b

-- the old text still stands there
pub grown : (old new a : List ℕ) → new ≡ old ++ a → take (length old) new ≡ old
grown old new a h = ap (take (length old)) h ∙ take-append_seam old a

pub grown_on : (old mid new a b : List ℕ) → mid ≡ old ++ a → new ≡ mid ++ b → take (length old) new ≡ old
grown_on old mid new a b h k = grown old new (a ++ b) (behind old mid new a b h k)

pub grown_through : (old mid new a : List ℕ) → mid ≡ old ++ a → take (length mid) new ≡ mid → take (length old) new ≡ old
grown_through old mid new a h k =
    grown_on old mid new a (drop (length mid) new) h (sym (take-append-drop (length mid) new) ∙ ap (λ (t : List ℕ). t ++ drop (length mid) new) k)
