-- A stack that is widened in place, a value at a time.
use Rattle.std.proofs.Common.{◌≡◌, ℕ, zero, suc, ◌+◌, ◌<◌, ◌≤◌, List, [], ◌∷◌, length, get_or, set, refl, ap, arith}
use Rattle.wsm_rules.specs.declared.known.Known.{Known}
use Rattle.wsm_rules.specs.Labels.{hull_known, hull_lists}

-- the first values are widened
abbrev pub widened : ℕ → List Known → List Known → List Known
widened zero xs ys = xs
widened (suc k) [] ys = []
widened (suc k) (x ∷ xs) [] = x ∷ xs
widened (suc k) (x ∷ xs) (y ∷ ys) = hull_known x y ∷ widened k xs ys

pub widened_next : (k : ℕ) (xs ys : List Known) (d e : Known) → k < length xs → k < length ys → set (widened k xs ys) k (hull_known (get_or (widened k xs ys) k d) (get_or ys k e)) ≡ widened (suc k) xs ys
widened_next k [] ys d e h l = absurd (omega arith)
widened_next k (x ∷ xs) [] d e h l = absurd (omega arith)
widened_next zero (x ∷ xs) (y ∷ ys) d e h l = refl
widened_next (suc k) (x ∷ xs) (y ∷ ys) d e h l = ap (λ zs. hull_known x y ∷ zs) (widened_next k xs ys d e (omega arith) (omega arith))

-- the same of a stack that is widened so far
pub widened_step : (k n : ℕ) (xs ys zs : List Known) (d e v : Known) → n ≡ k + 1 → zs ≡ widened k xs ys → v ≡ hull_known (get_or zs k d) (get_or ys k e) → k < length xs → k < length ys → set zs k v ≡ widened n xs ys
widened_step k n xs ys zs d e v m so is h l =
    let next : n ≡ suc k = omega arith in
    rw (is, so, next) (widened_next k xs ys d e h l)

-- as far as both lists go
pub widened_all : (k : ℕ) (xs ys : List Known) → k ≤ length xs → k ≤ length ys → (k < length xs → length ys ≤ k) → widened k xs ys ≡ hull_lists xs ys
widened_all zero [] ys h l m = refl
widened_all zero (x ∷ xs) [] h l m = refl
widened_all zero (x ∷ xs) (y ∷ ys) h l m = absurd (let no : suc (length ys) ≤ 0 = m (omega arith) in omega arith)
widened_all (suc k) [] ys h l m = absurd (omega arith)
widened_all (suc k) (x ∷ xs) [] h l m = absurd (omega arith)
widened_all (suc k) (x ∷ xs) (y ∷ ys) h l m = ap (λ zs. hull_known x y ∷ zs) (widened_all k xs ys (omega arith) (omega arith) (λ n. let more : suc (length ys) ≤ suc k = m (omega arith) in omega arith))
