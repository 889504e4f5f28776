-- Rows that are by time wait again in their order.
use Rattle.std.proofs.Common.{◌≡◌, ◌∙◌, ℕ, zero, suc, ◌+◌, ◌<◌, ◌≤◌, false, List, [], ◌∷◌, length, length-take, take, get_or, sym, ap, subst, arith}
use Rattle.std.proofs.lemmas.Bool.{ltb-false}
use Rattle.std.proofs.lemmas.List.{take_all}
use Rattle.std.specs.Prelude.{if◌then◌else◌, nat_lt}
use Rattle.std.specs.List.{AllByRecursion}
use Rattle.wsm_watermarks.specs.declared.held.Timed.{Timed}
use Rattle.wsm_watermarks.specs.Held.{AreByTime, queued}

module _ {T : Type 0} where
  -- a row of a list holds what all of them do
  one_of : (P : Timed T → Type 0) (xs : List (Timed T)) (i : ℕ) (x d : Timed T) → AllByRecursion P xs → i < length xs → x ≡ get_or xs i d → P x
  one_of P [] i x d all within is = absurd (omega (arith, within))
  one_of P (y ∷ ys) zero x d all within is = subst P (sym is) all.0
  one_of P (y ∷ ys) (suc i) x d all within is = one_of P ys i x d all.1 (omega (arith, within)) is

  -- behind one that isn't later
  behind_one : (x y : Timed T) (ys : List (Timed T)) → y.time ≤ x.time → queued x (y ∷ ys) ≡ y ∷ queued x ys
  behind_one x y ys before =
      let late : nat_lt x.time y.time ≡ false = grind (arith, ltb-false, before) in
      ap (λ b. if b then x ∷ y ∷ ys else y ∷ queued x ys) late

  -- the next of rows that are by time is put behind those in front
  pub next_queued : (xs : List (Timed T)) (i : ℕ) (x d : Timed T) → AreByTime xs → i < length xs → x ≡ get_or xs i d → queued x (take i xs) ≡ take (suc i) xs
  next_queued [] i x d by_time within is = absurd (omega (arith, within))
  next_queued (y ∷ ys) zero x d by_time within is = ap (λ (z : Timed T). z ∷ []) is
  next_queued (y ∷ ys) (suc i) x d by_time within is =
      behind_one x y (take i ys) (one_of (λ q. y.time ≤ q.time) ys i x d by_time.0 (omega (arith, within)) is)
      ∙ ap (λ (zs : List (Timed T)). y ∷ zs) (next_queued ys i x d by_time.1 (omega (arith, within)) is)

  -- there is room for it
  pub next_waits : (xs : List (Timed T)) (i room : ℕ) (x d : Timed T) → AreByTime xs → length xs ≤ room → i < length xs → x ≡ get_or xs i d
      → take room (queued x (take i xs)) ≡ take (i + 1) xs
  next_waits xs i room x d by_time few within is =
      ap (take room) (next_queued xs i x d by_time within is)
      ∙ take_all room (take (suc i) xs) (omega (arith, length-take (suc i) xs))
      ∙ ap (λ (n : ℕ). take n xs) one_more
    where
      one_more : suc i ≡ i + 1
      one_more = omega arith
