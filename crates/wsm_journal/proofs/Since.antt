-- How calls of a folder go on, one behind another.
use Rattle.std.specs.Prelude.{Result, Ok, Err, OnOk}
use Rattle.std.proofs.Common.{inl, inr, ⊎_elim, ℕ, List, arith}
use Rattle.wsm_journal.specs.Calls.{Elapses, LeavesSince}

module _ {F : Type 0} (moment : F → ℕ) (left_since : F → ℕ → List ℕ → Type 0) where
  -- before the first call
  pub started : (old : F) (P : List ℕ → Type 0) → ((left : List ℕ) → left_since old (moment old) left → P left) → LeavesSince moment left_since old old P
  started old P here = record { later = omega arith; each = here; before = λ t left le since. inl since }

  -- one call more, in which only such bytes may be left
  pub goes_on : (old mid new : F) (P in_call : List ℕ → Type 0) → LeavesSince moment left_since old mid P → Elapses (moment mid) (moment new) (left_since mid) (left_since new) in_call
      → ((left : List ℕ) → in_call left → P left) → LeavesSince moment left_since old new P
  goes_on old mid new P in_call so_far time here = record {
    later = omega (arith, so_far.later, time.later);
    each = λ left since. ⊎_elim (so_far.each left) (here left) (time.nothing_else (moment old) left so_far.later since);
    before = λ t left le since. ⊎_elim (so_far.before t left le) (λ now. inr (here left now)) (time.nothing_else t left (omega (arith, le, so_far.later)) since);
  }

  -- calls behind calls
  pub joined_since : (old mid new : F) (P Q : List ℕ → Type 0) → LeavesSince moment left_since old mid P → LeavesSince moment left_since mid new Q
      → ((left : List ℕ) → Q left → P left) → LeavesSince moment left_since old new P
  joined_since old mid new P Q so_far behind here = record {
    later = omega (arith, so_far.later, behind.later);
    each = λ left since. ⊎_elim (so_far.each left) (here left) (behind.before (moment old) left so_far.later since);
    before = λ t left le since. ⊎_elim (so_far.before t left le) (λ now. inr (here left now)) (behind.before t left (omega (arith, le, so_far.later)) since);
  }

  pub weaker : (old new : F) (P Q : List ℕ → Type 0) → LeavesSince moment left_since old new P → ((left : List ℕ) → P left → Q left) → LeavesSince moment left_since old new Q
  weaker old new P Q so_far here = record {
    later = so_far.later;
    each = λ left since. here left (so_far.each left since);
    before = λ t left le since. ⊎_elim (λ was. inl was) (λ now. inr (here left now)) (so_far.before t left le since);
  }

-- what follows where a call went well
pub on_ok_then : {T E : Type 0} (r : Result T E) (P Q : Type 0) → (P → Q) → OnOk r P → OnOk r Q
on_ok_then (Ok x) P Q f p = f p
on_ok_then (Err e) P Q f p = p
