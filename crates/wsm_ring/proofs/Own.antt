-- The entry in the slot of a place.
use Rattle.std.proofs.Common.{◌≡◌, ℕ, ◌+◌, ◌<◌, List, length, set, true, false, Option, Some, None, refl}
use Rattle.std.proofs.lemmas.List.{get_or_default}
use Rattle.std.specs.Option.{is_some}
use Rattle.std.specs.Prelude.{◌⊎◌, option_map}
use Rattle.wsm_windows.specs.declared.place.Place.{Place}
use Rattle.wsm_ring.specs.Ring.{held}
use Rattle.wsm_slots.specs.Slots.{slot_at}
use Rattle.wsm_ring.proofs.Placed.{fill_count}

pub is_none_of : {X : Type 0} (o : Option X) → is_some o ≡ false → o ≡ None
is_none_of None none = refl
is_none_of (Some x) none = let bad : true ≡ false = none in absurd (cc)

module _ {P : Type 0} where
  -- a slot that tells a place has an entry
  pub is_some_placed : (o : Option (Place × P)) → is_some (option_map (λ e. e.0) o) ≡ is_some o
  is_some_placed None = refl
  is_some_placed (Some e) = refl

  -- how many more entries there are once one is put into a slot that had one or none
  pub count_more : (os : List (Option (Place × P))) (i : ℕ) (e : Place × P) (more : ℕ) → i < length os → ((is_some (slot_at os i) ≡ false) × (more ≡ 1)) ⊎ ((is_some (slot_at os i) ≡ true) × (more ≡ 0)) → length (held (set os i (Some e))) ≡ length (held os) + more
  count_more os i e more within h = fill_count os i e (slot_at os i) more within (get_or_default os i None (slot_at os i) within) h
