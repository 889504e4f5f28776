-- Entries in slots after an edit: they are stored as they were, and what is shown of them is what an edit of the
-- panes themselves comes to.
use Rattle.std.proofs.Common.{◌≡◌, ◌⊎◌, ◌<◌, ◌≤◌, ℕ, cond, zero, suc, true, Option, Some, None, List, [], ◌∷◌, length, get_or, set, drop, refl, sym, ap, ◌∙◌, inl, inr, arith, ℤ}
use Rattle.std.proofs.lemmas.Bool.{true≢false}
use Rattle.std.proofs.lemmas.Option.{get_or_from_slice_get}
use Rattle.std.specs.Prelude.{filter, insert, option_map, slice_get}
use Rattle.std.specs.List.{remove}
use Rattle.std.specs.Option.{is_some}
use Rattle.std.specs.FinMap.{contains_key, len}
use Rattle.std.specs.FinMap.Entries.{find, put, is_sorted}
use Rattle.wsm_slots.specs.Place.{is_kept}
use Rattle.wsm_list.specs.Recorded.{is_other}
use Rattle.wsm_slots.specs.Slots.{slot_at}
use Rattle.wsm_list.specs.Search.{IsAt, IsGapFor}
use Rattle.wsm_list.specs.Stored.{AreStored, listed, shown}
use Rattle.std.specs.declared.cmp.Ordering.TheVariants.{Equal}
use Rattle.wsm_windows.specs.declared.place.Place.{Place}
use Rattle.wsm_windows.specs.Places.{place_cmp}
use Rattle.wsm_list.proofs.Entries.{at_here}
use Rattle.wsm_slots.specs.Walk.{place_due}
use Rattle.wsm_slots.proofs.Laid.{held_within}
use Rattle.wsm_list.proofs.RemovedEntries.{one_out}
use Rattle.wsm_list.proofs.Stored.{in_drop, in_insert, in_remove, in_row, in_written, shown_at, shown_drop, shown_insert, shown_length, shown_remove, shown_set}
use Rattle.wsm_list.proofs.Tables.{get_is, kept_sorted, len_is, map_of, put_sorted}

nth_place : {P : Type 0} (es : List (Place × P)) (i : ℕ) (p : Place) (d : Place × P) → i < length es → option_map (λ e. e.0) (slice_get es i) ≡ Some p → (get_or es i d).0 ≡ p
nth_place [] i p d within at = absurd (omega (arith, within))
nth_place (e ∷ es) zero p d within at = cc
nth_place (e ∷ es) (suc i) p d within at = nth_place es i p d (omega (arith, within)) at

-- an entry at a place is due as the place is
pub due_place : {P : Type 0} (limit : ℤ) (o : Option (Place × P)) (p : Place) → option_map (λ e. e.0) o ≡ Some p → place_due limit o ≡ cond (is_kept limit p) None (Some p)
due_place limit None p at = absurd (true≢false (sym (ap is_some at)))
due_place limit (Some e) p at = let same : e.0 ≡ p = cc in ap (λ q. cond (is_kept limit q) None (Some q)) same

pub is_found : {P : Type 0} (es : List (Place × P)) (i : ℕ) (q : Place) → IsAt es q i → is_some (find place_cmp q es) ≡ true
is_found [] i q here = absurd (omega (arith, here.within))
is_found (e ∷ es) i q here = ap is_some (here.finds e)

pub some_mapped : {X Y : Type 0} (f : X → Y) (o : Option X) → is_some (option_map f o) ≡ is_some o
some_mapped f None = refl
some_mapped f (Some x) = refl

nth_there : {X : Type 0} (es : List X) (i : ℕ) → i < length es → X
nth_there [] i within = absurd (omega (arith, within))
nth_there (e ∷ es) i within = e

module _ {P : Type 0} (os : List (Option (Place × P))) (row : List ℕ) (h : AreStored os row) where
  pub length_is : length (shown os row) ≡ length row
  length_is = shown_length os row h.there

  -- the place of the entry at a number
  module _ (i : ℕ) (p : Place) (d : Place × P) (within : i < length row) (at : option_map (λ e. e.0) (slice_get (shown os row) i) ≡ Some p) where
    pub place_there : (get_or (shown os row) i d).0 ≡ p
    place_there = nth_place (shown os row) i p d (omega (arith, within, length_is)) at

  -- there is an entry where there is a number
  pub entry_there : (i : ℕ) → i < length row → Place × P
  entry_there i within = nth_there (shown os row) i (omega (arith, within, length_is))

  pub at_place : (i : ℕ) (p q : Place) → i < length row → option_map (λ e. e.0) (slice_get (shown os row) i) ≡ Some p → place_cmp q p ≡ Equal → IsAt (shown os row) q i
  at_place i p q within at tie =
      let e = entry_there i within in
      at_here (shown os row) i e q h.sorted (omega (arith, within, length_is)) (ap (place_cmp q) (place_there i p e within at) ∙ tie)

  -- the place is there, or there is room for one more
  pub fits_in : (q : Place) (room : ℕ) → (contains_key (map_of (shown os row)) q ≡ true) ⊎ (len (map_of (shown os row)) < room) → (is_some (find place_cmp q (shown os row)) ≡ true) ⊎ (length row < room)
  fits_in q room fits = elim fits [
    | inl there ↦ inl (rw (get_is (shown os row) h.sorted q) at there)
    | inr less ↦ inr (let n = len_is (shown os row) h.sorted in omega (arith, less, n, length_is))
  ]

  -- what the slot at a number has
  module _ (i k : ℕ) (at : slice_get row i ≡ Some k) where
    pub has_entry : is_some (slot_at os k) ≡ true
    has_entry = in_row os row i k h.there at

    pub entry_is : slice_get (shown os row) i ≡ slot_at os k
    entry_is = shown_at os row i k h.there at

    pub slot_there : k < length os
    slot_there = held_within os k has_entry

    module _ (q : Place) (here : IsAt (shown os row) q i) where
      entry_then : (o : Option (Place × P)) → slice_get (shown os row) i ≡ o → is_some o ≡ true → (w : P) × ((o ≡ Some (q, w)) × (find place_cmp q (shown os row) ≡ Some w))
      entry_then None is some = absurd (true≢false (sym some))
      entry_then (Some e) is some =
          let nth : get_or (shown os row) i e ≡ e = get_or_from_slice_get (shown os row) i e e is in
          let place : e.0 ≡ q = sym (ap (λ x. x.0) nth) ∙ here.same e in
          (e.1, ((λ j. Some (place j, e.1)), here.finds e ∙ ap (λ (x : Place × P). Some x.1) nth))

      pub own_entry : (w : P) × ((slot_at os k ≡ Some (q, w)) × (find place_cmp q (shown os row) ≡ Some w))
      own_entry = entry_then (slot_at os k) entry_is has_entry

      -- its pane is written
      module _ (v : P) (within : k < length os) (once : listed k row ≡ 1) where
        pub set_shows : shown (set os k (Some (q, v))) row ≡ put place_cmp q v (shown os row)
        set_shows = shown_set os k (q, v) within i row h.there at once ∙ sym (here.puts v)

        pub set_stored : AreStored (set os k (Some (q, v))) row
        set_stored = record {
          there = in_written os k (q, v) within row h.there;
          sorted = ap (is_sorted place_cmp) set_shows ∙ put_sorted (shown os row) h.sorted q v;
        }

  -- a place has a pane of its own, in a slot that was free
  module _ (i k : ℕ) (q : Place) (gap : IsGapFor (shown os row) q i) (v : P) (within : k < length os) (fits : i ≤ length row) (fresh : listed k row ≡ 0) where
    pub added_shows : shown (set os k (Some (q, v))) (insert row i k) ≡ put place_cmp q v (shown os row)
    added_shows = shown_insert os k (q, v) within i row h.there fits fresh ∙ sym (gap.puts v)

    pub added_stored : AreStored (set os k (Some (q, v))) (insert row i k)
    added_stored = record {
      there = in_insert os k (q, v) within i row h.there fits;
      sorted = ap (is_sorted place_cmp) added_shows ∙ put_sorted (shown os row) h.sorted q v;
    }

  -- a place has none
  module _ (i : ℕ) (q : Place) (here : IsAt (shown os row) q i) where
    pub removed_shows : shown os (remove row i) ≡ filter (λ e. is_other q e.0) (shown os row)
    removed_shows = shown_remove os i row h.there ∙ by (shown os row) refl where
      by : (es : List (Place × P)) → shown os row ≡ es → remove (shown os row) i ≡ filter (λ e. is_other q e.0) (shown os row)
      by [] is = absurd (let none = ap length is in omega (arith, here.within, none))
      by (e ∷ es) is = one_out q (shown os row) i e h.sorted here.within (here.same e)

    pub removed_stored : AreStored os (remove row i)
    removed_stored = record {
      there = in_remove os i row h.there;
      sorted = ap (is_sorted place_cmp) removed_shows ∙ kept_sorted (shown os row) h.sorted (is_other q);
    }

  -- those in front go, which end by a limit
  module _ (limit : ℤ) (n : ℕ) (left : filter (λ e. is_kept limit e.0) (shown os row) ≡ drop n (shown os row)) where
    pub dropped_shows : shown os (drop n row) ≡ filter (λ e. is_kept limit e.0) (shown os row)
    dropped_shows = shown_drop os n row h.there ∙ sym left

    pub dropped_stored : AreStored os (drop n row)
    dropped_stored = record {
      there = in_drop os n row h.there;
      sorted = ap (is_sorted place_cmp) dropped_shows ∙ kept_sorted (shown os row) h.sorted (is_kept limit);
    }
