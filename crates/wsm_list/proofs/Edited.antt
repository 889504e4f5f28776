-- What an edit of slots in a row makes of the map that they stand for.
use Rattle.std.proofs.Common.{◌≡◌, ◌+◌, ◌<◌, ◌≤◌, ℕ, List, [], ◌∷◌, Option, Some, None, length, set, take, drop, ap, ◌∙◌, arith}
use Rattle.std.proofs.lemmas.List.{length-set}
use Rattle.std.specs.Prelude.{filter, slice_get}
use Rattle.std.specs.List.{insert, remove}
use Rattle.std.specs.FinMap as map
use Rattle.wsm_windows.specs.declared.place.Place.{Place}
use Rattle.wsm_windows.specs.Places.{place_cmp}
use Rattle.wsm_slots.specs.Place.{is_kept}
use Rattle.wsm_slots.specs.Slots.{slot_at}
use Rattle.wsm_list.specs.Search.{IsAt, IsGapFor}
use Rattle.wsm_list.specs.Stored.{AreFreed, AreListed, AreStored, listed, shown}
use Rattle.wsm_list.proofs.Listed.{added_listed, freed_in, freed_listed, freed_one, freed_shows, set_listed, shifted_listed}
use Rattle.wsm_list.proofs.SlotRows.{listed_less, listed_parts}
use Rattle.wsm_list.proofs.StoredEdits.{added_shows, added_stored, dropped_shows, dropped_stored, own_entry, removed_shows, removed_stored, set_shows, set_stored, slot_there}
use Rattle.wsm_list.proofs.Tables.{get_is, kept_is, map_of, others_are, put_is}

-- slots in a row have the entries of a map in order, and are as many as others
pub record AreOf {P : Type 0} (os ns : List (Option (Place × P))) (row : List ℕ) (panes : map.FinMap place_cmp P) : Type 0 where
  pub is : map_of (shown ns row) ≡ panes
  pub stored : AreStored ns row
  pub listed : AreListed ns row
  pub long : length ns ≡ length os

module _ {P : Type 0} (os : List (Option (Place × P))) (row : List ℕ) (stored : AreStored os row) where
  -- the pane at a place, and the slot that has it
  pub own_pane : (i k : ℕ) (q : Place) → slice_get row i ≡ Some k → IsAt (shown os row) q i → (w : P) × ((slot_at os k ≡ Some (q, w)) × (map.get (map_of (shown os row)) q ≡ Some w))
  own_pane i k q at here = let own = own_entry os row stored i k at q here in (own.0, (own.1.0, get_is (shown os row) stored.sorted q ∙ own.1.1))

module _ {P : Type 0} (os : List (Option (Place × P))) (row : List ℕ) (stored : AreStored os row) (all : AreListed os row) where
  -- a pane is written over the one that was there
  pub over : (i k : ℕ) (q : Place) (v : P) → slice_get row i ≡ Some k → IsAt (shown os row) q i → listed k row ≡ 1 → AreOf os (set os k (Some (q, v))) row (map.insert (map_of (shown os row)) q v)
  over i k q v at here once =
      let there = slot_there os row stored i k at in
      record {
        is = ap map_of (set_shows os row stored i k at q here v there once) ∙ put_is (shown os row) stored.sorted q v;
        stored = set_stored os row stored i k at q here v there once;
        listed = set_listed os row k (q, v) once all;
        long = length-set os k (Some (q, v));
      }

  -- a place has a pane of its own, in a slot that was free
  pub added : (i k : ℕ) (q : Place) (v : P) → IsGapFor (shown os row) q i → k < length os → i ≤ length row → listed k row ≡ 0 → AreOf os (set os k (Some (q, v))) (insert row i k) (map.insert (map_of (shown os row)) q v)
  added i k q v gap within fits fresh = record {
    is = ap map_of (added_shows os row stored i k q gap v within fits fresh) ∙ put_is (shown os row) stored.sorted q v;
    stored = added_stored os row stored i k q gap v within fits fresh;
    listed = added_listed os row i k (q, v) fits fresh all;
    long = length-set os k (Some (q, v));
  }

  -- slots are freed, and those that are left in the row are those of a map
  module _ (freed left : List ℕ) (ns : List (Option (Place × P))) (gone : AreFreed freed os ns) (parts : (s : ℕ) → listed s freed + listed s left ≡ listed s row) (panes : map.FinMap place_cmp P) where
    pub freed_of : AreStored os left → map_of (shown os left) ≡ panes → AreOf os ns left panes
    freed_of rest is =
        let same : shown ns left ≡ shown os left = freed_shows os ns row left freed gone parts stored.there all in
        record {
          is = ap map_of same ∙ is;
          stored = record {
            there = freed_in os ns row left freed gone parts stored.there all rest.there;
            sorted = ap (map.is_sorted place_cmp) same ∙ rest.sorted;
          };
          listed = freed_listed os ns row left freed gone parts stored.there all;
          long = gone.count;
        }

  -- a place has none
  pub removed : (i k : ℕ) (q : Place) → slice_get row i ≡ Some k → IsAt (shown os row) q i → AreOf os (set os k None) (remove row i) (map.remove (map_of (shown os row)) q)
  removed i k q at here =
      let parts : (s : ℕ) → listed s (k ∷ []) + listed s (remove row i) ≡ listed s row = λ s. let less = listed_less s i k row at in omega (arith, less) in
      freed_of (k ∷ []) (remove row i) (set os k None) (freed_one os row k (slot_there os row stored i k at)) parts _ (removed_stored os row stored i q here)
      (ap map_of (removed_shows os row stored i q here) ∙ others_are (shown os row) stored.sorted q)

  -- those in front go, which end by a limit
  pub dropped : (limit : _) (n : ℕ) (ns : List (Option (Place × P))) → filter (λ e. is_kept limit e.0) (shown os row) ≡ drop n (shown os row) → AreFreed (take n row) os ns
      → AreOf os ns (drop n row) (map.retain_keys (map_of (shown os row)) (is_kept limit))
  dropped limit n ns left gone =
      freed_of (take n row) (drop n row) ns gone (λ s. listed_parts s n row) _ (dropped_stored os row stored limit n left)
      (ap map_of (dropped_shows os row stored limit n left) ∙ kept_is (shown os row) stored.sorted (is_kept limit))

  -- a slot comes to stand elsewhere in the row, and has a pane at another place
  pub shifted : (from to k : ℕ) (p q : Place) (v : P) → slice_get row from ≡ Some k → IsAt (shown os row) p from → IsGapFor (shown os (remove row from)) q to → k < length os → to ≤ length (remove row from) → listed k (remove row from) ≡ 0
      → AreOf os (set os k (Some (q, v))) (insert (remove row from) to k) (map.insert (map.remove (map_of (shown os row)) p) q v)
  shifted from to k p q v at here gap within fits fresh =
      let rest = removed_stored os row stored from p here in
      record {
        is =
            ap map_of (added_shows os (remove row from) rest to k q gap v within fits fresh) ∙ put_is (shown os (remove row from)) rest.sorted q v
            ∙ ap (λ m. map.insert m q v) (ap map_of (removed_shows os row stored from p here) ∙ others_are (shown os row) stored.sorted p);
        stored = added_stored os (remove row from) rest to k q gap v within fits fresh;
        listed = shifted_listed os row from to k (q, v) at fits fresh all;
        long = length-set os k (Some (q, v));
      }
