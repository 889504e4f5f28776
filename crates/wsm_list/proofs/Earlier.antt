-- Entries whose windows end before a time, and where the entry of a slot stands.
use Rattle.std.proofs.Common.{◌≡◌, ◌<◌, ◌+◌, ℕ, ℤ, true, Option, Some, List, length, get_or, refl, ap, ◌∙◌, arith}
use Rattle.std.proofs.lemmas.Cmp.{tied_itself}
use Rattle.std.proofs.lemmas.Int.{ints}
use Rattle.std.proofs.lemmas.Option.{slice_get_within}
use Rattle.std.specs.Prelude.{int_lt, option_map, slice_get}
use Rattle.std.specs.Ordering.{int_cmp, is_gt}
use Rattle.std.specs.declared.cmp.Ordering.TheVariants.{Greater}
use Rattle.wsm_windows.specs.declared.place.Place.{Place}
use Rattle.wsm_windows.specs.Places.{place_cmp}
use Rattle.wsm_windows.proofs.Places.{places_total}
use Rattle.wsm_list.specs.Search.{before, AreBeforeAllOf, IsSlotOf}
use Rattle.wsm_list.specs.Stored.{AreStored, shown}
use Rattle.wsm_list.proofs.Sorted.{passes_gt}
use Rattle.wsm_list.proofs.StoredEdits.{at_place, entry_is, entry_there, length_is, own_entry, place_there}

-- a place whose window ends later is past it
earlier : (p r : Place) → int_lt r.end p.end ≡ true → is_gt (place_cmp p r) ≡ true
earlier p r h = let more : int_cmp p.end r.end ≡ Greater = grind (arith, ints) in rw more refl

module _ {P : Type 0} (os : List (Option (Place × P))) (row : List ℕ) (h : AreStored os row) where
  -- an entry whose window ends before a time, and those in front of it
  pub earlier_before : (at : ℕ) (p : Place) (end : ℤ) → at < length row → option_map (λ e. e.0) (slice_get (shown os row) at) ≡ Some p → int_lt p.end end ≡ true → AreBeforeAllOf end (at + 1) (shown os row)
  earlier_before at p end within here less = record {
    counts = λ place is.
        let e = entry_there os row h at within in
        let long = length_is os row h in
        let past : is_gt (place_cmp place (get_or (shown os row) at e).0) ≡ true = ap (λ q. is_gt (place_cmp place q)) (place_there os row h at p e within here) ∙ earlier place p (ap (λ t. int_lt p.end t) is ∙ less) in
        let count : at < before place_cmp place (shown os row) = passes_gt place_cmp places_total (shown os row) at e place (rw h.sorted tt) (omega (arith, within, long)) past in
        omega (arith, count);
  }

  -- the slot of an entry stands in the row where the entry does
  pub stands_before : (place : Place) (k i : ℕ) → IsSlotOf os row place k → slice_get row i ≡ Some k → i ≡ before place_cmp place (shown os row)
  stands_before place k i s at =
      let own = own_entry os row h s.number k s.here place s.is in
      let within = slice_get_within row i k at in
      let is = at_place os row h i place place within (ap (option_map (λ e. e.0)) (entry_is os row h i k at ∙ own.1.0)) (tied_itself places_total place) in
      is.stops
