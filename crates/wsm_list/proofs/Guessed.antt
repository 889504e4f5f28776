-- A slot that is guessed, and has the pane at a place.
use Rattle.std.proofs.Common.{◌≡◌, ℕ, true, List, Option, ap, ◌∙◌, arith}
use Rattle.std.proofs.lemmas.Cmp.{tied_itself}
use Rattle.std.specs.Option.{is_some}
use Rattle.std.specs.Prelude.{option_map}
use Rattle.wsm_windows.specs.declared.place.Place.{Place}
use Rattle.wsm_windows.proofs.Places.{places_total}
use Rattle.wsm_slots.specs.Slots.{pane_of, slot_at}
use Rattle.wsm_list.specs.Search.{IsSlotOf}
use Rattle.wsm_list.specs.Stored.{AreListed, AreStored, listed}
use Rattle.wsm_list.proofs.Listed.{listed_index}
use Rattle.wsm_slots.proofs.Entry.{own_entry}
use Rattle.wsm_list.proofs.Stored.{shown_at}
use Rattle.wsm_list.proofs.StoredEdits.{at_place}

-- it has the entry of the place, so it stands in the row
pub guessed : {P : Type 0} (os : List (Option (Place × P))) (row : List ℕ) → AreStored os row → AreListed os row → (place : Place) (k : ℕ) → is_some (pane_of place (slot_at os k)) ≡ true → IsSlotOf os row place k
guessed os row stored all place k has =
    let own = own_entry place (slot_at os k) has in
    let one : listed k row ≡ 1 = all k (ap is_some own.1) in
    let at = listed_index k row (omega (arith, one)) in
    record {
      number = at.0;
      here = at.1.1;
      once = one;
      is = at_place os row stored at.0 place place at.1.0 (ap (option_map (λ e. e.0)) (shown_at os row at.0 k stored.there at.1.1 ∙ own.1)) (tied_itself places_total place);
    }
