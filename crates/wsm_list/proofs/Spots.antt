-- What spots tell of the slots of a ring.
use Rattle.std.proofs.Common.{◌≡◌, true, List, [], Option, Some, None, refl, sym, ap, ◌∙◌}
use Rattle.std.proofs.lemmas.Bool.{true≢false}
use Rattle.std.proofs.lemmas.Option.{none-some, same_Some}
use Rattle.std.specs.Prelude.{IfSome, option_map}
use Rattle.std.specs.Option.{is_some}
use Rattle.std.specs.FinMap.Entries.{find}
use Rattle.wsm_windows.specs.declared.place.Place.{Place}
use Rattle.wsm_windows.specs.Places.{place_cmp}
use Rattle.wsm_slots.specs.declared.spot.Spot.{Spot}
use Rattle.wsm_slots.specs.Walk.{place_found}

pub any_spot : (found : Option Spot) → IfSome found (λ _. Unit {0})
any_spot None = tt
any_spot (Some spot) = tt

-- where a pane is held its spot is found
pub is_found : {X : Type 0} (found : Option Spot) (p : Place) (pane : Option X) → place_found found ≡ option_map (λ _. p) pane → is_some pane ≡ true → is_some found ≡ true
is_found None p None is there = there
is_found None p (Some x) is there = absurd (none-some p is)
is_found (Some spot) p pane is there = refl

pub place_is : {X : Type 0} (spot : Spot) (p : Place) (pane : Option X) → Some spot.place ≡ option_map (λ _. p) pane → is_some pane ≡ true → spot.place ≡ p
place_is spot p None is there = absurd (true≢false (sym there))
place_is spot p (Some x) is there = same_Some spot.place p is

pub none_there : {P : Type 0} (p : Place) (es : List (Place × P)) → es ≡ [] → ¬ (is_some (find place_cmp p es) ≡ true)
none_there p es none there = true≢false (sym there ∙ ap (λ l. is_some (find place_cmp p l)) none)
