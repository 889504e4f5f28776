-- A name more in a list of names that is kept as texts.
use Rattle.std.proofs.Common.{◌≡◌, ◌∙◌, ◌++◌, Bool, false, if◌then◌else◌, List, [], ◌∷◌, ℕ, map, bytes_eq, sym, ap}
use Rattle.std.proofs.lemmas.List.{map-append}
use Rattle.std.specs.List.{list_any}
use Rattle.wsm_record.specs.Name.{is_among}
use Rattle.wsm_record.proofs.Lists.{list_any-map}

-- whether a text is there
pub among : {V : Type 0} (items : V → List ℕ) (keys : List V) (v : V) (x : List ℕ) → items v ≡ x → is_among x (map items keys) ≡ list_any (λ y. bytes_eq (items v) (items y)) keys
among items keys v x is = list_any-map (bytes_eq x) items keys ∙ ap (λ (z : List ℕ). list_any (λ y. bytes_eq z (items y)) keys) (sym is)

-- a text that isn't is added behind them
pub grows : {V : Type 0} (items : V → List ℕ) (keys new : List V) (v : V) (x : List ℕ) (found : Bool) → items v ≡ x → found ≡ false → new ≡ (if found then keys else keys ++ v ∷ []) → map items new ≡ map items keys ++ x ∷ []
grows items keys new v x found is f n = ap (map items) (n ∙ ap (λ b. if b then keys else keys ++ v ∷ []) f) ∙ map-append items keys (v ∷ []) ∙ ap (λ y. map items keys ++ y ∷ []) is
