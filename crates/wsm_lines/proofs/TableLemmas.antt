-- The look-up of the code's map is that of its entries.
use Rattle.std.proofs.Common.{◌≡◌, ◌∙◌, ℕ, ◌++◌, List, [], ◌∷◌, map, refl, ap, sym, false}
use Rattle.std.specs.Prelude.{Option, Some, None, bytes_eq, cond, is_some}
use Rattle.std.specs.Map.{lookup}
use Rattle.wsm_lines.specs.Entries.{added, entry_with, number_in, unless_there}

pub number_in-map : {K : Type 0} (items : K → List ℕ) (s : List ℕ) (es : List (K × ℕ)) → number_in (map (λ e. entry_with (items e.0) e.1) es) s ≡ lookup (λ k. bytes_eq s (items k)) es
number_in-map items s [] = refl
number_in-map items s (e ∷ es) = ap (cond (bytes_eq s (items e.0)) (Some e.1)) (number_in-map items s es)

pub map-append : {X Y : Type 0} (f : X → Y) (xs : List X) (x : X) → map f (xs ++ x ∷ []) ≡ map f xs ++ f x ∷ []
map-append f [] x = refl
map-append f (y ∷ xs) x = ap (λ zs. f y ∷ zs) (map-append f xs x)

-- a new key's entry goes behind the others
pub map_added : {K : Type 0} (items : K → List ℕ) (es new : List (K × ℕ)) (k : K) (word : List ℕ) (n : ℕ) → new ≡ es ++ (k, n) ∷ [] → items k ≡ word → number_in (map (λ e. entry_with (items e.0) e.1) es) word ≡ None
    → map (λ e. entry_with (items e.0) e.1) new ≡ added (map (λ e. entry_with (items e.0) e.1) es) (entry_with word n)
map_added items es new k word n grown is none =
    ap (map (λ e. entry_with (items e.0) e.1)) grown
    ∙ map-append (λ e. entry_with (items e.0) e.1) es (k, n)
    ∙ ap (λ w. map (λ e. entry_with (items e.0) e.1) es ++ entry_with w n ∷ []) is
    ∙ sym (ap (unless_there (map (λ e. entry_with (items e.0) e.1) es) (entry_with word n)) none)

pub none_from : {X : Type 0} (o : Option X) → is_some o ≡ false → o ≡ None
none_from None e = refl
none_from (Some x) e = cc
