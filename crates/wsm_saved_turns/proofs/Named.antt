-- The names of clocks, where lines name them.
use Rattle.std.proofs.Common.{◌≡◌, ◌<◌, ℕ, zero, suc, List, [], ◌∷◌, length, map, map-id, slice_get, Option, Some, None, refl, subst, sym, ap, arith}
use Rattle.wsm_turns.specs.Named.{Knows, Named}
use Rattle.wsm_saved_turns.specs.Turns.{names_text}
use Rattle.wsm_saved.specs.Lists.{bytes_text, list_text}

pub named_list : (named : Option ℕ) (n : Named) (list : List (List ℕ)) → Knows named (Some n) list → n.names ≡ list
named_list None n list knows = absurd knows
named_list (Some most) n list knows = ap (λ (m : Named). m.names) knows

pub named_text : (named : Option ℕ) (n : Named) (list : List (List ℕ)) → Knows named (Some n) list → list_text bytes_text n.names ≡ names_text named list
named_text None n list knows = absurd knows
named_text (Some most) n list knows = ap (λ (m : Named). list_text bytes_text m.names) knows

pub none_list : (named : Option ℕ) (list : List (List ℕ)) → Knows named None list → list ≡ []
none_list None list knows = knows
none_list (Some most) list knows = absurd knows

pub none_text : (named : Option ℕ) (list : List (List ℕ)) → Knows named None list → names_text named list ≡ []
none_text None list knows = refl
none_text (Some most) list knows = absurd knows

abbrev IsNothing : Option (List ℕ) → Type 0
IsNothing None = Unit {0}
IsNothing (Some x) = ⊥

-- each name is there
pub one_there : (names : List (List ℕ)) (i : ℕ) → i < length names → None ≡ slice_get names i → ⊥
one_there [] i within none = omega (arith, within)
one_there (x ∷ xs) zero within none = subst IsNothing none tt
one_there (x ∷ xs) (suc i) within none = one_there xs i (omega (arith, within)) none

-- bytes are shown as they are
pub as_bytes : {V : Type 0} (bytes : V → List ℕ) (vs : List V) → map bytes vs ≡ map (λ v. map (λ (n : ℕ). n) (bytes v)) vs
as_bytes bytes vs = λ i. map (λ v. sym (map-id (bytes v)) i) vs

-- clocks have the names of a list
pub knows_so : (most : ℕ) (new : Option Named) (names list : List (List ℕ)) → new ≡ Some (record { most = most; names = names }) → names ≡ list → Knows (Some most) new list
knows_so most new names list is same = subst (λ (o : Option Named). Knows (Some most) o list) (sym is) (λ i. record { most = most; names = same i })
