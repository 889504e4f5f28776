-- Lists that are written value by value.
use Rattle.std.proofs.Common.{◌≡◌, ◌∙◌, ℕ, zero, suc, ◌+◌, ◌<◌, ◌≤◌, ◌^◌, subst, List, [], ◌∷◌, ◌++◌, length, map, map-id, take, get_or, refl, sym, ap, arith}
use Rattle.wsm_saved.specs.Numbers.{number_text}
use Rattle.wsm_saved.specs.Lists.{ListFits, list_text}
use Rattle.wsm_saved.proofs.Listing.{WroteSome, WroteSome-fits, WroteSome-list, WroteSome-more}

any_default : {A : Type 0} (xs : List A) (i : ℕ) (d e : A) → i < length xs → get_or xs i d ≡ get_or xs i e
any_default [] i d e within = absurd (omega (arith, within))
any_default (x ∷ xs) zero d e within = refl
any_default (x ∷ xs) (suc i) d e within = any_default xs i d e (omega (arith, within))

-- one more was written
pub wrote_more : {A : Type 0} (text_of : A → List ℕ) (Fits : A → Type 0) (before now new : List ℕ) (xs : List A) (i : ℕ) (x d : A)
    → i < length xs → x ≡ get_or xs i d → WroteSome text_of Fits before now (take i xs) → new ≡ now ++ text_of x → Fits x → WroteSome text_of Fits before new (take (i + 1) xs)
wrote_more {A} text_of Fits before now new xs i x d within is wrote more fits =
    subst (λ (ys : List A). WroteSome text_of Fits before new ys) (map-id (take (i + 1) xs))
    (WroteSome-more (λ (y : A). y) text_of Fits before now new xs i x within (is ∙ any_default xs i d x within)
    (subst (λ (ys : List A). WroteSome text_of Fits before now ys) (sym (map-id (take i xs))) wrote) more fits)

as_shown : {A : Type 0} (text_of : A → List ℕ) (Fits : A → Type 0) (before now : List ℕ) (xs : List A) → WroteSome text_of Fits before now xs → WroteSome text_of Fits before now (map (λ (y : A). y) xs)
as_shown {A} text_of Fits before now xs wrote = subst (λ (ys : List A). WroteSome text_of Fits before now ys) (sym (map-id xs)) wrote

-- all were, behind their count
pub wrote_list : {A : Type 0} (text_of : A → List ℕ) (Fits : A → Type 0) (old now : List ℕ) (xs : List A) (i : ℕ)
    → length xs ≤ i → WroteSome text_of Fits (old ++ number_text (length xs)) now (take i xs) → now ≡ old ++ list_text text_of xs
wrote_list {A} text_of Fits old now xs i all wrote =
    WroteSome-list (λ (y : A). y) text_of Fits old now xs i all (as_shown text_of Fits (old ++ number_text (length xs)) now (take i xs) wrote)
    ∙ ap (λ (ys : List A). old ++ list_text text_of ys) (map-id xs)

pub wrote_fits : {A : Type 0} (text_of : A → List ℕ) (Fits : A → Type 0) (old now : List ℕ) (xs : List A) (i : ℕ)
    → length xs ≤ i → WroteSome text_of Fits (old ++ number_text (length xs)) now (take i xs) → length xs < 2 ^ 64 → ListFits Fits xs
wrote_fits {A} text_of Fits old now xs i all wrote few =
    subst (λ (ys : List A). ListFits Fits ys) (map-id xs)
    (WroteSome-fits (λ (y : A). y) text_of Fits old now xs i all (as_shown text_of Fits (old ++ number_text (length xs)) now (take i xs) wrote) few)
