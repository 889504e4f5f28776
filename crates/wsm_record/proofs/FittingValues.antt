-- Values against the types of their fields, one field after the other.
use Rattle.std.proofs.Common.{◌≡◌, ◌≢◌, ◌∙◌, ◌<◌, ◌+◌, ◌&&◌, ℕ, suc, Bool, false, List, [], ◌∷◌, length, drop, get_or, ap, ap₂, sym, refl, add-one}
use Rattle.std.proofs.Math.Seq.{drop-cons}
use Rattle.std.proofs.Math.Bool.{and-false}
use Rattle.wsm_record.specs.declared.event.Value.{Value}
use Rattle.wsm_record.specs.Schema.{DeclaredField, fits_type, fit_fields}

-- a field and its value, before those that are left
pub fit_fields-next : (ds : List DeclaredField) (vs : List Value) (i : ℕ) (d : DeclaredField) (other : Value) → i < length ds → i < length vs → d ≡ get_or ds i d →
    fit_fields (drop i ds) (drop i vs) ≡ (fits_type d.type (get_or vs i other) && fit_fields (drop (i + 1) ds) (drop (i + 1) vs))
fit_fields-next ds vs i d other h k e =
    ap₂ fit_fields (drop-cons ds i d h ∙ ap (λ x. x ∷ drop (suc i) ds) (sym e)) (drop-cons vs i other k)
    ∙ ap (λ (n : ℕ). fits_type d.type (get_or vs i other) && fit_fields (drop n ds) (drop n vs)) (sym (add-one i))

-- as many values as fields are asked for
pub fit_fields-lengths : (ds : List DeclaredField) (vs : List Value) → length ds ≢ length vs → fit_fields ds vs ≡ false
fit_fields-lengths [] [] h = absurd (h refl)
fit_fields-lengths [] (v ∷ vs) h = refl
fit_fields-lengths (d ∷ ds) [] h = refl
fit_fields-lengths (d ∷ ds) (v ∷ vs) h =
    ap (λ (b : Bool). fits_type d.type v && b) (fit_fields-lengths ds vs (λ e. h (ap suc e))) ∙ and-false (fits_type d.type v)
