-- The names of an ENUM, from the fields as they are kept.
use Rattle.std.proofs.Common.{◌≡◌, ℕ, zero, suc, ◌-◌, ◌<◌, length, get_or, List, map, Option, Some, refl, ap, sym, ◌∙◌, arith}
use Rattle.std.specs.Prelude.{slice_get}
use Rattle.std.specs.Option.{option_map}
use Rattle.std.proofs.lemmas.Option.{slice_get-map, slice_get_read}
use Rattle.wsm_record.specs.declared.schema.DeclaredField.{DeclaredField as KeptField}
use Rattle.wsm_record.specs.Schema.{DeclaredField, Declared, enum_names, names_of_type, names_of_field}
use Rattle.wsm_record.specs.Fields.{type_seen, field_seen}

one_more : (s : Declared) (n : ℕ) → (n ≡ 0 → ⊥) → enum_names s n ≡ names_of_field (slice_get s.fields (n - 1))
one_more s zero some = absurd (some refl)
one_more s (suc n) some =
    let less : suc n - 1 ≡ n = omega arith in
    rw less refl

-- the ENUM of a field
pub names_there : (kept : List KeptField) (s : Declared) (n : ℕ) (f : KeptField) → (n ≡ 0 → ⊥) → map field_seen kept ≡ s.fields → n - 1 < length kept → f ≡ get_or kept (n - 1) f → enum_names s n ≡ names_of_type (type_seen f.ty)
names_there kept s n f some seen within same =
    let there : slice_get kept (n - 1) ≡ Some f = slice_get_read kept (length kept) (n - 1) f refl within same in
    one_more s n some ∙ ap names_of_field (ap (λ (fs : List DeclaredField). slice_get fs (n - 1)) (sym seen) ∙ slice_get-map field_seen kept (n - 1) ∙ ap (λ (o : Option KeptField). option_map field_seen o) there)
