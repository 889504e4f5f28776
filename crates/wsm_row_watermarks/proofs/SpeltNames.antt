-- Names and fields one after the other, and what is known of those of a schema.
use Rattle.std.proofs.Common.{◌≡◌, ℕ, zero, suc, ◌+◌, ◌&&◌, not, Bool, true, List, [], ◌∷◌, ◌++◌, length, take, Some, sym, ap, ◌∙◌, refl}
use Rattle.std.specs.Prelude.{nat_le, slice_get}
use Rattle.std.specs.List.{list_all}
use Rattle.std.proofs.lemmas.Bool.{and_parts, and_from}
use Rattle.std.proofs.lemmas.List.{take_more}
use Rattle.std.proofs.lemmas.Option.{get_or_from_slice_get, none-some, same_Some, slice_get_within}
use Rattle.wsm_record.specs.Name.{is_among, is_between, is_name}
use Rattle.wsm_record.specs.Schema.{Declared, DeclaredField, are_fields_after, are_names_after, are_sources, is_field_after, is_field_type, is_name_list, is_schema, is_source_count}
use Rattle.wsm_record.proofs.Schemas.{names_spelt}

-- what holds of all holds of the one at a place
pub all_at : {X : Type 0} (p : X → Bool) (xs : List X) (i : ℕ) (x : X) → list_all p xs ≡ true → slice_get xs i ≡ Some x → p x ≡ true
all_at p [] i x all at = absurd (none-some x at)
all_at p (y ∷ ys) zero x all at = ap p (sym (same_Some y x at)) ∙ (and_parts (p y) (list_all p ys) all).0
all_at p (y ∷ ys) (suc i) x all at = all_at p ys i x (and_parts (p y) (list_all p ys) all).1 at

-- the first ones, and the next
pub one_more : {X : Type 0} (xs : List X) (i : ℕ) (x : X) → slice_get xs i ≡ Some x → take i xs ++ x ∷ [] ≡ take (i + 1) xs
one_more xs i x at =
    sym (take_more xs i x (slice_get_within xs i x at) ∙ ap (λ y. take i xs ++ y ∷ []) (get_or_from_slice_get xs i x x at))

pub types_spelt : (before : List (List ℕ)) (fs : List DeclaredField) → are_fields_after before fs ≡ true → list_all (λ (f : DeclaredField). is_field_type f.type) fs ≡ true
types_spelt before [] h = refl
types_spelt before (f ∷ fs) h =
    let rest = are_fields_after (before ++ f.name ∷ []) fs in
    let a = and_parts (is_field_after before f) rest h in
    let b = and_parts (is_name f.name) (not (is_among f.name before) && is_field_type f.type) a.0 in
    let d = and_parts (not (is_among f.name before)) (is_field_type f.type) b.1 in
    and_from (is_field_type f.type) (list_all (λ (g : DeclaredField). is_field_type g.type) fs) d.1 (types_spelt (before ++ f.name ∷ []) fs a.1)

-- the names of a schema are names, and its types have values
pub record Spelt (s : Declared) : Type 0 where
  pub keys : list_all is_name s.keys ≡ true
  pub fields : list_all (λ (f : DeclaredField). is_field_type f.type) s.fields ≡ true
  pub sources : list_all is_name s.sources ≡ true

pub spelt : (s : Declared) → is_schema s ≡ true → Spelt s
unfolding is_schema
spelt s h =
    let a = and_parts (is_name_list s.keys) (nat_le (length s.fields) 16 && (are_fields_after [] s.fields && are_sources s.sources)) h in
    let b = and_parts (nat_le (length s.fields) 16) (are_fields_after [] s.fields && are_sources s.sources) a.1 in
    let d = and_parts (are_fields_after [] s.fields) (are_sources s.sources) b.1 in
    record {
      keys = names_spelt [] s.keys (and_parts (is_between 1 1000 (length s.keys)) (are_names_after [] s.keys) a.0).1;
      fields = types_spelt [] s.fields d.0;
      sources = names_spelt [] s.sources (and_parts (is_source_count (length s.sources)) (are_names_after [] s.sources) d.1).1;
    }
