-- A schema of parts that passed their checks, and that its names are names and its numbers have 64 bits.
use Rattle.std.proofs.Common.{◌≡◌, ◌≤◌, ◌&&◌, not, true, List, [], ◌∷◌, ◌++◌, length, refl}
use Rattle.std.specs.Prelude.{nat_le, int_le}
use Rattle.std.specs.List.{list_all}
use Rattle.std.proofs.lemmas.Bool.{and_parts, and_from, le-leb}
use Rattle.wsm_record.specs.Name.{is_name, is_among, is_between}
use Rattle.wsm_record.specs.Schema.{FieldType, Int, Truth, Enum, DeclaredField, Declared, is_source_count, is_i64, are_names_after, are_sources, is_name_list, is_field_type, is_field_after, are_fields_after, is_schema, is_spelt_type, is_spelt_field}
use Rattle.wsm_record.proofs.Schemas.{names_spelt}
use Rattle.wsm_query.specs.Tree.{Name}

pub schema_lawful : (s : Declared) → is_name_list s.keys ≡ true → length s.fields ≤ 16 → are_fields_after [] s.fields ≡ true → are_sources s.sources ≡ true → is_schema s ≡ true
unfolding is_schema
schema_lawful s keys few fields sources =
    and_from (is_name_list s.keys) (nat_le (length s.fields) 16 && (are_fields_after [] s.fields && are_sources s.sources)) keys
    (and_from (nat_le (length s.fields) 16) (are_fields_after [] s.fields && are_sources s.sources) (le-leb (length s.fields) 16 few)
    (and_from (are_fields_after [] s.fields) (are_sources s.sources) fields sources))

type_spelt : (t : FieldType) → is_field_type t ≡ true → is_spelt_type t ≡ true
type_spelt (Int lo hi) h =
    let a = and_parts (is_i64 lo) (is_i64 hi && int_le lo hi) h in
    and_from (is_i64 lo) (is_i64 hi) a.0 (and_parts (is_i64 hi) (int_le lo hi) a.1).0
type_spelt Truth h = refl
type_spelt (Enum names) h = names_spelt [] names (and_parts (is_between 1 1000 (length names)) (are_names_after [] names) h).1

fields_spelt : (before : List Name) (fs : List DeclaredField) → are_fields_after before fs ≡ true → list_all is_spelt_field fs ≡ true
fields_spelt before [] h = refl
fields_spelt before (f ∷ fs) h =
    let rest = are_fields_after (before ++ f.name ∷ []) fs in
    let a = and_parts (is_field_after before f) rest h in
    let b = and_parts (is_name f.name) (not (is_among f.name before) && is_field_type f.type) a.0 in
    let d = and_parts (not (is_among f.name before)) (is_field_type f.type) b.1 in
    and_from (is_spelt_field f) (list_all is_spelt_field fs) (and_from (is_name f.name) (is_spelt_type f.type) b.0 (type_spelt f.type d.1)) (fields_spelt (before ++ f.name ∷ []) fs a.1)

-- its keys, its fields and its sources
pub record SchemaSpelt (s : Declared) : Type 0 where
  pub keys : list_all is_name s.keys ≡ true
  pub fields : list_all is_spelt_field s.fields ≡ true
  pub sources : list_all is_name s.sources ≡ true

pub schema_spelt : (s : Declared) → is_schema s ≡ true → SchemaSpelt s
unfolding is_schema
schema_spelt s h =
    let a = and_parts (is_name_list s.keys) (nat_le (length s.fields) 16 && (are_fields_after [] s.fields && are_sources s.sources)) h in
    let b = and_parts (nat_le (length s.fields) 16) (are_fields_after [] s.fields && are_sources s.sources) a.1 in
    let d = and_parts (are_fields_after [] s.fields) (are_sources s.sources) b.1 in
    record {
      keys = names_spelt [] s.keys (and_parts (is_between 1 1000 (length s.keys)) (are_names_after [] s.keys) a.0).1;
      fields = fields_spelt [] s.fields d.0;
      sources = names_spelt [] s.sources (and_parts (is_source_count (length s.sources)) (are_names_after [] s.sources) d.1).1;
    }
