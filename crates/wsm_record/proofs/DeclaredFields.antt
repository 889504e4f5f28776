-- The faults of declared fields, one field after the other.
use Rattle.std.proofs.Common.{◌≡◌, ◌∙◌, ◌<◌, ◌≤◌, ◌+◌, ◌++◌, ◌||◌, not, ℕ, suc, Bool, true, false, cond, List, [], ◌∷◌, length, map, take, drop, get_or, Some, nat_lt, bytes_eq, ap, ap₂, sym, arith, add-one}
use Rattle.std.proofs.lemmas.Bool.{true≢false}
use Rattle.std.proofs.lemmas.Bool.Decides.{nat_tests}
use Rattle.std.proofs.lemmas.List.{length-map, map-append, take_more}
use Rattle.std.proofs.Math.Seq.{drop-cons}
use Rattle.std.proofs.Math.ListN.{get_or-map}
use Rattle.std.specs.List.{list_any}
use Rattle.wsm_record.specs.declared.schema.SchemaRefusal.TheVariants.{DuplicateName}
use Rattle.wsm_record.specs.declared.schema.Field.{Field}
use Rattle.wsm_record.specs.declared.schema.DeclaredField.{DeclaredField as KeptField}
use Rattle.wsm_record.specs.Name.{is_among}
use Rattle.wsm_record.specs.Schema.{DeclaredField, type_refusal, fields_refusal, or_else, is_too_many, is_source_count, has_too_many_names}
use Rattle.wsm_record.specs.Fields.{declared_field, declared_type, declared_of, field_seen}
use Rattle.wsm_record.proofs.Lists.{list_any-map}

abbrev pub name_of : DeclaredField → List ℕ
name_of d = d.name

-- a field more before those that are looked at
pub fields_refusal-next : (ds : List DeclaredField) (i : ℕ) (d : DeclaredField) → i < length ds → d ≡ get_or ds i d →
    fields_refusal (map name_of (take i ds)) (drop i ds)
    ≡ cond (is_among d.name (map name_of (take i ds))) (Some DuplicateName) (or_else (type_refusal d.type) (fields_refusal (map name_of (take (i + 1) ds)) (drop (i + 1) ds)))
fields_refusal-next ds i d h e =
    let before : List (List ℕ) = map name_of (take i ds) in
    let rest : drop i ds ≡ d ∷ drop (suc i) ds = drop-cons ds i d h ∙ ap (λ y. y ∷ drop (suc i) ds) (sym e) in
    let more : before ++ d.name ∷ [] ≡ map name_of (take (i + 1) ds) =
    sym (map-append name_of (take i ds) (d ∷ [])) ∙ ap (λ y. map name_of (take i ds ++ y ∷ [])) e ∙ ap (map name_of) (sym (take_more ds i d h)) in
    ap (fields_refusal before) rest
    ∙ ap₂ (λ (names : List (List ℕ)) (n : ℕ). cond (is_among d.name before) (Some DuplicateName) (or_else (type_refusal d.type) (fields_refusal names (drop n ds)))) more (sym (add-one i))

-- whether a field of that name is kept already
pub among_kept : (kept : List KeptField) (ds : List DeclaredField) (i : ℕ) (x : List ℕ) → map field_seen kept ≡ take i ds →
    is_among x (map name_of (take i ds)) ≡ list_any (λ f. bytes_eq x f.name) kept
among_kept kept ds i x e =
    ap (λ ys. is_among x (map name_of ys)) (sym e) ∙ list_any-map (bytes_eq x) name_of (map field_seen kept) ∙ list_any-map (λ (d : DeclaredField). bytes_eq x d.name) field_seen kept

-- with few keys and fields, and so many sources as there may be, only a field's names can be too many
pub too_many_names : (keys : List (List ℕ)) (fields : List Field) (sources : List (List ℕ)) → length keys ≤ 1000 → length fields ≤ 16 → is_source_count (length sources) ≡ true →
    list_any (λ f. has_too_many_names (declared_type f.ty)) fields ≡ is_too_many (declared_of keys fields sources)
too_many_names keys fields sources k f so_many =
    let few_keys : nat_lt 1000 (length keys) ≡ false = grind (arith, nat_tests) in
    let few_fields : nat_lt 16 (length fields) ≡ false = grind (arith, nat_tests) in
    let wide : Bool = list_any (λ f. has_too_many_names f.type) (map declared_field fields) in
    sym (
    ap (λ (b : Bool). b || (nat_lt 16 (length (map declared_field fields)) || (not (is_source_count (length sources)) || wide))) few_keys
    ∙ ap (λ (n : ℕ). nat_lt 16 n || (not (is_source_count (length sources)) || wide)) (length-map fields declared_field) ∙ ap (λ (b : Bool). b || (not (is_source_count (length sources)) || wide)) few_fields
    ∙ ap (λ (b : Bool). not b || wide) so_many
    ∙ list_any-map (λ (d : DeclaredField). has_too_many_names d.type) declared_field fields
    )

-- the next field, in the list of what is declared
pub next_declared : (fields : List Field) (i : ℕ) (f : Field) → f ≡ get_or fields i f → declared_field f ≡ get_or (map declared_field fields) i (declared_field f)
next_declared fields i f e = ap declared_field e ∙ sym (get_or-map declared_field fields i f)

pub next_within : (fields : List Field) (i : ℕ) → i < length fields → i < length (map declared_field fields)
next_within fields i h = rw (length-map fields declared_field) h

pub kept_next : (kept : List KeptField) (k : KeptField) (ds : List DeclaredField) (i : ℕ) (d : DeclaredField) → map field_seen kept ≡ take i ds → field_seen k ≡ d → i < length ds → d ≡ get_or ds i d →
    map field_seen (kept ++ k ∷ []) ≡ take (i + 1) ds
kept_next kept k ds i d taken is h e =
    map-append field_seen kept (k ∷ []) ∙ ap (λ ys. ys ++ field_seen k ∷ []) taken ∙ ap (λ y. take i ds ++ y ∷ []) (is ∙ e) ∙ sym (take_more ds i d h)

last_of_four : (a b c d : Bool) → (a || (b || (c || d))) ≡ false → d ≡ false
last_of_four true b c d h = absurd (true≢false h)
last_of_four false true c d h = absurd (true≢false h)
last_of_four false false true d h = absurd (true≢false h)
last_of_four false false false d h = h

-- no field has too many names
pub few_names : (keys : List (List ℕ)) (fields : List Field) (sources : List (List ℕ)) → is_too_many (declared_of keys fields sources) ≡ false →
    list_any (λ f. has_too_many_names (declared_type f.ty)) fields ≡ false
few_names keys fields sources h =
    sym (list_any-map (λ (d : DeclaredField). has_too_many_names d.type) declared_field fields)
    ∙ last_of_four (nat_lt 1000 (length keys)) (nat_lt 16 (length (map declared_field fields))) (not (is_source_count (length sources))) _ h
