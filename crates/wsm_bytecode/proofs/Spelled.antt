-- What writing a lawful program may take for granted, and what it adds up to.
use Rattle.std.proofs.Common.{leb, ◌≡◌, ℕ, zero, suc, ◌+◌, ◌<◌, ◌≤◌, Bool, true, ◌&&◌, not, List, [], ◌∷◌, ◌++◌, length, take, map, Some, refl, sym, ap, ◌∙◌, append_assoc, arith, add-one, ℤ, pos, w64, to_z, of_z}
use Rattle.std.specs.Prelude.{slice_get}
use Rattle.std.specs.List.{list_all, flat_map}
use Rattle.std.proofs.lemmas.Bool.{leb-true, and_parts, and_from}
use Rattle.std.proofs.lemmas.List.{append-nil, length-map}
use Rattle.std.proofs.lemmas.List.Folds.{list_all-map}
use Rattle.wsm_record.specs.declared.schema.DeclaredField.{DeclaredField as KeptField}
use Rattle.wsm_record.specs.Name.{is_name, is_among, is_between}
use Rattle.wsm_record.specs.Schema.{DeclaredField, Declared, is_i64, is_source_count, are_names_after, is_name_list, is_field_type, is_field_after, are_fields_after, is_schema}
use Rattle.wsm_record.specs.Fields.{type_seen, field_seen}
use Rattle.wsm_record.proofs.Schemas.{names_spelt}
use Rattle.wsm_record.specs.declared.limits.TheConstants.{LATEST_TIME, LONGEST_SPAN}
use Rattle.wsm_program.specs.Program.{Name, is_span, is_size, is_limited, Header, is_header, is_time}
use Rattle.wsm_admission.specs.declared.clock.Clock.{Clock}
use Rattle.wsm_bytecode.proofs.Settings.{schema_parts, few_sources}
use Rattle.wsm_bytecode.specs.declared.version.Version.TheVariants.{Two}
use Rattle.wsm_bytecode.specs.Parts.{settings_in, byte, signed, name, names, fields, sources, times, mode, kinds, columns, budget}
use Rattle.wsm_bytecode.specs.Version2.{shape, form, settings}
use Rattle.wsm_program.specs.Instructions.{truth}
use Rattle.wsm_bytecode.specs.Spelling.{header}
use Rattle.std.proofs.lemmas.Int.{to_z-of_z}
use Rattle.wsm_bytecode.proofs.CodedParts.{name_is_short}
use Rattle.wsm_bytecode.proofs.Coded.{fits}
use Rattle.wsm_program.proofs.Within.{is_i64_within}
use Rattle.wsm_program.proofs.Lawful.{few_fields, header_parts}

pub short_name : (n : Name) → is_name n ≡ true → length n < 256
short_name n h =
    let le : length n ≤ 32 = leb-true (length n) 32 (and_parts (leb 1 (length n)) (leb (length n) 32) (name_is_short n h)).1 in
    omega arith

pub name_of_list : (ns : List Name) (i : ℕ) (n : Name) → list_all is_name ns ≡ true → slice_get ns i ≡ Some n → is_name n ≡ true
name_of_list [] i n h e = absurd cc
name_of_list (m ∷ ns) zero n h e =
    let same : m ≡ n = cc in
    rw (← same) (and_parts (is_name m) (list_all is_name ns) h).0
name_of_list (m ∷ ns) (suc i) n h e = name_of_list ns i n (and_parts (is_name m) (list_all is_name ns) h).1 e

pub named : (ns : List Name) → is_name_list ns ≡ true → list_all is_name ns ≡ true
named ns h = names_spelt [] ns (and_parts (is_between 1 1000 (length ns)) (are_names_after [] ns) h).1

abbrev pub is_good_field : DeclaredField → Bool
is_good_field f = is_name f.name && is_field_type f.type

good_fields : (before : List Name) (fs : List DeclaredField) → are_fields_after before fs ≡ true → list_all is_good_field fs ≡ true
good_fields before [] h = refl
good_fields before (f ∷ fs) h =
    let a = and_parts (is_field_after before f) (are_fields_after (before ++ f.name ∷ []) fs) h in
    let b = and_parts (is_name f.name) (not (is_among f.name before) && is_field_type f.type) a.0 in
    let c = and_parts (not (is_among f.name before)) (is_field_type f.type) b.1 in
    and_from _ _ (and_from _ _ b.0 c.1) (good_fields (before ++ f.name ∷ []) fs a.1)

pub schema_keys : (s : Declared) → is_schema s ≡ true → list_all is_name s.keys ≡ true
schema_keys s h = named s.keys (schema_parts s h).keys

pub schema_sources : (s : Declared) → is_schema s ≡ true → list_all is_name s.sources ≡ true
schema_sources s h = names_spelt [] s.sources (and_parts (is_source_count (length s.sources)) (are_names_after [] s.sources) (schema_parts s h).sources).1

pub source_bytes : (s : Declared) → is_schema s ≡ true → length s.sources < 256
source_bytes s h = few_sources (length s.sources) (and_parts (is_source_count (length s.sources)) (are_names_after [] s.sources) (schema_parts s h).sources).0

pub schema_fields : (kept : List KeptField) (s : Declared) → map field_seen kept ≡ s.fields → is_schema s ≡ true → list_all (λ f. is_name f.name && is_field_type (type_seen f.ty)) kept ≡ true
schema_fields kept s e h = sym (list_all-map is_good_field field_seen kept) ∙ ap (list_all is_good_field) e ∙ good_fields [] s.fields (schema_parts s h).fields

pub schema_count : (kept : List KeptField) (s : Declared) → map field_seen kept ≡ s.fields → is_schema s ≡ true → length kept < 256
schema_count kept s e h =
    let le : length s.fields ≤ 16 = leb-true _ _ (few_fields s h) in
    omega (arith, ap (λ (fs : List DeclaredField). length fs) e, length-map kept field_seen)

pub header_kinds : (h : Header) → is_header h ≡ true → length h.kinds < 256
header_kinds h e =
    let le : length h.kinds ≤ 16 = leb-true _ _ (header_parts h e).kinds in
    omega arith

pub header_columns : (h : Header) → is_header h ≡ true → length h.columns < 256
header_columns h e =
    let le : length h.columns ≤ 16 = leb-true _ _ (and_parts (leb 1 (length h.columns)) (leb (length h.columns) 16) (header_parts h e).count).1 in
    omega arith

-- a signed number, as a call hands it on
abbrev pub passed : ℤ → ℤ
passed n = to_z w64 (of_z w64 n)

passed_same : (n : ℤ) → is_i64 n ≡ true → passed n ≡ n
passed_same n h = to_z-of_z w64 n (fits n h)

two_pairs : (o a b c d : List ℕ) → (o ++ (a ++ b)) ++ (c ++ d) ≡ o ++ (a ++ b ++ c ++ d)
two_pairs o a b c d = simp append_assoc refl

-- numbers of a clock, which are handed on in pairs
pub clock_added : (c : Clock) → is_limited c ≡ true → (o0 o1 o2 : List ℕ)
    → o1 ≡ o0 ++ (signed (passed c.start) ++ signed (passed c.skew)) → o2 ≡ o1 ++ (signed (passed c.lateness) ++ signed (passed c.records)) → o2 ≡ o0 ++ times c
clock_added c h o0 o1 o2 e f =
    let a = and_parts (is_time c.start) (is_span c.skew && (is_span c.lateness && is_size c.records)) h in
    let b = and_parts (is_span c.skew) (is_span c.lateness && is_size c.records) a.1 in
    let d = and_parts (is_span c.lateness) (is_size c.records) b.1 in
    let p0 : passed c.start ≡ c.start = passed_same c.start (is_i64_within (pos 0) LATEST_TIME c.start refl refl a.0) in
    let p1 : passed c.skew ≡ c.skew = passed_same c.skew (is_i64_within (pos 0) LONGEST_SPAN c.skew refl refl b.0) in
    let p2 : passed c.lateness ≡ c.lateness = passed_same c.lateness (is_i64_within (pos 0) LONGEST_SPAN c.lateness refl refl d.0) in
    let p3 : passed c.records ≡ c.records = passed_same c.records (is_i64_within (pos 1) LONGEST_SPAN c.records refl refl d.1) in
    let q0 : o1 ≡ o0 ++ (signed c.start ++ signed c.skew) = e ∙ ap (λ n. o0 ++ (signed n ++ signed (passed c.skew))) p0 ∙ ap (λ n. o0 ++ (signed c.start ++ signed n)) p1 in
    let q1 : o2 ≡ o1 ++ (signed c.lateness ++ signed c.records) = f ∙ ap (λ n. o1 ++ (signed n ++ signed (passed c.records))) p2 ∙ ap (λ n. o1 ++ (signed c.lateness ++ signed n)) p3 in
    q1 ∙ ap (λ o. o ++ (signed c.lateness ++ signed c.records)) q0 ∙ two_pairs o0 (signed c.start) (signed c.skew) (signed c.lateness) (signed c.records)

-- one part, and then another behind it
added : (o0 o1 o2 x y : List ℕ) → o1 ≡ o0 ++ x → o2 ≡ o1 ++ y → o2 ≡ o0 ++ (x ++ y)
added o0 o1 o2 x y e f = f ∙ ap (λ o. o ++ y) e ∙ append_assoc o0 x y

pub settings_added : (h : Header) → is_header h ≡ true → (o0 o1 o2 o3 o4 o5 o6 : List ℕ)
    → o1 ≡ o0 ++ byte (truth h.clock.from_window) → o2 ≡ o1 ++ sources h.schema.sources → o3 ≡ o2 ++ shape h.shape → o4 ≡ o3 ++ mode h.mode → o5 ≡ o4 ++ (signed (passed h.early) ++ signed (passed h.late)) → o6 ≡ o5 ++ form h.form
    → o6 ≡ o0 ++ settings (settings_in h)
settings_added h good o0 o1 o2 o3 o4 o5 o6 e0 e1 e2 e3 e4 e5 =
    let parts = header_parts h good in
    let early : passed h.early ≡ h.early = passed_same h.early (is_i64_within (pos 0) LONGEST_SPAN h.early refl refl parts.early) in
    let late : passed h.late ≡ h.late = passed_same h.late (is_i64_within (pos 0) LONGEST_SPAN h.late refl refl parts.late) in
    let q4 : o5 ≡ (o4 ++ signed h.early) ++ signed h.late = e4 ∙ ap (λ n. o4 ++ (signed n ++ signed (passed h.late))) early ∙ ap (λ n. o4 ++ (signed h.early ++ signed n)) late ∙ sym (append_assoc o4 (signed h.early) (signed h.late)) in
    let s1 : o2 ≡ o0 ++ (byte (truth h.clock.from_window) ++ sources h.schema.sources) = added o0 o1 o2 _ _ e0 e1 in
    let s2 : o3 ≡ o0 ++ (byte (truth h.clock.from_window) ++ sources h.schema.sources ++ shape h.shape) = added o0 o2 o3 _ _ s1 e2 in
    let s3 : o4 ≡ o0 ++ (byte (truth h.clock.from_window) ++ sources h.schema.sources ++ shape h.shape ++ mode h.mode) = added o0 o3 o4 _ _ s2 e3 in
    let s4 : o4 ++ signed h.early ≡ o0 ++ (byte (truth h.clock.from_window) ++ sources h.schema.sources ++ shape h.shape ++ mode h.mode ++ signed h.early) = added o0 o4 (o4 ++ signed h.early) _ _ s3 refl in
    let s5 : o5 ≡ o0 ++ (byte (truth h.clock.from_window) ++ sources h.schema.sources ++ shape h.shape ++ mode h.mode ++ signed h.early ++ signed h.late) = added o0 (o4 ++ signed h.early) o5 _ _ s4 q4 in
    added o0 o5 o6 _ _ s5 e5

pub header_added : (h : Header) (o0 o1 o2 o3 o4 o5 o6 o7 : List ℕ)
    → o1 ≡ o0 ++ names h.schema.keys → o2 ≡ o1 ++ fields h.schema.fields → o3 ≡ o2 ++ times h.clock → o4 ≡ o3 ++ settings (settings_in h) → o5 ≡ o4 ++ kinds h.kinds → o6 ≡ o5 ++ columns h.columns → o7 ≡ o6 ++ budget h.budget
    → o7 ≡ o0 ++ header Two h
unfolding header
header_added h o0 o1 o2 o3 o4 o5 o6 o7 e0 e1 e2 e3 e4 e5 e6 =
    let s1 : o2 ≡ o0 ++ (names h.schema.keys ++ fields h.schema.fields) = added o0 o1 o2 _ _ e0 e1 in
    let s2 : o3 ≡ o0 ++ (names h.schema.keys ++ fields h.schema.fields ++ times h.clock) = added o0 o2 o3 _ _ s1 e2 in
    let s3 : o4 ≡ o0 ++ (names h.schema.keys ++ fields h.schema.fields ++ times h.clock ++ settings (settings_in h)) = added o0 o3 o4 _ _ s2 e3 in
    let s4 : o5 ≡ o0 ++ (names h.schema.keys ++ fields h.schema.fields ++ times h.clock ++ settings (settings_in h) ++ kinds h.kinds) = added o0 o4 o5 _ _ s3 e4 in
    let s5 : o6 ≡ o0 ++ (names h.schema.keys ++ fields h.schema.fields ++ times h.clock ++ settings (settings_in h) ++ kinds h.kinds ++ columns h.columns) = added o0 o5 o6 _ _ s4 e5 in
    added o0 o6 o7 _ _ s5 e6

pub header_limited : (h : Header) → is_header h ≡ true → is_limited h.clock ≡ true
header_limited h e =
    let p = header_parts h e in
    and_from _ _ p.start (and_from _ _ p.skew (and_from _ _ p.lateness p.records))

-- one more of a list
take_one : (ns : List Name) (i : ℕ) (n : Name) → slice_get ns i ≡ Some n → flat_map name (take (suc i) ns) ≡ flat_map name (take i ns) ++ name n
take_one [] i n e = absurd cc
take_one (m ∷ ns) zero n e =
    let same : m ≡ n = cc in
    rw (same, append-nil (name n)) refl
take_one (m ∷ ns) (suc i) n e = rw (take_one ns i n e) (sym (append_assoc (name m) (flat_map name (take i ns)) (name n)))

pub names_more : (o out new : List ℕ) (ns : List Name) (i : ℕ) (n : Name) → slice_get ns i ≡ Some n → out ≡ o ++ flat_map name (take i ns) → new ≡ out ++ name n → new ≡ o ++ flat_map name (take (i + 1) ns)
names_more o out new ns i n e so_far more =
    let next : flat_map name (take (i + 1) ns) ≡ flat_map name (take i ns) ++ name n = rw add-one (take_one ns i n e) in
    more ∙ ap (λ x. x ++ name n) so_far ∙ append_assoc o (flat_map name (take i ns)) (name n) ∙ ap (λ x. o ++ x) (sym next)
