-- Lawful schemas: what makes one, and what holds of each.
use Rattle.std.proofs.Common.{◌≡◌, ◌<◌, ◌≤◌, ℕ, Bool, true, false, ◌&&◌, ◌||◌, not, List, [], ◌∷◌, ◌++◌, length, map, refl, sym, ap, ap₂, ◌∙◌, append_assoc, append-nil, arith}
use Rattle.std.specs.Prelude.{nat_le, nat_lt, nat_eq}
use Rattle.std.specs.List.{list_all, list_any}
use Rattle.std.proofs.lemmas.Bool.Decides.{nat_tests}
use Rattle.std.proofs.lemmas.Bool.{and_parts, and_from, not-true, not-false}
use Rattle.wsm_record.specs.Name.{is_name, is_among, is_between, repeats_after}
use Rattle.wsm_record.specs.Schema.{DeclaredField, Declared, has_too_many_names, is_too_many, is_source_count, are_names_after, are_sources, is_name_list, is_field_after, are_fields_after, is_schema}
use Rattle.wsm_record.proofs.Lists.{or_left, or_right}
use Rattle.wsm_record.proofs.DeclaredFields.{name_of}

abbrev Name : Type 0
Name = List ℕ

pub no_repeats : (before names : List Name) → are_names_after before names ≡ true → repeats_after before names ≡ false
no_repeats before [] h = refl
no_repeats before (x ∷ xs) h =
    let a = (and_parts (is_name x) (not (is_among x before) && are_names_after (before ++ x ∷ []) xs) h).1 in
    let b = and_parts (not (is_among x before)) (are_names_after (before ++ x ∷ []) xs) a in
    ap₂ (λ c d. c || d) (not-true (is_among x before) b.0) (no_repeats (before ++ x ∷ []) xs b.1)

pub names_spelt : (before names : List Name) → are_names_after before names ≡ true → list_all is_name names ≡ true
names_spelt before [] h = refl
names_spelt before (x ∷ xs) h =
    let rest = are_names_after (before ++ x ∷ []) xs in
    let a = and_parts (is_name x) (not (is_among x before) && rest) h in
    and_from (is_name x) (list_all is_name xs) a.0 (names_spelt (before ++ x ∷ []) xs (and_parts (not (is_among x before)) rest a.1).1)

-- a name more, which is none of those before
pub names_more : (before names : List Name) (x : Name) → are_names_after before names ≡ true → is_name x ≡ true → is_among x (before ++ names) ≡ false → are_names_after before (names ++ x ∷ []) ≡ true
names_more before [] x h n new = and_from (is_name x) (not (is_among x before) && true) n (and_from (not (is_among x before)) true (ap not (ap (is_among x) (sym (append-nil before)) ∙ new)) refl)
names_more before (y ∷ ys) x h n new =
    let a = and_parts (is_name y) (not (is_among y before) && are_names_after (before ++ y ∷ []) ys) h in
    let b = and_parts (not (is_among y before)) (are_names_after (before ++ y ∷ []) ys) a.1 in
    let apart = ap (is_among x) (append_assoc before (y ∷ []) ys) ∙ new in
    and_from (is_name y) (not (is_among y before) && are_names_after (before ++ y ∷ []) (ys ++ x ∷ [])) a.0
    (and_from (not (is_among y before)) (are_names_after (before ++ y ∷ []) (ys ++ x ∷ [])) b.0 (names_more (before ++ y ∷ []) ys x b.1 n apart))

-- a field more, whose name is none of those before
pub fields_more : (before : List Name) (fs : List DeclaredField) (f : DeclaredField) → are_fields_after before fs ≡ true → is_field_after (before ++ map name_of fs) f ≡ true → are_fields_after before (fs ++ f ∷ []) ≡ true
fields_more before [] f h new = and_from (is_field_after before f) true (ap (λ names. is_field_after names f) (sym (append-nil before)) ∙ new) refl
fields_more before (g ∷ gs) f h new =
    let a = and_parts (is_field_after before g) (are_fields_after (before ++ g.name ∷ []) gs) h in
    let apart = ap (λ names. is_field_after names f) (append_assoc before (g.name ∷ []) (map name_of gs)) ∙ new in
    and_from (is_field_after before g) (are_fields_after (before ++ g.name ∷ []) (gs ++ f ∷ [])) a.0 (fields_more (before ++ g.name ∷ []) gs f a.1 apart)

some_names : (n : ℕ) → nat_eq n 0 ≡ false → nat_lt 1000 n ≡ false → is_between 1 1000 n ≡ true
some_names n h k = and_from (nat_le 1 n) (nat_le n 1000) (grind (arith, nat_tests)) (grind (arith, nat_tests))

-- names of an ENUM
pub list_lawful : (names : List Name) → nat_eq (length names) 0 ≡ false → nat_lt 1000 (length names) ≡ false → are_names_after [] names ≡ true → is_name_list names ≡ true
list_lawful names some few h = and_from (is_between 1 1000 (length names)) (are_names_after [] names) (some_names (length names) some few) h

-- keys, fields and sources, each lawful by itself, and none of which there are too many
pub parts_lawful : (s : Declared) → nat_eq (length s.keys) 0 ≡ false → is_too_many s ≡ false → are_names_after [] s.keys ≡ true → are_fields_after [] s.fields ≡ true → are_names_after [] s.sources ≡ true → is_schema s ≡ true
unfolding is_schema
parts_lawful s some b keys fields sources =
    let wider : Bool = list_any (λ f. has_too_many_names f.type) s.fields in
    let off : Bool = not (is_source_count (length s.sources)) in
    let many_keys = or_left (nat_lt 1000 (length s.keys)) (nat_lt 16 (length s.fields) || (off || wider)) b in
    let others = or_right (nat_lt 1000 (length s.keys)) (nat_lt 16 (length s.fields) || (off || wider)) b in
    let many_fields = or_left (nat_lt 16 (length s.fields)) (off || wider) others in
    let more = or_right (nat_lt 16 (length s.fields)) (off || wider) others in
    and_from (is_name_list s.keys) (nat_le (length s.fields) 16 && (are_fields_after [] s.fields && are_sources s.sources)) (list_lawful s.keys some many_keys keys)
    (and_from (nat_le (length s.fields) 16) (are_fields_after [] s.fields && are_sources s.sources) (few (length s.fields) many_fields)
    (and_from (are_fields_after [] s.fields) (are_sources s.sources) fields
    (and_from (is_source_count (length s.sources)) (are_names_after [] s.sources) (not-false (is_source_count (length s.sources)) (or_left off wider more)) sources)))
  where
    few : (n : ℕ) → nat_lt 16 n ≡ false → nat_le n 16 ≡ true
    few n h = grind (arith, nat_tests)

-- it has a key
pub has_keys : (s : Declared) → is_schema s ≡ true → 0 < length s.keys
unfolding is_schema
has_keys s h =
    let a = and_parts (is_name_list s.keys) (nat_le (length s.fields) 16 && (are_fields_after [] s.fields && are_sources s.sources)) h in
    let b = and_parts (is_between 1 1000 (length s.keys)) (are_names_after [] s.keys) a.0 in
    some (length s.keys) (and_parts (nat_le 1 (length s.keys)) (nat_le (length s.keys) 1000) b.0).0
  where
    some : (n : ℕ) → nat_le 1 n ≡ true → 0 < n
    some n e = grind (arith, nat_tests)

-- at most 16 sources
pub few_sources : (s : Declared) → is_schema s ≡ true → length s.sources ≤ 16
unfolding is_schema
few_sources s h =
    let a = and_parts (is_name_list s.keys) (nat_le (length s.fields) 16 && (are_fields_after [] s.fields && are_sources s.sources)) h in
    let b = and_parts (nat_le (length s.fields) 16) (are_fields_after [] s.fields && are_sources s.sources) a.1 in
    let d = and_parts (are_fields_after [] s.fields) (are_sources s.sources) b.1 in
    few (length s.sources) (and_parts (is_source_count (length s.sources)) (are_names_after [] s.sources) d.1).0
  where
    few : (n : ℕ) → is_source_count n ≡ true → n ≤ 16
    few n e = grind (arith, nat_tests)
