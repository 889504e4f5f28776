-- Checks one behind the other.
use Rattle.std.proofs.Common.{◌≡◌, ◌∙◌, ◌≤◌, ◌<◌, ◌+◌, ◌++◌, ◌||◌, ℕ, suc, Bool, true, not, nat_lt, List, [], ◌∷◌, length, map, take, drop, get_or, Option, Some, None, Result, ◌⊎◌, inl, inr, bytes_eq, refl, ap, ap₂, sym, arith, add-one, length-append}
use Rattle.std.proofs.lemmas.Bool.{ltb-true}
use Rattle.std.proofs.lemmas.Bool.Decides.{nat_tests}
use Rattle.std.proofs.lemmas.List.{drop_all, length-map, map-append, take_more}
use Rattle.std.proofs.Math.Seq.{drop-cons}
use Rattle.std.specs.List.{list_any}
use Rattle.wsm_record.specs.Name.{is_among}
use Rattle.wsm_record.specs.declared.schema.Field.{Field as CodeField}
use Rattle.wsm_record.specs.declared.schema.DeclaredField.{DeclaredField as KeptField}
use Rattle.wsm_record.specs.Schema.{DeclaredField, are_fields_after, is_field_after, is_source_count}
use Rattle.wsm_query.specs.Tree.{Name}
use Rattle.wsm_record.specs.Fields.{declared_field, field_seen}
use Rattle.wsm_record.proofs.Schemas.{fields_more}
use Rattle.wsm_check.specs.declared.refusal.CheckRefusal.{CheckRefusal}
use Rattle.wsm_check.specs.declared.refusal.CheckRefusal.TheVariants.{Memory}
use Rattle.wsm_check.specs.declared.refusal.CheckFault.{CheckFault}
use Rattle.wsm_check.specs.declared.refusal.Part.{Part}
use Rattle.wsm_check.specs.declared.refusal.CheckFault.TheVariants.{Duplicate, Limit}
use Rattle.wsm_check.specs.declared.refusal.Part.TheVariants as part
use Rattle.wsm_check.specs.Names.{field_names}
use Rattle.wsm_check.specs.Checks.{Judges, or_else, unless, ty_refusal, field_refusal, fields_refusal}

stopped : (r s : Option CheckRefusal) (e : CheckRefusal) → r ≡ Some e → or_else r s ≡ Some e
stopped r s e h = grind arith

-- a check that refuses
pub stops : (r s : Option CheckRefusal) (e : CheckRefusal) → (e ≡ Memory) ⊎ (r ≡ Some e) → (e ≡ Memory) ⊎ (or_else r s ≡ Some e)
stops r s e h4 = grind arith

-- the checks behind one that passed
pub goes_on : {A : Type 0} (r s : Option CheckRefusal) (answer : Result A CheckRefusal) → r ≡ None → Judges answer s → Judges answer (or_else r s)
goes_on r s answer h judged = grind arith

none_behind : (r s : Option CheckRefusal) → r ≡ None → or_else r s ≡ s
none_behind r s h = grind arith

pub ruleset steps = (goes_on, stops)

pub counted_names : (kept : List KeptField) → length (field_names (map field_seen kept)) ≡ length kept
counted_names kept = length-map (map field_seen kept) (λ (d : DeclaredField). d.name) ∙ length-map kept field_seen

pub among_fields : (x : Name) (kept : List KeptField) → is_among x (field_names (map field_seen kept)) ≡ list_any (λ f. bytes_eq x f.name) kept
among_fields x [] = refl
among_fields x (f ∷ kept) = ap (λ b. bytes_eq x f.name || b) (among_fields x kept)

-- the fault of a field's type, where there is room for it and its name is new
pub field_refused : (before : List KeptField) (d : DeclaredField) (e : CheckRefusal) → nat_lt (length before) 16 ≡ true → not (list_any (λ f. bytes_eq d.name f.name) before) ≡ true →
    (e ≡ Memory) ⊎ (ty_refusal (part.Field (length before + 1)) d.type ≡ Some e) → (e ≡ Memory) ⊎ (field_refusal (field_names (map field_seen before)) d ≡ Some e)
field_refused before d e few new (inl m) = inl m
field_refused before d e few new (inr h) =
    let names = field_names (map field_seen before) in
    let p = part.Field (suc (length names)) in
    let counted = counted_names before in
    let room : unless (nat_lt (length names) 16) Limit p ≡ None = ap (λ b. unless b Limit p) (ap (λ n. nat_lt n 16) counted ∙ few) in
    let fresh : unless (not (is_among d.name names)) Duplicate p ≡ None = ap (λ b. unless b Duplicate p) (ap not (among_fields d.name before) ∙ new) in
    let ty : ty_refusal p d.type ≡ Some e = ap (λ n. ty_refusal (part.Field n) d.type) (ap suc counted ∙ sym (add-one (length before))) ∙ h in
    inr (none_behind _ _ room ∙ none_behind _ _ fresh ∙ stopped (ty_refusal p d.type) None e ty)

abbrev names_to : ℕ → List CodeField → List Name
names_to i fields = field_names (map declared_field (take i fields))

abbrev refusal_from : ℕ → List CodeField → Option CheckRefusal
refusal_from i fields = fields_refusal (names_to i fields) (map declared_field (drop i fields))

-- the check of a field, and of those behind it
fields_next : (fields : List CodeField) (i : ℕ) (f : CodeField) → i < length fields → f ≡ get_or fields i f →
    refusal_from i fields ≡ or_else (field_refusal (names_to i fields) (declared_field f)) (refusal_from (i + 1) fields)
fields_next fields i f h e =
    let before = names_to i fields in
    let rest : drop i fields ≡ f ∷ drop (suc i) fields = drop-cons fields i f h ∙ ap (λ y. y ∷ drop (suc i) fields) (sym e) in
    let more : before ++ f.name ∷ [] ≡ names_to (i + 1) fields =
    sym (map-append (λ (d : DeclaredField). d.name) (map declared_field (take i fields)) (declared_field f ∷ []))
    ∙ ap field_names (sym (map-append declared_field (take i fields) (f ∷ [])))
    ∙ ap (λ y. field_names (map declared_field (take i fields ++ y ∷ []))) e ∙ ap (λ (ds : List CodeField). field_names (map declared_field ds)) (sym (take_more fields i f h)) in
    ap (λ (ds : List CodeField). fields_refusal before (map declared_field ds)) rest
    ∙ ap₂ (λ (names : List Name) (n : ℕ). or_else (field_refusal before (declared_field f)) (fields_refusal names (map declared_field (drop n fields)))) more (sym (add-one i))

-- the first i fields pass and are kept, and the others are still to be checked
pub record PassedTo (fields : List CodeField) (i : ℕ) (kept : List KeptField) : Type 0 where
  pub same : map field_seen kept ≡ map declared_field (take i fields)
  pub lawful : are_fields_after [] (map field_seen kept) ≡ true
  pub rest : fields_refusal [] (map declared_field fields) ≡ refusal_from i fields

-- what is refused of the next field
next_refusal : (fields : List CodeField) (i : ℕ) (kept : List KeptField) (f : CodeField) → i < length fields → f ≡ get_or fields i f → PassedTo fields i kept →
    fields_refusal [] (map declared_field fields) ≡ or_else (field_refusal (field_names (map field_seen kept)) (declared_field f)) (refusal_from (i + 1) fields)
next_refusal fields i kept f h e before =
    before.rest ∙ fields_next fields i f h e ∙ ap (λ ds. or_else (field_refusal (field_names ds) (declared_field f)) (refusal_from (i + 1) fields)) (sym before.same)

pub next_passed : (fields : List CodeField) (i : ℕ) (kept : List KeptField) (f : CodeField) (k : KeptField) → i < length fields → f ≡ get_or fields i f → PassedTo fields i kept →
    field_refusal (field_names (map field_seen kept)) (declared_field f) ≡ None → field_seen k ≡ declared_field f → is_field_after (field_names (map field_seen kept)) (field_seen k) ≡ true →
    PassedTo fields (i + 1) (kept ++ k ∷ [])
next_passed fields i kept f k h e before passed same lawful =
    let taken : take i fields ++ f ∷ [] ≡ take (i + 1) fields = ap (λ y. take i fields ++ y ∷ []) e ∙ sym (take_more fields i f h) in
    let more = map-append field_seen kept (k ∷ []) in
    record {
      same = more ∙ ap₂ (λ ds d. ds ++ d ∷ []) before.same same ∙ sym (map-append declared_field (take i fields) (f ∷ [])) ∙ ap (map declared_field) taken;
      lawful = ap (are_fields_after []) more ∙ fields_more [] (map field_seen kept) (field_seen k) before.lawful lawful;
      rest = next_refusal fields i kept f h e before ∙ none_behind (field_refusal (field_names (map field_seen kept)) (declared_field f)) (refusal_from (i + 1) fields) passed;
    }

pub next_refused : (fields : List CodeField) (i : ℕ) (kept : List KeptField) (f : CodeField) (r : CheckRefusal) → i < length fields → f ≡ get_or fields i f → PassedTo fields i kept →
    (r ≡ Memory) ⊎ (field_refusal (field_names (map field_seen kept)) (declared_field f) ≡ Some r) → (r ≡ Memory) ⊎ (fields_refusal [] (map declared_field fields) ≡ Some r)
next_refused fields i kept f r h e before (inl m) = inl m
next_refused fields i kept f r h e before (inr refused) =
    inr (next_refusal fields i kept f h e before ∙ stopped (field_refusal (field_names (map field_seen kept)) (declared_field f)) (refusal_from (i + 1) fields) r refused)

-- all fields passed
pub all_passed : (fields : List CodeField) (i : ℕ) (kept : List KeptField) → length fields ≤ i → PassedTo fields i kept → fields_refusal [] (map declared_field fields) ≡ None
all_passed fields i kept end before = before.rest ∙ ap (λ (ds : List CodeField). fields_refusal (names_to i fields) (map declared_field ds)) (drop_all i fields end)

pub passed_unless : (b : Bool) (f : CheckFault) (p : Part) (s : Option CheckRefusal) → or_else (unless b f p) s ≡ None → (b ≡ true) × (s ≡ None)
passed_unless b f p s h = grind arith

pub passed_both : (r s : Option CheckRefusal) → or_else r s ≡ None → (r ≡ None) × (s ≡ None)
passed_both r s h = grind arith

-- none, or at most 16
pub few_sources : (n : ℕ) → is_source_count n ≡ true → n ≤ 1000
few_sources n h = grind (arith, nat_tests)

-- fields that passed behind others
fields_passed : (names : List Name) (ds : List DeclaredField) → length names ≤ 16 → fields_refusal names ds ≡ None → length names + length ds ≤ 16
fields_passed names [] l h = omega arith
fields_passed names (d ∷ ds) l h =
    let p = part.Field (suc (length names)) in
    let f = passed_both (field_refusal names d) _ h in
    let a = passed_unless (nat_lt (length names) 16) Limit p _ f.0 in
    let b = passed_unless (not (is_among d.name names)) Duplicate p _ a.1 in
    let below = ltb-true (length names) 16 a.0 in
    let more = length-append names (d.name ∷ []) in
    let there = fields_passed (names ++ d.name ∷ []) ds (omega arith) f.1 in
    omega (arith, there)

pub few_fields : (fields : List CodeField) → fields_refusal [] (map declared_field fields) ≡ None → length fields ≤ 16
few_fields fields h = let l = length-map fields declared_field in omega (arith, fields_passed [] (map declared_field fields) (omega arith) h)
