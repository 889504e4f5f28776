-- Fields that tests narrow: what the verifier knows of them is what they are narrowed to.
use Rattle.std.proofs.Common.{◌≡◌, ℕ, zero, suc, ◌+◌, Bool, true, false, ◌&&◌, ◌||◌, not, cond, List, [], ◌∷◌, ℤ, Option, Some, None, Ok, Err, refl, sym, ap, ◌∙◌, arith}
use Rattle.std.proofs.Math.Numerals.{one-add}
use Rattle.std.specs.Prelude.{bytes_eq, is_some, neg_ℤ, slice_index_or}
use Rattle.wsm_interval.specs.declared.Comparison.{Comparison}
use Rattle.wsm_interval.specs.Comparison.{opposite}
use Rattle.wsm_interval.specs.Interval.{interval}
use Rattle.wsm_record.specs.Name.{is_among}
use Rattle.wsm_record.specs.Schema.{FieldType, DeclaredField, is_i64}
use Rattle.wsm_record.specs.Schema as field_types
use Rattle.wsm_record.specs.declared.words.CellType.{CellType}
use Rattle.wsm_program.specs.declared.instr.FieldTest.{FieldTest}
use Rattle.wsm_rules.specs.declared.known.Known.{Known}
use Rattle.wsm_rules.specs.declared.known.Known.TheVariants as known
use Rattle.wsm_rules.specs.Labels.{narrowed_known}
use Rattle.wsm_rules.specs.Rules.{and_then, known_field, known_fields}
use Rattle.wsm_query.specs.declared.expr.Op.{Op}
use Rattle.wsm_query.specs.declared.expr.Op.TheVariants.{Compute, Compare}
use Rattle.wsm_query.specs.Tree.{Name, Query, Expr, Binary}
use Rattle.wsm_check.specs.declared.refusal.CheckFault.{CheckFault}
use Rattle.wsm_check.specs.Names.{place_of, field_names, field_place, type_of}
use Rattle.wsm_check.specs.Types.{Typed, declared_ty}
use Rattle.wsm_check.specs.Terms.{resolved}
use Rattle.wsm_check.specs.Tested.{comparison_of, term_field, term_number}
use Rattle.wsm_compiler.specs.Code.{test_of}
use Rattle.wsm_compiler.specs.Ranges.{Range, Within, no_number, within, of_minus, of_type, narrowed_type, narrowed_fields, where_true, where_false, range_on, fits}
use Rattle.wsm_machine.proofs.FittingStacks.{no}
use Rattle.wsm_compiler.proofs.Parts.{none≢some}
use Rattle.wsm_compiler.proofs.TestedForms.{of_field, of_plain, of_number, of_test}
use Rattle.wsm_compiler.proofs.Found.{known_true, known_false, test_found}
use Rattle.wsm_compiler.proofs.FoundRanges.{known_of}

-- ---- fields that are narrowed

-- fields that differ from those of the query in intervals alone
pub record Narrows (q : Query) (ds : List DeclaredField) : Type 0 where
  pub names : field_names ds ≡ field_names q.fields
  pub type : (x : Name) (f : ℕ) → declared_ty f (type_of x ds) ≡ declared_ty f (type_of x q.fields)

pub as_declared : (q : Query) → Narrows q q.fields
as_declared q = record { names = refl; type = λ x f. refl }

narrowed_names : (g : ℕ) (o : Comparison) (n : ℤ) (ds : List DeclaredField) → field_names (narrowed_fields g o n ds) ≡ field_names ds
narrowed_names g o n [] = refl
narrowed_names zero o n (d ∷ ds) = refl
narrowed_names (suc g) o n (d ∷ ds) = ap (λ xs. d.name ∷ xs) (narrowed_names g o n ds)

narrowed_ty : (o : Comparison) (n : ℤ) (f : ℕ) (ty : FieldType) → declared_ty f (narrowed_type o n ty) ≡ declared_ty f ty
narrowed_ty o n f ty = grind arith

narrowed_types : (g : ℕ) (o : Comparison) (n : ℤ) (y : Name) (f : ℕ) (ds : List DeclaredField) → declared_ty f (type_of y (narrowed_fields g o n ds)) ≡ declared_ty f (type_of y ds)
narrowed_types g o n y f [] = refl
narrowed_types zero o n y f (d ∷ ds) =
    elim (bytes_eq y d.name) as (λ b. declared_ty f (cond b (narrowed_type o n d.type) (type_of y ds)) ≡ declared_ty f (cond b d.type (type_of y ds))) [ true ↦ narrowed_ty o n f d.type | false ↦ refl ]
narrowed_types (suc g) o n y f (d ∷ ds) =
    elim (bytes_eq y d.name) as (λ b. declared_ty f (cond b d.type (type_of y (narrowed_fields g o n ds))) ≡ declared_ty f (cond b d.type (type_of y ds))) [ true ↦ refl | false ↦ narrowed_types g o n y f ds ]

narrows : {q : Query} {ds : List DeclaredField} (g : ℕ) (o : Comparison) (n : ℤ) → Narrows q ds → Narrows q (narrowed_fields g o n ds)
narrows {q} {ds} g o n h = record { names = narrowed_names g o n ds ∙ h.names; type = λ y f. narrowed_types g o n y f ds ∙ h.type y f }

pub true_narrows : {q : Query} {ds : List DeclaredField} (w : Option FieldTest) → Narrows q ds → Narrows q (where_true w ds)
true_narrows None h = h
true_narrows (Some t) h = narrows t.field t.comparison t.number h

pub false_narrows : {q : Query} {ds : List DeclaredField} (w : Option FieldTest) → Narrows q ds → Narrows q (where_false w ds)
false_narrows None h = h
false_narrows (Some t) h = narrows t.field (opposite t.comparison) t.number h

-- ---- what is known of fields

is_known : (f : ℕ) (ty : FieldType) → Some (known_field f ty) ≡ known_of (declared_ty f ty) (of_type ty)
is_known f ty = grind arith

abbrev Is : ℕ → List DeclaredField → Name → Type 0
Is n ds x =
    Some (slice_index_or (known_fields n ds) (field_place ds x) known.Truth)
    ≡ known_of (declared_ty (n + field_place ds x) (type_of x ds)) (of_type (type_of x ds))

-- at the place of the first field of a name, or behind it
at_head : (n : ℕ) (d : DeclaredField) (ds : List DeclaredField) (x : Name) → bytes_eq x d.name ≡ true → Is n (d ∷ ds) x
at_head n d ds x h =
    let place : field_place (d ∷ ds) x ≡ 0 = ap (λ b. cond (not b) (1 + field_place ds x) 0) h in
    let ty : type_of x (d ∷ ds) ≡ d.type = ap (λ b. cond b d.type (type_of x ds)) h in
    let there : n ≡ n + field_place (d ∷ ds) x = omega (arith, place) in
    ap (λ p. Some (slice_index_or (known_fields n (d ∷ ds)) p known.Truth)) place
    ∙ is_known n d.type
    ∙ (λ i. known_of (declared_ty (there i) (sym ty i)) (of_type (sym ty i)))

behind_head : (n : ℕ) (d : DeclaredField) (ds : List DeclaredField) (x : Name) → bytes_eq x d.name ≡ false → Is (suc n) ds x → Is n (d ∷ ds) x
behind_head n d ds x h rest =
    let place : field_place (d ∷ ds) x ≡ suc (field_place ds x) = ap (λ b. cond (not b) (1 + field_place ds x) 0) h ∙ one-add (field_place ds x) in
    let ty : type_of x (d ∷ ds) ≡ type_of x ds = ap (λ b. cond b d.type (type_of x ds)) h in
    let there : suc n + field_place ds x ≡ n + field_place (d ∷ ds) x = omega (arith, place) in
    ap (λ p. Some (slice_index_or (known_fields n (d ∷ ds)) p known.Truth)) place
    ∙ rest
    ∙ (λ i. known_of (declared_ty (there i) (sym ty i)) (of_type (sym ty i)))

pub known_at : (n : ℕ) (ds : List DeclaredField) (x : Name) → is_among x (field_names ds) ≡ true → Is n ds x
known_at n [] x h = no h
known_at n (d ∷ ds) x h =
    elim (bytes_eq x d.name) as (λ b. bytes_eq x d.name ≡ b → (b || is_among x (field_names ds)) ≡ true → Is n (d ∷ ds) x) [
      | true ↦ λ e h. at_head n d ds x e
      | false ↦ λ e h. behind_head n d ds x e (known_at (suc n) ds x h)
    ] refl h

pub of_cond : (b : Bool) (y : Typed) (f : CheckFault) (t : CellType) → cond b y (Err f) ≡ Ok t → b ≡ true
of_cond b y f t h = grind arith

-- a field that is read
pub known_here : (q : Query) (ds : List DeclaredField) → Narrows q ds → (x : Name) (t : CellType) → is_among x (field_names q.fields) ≡ true → declared_ty (field_place q.fields x) (type_of x q.fields) ≡ t →
    Some (slice_index_or (known_fields 0 ds) (field_place q.fields x) known.Truth) ≡ known_of t (of_type (type_of x ds))
known_here q ds n x t there is =
    let place : field_place q.fields x ≡ field_place ds x = ap (place_of x) (sym n.names) in
    let first : 0 + field_place ds x ≡ field_place q.fields x = let zero_more : 0 + field_place ds x ≡ field_place ds x = omega arith in zero_more ∙ sym place in
    ap (λ p. Some (slice_index_or (known_fields 0 ds) p known.Truth)) place
    ∙ known_at 0 ds x (ap (is_among x) n.names ∙ there)
    ∙ ap (λ f. known_of (declared_ty f (type_of x ds)) (of_type (type_of x ds))) first
    ∙ ap (λ u. known_of u (of_type (type_of x ds))) (n.type x (field_place q.fields x) ∙ is)

-- ---- what is known where a test is true, and where it is false

narrowed_is : (f : ℕ) (x : FieldTest) (ty : FieldType) → narrowed_known x (known_field f ty) ≡ known_field f (narrowed_type x.comparison x.number ty)
narrowed_is f x ty = grind arith

set_known : (k : ℕ) (ds : List DeclaredField) (g : ℕ) (o : Comparison) (n : ℤ) → known_true (Some (record { field = g; comparison = o; number = n })) (known_fields k ds) ≡ known_fields k (narrowed_fields g o n ds)
set_known k [] g o n = refl
set_known k (d ∷ ds) zero o n = ap (λ y. y ∷ known_fields (suc k) ds) (narrowed_is k (record { field = 0; comparison = o; number = n }) d.type)
set_known k (d ∷ ds) (suc g) o n = ap (λ ys. known_field k d.type ∷ ys) (set_known (suc k) ds g o n)

pub true_known : (w : Option FieldTest) (ds : List DeclaredField) → known_true w (known_fields 0 ds) ≡ known_fields 0 (where_true w ds)
true_known None ds = refl
true_known (Some t) ds = set_known 0 ds t.field t.comparison t.number

pub false_known : (w : Option FieldTest) (ds : List DeclaredField) → known_false w (known_fields 0 ds) ≡ known_fields 0 (where_false w ds)
false_known w ds = grind (arith, set_known)

-- ---- a test fits

field_fits : (q : Query) (ds : List DeclaredField) (a : ℕ) (e : Expr) (f : ℕ) → term_field (resolved q a e) ≡ Some f → fits (range_on q ds e) ≡ true
field_fits q ds a e f h = of_field q (λ e. fits (range_on q ds e) ≡ true) (λ e p. p) f (λ x is. any_type (type_of x ds)) a e h
  where
    any_type : (ty : FieldType) → fits (of_type ty) ≡ true
    any_type (field_types.Int lo hi) = refl
    any_type field_types.Truth = refl
    any_type (field_types.Enum names) = refl

number_fits : (q : Query) (ds : List DeclaredField) (a : ℕ) (e : Expr) (n : ℤ) → term_number (resolved q a e) ≡ Some n → fits (range_on q ds e) ≡ true
number_fits q ds a e n h =
    of_number q (λ e. fits (range_on q ds e) ≡ true) (λ e p. p) n refl
    (λ b e m is word same.
    ap (λ r. fits (of_minus r)) (of_plain q (λ e. range_on q ds e ≡ Within (interval m m)) (λ e p. p) m refl b e is)
    ∙ ap (λ b. fits (within (cond (b && b) (Some (interval (neg_ℤ m) (neg_ℤ m))) None))) word) a e h

both_fit : (r p : Range) → fits r ≡ true → fits p ≡ true → fits (no_number r p) ≡ true
both_fit r p h l = grind arith

compared : (q : Query) (ds : List DeclaredField) (x y : Expr) (op : Op) (o : Comparison) → comparison_of op ≡ Some o → fits (range_on q ds x) ≡ true → fits (range_on q ds y) ≡ true → fits (range_on q ds (Binary op x y)) ≡ true
compared q ds x y (Compute c) o e a b = none≢some e
compared q ds x y (Compare d) o e a b = both_fit (range_on q ds x) (range_on q ds y) a b

pub tested_fits : (q : Query) (ds : List DeclaredField) (a : ℕ) (e : Expr) (t : FieldTest) → test_of q a e ≡ Some t → fits (range_on q ds e) ≡ true
tested_fits q ds a e t h =
    of_test q (λ e. fits (range_on q ds e) ≡ true) (λ e p. p) t
    (λ a b op x y p. compared q ds x y op t.comparison p.comparison (field_fits q ds a x t.field p.field) (number_fits q ds b y t.number p.number)) a e h

-- what follows a test is found alike, whether its jump makes it or not
pub test_hulled : (w : Option FieldTest) (o y : Option Known) → ((t : FieldTest) → w ≡ Some t → is_some o ≡ true) → and_then (λ v. y) (test_found w o) ≡ and_then (λ v. y) o
test_hulled w o y h = grind arith
