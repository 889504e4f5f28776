-- An expression of a type is found by the verifier as its range, in its type.
use Rattle.std.proofs.Common.{◌≡◌, ℕ, zero, suc, ◌+◌, Bool, true, false, ◌&&◌, cond, List, [], ◌∷◌, ◌++◌, length, Option, Some, None, Ok, Err, refl, sym, ap, subst, ◌∙◌, arith}
use Rattle.std.specs.Prelude.{ℤ, pos, ◌*ℤ◌, is_some, slice_get, slice_index_or}
use Rattle.std.specs.Int.{int_min, int_max}
use Rattle.std.proofs.lemmas.Bool.{and_parts}
use Rattle.wsm_record.specs.declared.words.Kind.{Kind}
use Rattle.wsm_record.specs.Name.{is_among}
use Rattle.wsm_interval.specs.declared.interval.Interval.{Interval}
use Rattle.wsm_interval.specs.Interval.{interval}
use Rattle.wsm_program.specs.declared.instr.Instr.TheVariants as instr
use Rattle.wsm_query.specs.declared.expr.Op.{Op}
use Rattle.wsm_record.specs.Schema.{FieldType, DeclaredField, is_i64}
use Rattle.wsm_query.specs.Tree.{Name, Query, Expr, Number, Truth, Field, EnumName, Key, KeyName, Count, Aggregate, If, Brackets, Minus, Not, Binary, And, Or}
use Rattle.wsm_check.specs.Names.{field_names, field_place, type_of, names_of}
use Rattle.wsm_record.specs.declared.words.CellType.{CellType}
use Rattle.wsm_record.specs.declared.words.CellType.TheVariants as types
use Rattle.wsm_record.specs.Types.{is_type, kind_type}
use Rattle.wsm_check.specs.Types.{Typed, wanted, if_typed, declared_ty, read_at, field_ty, op_ty, logic_ty, entered, typed}
use Rattle.wsm_check.specs.declared.types.Around.{Around}
use Rattle.wsm_check.specs.declared.types.Around.TheVariants.{InColumn, InAggregate}
use Rattle.wsm_check.specs.Aggregates.{Acc, accumulators_of, aggregates}
use Rattle.wsm_rules.specs.declared.known.Known.{Known}
use Rattle.wsm_rules.specs.declared.known.Known.TheVariants as known
use Rattle.wsm_rules.specs.Rules.{Setting, and_then}
use Rattle.wsm_compiler.specs.TermCode.{instruction}
use Rattle.wsm_compiler.specs.Ranges.{Range, Unfit, NoNumber, Within, no_number, of_branches, if_fits, of_sum, of_aggregate, of_type, where_true, where_false, range_on, range, fits}
use Rattle.wsm_machine.proofs.FittingStacks.{no}
use Rattle.wsm_compiler.proofs.Hulls.{hull_either}
use Rattle.wsm_compiler.proofs.Choices.{hulled}
use Rattle.wsm_rules.specs.Rules.{known_fields}
use Rattle.wsm_program.specs.Instructions.{may_stand}
use Rattle.wsm_interval.specs.declared.Comparison.{Comparison}
use Rattle.wsm_compiler.proofs.TestedForms.{of_field, of_number, of_test}
use Rattle.wsm_check.specs.Terms.{resolved}
use Rattle.wsm_check.specs.Tested.{comparison_of, term_field, term_number}
use Rattle.wsm_program.specs.declared.instr.FieldTest.{FieldTest}
use Rattle.wsm_compiler.specs.Code.{test_of}
use Rattle.wsm_compiler.proofs.QueryTerms.{same_test}
use Rattle.wsm_compiler.proofs.Found.{of_instr, known_true, known_false, test_found, found}
use Rattle.wsm_compiler.proofs.NarrowedFields.{Narrows, as_declared, true_narrows, false_narrows, known_here, true_known, false_known, test_hulled, tested_fits, of_cond}
use Rattle.wsm_compiler.proofs.FoundRanges.{ok_is, typed_first, wanted_is, ty_is, suits, known_of, minus_found, minus_suits, not_found, op_typed, result_of, op_found}
use Rattle.wsm_check.proofs.PassedChecks.{length-accumulators_of}

-- ---- types

pub cond_ok : (b : Bool) (x : Typed) (f : _) (t : CellType) → cond b x (Err f) ≡ Ok t → x ≡ Ok t
cond_ok b x f t e = grind arith

read_is : (around : Around) (u t : CellType) → read_at around u ≡ Ok t → u ≡ t
read_is around u t e = grind (arith, ok_is)

pub field_is : (q : Query) (around : Around) (x : Name) (t : CellType) → field_ty q around x ≡ Ok t → declared_ty (field_place q.fields x) (type_of x q.fields) ≡ t
field_is q around x t e = read_is around _ t (cond_ok (is_among x (field_names q.fields)) _ _ t e)

pub entered_is : (around : Around) (x : Typed) (t : CellType) → entered around x ≡ Ok t → (around ≡ InColumn) × (x ≡ Ok t)
entered_is around x t e = grind arith

pub op_is : (op : Op) (t u w : CellType) → op_ty op t u ≡ Ok w → (op_typed op t u ≡ true) × (result_of op ≡ w)
op_is op t u w e = grind (arith, wanted_is)

-- the types of both operands of an operator
pub record TwoTypes (q : Query) (around : Around) (x y : Expr) (go : CellType → CellType → Typed) (w : CellType) : Type 0 where
  pub left : CellType
  pub right : CellType
  pub left_is : typed q around x ≡ Ok left
  pub right_is : typed q around y ≡ Ok right
  pub both : go left right ≡ Ok w

pub two_types : (q : Query) (around : Around) (x y : Expr) (go : CellType → CellType → Typed) (w : CellType) → if_typed (typed q around x) (λ t. if_typed (typed q around y) (λ u. go t u)) ≡ Ok w → TwoTypes q around x y go w
two_types q around x y go w e = grind (arith, typed_first)

-- the parts of IF: a truth, and two of one type
pub record IfTypes (q : Query) (around : Around) (c x y : Expr) (w : CellType) : Type 0 where
  pub test_is : typed q around c ≡ Ok types.Bool
  pub first_is : typed q around x ≡ Ok w
  pub second_is : typed q around y ≡ Ok w

pub if_types : (q : Query) (around : Around) (c x y : Expr) (w : CellType) → typed q around (If c x y) ≡ Ok w → IfTypes q around c x y w
if_types q around c x y w e =
    let b = typed_first (typed q around c) (λ b. if_typed (typed q around x) (λ t. if_typed (typed q around y) (λ u. wanted (is_type b types.Bool && is_type t u) t))) w e in
    let two = two_types q around x y (λ t u. wanted (is_type b.0 types.Bool && is_type t u) t) w b.2 in
    let same = wanted_is (is_type b.0 types.Bool && is_type two.left two.right) two.left w two.both in
    let parts = and_parts (is_type b.0 types.Bool) (is_type two.left two.right) same.0 in
    record {
      test_is = b.1 ∙ ap Ok (ty_is b.0 types.Bool parts.0);
      first_is = two.left_is ∙ ap Ok same.1;
      second_is = two.right_is ∙ ap Ok (sym (ty_is two.left two.right parts.1) ∙ same.1);
    }

-- the parts of AND and OR
pub record LogicTypes (q : Query) (around : Around) (x y : Expr) (w : CellType) : Type 0 where
  pub left_is : typed q around x ≡ Ok types.Bool
  pub right_is : typed q around y ≡ Ok types.Bool
  pub is : types.Bool ≡ w

pub logic_types : (q : Query) (around : Around) (x y : Expr) (w : CellType) → if_typed (typed q around x) (λ t. if_typed (typed q around y) (λ u. logic_ty t u)) ≡ Ok w → LogicTypes q around x y w
logic_types q around x y w e = grind (arith, two_types, wanted_is, ty_is)

-- the operand of a unary operator that gives the type that it takes
pub unary_is : (q : Query) (around : Around) (x : Expr) (u w : CellType) → if_typed (typed q around x) (λ t. wanted (is_type t u) u) ≡ Ok w → (typed q around x ≡ Ok u) × (u ≡ w)
unary_is q around x u w e = grind (arith, typed_first, wanted_is, ty_is)

-- ---- ranges suit types

suits_at : (r : Range) (u t : CellType) → u ≡ t → suits u r ≡ true → suits t r ≡ true
suits_at r u t e h = subst (λ x. suits x r ≡ true) e h

declared_suits : (f : ℕ) (ty : FieldType) → suits (declared_ty f ty) (of_type ty) ≡ true
declared_suits f ty = grind arith

sum_suits : (n : ℤ) (x : Interval) → suits types.Int (of_sum n x) ≡ true
sum_suits n x = elim (is_i64 (n *ℤ x.lo) && is_i64 (n *ℤ x.hi)) as (λ b. suits types.Int (cond b (Within (interval (int_min x.lo (n *ℤ x.lo)) (int_max x.hi (n *ℤ x.hi)))) Unfit) ≡ true) [ true ↦ refl | false ↦ refl ]

alike_suits : (r : Range) → suits types.Bool r ≡ true → suits types.Bool (no_number r r) ≡ true
alike_suits r h = grind arith

pub aggregate_suits : (n : ℤ) (kind : Kind) (r : Range) → suits (kind_type kind) r ≡ true → suits (kind_type kind) (of_aggregate n kind r) ≡ true
aggregate_suits n kind r h = grind (arith, sum_suits, alike_suits)

-- a choice between two values of one type
abbrev Chosen : CellType → Range → Range → Range → Type 0
Chosen t b r p = (and_then (λ x. hulled (known_of t r) (known_of t p)) (known_of types.Bool b) ≡ known_of t (if_fits b (of_branches r p))) × (suits t (if_fits b (of_branches r p)) ≡ true)

chosen_is : (t : CellType) (b r p : Range) → suits types.Bool b ≡ true → suits t r ≡ true → suits t p ≡ true → Chosen t b r p
chosen_is t b r p h l m = grind (arith, hull_either)

-- two truths, of which the second is evaluated by the first
abbrev Logic : Range → Range → Type 0
Logic r p =
    (and_then (λ x. hulled (known_of types.Bool p) (Some known.Truth)) (known_of types.Bool r) ≡ known_of types.Bool (no_number r p))
    × (and_then (λ x. hulled (Some known.Truth) (known_of types.Bool p)) (known_of types.Bool r) ≡ known_of types.Bool (no_number r p))
    × (suits types.Bool (no_number r p) ≡ true)

logic_is : (r p : Range) → suits types.Bool r ≡ true → suits types.Bool p ≡ true → Logic r p
logic_is r p h l = grind arith

-- a number has an interval, and another value none
pub suits_on : (c : Setting) (q : Query) (around : Around) (ds : List DeclaredField) → Narrows q ds → (e : Expr) (t : CellType) → typed q around e ≡ Ok t → suits t (range_on q ds e) ≡ true
suits_on c q around ds ok (Number n) t h = suits_at (range_on q ds (Number n)) types.Int t (ok_is types.Int t h) refl
suits_on c q around ds n (Truth b) t h = suits_at (range_on q ds (Truth b)) types.Bool t (ok_is types.Bool t h) refl
suits_on c q around ds n (Field x) t h = suits_at (of_type (type_of x ds)) _ t (n.type x (field_place q.fields x) ∙ field_is q around x t h) (declared_suits (field_place q.fields x) (type_of x ds))
suits_on c q around ds n (EnumName x y) t h = suits_at NoNumber (types.Enum _) t (ok_is _ t (cond_ok (is_among x (field_names q.fields) && is_among y (names_of (type_of x q.fields))) _ _ t h)) refl
suits_on c q around ds n Key t h = suits_at NoNumber (types.Enum 0) t (ok_is _ t h) refl
suits_on c q around ds n (KeyName x) t h = suits_at NoNumber (types.Enum 0) t (ok_is _ t (cond_ok (is_among x q.keys) _ _ t h)) refl
suits_on c q around ds n Count t h = suits_at (range q Count) types.Int t (ok_is _ t (entered_is around _ t h).1) refl
suits_on c q around ds n (Aggregate kind e) t h =
    let u = unary_is q InAggregate e (kind_type kind) t (entered_is around _ t h).1 in
    suits_at (range_on q ds (Aggregate kind e)) (kind_type kind) t u.1 (aggregate_suits q.clock.records kind (range q e) (suits_on c q InAggregate q.fields (as_declared q) e (kind_type kind) u.0))
suits_on c q around ds n (If b x y) t h =
    let p = if_types q around b x y t h in
    (chosen_is t (range_on q ds b) (range_on q (where_true (test_of q 0 b) ds) x) (range_on q (where_false (test_of q 0 b) ds) y) (suits_on c q around ds n b types.Bool p.test_is) (suits_on c q around _ (true_narrows (test_of q 0 b) n) x t p.first_is) (suits_on c q around _ (false_narrows (test_of q 0 b) n) y t p.second_is)).1
suits_on c q around ds n (Brackets e) t h = suits_on c q around ds n e t h
suits_on c q around ds n (Minus e) t h =
    let u = unary_is q around e types.Int t h in suits_at (range_on q ds (Minus e)) types.Int t u.1 (minus_suits (range_on q ds e) (suits_on c q around ds n e types.Int u.0))
suits_on c q around ds n (Not e) t h = let u = unary_is q around e types.Bool t h in suits_at (range_on q ds (Not e)) types.Bool t u.1 (suits_on c q around ds n e types.Bool u.0)
suits_on c q around ds n (Binary op x y) t h =
    let p = two_types q around x y (op_ty op) t h in
    let o = op_is op p.left p.right t p.both in
    (op_found c op p.left p.right t (range_on q ds x) (range_on q ds y) o.0 o.1 (suits_on c q around ds n x p.left p.left_is) (suits_on c q around ds n y p.right p.right_is)).1
suits_on c q around ds n (And x y) t h =
    let p = logic_types q around x y t h in
    suits_at (range_on q ds (And x y)) types.Bool t p.is (logic_is (range_on q ds x) (range_on q (where_true (test_of q 0 x) ds) y) (suits_on c q around ds n x types.Bool p.left_is) (suits_on c q around _ (true_narrows (test_of q 0 x) n) y types.Bool p.right_is)).2
suits_on c q around ds n (Or x y) t h =
    let p = logic_types q around x y t h in
    suits_at (range_on q ds (Or x y)) types.Bool t p.is (logic_is (range_on q ds x) (range_on q (where_false (test_of q 0 x) ds) y) (suits_on c q around ds n x types.Bool p.left_is) (suits_on c q around _ (false_narrows (test_of q 0 x) n) y types.Bool p.right_is)).2

pub range_suits : (c : Setting) (q : Query) (around : Around) (e : Expr) (t : CellType) → typed q around e ≡ Ok t → suits t (range q e) ≡ true
range_suits c q around e t h = suits_on c q around q.fields (as_declared q) e t h

-- ---- tests

-- a truth that fits is found
truth_found : (r : Range) → suits types.Bool r ≡ true → fits r ≡ true → is_some (known_of types.Bool r) ≡ true
truth_found r h l = grind arith

tested_truth : (c : Setting) (q : Query) (around : Around) (ds : List DeclaredField) → Narrows q ds → (a : ℕ) (e : Expr) → typed q around e ≡ Ok types.Bool → (t : FieldTest) → test_of q a e ≡ Some t → is_some (known_of types.Bool (range_on q ds e)) ≡ true
tested_truth c q around ds n a e h t l = truth_found (range_on q ds e) (suits_on c q around ds n e types.Bool h) (tested_fits q ds a e t l)

-- a field of a number has a type where it is read
pub record FieldHas (q : Query) (around : Around) (f : ℕ) (t : CellType) : Type 0 where
  pub name : Name
  pub place : field_place q.fields name ≡ f
  pub type : field_ty q around name ≡ Ok t

-- a field that is compared with a number is one of numbers
field_typed : (q : Query) (around : Around) (a : ℕ) (e : Expr) (f : ℕ) (t : CellType) → term_field (resolved q a e) ≡ Some f → typed q around e ≡ Ok t → FieldHas q around f t
field_typed q around a e f t h = of_field q (λ e. typed q around e ≡ Ok t → FieldHas q around f t) (λ e p. p) f (λ x is l. record { name = x; place = is; type = l }) a e h

number_typed : (q : Query) (around : Around) (a : ℕ) (e : Expr) (n : ℤ) (t : CellType) → term_number (resolved q a e) ≡ Some n → typed q around e ≡ Ok t → types.Int ≡ t
number_typed q around a e n t h =
    of_number q (λ e. typed q around e ≡ Ok t → types.Int ≡ t) (λ e p. p) n (λ l. ok_is types.Int t l) (λ b e m is word same l. (unary_is q around e types.Int t l).1) a e h

-- what stands on the left of a number
left_of_number : (op : Op) (o : Comparison) (t u w : CellType) → comparison_of op ≡ Some o → op_ty op t u ≡ Ok w → types.Int ≡ u → t ≡ types.Int
left_of_number op o t u w h l e = grind (arith, ty_is, wanted_is)

pub tested_int : (q : Query) (around : Around) (a : ℕ) (e : Expr) (u : CellType) (t : FieldTest) → test_of q a e ≡ Some t → typed q around e ≡ Ok u → FieldHas q around t.field types.Int
tested_int q around a e u t h =
    of_test q (λ e. typed q around e ≡ Ok u → FieldHas q around t.field types.Int) (λ e p. p) t
    (λ a b op x y p l.
    let two = two_types q around x y (op_ty op) u l in
    let is = left_of_number op t.comparison two.left two.right u p.comparison two.both (number_typed q around b y t.number two.right p.number two.right_is) in
    field_typed q around a x t.field types.Int p.field (two.left_is ∙ ap Ok is)) a e h

-- ---- what is found

-- fields may be read, and what is read of panes is known by its range
pub record Reads (c : Setting) (q : Query) (around : Around) : Type 0 where
  pub field : (x : Name) (t : CellType) → field_ty q around x ≡ Ok t → may_stand c.section (instr.Field (field_place q.fields x)) ≡ true
  pub count : around ≡ InColumn → of_instr c instr.Count [] ≡ Some (known.Number (interval (pos 1) q.clock.records))

-- and so is each of some accumulators, from the a-th on
abbrev pub Accs : Setting → Query → ℕ → List Acc → Type 0
Accs c q a accs = (j : ℕ) (acc : Acc) → slice_get accs j ≡ Some acc → of_instr c (instr.Acc (a + j)) [] ≡ known_of (kind_type acc.kind) (of_aggregate q.clock.records acc.kind (range q acc.operand))

pub get_left : {A : Type 0} (xs ys : List A) (j : ℕ) (x : A) → slice_get xs j ≡ Some x → slice_get (xs ++ ys) j ≡ Some x
get_left [] ys j x e = let tag : Option _ → Bool = λ o. elim o [ None ↦ false | Some x ↦ true ] in no (ap tag e)
get_left (y ∷ xs) ys zero x e = e
get_left (y ∷ xs) ys (suc j) x e = get_left xs ys j x e

pub get_right : {A : Type 0} (xs ys : List A) (j : ℕ) → slice_get (xs ++ ys) (length xs + j) ≡ slice_get ys j
get_right [] ys j = let e : 0 + j ≡ j = omega arith in ap (slice_get ys) e
get_right (x ∷ xs) ys j = let e : suc (length xs) + j ≡ suc (length xs + j) = omega arith in ap (slice_get (x ∷ (xs ++ ys))) e ∙ get_right xs ys j

pub accs_left : (c : Setting) (q : Query) (a : ℕ) (xs ys : List Acc) → Accs c q a (xs ++ ys) → Accs c q a xs
accs_left c q a xs ys h j acc e = h j acc (get_left xs ys j acc e)

pub accs_right : (c : Setting) (q : Query) (a n : ℕ) (xs ys : List Acc) → length xs ≡ n → Accs c q a (xs ++ ys) → Accs c q (a + n) ys
accs_right c q a n xs ys l h j acc e =
    let there : a + (length xs + j) ≡ a + n + j = omega (arith, l) in
    ap (λ b. of_instr c (instr.Acc b) []) (sym there) ∙ h (length xs + j) acc (get_right xs ys j ∙ e)

-- where an aggregate may stand
abbrev pub AccsIn : Setting → Query → Around → ℕ → List Acc → Type 0
AccsIn c q around a accs = around ≡ InColumn → Accs c q a accs

pub in_left : (c : Setting) (q : Query) (around : Around) (a : ℕ) (x y : Expr) → AccsIn c q around a (accumulators_of x ++ accumulators_of y) → AccsIn c q around a (accumulators_of x)
in_left c q around a x y h e = accs_left c q a (accumulators_of x) (accumulators_of y) (h e)

pub in_right : (c : Setting) (q : Query) (around : Around) (a : ℕ) (x y : Expr) → AccsIn c q around a (accumulators_of x ++ accumulators_of y) → AccsIn c q around (a + aggregates x) (accumulators_of y)
in_right c q around a x y h e = accs_right c q a (aggregates x) (accumulators_of x) (accumulators_of y) (length-accumulators_of x) (h e)

-- the three parts of IF
pub record ThreeAccs (c : Setting) (q : Query) (around : Around) (a : ℕ) (b x y : Expr) : Type 0 where
  pub test : AccsIn c q around a (accumulators_of b)
  pub first : AccsIn c q around (a + aggregates b) (accumulators_of x)
  pub second : AccsIn c q around (a + (aggregates b + aggregates x)) (accumulators_of y)

pub three_accs : (c : Setting) (q : Query) (around : Around) (a : ℕ) (b x y : Expr) → AccsIn c q around a (accumulators_of (If b x y)) → ThreeAccs c q around a b x y
three_accs c q around a b x y h =
    let rest : AccsIn c q around (a + aggregates b) (accumulators_of x ++ accumulators_of y) = λ e. accs_right c q a (aggregates b) (accumulators_of b) (accumulators_of x ++ accumulators_of y) (length-accumulators_of b) (h e) in
    let place : a + aggregates b + aggregates x ≡ a + (aggregates b + aggregates x) = omega arith in
    record {
      test = λ e. accs_left c q a (accumulators_of b) (accumulators_of x ++ accumulators_of y) (h e);
      first = λ e. accs_left c q (a + aggregates b) (accumulators_of x) (accumulators_of y) (rest e);
      second = λ e. subst (λ n. Accs c q n (accumulators_of y)) place (accs_right c q (a + aggregates b) (aggregates x) (accumulators_of x) (accumulators_of y) (length-accumulators_of x) (rest e));
    }

at_type : (o : Option Known) (r : Range) (u t : CellType) → u ≡ t → o ≡ known_of u r → o ≡ known_of t r
at_type o r u t e h = subst (λ x. o ≡ known_of x r) e h

pub found_on : (c : Setting) (q : Query) (around : Around) → Reads c q around → (ds : List DeclaredField) → Narrows q ds → (a : ℕ) (e : Expr) (t : CellType) → typed q around e ≡ Ok t → AccsIn c q around a (accumulators_of e) →
    found c q (known_fields 0 ds) a e ≡ known_of t (range_on q ds e)
found_on c q around reads ds n a (Number m) t h accs = at_type _ (range_on q ds (Number m)) types.Int t (ok_is _ t h) refl
found_on c q around reads ds n a (Truth b) t h accs = at_type _ NoNumber types.Bool t (ok_is _ t h) refl
found_on c q around reads ds n a (Field x) t h accs =
    ap (λ b. cond (b && true) (Some (slice_index_or (known_fields 0 ds) (field_place q.fields x) known.Truth)) None) (reads.field x t h) ∙ known_here q ds n x t (of_cond (is_among x (field_names q.fields)) _ _ t h) (field_is q around x t h)
found_on c q around reads ds n a (EnumName x y) t h accs =
    at_type _ NoNumber (types.Enum _) t (ok_is _ t (cond_ok (is_among x (field_names q.fields) && is_among y (names_of (type_of x q.fields))) _ _ t h)) refl
found_on c q around reads ds n a Key t h accs = at_type _ NoNumber (types.Enum 0) t (ok_is _ t h) refl
found_on c q around reads ds n a (KeyName x) t h accs = at_type _ NoNumber (types.Enum 0) t (ok_is _ t (cond_ok (is_among x q.keys) _ _ t h)) refl
found_on c q around reads ds n a Count t h accs =
    let e = entered_is around (Ok types.Int) t h in at_type _ (range_on q ds Count) types.Int t (ok_is _ t e.1) (reads.count e.0)
found_on c q around reads ds n a (Aggregate kind e) t h accs =
    let i = entered_is around _ t h in
    let u = unary_is q InAggregate e (kind_type kind) t i.1 in
    let first : a + 0 ≡ a = omega arith in
    at_type _ (range_on q ds (Aggregate kind e)) (kind_type kind) t u.1 (ap (λ b. of_instr c (instr.Acc b) []) (sym first) ∙ accs i.0 0 (record { kind = kind; operand = e }) refl)
found_on c q around reads ds n a (If b x y) t h accs =
    let p = if_types q around b x y t h in
    let s = three_accs c q around a b x y accs in
    let w = test_of q 0 b in
    let same = same_test q a b in
    (λ i. and_then (λ v. hulled (found c q (known_true (same i) (known_fields 0 ds)) (a + aggregates b) x) (found c q (known_false (same i) (known_fields 0 ds)) (a + (aggregates b + aggregates x)) y)) (test_found (same i) (found c q (known_fields 0 ds) a b)))
    ∙ (λ i. and_then (λ v. hulled
    (((λ j. found c q (true_known w ds j) (a + aggregates b) x) ∙ found_on c q around reads (where_true w ds) (true_narrows w n) (a + aggregates b) x t p.first_is s.first) i)
    (((λ j. found c q (false_known w ds j) (a + (aggregates b + aggregates x)) y) ∙ found_on c q around reads (where_false w ds) (false_narrows w n) (a + (aggregates b + aggregates x)) y t p.second_is s.second) i))
    (test_found w (found_on c q around reads ds n a b types.Bool p.test_is s.test i)))
    ∙ test_hulled w (known_of types.Bool (range_on q ds b)) _ (tested_truth c q around ds n 0 b p.test_is)
    ∙ (chosen_is t (range_on q ds b) (range_on q (where_true w ds) x) (range_on q (where_false w ds) y) (suits_on c q around ds n b types.Bool p.test_is) (suits_on c q around _ (true_narrows w n) x t p.first_is) (suits_on c q around _ (false_narrows w n) y t p.second_is)).0
found_on c q around reads ds n a (Brackets e) t h accs = found_on c q around reads ds n a e t h accs
found_on c q around reads ds n a (Minus e) t h accs =
    let u = unary_is q around e types.Int t h in
    at_type _ (range_on q ds (Minus e)) types.Int t u.1 (ap (λ o. and_then (λ x. of_instr c instr.Neg (x ∷ [])) o) (found_on c q around reads ds n a e types.Int u.0 accs) ∙ minus_found c (range_on q ds e) (suits_on c q around ds n e types.Int u.0))
found_on c q around reads ds n a (Not e) t h accs =
    let u = unary_is q around e types.Bool t h in
    at_type _ (range_on q ds (Not e)) types.Bool t u.1 (ap (λ o. and_then (λ x. of_instr c instr.Not (x ∷ [])) o) (found_on c q around reads ds n a e types.Bool u.0 accs) ∙ not_found c (range_on q ds e) (suits_on c q around ds n e types.Bool u.0))
found_on c q around reads ds n a (Binary op x y) t h accs =
    let p = two_types q around x y (op_ty op) t h in
    let o = op_is op p.left p.right t p.both in
    (λ i. and_then (λ u. and_then (λ v. of_instr c (instruction op) (v ∷ u ∷ [])) (found_on c q around reads ds n (a + aggregates x) y p.right p.right_is (in_right c q around a x y accs) i)) (found_on c q around reads ds n a x p.left p.left_is (in_left c q around a x y accs) i))
    ∙ (op_found c op p.left p.right t (range_on q ds x) (range_on q ds y) o.0 o.1 (suits_on c q around ds n x p.left p.left_is) (suits_on c q around ds n y p.right p.right_is)).0
found_on c q around reads ds n a (And x y) t h accs =
    let p = logic_types q around x y t h in
    at_type _ (range_on q ds (And x y)) types.Bool t p.is
    ((λ i. and_then (λ v. hulled (found c q (known_true (same_test q a x i) (known_fields 0 ds)) (a + aggregates x) y) (Some known.Truth)) (test_found (same_test q a x i) (found c q (known_fields 0 ds) a x)))
    ∙ (λ i. and_then (λ v. hulled (((λ j. found c q (true_known (test_of q 0 x) ds j) (a + aggregates x) y) ∙ found_on c q around reads (where_true (test_of q 0 x) ds) (true_narrows (test_of q 0 x) n) (a + aggregates x) y types.Bool p.right_is (in_right c q around a x y accs)) i) (Some known.Truth))
    (test_found (test_of q 0 x) (found_on c q around reads ds n a x types.Bool p.left_is (in_left c q around a x y accs) i)))
    ∙ test_hulled (test_of q 0 x) (known_of types.Bool (range_on q ds x)) _ (tested_truth c q around ds n 0 x p.left_is)
    ∙ (logic_is (range_on q ds x) (range_on q (where_true (test_of q 0 x) ds) y) (suits_on c q around ds n x types.Bool p.left_is) (suits_on c q around _ (true_narrows (test_of q 0 x) n) y types.Bool p.right_is)).0)
found_on c q around reads ds n a (Or x y) t h accs =
    let p = logic_types q around x y t h in
    at_type _ (range_on q ds (Or x y)) types.Bool t p.is
    ((λ i. and_then (λ v. hulled (Some known.Truth) (found c q (known_false (same_test q a x i) (known_fields 0 ds)) (a + aggregates x) y)) (test_found (same_test q a x i) (found c q (known_fields 0 ds) a x)))
    ∙ (λ i. and_then (λ v. hulled (Some known.Truth) (((λ j. found c q (false_known (test_of q 0 x) ds j) (a + aggregates x) y) ∙ found_on c q around reads (where_false (test_of q 0 x) ds) (false_narrows (test_of q 0 x) n) (a + aggregates x) y types.Bool p.right_is (in_right c q around a x y accs)) i))
    (test_found (test_of q 0 x) (found_on c q around reads ds n a x types.Bool p.left_is (in_left c q around a x y accs) i)))
    ∙ test_hulled (test_of q 0 x) (known_of types.Bool (range_on q ds x)) _ (tested_truth c q around ds n 0 x p.left_is)
    ∙ (logic_is (range_on q ds x) (range_on q (where_false (test_of q 0 x) ds) y) (suits_on c q around ds n x types.Bool p.left_is) (suits_on c q around _ (false_narrows (test_of q 0 x) n) y types.Bool p.right_is)).1)

-- where the fields are as they are declared
pub found_is : (c : Setting) (q : Query) (around : Around) → Reads c q around → (a : ℕ) (e : Expr) (t : CellType) → typed q around e ≡ Ok t → AccsIn c q around a (accumulators_of e) →
    found c q (known_fields 0 q.fields) a e ≡ known_of t (range q e)
found_is c q around reads a e t h accs = found_on c q around reads q.fields (as_declared q) a e t h accs

pub found_here : (c : Setting) (q : Query) (around : Around) → Reads c q around → (fs : List Known) → fs ≡ known_fields 0 q.fields → (a : ℕ) (e : Expr) (t : CellType) → typed q around e ≡ Ok t → AccsIn c q around a (accumulators_of e) →
    found c q fs a e ≡ known_of t (range q e)
found_here c q around reads fs is a e t h accs = ap (λ xs. found c q xs a e) is ∙ found_is c q around reads a e t h accs
