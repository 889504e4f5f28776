-- The operands of generated code name what the program has.
use Rattle.std.proofs.Common.{◌≡◌, ℕ, suc, ◌+◌, ◌≤◌, ◌<◌, Bool, true, false, ◌&&◌, List, [], ◌∷◌, ◌++◌, length, map, Option, Some, None, Ok, refl, sym, ap, subst, ◌∙◌, arith}
use Rattle.std.proofs.lemmas.List.Folds.{list_all-append}
use Rattle.std.specs.Prelude.{ℤ, is_some, slice_get}
use Rattle.std.specs.List.{list_all}
use Rattle.std.proofs.lemmas.Bool.{and_from, lt-ltb, and_parts}
use Rattle.wsm_record.specs.declared.words.Kind.{Kind}
use Rattle.wsm_record.specs.Name.{is_among}
use Rattle.wsm_program.specs.declared.instr.Instr.{Instr}
use Rattle.wsm_program.specs.declared.instr.Instr.TheVariants as instr
use Rattle.wsm_program.specs.declared.program.Costs.{Costs}
use Rattle.wsm_program.specs.Program.{Header, is_name_of, is_column, is_number_type, is_number_field, is_test, is_instr}
use Rattle.wsm_query.specs.declared.expr.Op.{Op}
use Rattle.wsm_record.specs.Schema.{FieldType, names_of_type, is_i64}
use Rattle.wsm_record.specs.Schema as field_types
use Rattle.wsm_query.specs.Tree.{Name, Query, Expr, Number, Truth, Field, EnumName, Key, KeyName, Count, Aggregate, If, Brackets, Minus, Not, Binary, And, Or}
use Rattle.wsm_check.specs.Names.{field_names, field_place, type_of, names_of, place_of}
use Rattle.wsm_record.specs.declared.words.CellType.{CellType}
use Rattle.wsm_record.specs.declared.words.CellType.TheVariants as types
use Rattle.wsm_record.specs.Types.{is_type, kind_type}
use Rattle.wsm_check.specs.Types.{wanted, if_typed, declared_ty, op_ty, typed}
use Rattle.wsm_check.specs.declared.types.Around.{Around}
use Rattle.wsm_check.specs.declared.types.Around.TheVariants.{InColumn, InAggregate}
use Rattle.wsm_check.specs.Aggregates.{Acc, aggregates}
use Rattle.wsm_compiler.specs.TermCode.{choice, test_code, jump_unless, instruction}
use Rattle.wsm_compiler.specs.Code.{code, size, test_of, condition_code, folds, columns_code}
use Rattle.wsm_compiler.proofs.Operators.{of_operator}
use Rattle.wsm_compiler.proofs.QueryTerms.{condition_size, ended_size, folds_size, columns_size}
use Rattle.wsm_check.specs.Terms.{resolved}
use Rattle.wsm_check.specs.Tested.{term_number, unless_tested}
use Rattle.wsm_program.specs.declared.instr.FieldTest.{FieldTest}
use Rattle.wsm_check.specs.Spelt.{numbers_fit}
use Rattle.wsm_check.specs.Parts.{aggregates_of, column_type, type_or_int}
use Rattle.wsm_compiler.specs.Program.{program_stating}
use Rattle.wsm_machine.proofs.FittingStacks.{no}
use Rattle.wsm_compiler.proofs.FoundRanges.{ok_is, result_of}
use Rattle.wsm_compiler.proofs.ExpressionRanges.{cond_ok, field_is, entered_is, op_is, two_types, if_types, logic_types, unary_is, tested_int}
use Rattle.wsm_compiler.proofs.NarrowedFields.{of_cond}
use Rattle.wsm_compiler.proofs.TestedForms.{of_number, of_test}
use Rattle.wsm_compiler.proofs.KnownFields.{declared, in_column}
use Rattle.wsm_compiler.proofs.Conditions.{ConditionTyped, ColumnsTyped}
use Rattle.wsm_compiler.proofs.UpdateFaults.{AccsTyped}
use Rattle.wsm_compiler.proofs.DeclaredNames.{place_below, field_below, names_there, number_there, name_there}

abbrev pub condition_numbers : Option Expr → Bool
condition_numbers None = true
condition_numbers (Some e) = numbers_fit e

abbrev pub condition_aggregates : Option Expr → ℕ
condition_aggregates None = 0
condition_aggregates (Some e) = aggregates e

abbrev pub operands_fit : List Acc → Bool
operands_fit accs = list_all (λ acc. numbers_fit acc.operand) accs

-- ---- tests

number_fine : (q : Query) (a : ℕ) (e : Expr) (n : ℤ) → term_number (resolved q a e) ≡ Some n → numbers_fit e ≡ true → is_i64 n ≡ true
number_fine q a e n h = of_number q (λ e. numbers_fit e ≡ true → is_i64 n ≡ true) (λ e p. p) n (λ l. l) (λ b e m is word same l. ap is_i64 (sym same) ∙ word) a e h

tested_number : (q : Query) (a : ℕ) (e : Expr) (t : FieldTest) → test_of q a e ≡ Some t → numbers_fit e ≡ true → is_i64 t.number ≡ true
tested_number q a e t h =
    of_test q (λ e. numbers_fit e ≡ true → is_i64 t.number ≡ true) (λ e p. p) t (λ a b op x y p l. number_fine q b y t.number p.number (and_parts (numbers_fit x) (numbers_fit y) l).1) a e h

number_type : (f : ℕ) (ty : FieldType) → declared_ty f ty ≡ types.Int → is_number_type ty ≡ true
number_type f ty h = grind arith

module _ (q : Query) (b : Costs) where
  abbrev pub head : Header
  head = (program_stating q b).header

  abbrev Named : CellType → Type 0
  Named t = is_column head.schema t ≡ true

  -- ---- the types of columns

  declared_named : (x : Name) → is_among x (field_names q.fields) ≡ true → (ty : FieldType) → type_of x q.fields ≡ ty → Named (declared_ty (field_place q.fields x) ty)
  declared_named x h (field_types.Enum names) is = ap is_some (names_there q.fields x h ∙ ap names_of_type is)
  declared_named x h ty is = refl

  some_names : (ty : FieldType) (y : Name) → is_among y (names_of ty) ≡ true → is_some (names_of_type ty) ≡ true
  some_names ty y h = grind arith

  -- the name of a field, and a name of its type
  both_declared : (around : Around) (x y : Name) (t : CellType) → typed q around (EnumName x y) ≡ Ok t → (is_among x (field_names q.fields) ≡ true) × (is_among y (names_of (type_of x q.fields)) ≡ true)
  both_declared around x y t h = grind (arith, of_cond)

  named_as : (t u : CellType) → t ≡ u → Named t → Named u
  named_as t u e h = subst Named e h

  operand_named : (kind : Kind) → Named (kind_type kind)
  operand_named kind = grind arith

  result_named : (op : Op) → Named (result_of op)
  result_named op = grind arith

  type_named : (around : Around) (e : Expr) (t : CellType) → typed q around e ≡ Ok t → Named t
  type_named around (Number n) t h = named_as types.Int t (ok_is types.Int t h) refl
  type_named around (Truth v) t h = named_as types.Bool t (ok_is types.Bool t h) refl
  type_named around (Field x) t h = named_as (declared_ty (field_place q.fields x) (type_of x q.fields)) t (field_is q around x t h) (declared_named x (declared q around x t h) (type_of x q.fields) refl)
  type_named around (EnumName x y) t h =
      let p = both_declared around x y t h in
      let u = types.Enum (suc (field_place q.fields x)) in
      named_as u t (ok_is u t (cond_ok (is_among x (field_names q.fields) && is_among y (names_of (type_of x q.fields))) (Ok u) _ t h))
      (ap is_some (names_there q.fields x p.0) ∙ some_names (type_of x q.fields) y p.1)
  type_named around Key t h = named_as (types.Enum 0) t (ok_is (types.Enum 0) t h) refl
  type_named around (KeyName x) t h = named_as (types.Enum 0) t (ok_is (types.Enum 0) t (cond_ok (is_among x q.keys) (Ok (types.Enum 0)) _ t h)) refl
  type_named around Count t h = named_as types.Int t (ok_is types.Int t (entered_is around (Ok types.Int) t h).1) refl
  type_named around (Aggregate kind e) t h =
      let inner = if_typed (typed q InAggregate e) (λ t. wanted (is_type t (kind_type kind)) (kind_type kind)) in
      named_as (kind_type kind) t (unary_is q InAggregate e (kind_type kind) t (entered_is around inner t h).1).1 (operand_named kind)
  type_named around (If c x y) t h = type_named around x t (if_types q around c x y t h).first_is
  type_named around (Brackets e) t h = type_named around e t h
  type_named around (Minus e) t h = named_as types.Int t (unary_is q around e types.Int t h).1 refl
  type_named around (Not e) t h = named_as types.Bool t (unary_is q around e types.Bool t h).1 refl
  type_named around (Binary op x y) t h =
      let p = two_types q around x y (op_ty op) t h in named_as (result_of op) t (op_is op p.left p.right t p.both).1 (result_named op)
  type_named around (And x y) t h = named_as types.Bool t (logic_types q around x y t h).is refl
  type_named around (Or x y) t h = named_as types.Bool t (logic_types q around x y t h).is refl

  pub columns_named : (es : List Expr) → ColumnsTyped q es → list_all (is_column head.schema) (map (column_type q) es) ≡ true
  columns_named [] h = refl
  columns_named (e ∷ es) h =
      and_from (is_column head.schema (column_type q e)) (list_all (is_column head.schema) (map (column_type q) es))
      (ap (λ r. is_column head.schema (type_or_int r)) h.0.1 ∙ type_named InColumn e h.0.0 h.0.1) (columns_named es h.1)

  -- ---- instructions

  abbrev pub AllFine : List Instr → Type 0
  AllFine is = list_all (is_instr head) is ≡ true

  pub fine_both : (is js : List Instr) → AllFine is → AllFine js → AllFine (is ++ js)
  fine_both is js h l = list_all-append (is_instr head) is js ∙ and_from (list_all (is_instr head) is) (list_all (is_instr head) js) h l

  fine_one : (i : Instr) → is_instr head i ≡ true → AllFine (i ∷ [])
  fine_one i h = and_from (is_instr head i) true h refl

  choice_fine : (jump : ℕ → Instr) (k : ℕ) (first : List Instr) (m : ℕ) (second : List Instr) (n : ℕ) → is_instr head (jump (k + m + 1)) ≡ true → AllFine first → AllFine second → k + m + 1 + n < 65536 → AllFine (choice jump k first m second n)
  choice_fine jump k first m second n j h l room = grind (arith, fine_both, lt-ltb)

  -- a field that a test names is one of numbers, and the test's number has 64 bits
  test_fine : (around : Around) (a : ℕ) (e : Expr) → typed q around e ≡ Ok types.Bool → numbers_fit e ≡ true → (t : FieldTest) → test_of q a e ≡ Some t → is_test head t ≡ true
  test_fine around a e h l t is =
      let f = tested_int q around a e types.Bool t is h in
      let x = f.name in
      and_from (is_number_field (slice_get q.fields t.field)) (is_i64 t.number)
      (ap (λ n. is_number_field (slice_get q.fields n)) (sym f.place) ∙ number_there q.fields x (declared q around x types.Int f.type) ∙ number_type (field_place q.fields x) (type_of x q.fields) (field_is q around x types.Int f.type))
      (tested_number q a e t is l)

  -- a test and the parts behind it
  tested_fine : (w : Option FieldTest) (is : List Instr) (k : ℕ) (first : List Instr) (m : ℕ) (second : List Instr) (n : ℕ) → ((t : FieldTest) → w ≡ Some t → is_test head t ≡ true) → (w ≡ None → AllFine is) →
      AllFine first → AllFine second → k + m + 1 + n < 65536 → AllFine (test_code w is ++ choice (jump_unless w) k first m second n)
  tested_fine w is k first m second n named test h l room = grind (arith, fine_both, choice_fine, lt-ltb)

  -- in a column there is an accumulator for each aggregate
  abbrev Room : Around → ℕ → Expr → Type 0
  Room around a e = around ≡ InColumn → a + aggregates e ≤ length head.kinds

  code_fine : (around : Around) (k a : ℕ) (e : Expr) (t : CellType) → typed q around e ≡ Ok t → numbers_fit e ≡ true → Room around a e → k + size q a e < 65536 → AllFine (code q k a e)
  code_fine around k a (Number n) t h l accs room = fine_one (instr.PushInt n) l
  code_fine around k a (Field x) t h l accs room = fine_one (instr.Field (field_place q.fields x)) (field_below q.fields x (declared q around x t h))
  code_fine around k a (EnumName x y) t h l accs room =
      let p = both_declared around x y t h in
      let ty = type_of x q.fields in
      fine_one (instr.PushEnum (suc (field_place q.fields x)) (place_of y (names_of ty)))
      (ap (λ o. is_name_of o (place_of y (names_of ty))) (names_there q.fields x p.0) ∙ name_there ty y p.1)
  code_fine around k a (KeyName x) t h l accs room = fine_one (instr.PushEnum 0 (place_of x q.keys)) (place_below x q.keys (of_cond (is_among x q.keys) _ _ t h))
  code_fine around k a (Aggregate kind e) t h l accs room =
      let inner = if_typed (typed q InAggregate e) (λ t. wanted (is_type t (kind_type kind)) (kind_type kind)) in
      let n = accs (entered_is around inner t h).0 in
      fine_one (instr.Acc a) (lt-ltb a (length head.kinds) (omega (arith, n)))
  code_fine around k a (If c x y) t h l accs room =
      let p = if_types q around c x y t h in
      let f = and_parts (numbers_fit c) (numbers_fit x && numbers_fit y) l in
      let g = and_parts (numbers_fit x) (numbers_fit y) f.1 in
      let b = a + aggregates c in
      let j = k + unless_tested (test_of q a c) (size q a c) + 1 in
      let d = a + (aggregates c + aggregates x) in
      tested_fine (test_of q a c) (code q k a c) j (code q j b x) (size q b x) (code q (j + size q b x + 1) d y) (size q d y) (test_fine around a c p.test_is f.0)
      (λ none. code_fine around k a c types.Bool p.test_is f.0 (λ e. let n = accs e in omega (arith, n)) (omega (arith, room, ap (λ v. unless_tested v (size q a c)) none)))
      (code_fine around j b x t p.first_is g.0 (λ e. let n = accs e in omega (arith, n)) (omega (arith, room)))
      (code_fine around (j + size q b x + 1) d y t p.second_is g.1 (λ e. let n = accs e in omega (arith, n)) (omega (arith, room)))
      (omega (arith, room))
  code_fine around k a (Brackets e) t h l accs room = code_fine around k a e t h l accs room
  code_fine around k a (Minus e) t h l accs room =
      fine_both (code q k a e) (instr.Neg ∷ []) (code_fine around k a e types.Int (unary_is q around e types.Int t h).0 l accs (omega (arith, room))) refl
  code_fine around k a (Not e) t h l accs room =
      fine_both (code q k a e) (instr.Not ∷ []) (code_fine around k a e types.Bool (unary_is q around e types.Bool t h).0 l accs (omega (arith, room))) refl
  code_fine around k a (Binary op x y) t h l accs room =
      let p = two_types q around x y (op_ty op) t h in
      let f = and_parts (numbers_fit x) (numbers_fit y) l in
      let right = code q (k + size q a x) (a + aggregates x) y in
      fine_both (code q k a x) (right ++ instruction op ∷ []) (code_fine around k a x p.left p.left_is f.0 (λ e. let n = accs e in omega (arith, n)) (omega (arith, room)))
      (fine_both right (instruction op ∷ []) (code_fine around (k + size q a x) (a + aggregates x) y p.right p.right_is f.1 (λ e. let n = accs e in omega (arith, n)) (omega (arith, room)))
      (of_operator (λ i. AllFine (i ∷ [])) (λ a. refl) (λ c. refl) op))
  code_fine around k a (And x y) t h l accs room =
      let p = logic_types q around x y t h in
      let f = and_parts (numbers_fit x) (numbers_fit y) l in
      let b = a + aggregates x in
      let j = k + unless_tested (test_of q a x) (size q a x) + 1 in
      let first = code q j b y in
      tested_fine (test_of q a x) (code q k a x) j first (size q b y) (instr.PushBool false ∷ []) 1 (test_fine around a x p.left_is f.0)
      (λ none. code_fine around k a x types.Bool p.left_is f.0 (λ e. let n = accs e in omega (arith, n)) (omega (arith, room, ap (λ v. unless_tested v (size q a x)) none)))
      (code_fine around j b y types.Bool p.right_is f.1 (λ e. let n = accs e in omega (arith, n)) (omega (arith, room))) refl (omega (arith, room))
  code_fine around k a (Or x y) t h l accs room =
      let p = logic_types q around x y t h in
      let f = and_parts (numbers_fit x) (numbers_fit y) l in
      let b = a + aggregates x in
      let j = k + unless_tested (test_of q a x) (size q a x) + 1 in
      let second = code q (j + 1 + 1) b y in
      tested_fine (test_of q a x) (code q k a x) j (instr.PushBool true ∷ []) 1 second (size q b y) (test_fine around a x p.left_is f.0)
      (λ none. code_fine around k a x types.Bool p.left_is f.0 (λ e. let n = accs e in omega (arith, n)) (omega (arith, room, ap (λ v. unless_tested v (size q a x)) none)))
      refl (code_fine around (j + 1 + 1) b y types.Bool p.right_is f.1 (λ e. let n = accs e in omega (arith, n)) (omega (arith, room))) (omega (arith, room))
  code_fine around k a e t h l accs room = refl

  -- ---- sections

  pub condition_fine : (around : Around) (k a : ℕ) (o : Option Expr) → ConditionTyped q around o → condition_numbers o ≡ true → (around ≡ InColumn → a + condition_aggregates o ≤ length head.kinds) → k + condition_size q a o < 65536 →
      AllFine (condition_code q k a o ++ instr.Return ∷ [])
  condition_fine around k a o h l accs room = grind (arith, fine_both, code_fine)

  pub folds_fine : (k a : ℕ) (accs : List Acc) → AccsTyped q b accs → operands_fit accs ≡ true → a + length accs ≤ length head.kinds → k + folds_size q accs < 65536 → AllFine (folds q k a accs)
  folds_fine k a [] h l n room = refl
  folds_fine k a (acc ∷ accs) h l n room =
      let e = acc.operand in
      let p = and_parts (numbers_fit e) (operands_fit accs) l in
      let rest = folds q (k + size q 0 e + 1) (suc a) accs in
      fine_both (code q k 0 e) (instr.Fold a ∷ rest) (code_fine InAggregate k 0 e (kind_type acc.kind) h.0 p.0 (λ e. no (ap in_column e)) (omega (arith, room)))
      (and_from (is_instr head (instr.Fold a)) (list_all (is_instr head) rest) (lt-ltb a (length head.kinds) (omega (arith, n))) (folds_fine (k + size q 0 e + 1) (suc a) accs h.1 p.1 (omega (arith, n)) (omega (arith, room))))

  -- HAVING's aggregates are behind those of the columns
  pub columns_fine : (h k a : ℕ) (es : List Expr) → ColumnsTyped q es → ConditionTyped q InColumn q.having → list_all numbers_fit es ≡ true → condition_numbers q.having ≡ true → a + aggregates_of es ≤ h →
      h + condition_aggregates q.having ≤ length head.kinds → k + columns_size q h a es < 65536 → AllFine (columns_code q h k a es)
  columns_fine h k a [] hc having l m before n room = condition_fine InColumn k h q.having having m (λ e. n) (omega (arith, room, ended_size q h q.having))
  columns_fine h k a (e ∷ es) hc having l m before n room =
      let p = and_parts (numbers_fit e) (list_all numbers_fit es) l in
      fine_both (code q k a e) (columns_code q h (k + size q a e) (a + aggregates e) es)
      (code_fine InColumn k a e hc.0.0 hc.0.1 p.0 (λ c. omega (arith, before, n)) (omega (arith, room))) (columns_fine h (k + size q a e) (a + aggregates e) es hc.1 having p.1 m (omega (arith, before)) n (omega (arith, room)))
