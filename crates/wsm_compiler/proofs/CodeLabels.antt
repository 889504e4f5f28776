-- The code of an expression of a type: the verifier finds a fault in it, or knows its value behind it as it is found by structure.
use Rattle.std.proofs.Common.{◌≡◌, ℕ, ◌+◌, ◌≤◌, ◌<◌, true, false, List, [], ◌∷◌, ◌++◌, length, Some, Ok, refl, sym, ap, subst, ◌∙◌, arith, length-append}
use Rattle.std.proofs.lemmas.Option.{same_Some}
use Rattle.wsm_program.specs.declared.instr.Instr.TheVariants as instr
use Rattle.wsm_query.specs.Tree.{Query, Expr, Number, Truth, Field, Key, Count, Aggregate, If, Brackets, Minus, Not, Binary, And, Or}
use Rattle.wsm_record.specs.declared.words.CellType.{CellType}
use Rattle.wsm_record.specs.declared.words.CellType.TheVariants as types
use Rattle.wsm_check.specs.Types.{typed, op_ty}
use Rattle.wsm_check.specs.declared.types.Around.{Around}
use Rattle.wsm_record.specs.Schema.{DeclaredField}
use Rattle.wsm_program.specs.Instructions.{may_stand}
use Rattle.wsm_check.specs.Tested.{unless_tested}
use Rattle.wsm_program.specs.declared.instr.FieldTest.{FieldTest}
use Rattle.wsm_check.specs.Aggregates.{aggregates, accumulators_of}
use Rattle.wsm_rules.specs.declared.known.Known.{Known}
use Rattle.wsm_rules.specs.declared.known.Known.TheVariants as known
use Rattle.wsm_rules.specs.Labels.{State, same_type}
use Rattle.wsm_rules.specs.Rules.{Setting, and_then, known_fields}
use Rattle.wsm_compiler.specs.TermCode.{instruction}
use Rattle.wsm_compiler.specs.Code.{code, size, need, test_of}
use Rattle.wsm_compiler.specs.Ranges.{where_true, where_false, range_on}
use Rattle.wsm_compiler.proofs.Parts.{Labelled}
use Rattle.wsm_compiler.proofs.Tests.{with_known, pushed_on}
use Rattle.wsm_compiler.proofs.Choices.{with_fields}
use Rattle.wsm_compiler.proofs.TestedChoices.{pushed_bind, tested_choice}
use Rattle.wsm_compiler.proofs.NarrowedFields.{Narrows, as_declared, true_narrows, false_narrows, true_known, false_known}
use Rattle.wsm_compiler.proofs.Sizes.{length-code, some_size, some_need, some_code}
use Rattle.wsm_compiler.proofs.Found.{of_instr, known_true, known_false, found, push_int, push_bool, push_enum, push_field, push_key, push_acc, push_count, make_neg, make_not, make_op, follow}
use Rattle.wsm_compiler.proofs.FoundRanges.{known_same, known_truth}
use Rattle.wsm_compiler.proofs.ExpressionRanges.{two_types, if_types, logic_types, unary_is, tested_int, Reads, AccsIn, in_left, in_right, three_accs, found_on}

-- what two expressions of one type are found to be is of one type
same_found : (c : Setting) (q : Query) (around : Around) → Reads c q around → (d1 d2 : List DeclaredField) → Narrows q d1 → Narrows q d2 → (a b : ℕ) (x y : Expr) (t : CellType) → typed q around x ≡ Ok t → typed q around y ≡ Ok t →
    AccsIn c q around a (accumulators_of x) → AccsIn c q around b (accumulators_of y) → (f1 f2 : List Known) → f1 ≡ known_fields 0 d1 → f2 ≡ known_fields 0 d2 →
    (u v : Known) → found c q f1 a x ≡ Some u → found c q f2 b y ≡ Some v → same_type v u ≡ true
same_found c q around reads d1 d2 n1 n2 a b x y t hx hy ax ay f1 f2 e1 e2 u v eu ev =
    known_same t (range_on q d1 x) (range_on q d2 y) u v
    (sym (ap (λ f. found c q f a x) e1 ∙ found_on c q around reads d1 n1 a x t hx ax) ∙ eu) (sym (ap (λ f. found c q f b y) e2 ∙ found_on c q around reads d2 n2 b y t hy ay) ∙ ev)

is_truth : (c : Setting) (q : Query) (around : Around) → Reads c q around → (ds : List DeclaredField) → Narrows q ds → (a : ℕ) (x : Expr) → typed q around x ≡ Ok types.Bool → AccsIn c q around a (accumulators_of x) →
    (fs : List Known) → fs ≡ known_fields 0 ds → (u : Known) → found c q fs a x ≡ Some u → u ≡ known.Truth
is_truth c q around reads ds n a x h accs fs is u e = known_truth (range_on q ds x) u (sym (ap (λ f. found c q f a x) is ∙ found_on c q around reads ds n a x types.Bool h accs) ∙ e)

-- a truth that an expression is found to be
truth_same : (u v : Known) → u ≡ known.Truth → Some known.Truth ≡ Some v → same_type v u ≡ true
truth_same u v is l = ap (λ z. same_type z u) (sym (same_Some known.Truth v l)) ∙ ap (same_type known.Truth) is

same_truth : (u v : Known) → v ≡ known.Truth → Some known.Truth ≡ Some u → same_type v u ≡ true
same_truth u v is l = ap (same_type v) (sym (same_Some known.Truth u l)) ∙ ap (λ z. same_type z known.Truth) is

module _ (e : State) (c : Setting) (q : Query) (around : Around) (reads : Reads c q around) where
  -- a field that is tested may be read
  stands : (a : ℕ) (b : Expr) → typed q around b ≡ Ok types.Bool → (t : FieldTest) → test_of q a b ≡ Some t → may_stand c.section (instr.Field t.field) ≡ true
  stands a b h t l =
      let f = tested_int q around a b types.Bool t l h in
      subst (λ g. may_stand c.section (instr.Field g) ≡ true) f.place (reads.field f.name types.Int f.type)

  pub labelled_on : (ds : List DeclaredField) → Narrows q ds → (k a : ℕ) (x : Expr) (t : CellType) (s : State) → s.fields ≡ known_fields 0 ds → typed q around x ≡ Ok t → AccsIn c q around a (accumulators_of x) →
      length s.stack + need q a x ≤ 32 → k + size q a x < c.n → Labelled e c k (code q k a x) s (pushed_on s (found c q s.fields a x))
  labelled_on ds nd k a (Number n) t s is h accs room more = push_int e c k s (omega (arith, room)) (omega (arith, more)) n
  labelled_on ds nd k a (Truth b) t s is h accs room more = push_bool e c k s (omega (arith, room)) (omega (arith, more)) b
  labelled_on ds nd k a (Field x) t s is h accs room more = push_field e c k s (omega (arith, room)) (omega (arith, more)) _
  labelled_on ds nd k a Key t s is h accs room more = push_key e c k s (omega (arith, room)) (omega (arith, more))
  labelled_on ds nd k a Count t s is h accs room more = push_count e c k s (omega (arith, room)) (omega (arith, more))
  labelled_on ds nd k a (Aggregate kind x) t s is h accs room more = push_acc e c k s (omega (arith, room)) (omega (arith, more)) a
  labelled_on ds nd k a (If b x y) t s is h accs room more =
      let p = if_types q around b x y t h in
      let ac = three_accs c q around a b x y accs in
      let w = test_of q a b in
      let i = k + unless_tested w (size q a b) in
      let ax = a + aggregates b in
      let ay = a + (aggregates b + aggregates x) in
      let first = code q (i + 1) ax x in
      let second = code q (i + 1 + size q ax x + 1) ay y in
      let fy = known_true w s.fields in
      let fn = known_false w s.fields in
      let iy : fy ≡ known_fields 0 (where_true w ds) = ap (known_true w) is ∙ true_known w ds in
      let in' : fn ≡ known_fields 0 (where_false w ds) = ap (known_false w) is ∙ false_known w ds in
      let ny = true_narrows w nd in
      let nn = false_narrows w nd in
      tested_choice e c w k (size q a b) (size q ax x) (size q ay y) (code q k a b) first second s (found c q s.fields a b) (found c q fy ax x) (found c q fn ay y)
      (stands a b p.test_is) (is_truth c q around reads ds nd a b p.test_is ac.test s.fields is) (length-code q k a b) (some_code q k a b)
      (λ none. labelled_on ds nd k a b types.Bool s is p.test_is ac.test (omega (arith, room, ap (λ v. unless_tested v (need q a b)) none)) (omega (arith, more, ap (λ v. unless_tested v (size q a b)) none)))
      (length-code q (i + 1) ax x) (length-code q (i + 1 + size q ax x + 1) ay y) (some_size q ax x) (some_size q ay y) (omega (arith, more)) (omega (arith, room, some_need q ax x))
      (same_found c q around reads (where_true w ds) (where_false w ds) ny nn ax ay x y t p.first_is p.second_is ac.first ac.second fy fn iy in')
      (labelled_on (where_true w ds) ny (i + 1) ax x t (with_fields fy s) iy p.first_is ac.first (omega (arith, room)) (omega (arith, more)))
      (labelled_on (where_false w ds) nn (i + 1 + size q ax x + 1) ay y t (with_fields fn s) in' p.second_is ac.second (omega (arith, room)) (omega (arith, more)))
  labelled_on ds nd k a (Brackets x) t s is h accs room more = labelled_on ds nd k a x t s is h accs room more
  labelled_on ds nd k a (Minus x) t s is h accs room more =
      let u = unary_is q around x types.Int t h in
      subst (λ o. Labelled e c k (code q k a x ++ instr.Neg ∷ []) s o) (pushed_bind s (λ v. of_instr c instr.Neg (v ∷ [])) (found c q s.fields a x))
      (follow e c k (size q a x) (code q k a x) (instr.Neg ∷ []) s (found c q s.fields a x) (λ v. pushed_on s (of_instr c instr.Neg (v ∷ []))) (length-code q k a x) (some_code q k a x) (omega arith)
      (labelled_on ds nd k a x types.Int s is u.0 accs room (omega (arith, more)))
      (λ v ev. make_neg e c (k + size q a x) s (omega (arith, room, some_need q a x)) (omega (arith, more)) v))
  labelled_on ds nd k a (Not x) t s is h accs room more =
      let u = unary_is q around x types.Bool t h in
      subst (λ o. Labelled e c k (code q k a x ++ instr.Not ∷ []) s o) (pushed_bind s (λ v. of_instr c instr.Not (v ∷ [])) (found c q s.fields a x))
      (follow e c k (size q a x) (code q k a x) (instr.Not ∷ []) s (found c q s.fields a x) (λ v. pushed_on s (of_instr c instr.Not (v ∷ []))) (length-code q k a x) (some_code q k a x) (omega arith)
      (labelled_on ds nd k a x types.Bool s is u.0 accs room (omega (arith, more)))
      (λ v ev. make_not e c (k + size q a x) s (omega (arith, room, some_need q a x)) (omega (arith, more)) v))
  labelled_on ds nd k a (Binary op x y) t s is h accs room more =
      let p = two_types q around x y (op_ty op) t h in
      let i = k + size q a x in
      let b = a + aggregates x in
      let fx = found c q s.fields a x in
      let fy = found c q s.fields b y in
      let right = code q i b y in
      let last = instruction op ∷ [] in
      let l = length-append right last in
      let inner : (u : Known) → Labelled e c i (right ++ last) (with_known u s) (and_then (λ v. pushed_on s (of_instr c (instruction op) (v ∷ u ∷ []))) fy) =
      λ u. follow e c i (size q b y) right last (with_known u s) fy (λ v. pushed_on s (of_instr c (instruction op) (v ∷ u ∷ []))) (length-code q i b y) (some_code q i b y) (omega arith)
      (labelled_on ds nd i b y p.right (with_known u s) is p.right_is (in_right c q around a x y accs) (omega (arith, room)) (omega (arith, more)))
      (λ v ev. make_op e c (i + size q b y) s (omega (arith, room)) (omega (arith, more)) op u v) in
      subst (λ o. Labelled e c k (code q k a x ++ (right ++ last)) s o)
      ((λ j. and_then (λ u. pushed_bind s (λ v. of_instr c (instruction op) (v ∷ u ∷ [])) fy j) fx) ∙ pushed_bind s (λ u. and_then (λ v. of_instr c (instruction op) (v ∷ u ∷ [])) fy) fx)
      (follow e c k (size q a x) (code q k a x) (right ++ last) s fx (λ u. and_then (λ v. pushed_on s (of_instr c (instruction op) (v ∷ u ∷ []))) fy) (length-code q k a x) (some_code q k a x) (omega (arith, l))
      (labelled_on ds nd k a x p.left s is p.left_is (in_left c q around a x y accs) (omega (arith, room)) (omega (arith, more)))
      (λ u eu. inner u))
  labelled_on ds nd k a (And x y) t s is h accs room more =
      let p = logic_types q around x y t h in
      let w = test_of q a x in
      let i = k + unless_tested w (size q a x) in
      let b = a + aggregates x in
      let left = in_left c q around a x y accs in
      let right = in_right c q around a x y accs in
      let first = code q (i + 1) b y in
      let second = instr.PushBool false ∷ [] in
      let fy = known_true w s.fields in
      let fn = known_false w s.fields in
      let iy : fy ≡ known_fields 0 (where_true w ds) = ap (known_true w) is ∙ true_known w ds in
      let ny = true_narrows w nd in
      tested_choice e c w k (size q a x) (size q b y) 1 (code q k a x) first second s (found c q s.fields a x) (found c q fy b y) (Some known.Truth)
      (stands a x p.left_is) (is_truth c q around reads ds nd a x p.left_is left s.fields is) (length-code q k a x) (some_code q k a x)
      (λ none. labelled_on ds nd k a x types.Bool s is p.left_is left (omega (arith, room, ap (λ v. unless_tested v (need q a x)) none)) (omega (arith, more, ap (λ v. unless_tested v (size q a x)) none)))
      (length-code q (i + 1) b y) refl (some_size q b y) (omega arith) (omega (arith, more)) (omega (arith, room, some_need q b y))
      (λ u v eu ev. truth_same u v (is_truth c q around reads (where_true w ds) ny b y p.right_is right fy iy u eu) ev)
      (labelled_on (where_true w ds) ny (i + 1) b y types.Bool (with_fields fy s) iy p.right_is right (omega (arith, room)) (omega (arith, more)))
      (push_bool e c (i + 1 + size q b y + 1) (with_fields fn s) (omega (arith, room, some_need q b y)) (omega (arith, more)) false)
  labelled_on ds nd k a (Or x y) t s is h accs room more =
      let p = logic_types q around x y t h in
      let w = test_of q a x in
      let i = k + unless_tested w (size q a x) in
      let b = a + aggregates x in
      let left = in_left c q around a x y accs in
      let right = in_right c q around a x y accs in
      let first = instr.PushBool true ∷ [] in
      let second = code q (i + 1 + 1 + 1) b y in
      let fy = known_true w s.fields in
      let fn = known_false w s.fields in
      let in' : fn ≡ known_fields 0 (where_false w ds) = ap (known_false w) is ∙ false_known w ds in
      let nn = false_narrows w nd in
      tested_choice e c w k (size q a x) 1 (size q b y) (code q k a x) first second s (found c q s.fields a x) (Some known.Truth) (found c q fn b y)
      (stands a x p.left_is) (is_truth c q around reads ds nd a x p.left_is left s.fields is) (length-code q k a x) (some_code q k a x)
      (λ none. labelled_on ds nd k a x types.Bool s is p.left_is left (omega (arith, room, ap (λ v. unless_tested v (need q a x)) none)) (omega (arith, more, ap (λ v. unless_tested v (size q a x)) none)))
      refl (length-code q (i + 1 + 1 + 1) b y) (omega arith) (some_size q b y) (omega (arith, more)) (omega (arith, room, some_need q b y))
      (λ u v eu ev. same_truth u v (is_truth c q around reads (where_false w ds) nn b y p.right_is right fn in' v ev) eu)
      (push_bool e c (i + 1) (with_fields fy s) (omega (arith, room, some_need q b y)) (omega (arith, more)) true)
      (labelled_on (where_false w ds) nn (i + 1 + 1 + 1) b y types.Bool (with_fields fn s) in' p.right_is right (omega (arith, room)) (omega (arith, more)))
  labelled_on ds nd k a x t s is h accs room more = push_enum e c k s (omega (arith, room)) (omega (arith, more)) _ _

  -- where the fields are as they are declared
  pub labelled : (k a : ℕ) (x : Expr) (t : CellType) (s : State) → s.fields ≡ known_fields 0 q.fields → typed q around x ≡ Ok t → AccsIn c q around a (accumulators_of x) → length s.stack + need q a x ≤ 32 → k + size q a x < c.n →
      Labelled e c k (code q k a x) s (pushed_on s (found c q s.fields a x))
  labelled k a x t s is h accs room more = labelled_on q.fields (as_declared q) k a x t s is h accs room more
