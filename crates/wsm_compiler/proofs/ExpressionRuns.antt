-- The code of an expression leads to its bounded meaning, or traps where it has none.
use Rattle.std.proofs.Common.{◌≡◌, ℕ, suc, ◌+◌, ◌<◌, Bool, true, false, ◌&&◌, not, cond, List, [], ◌∷◌, ◌++◌, length, Option, Some, None, Ok, refl, sym, ap, subst, ◌∙◌, arith}
use Rattle.std.proofs.lemmas.Bool.{true≢false, and_parts}
use Rattle.std.specs.Prelude.{ℤ, nat_lt, is_some, option_map, slice_get}
use Rattle.wsm_record.specs.declared.event.Value.{Value}
use Rattle.wsm_record.specs.declared.event.Value.TheVariants.{Int, Bool as Truth', Enum}
use Rattle.wsm_record.specs.declared.words.Kind.{Kind}
use Rattle.wsm_record.specs.declared.words.Kind.TheVariants.{Sum, Min, Max, Any, All}
use Rattle.wsm_record.specs.Name.{is_among}
use Rattle.wsm_program.specs.declared.instr.Instr.{Instr}
use Rattle.wsm_program.specs.declared.instr.Instr.TheVariants as instr
use Rattle.wsm_record.specs.declared.cell.Cell.{Cell}
use Rattle.wsm_record.specs.declared.cell.Cell.TheVariants as cells
use Rattle.wsm_machine.specs.declared.outcome.Trap.TheVariants.{Underflow, StackFull, IntOverflow, WrongSection}
use Rattle.wsm_program.specs.Instructions.{may_stand, passes}
use Rattle.wsm_machine.specs.Step.{Setting, State, Next, Goes, cell_of, overflows, push_on, step, unless}
use Rattle.wsm_record.specs.Schema.{FieldType}
use Rattle.wsm_query.specs.Tree.{Query, Expr, Number, Truth, Field, EnumName, Key, KeyName, Count, Aggregate, If, Brackets, Minus, Not, Binary, And, Or}
use Rattle.wsm_check.specs.Names.{place_of, field_names, field_place, name_place, type_of, names_of}
use Rattle.wsm_record.specs.declared.words.CellType.{CellType}
use Rattle.wsm_record.specs.declared.words.CellType.TheVariants as types
use Rattle.wsm_record.specs.Types.{kind_type}
use Rattle.wsm_check.specs.Types.{declared_ty, op_ty, typed}
use Rattle.wsm_check.specs.declared.types.Around.{Around}
use Rattle.wsm_check.specs.declared.types.Around.TheVariants.{InColumn, InAggregate}
use Rattle.wsm_check.specs.Aggregates.{accumulators_of, aggregates}
use Rattle.wsm_check.specs.Spelt.{numbers_fit}
use Rattle.wsm_check.specs.Tested.{unless_tested}
use Rattle.wsm_program.specs.declared.instr.FieldTest.{FieldTest}
use Rattle.wsm_compiler.specs.Meaning.{Scene, on_two, both, minus, negated, chosen}
use Rattle.wsm_compiler.specs.Bounded.{kept, bounded_from}
use Rattle.wsm_compiler.specs.TermCode.{choice, test_code, jump_unless, instruction}
use Rattle.wsm_compiler.specs.Code.{code, size, need, test_of}
use Rattle.wsm_compiler.specs.Runs.{of_ty, cell, Serves, ServesAccs, state, topped, Gives, StandsAt, CodeRuns}
use Rattle.wsm_machine.proofs.FittingStacks.{no}
use Rattle.wsm_compiler.proofs.Sizes.{length-code, length-test_code, some_size, some_need}
use Rattle.wsm_compiler.proofs.FoundRanges.{ok_is, op_typed, result_of}
use Rattle.wsm_compiler.proofs.ExpressionRanges.{cond_ok, field_is, entered_is, op_is, two_types, if_types, logic_types, unary_is, tested_int}
use Rattle.wsm_compiler.proofs.KnownFields.{is_fine, not_in_column}
use Rattle.wsm_compiler.proofs.Values.{serves_left, serves_right, value_has}
use Rattle.wsm_compiler.proofs.Machine.{bind, step_is, has_room, number_gives, run_goes, push_int, push_bool, push_enum, push_key, one_type, op_gives, neg_gives, not_gives, jump_goes, choose, choose_test}
use Rattle.wsm_compiler.proofs.TestedValues.{word_kept, tested_value}
use Rattle.wsm_compiler.proofs.Choices.{not_under}

-- ---- places

pub stands_moved : (section : List Instr) (is : List Instr) (j k : ℕ) → j ≡ k → StandsAt section j is → StandsAt section k is
stands_moved section is j k e h = subst (λ n. StandsAt section n is) e h

-- a part that stands at a place, and what stands behind it
pub split : (section xs ys : List Instr) (k : ℕ) → StandsAt section k (xs ++ ys) → StandsAt section k xs × StandsAt section (k + length xs) ys
split section [] ys k h = (tt, let e : k ≡ k + 0 = omega arith in stands_moved section ys k (k + 0) e h)
split section (x ∷ xs) ys k h =
    let rest = split section xs ys (k + 1) h.1 in
    let e : k + 1 + length xs ≡ k + suc (length xs) = omega arith in
    ((h.0, rest.0), stands_moved section ys (k + 1 + length xs) (k + suc (length xs)) e rest.1)

pub split_code : (q : Query) (section : List Instr) (k a : ℕ) (e : Expr) (ys : List Instr) → StandsAt section k (code q k a e ++ ys) → StandsAt section k (code q k a e) × StandsAt section (k + size q a e) ys
split_code q section k a e ys h = grind (arith, split, stands_moved, length-code)

-- a test, where it has code, and what stands behind it
pub split_test : (q : Query) (section : List Instr) (k a : ℕ) (e : Expr) (ys : List Instr) → StandsAt section k (test_code (test_of q a e) (code q k a e) ++ ys) →
    (test_of q a e ≡ None → StandsAt section k (code q k a e)) × StandsAt section (k + unless_tested (test_of q a e) (size q a e)) ys
split_test q section k a e ys h = grind (arith, split, length-test_code, length-code, stands_moved)

-- ---- what is read

-- the step of an instruction that pushes what it reads, if it is there
abbrev reads : Bool → ℕ → List Cell → List (Option Value) → Option Cell → Next
reads stands k stack folds o =
    unless (cond (not stands) (Some WrongSection) (cond (nat_lt (length stack) 0) (Some Underflow) (cond (overflows o) (Some IntOverflow) (cond (is_some o && nat_lt 31 (length stack)) (Some StackFull) None))))
    (Goes (state (k + 1) (push_on o stack) folds))

read_gives : (c : Setting) (k : ℕ) (stack : List Cell) (folds : List (Option Value)) (room : length stack < 32) (i : Instr) (t : CellType) (v : Value) (b : Bool) → of_ty t (Some v) ≡ true → slice_get c.code k ≡ Some i → b ≡ true →
    step c (state k stack folds) i ≡ reads b k stack folds (Some (cell t v)) → Gives c (state k stack folds) (topped (k + 1) stack folds t (kept (Some v)))
read_gives c k stack folds room i types.Int (Int n) b h at l e =
    number_gives c k stack folds room (state k stack folds) i n _ at
    (e ∙ step_is b (nat_lt (length stack) 0) _ (nat_lt 31 (length stack)) (Goes (state (k + 1) (cells.Int n ∷ stack) folds)) l (not_under (length stack)) (has_room (length stack) room))
read_gives c k stack folds room i types.Bool (Truth' v) b h at l e =
    run_goes c (state k stack folds) (state (k + 1) (cells.Bool v ∷ stack) folds) i at
    (e ∙ step_is b (nat_lt (length stack) 0) false (nat_lt 31 (length stack)) (Goes (state (k + 1) (cells.Bool v ∷ stack) folds)) l (not_under (length stack)) (has_room (length stack) room))
read_gives c k stack folds room i (types.Enum d) (Enum n) b h at l e =
    run_goes c (state k stack folds) (state (k + 1) (cells.Enum d n ∷ stack) folds) i at
    (e ∙ step_is b (nat_lt (length stack) 0) false (nat_lt 31 (length stack)) (Goes (state (k + 1) (cells.Enum d n ∷ stack) folds)) l (not_under (length stack)) (has_room (length stack) room))
read_gives c k stack folds room i t v b h at l e = no h

-- a field's value as the machine holds it
field_cell : (f : ℕ) (ty : FieldType) (v : Value) → of_ty (declared_ty f ty) (Some v) ≡ true → cell_of (f + 1) v ≡ cell (declared_ty f ty) v
field_cell f ty v h = grind arith

-- an accumulator's
folded_cell : (kind : Kind) (v : Value) → of_ty (kind_type kind) (Some v) ≡ true → cell_of 0 v ≡ cell (kind_type kind) v
folded_cell kind (Int n) h = number kind n h
  where
    number : (kind : Kind) (n : ℤ) → of_ty (kind_type kind) (Some (Int n)) ≡ true → cells.Int n ≡ cell (kind_type kind) (Int n)
    number Sum n h = refl
    number Min n h = refl
    number Max n h = refl
    number Any n h = refl
    number All n h = refl
folded_cell kind (Truth' b) h = truth kind b h
  where
    truth : (kind : Kind) (b : Bool) → of_ty (kind_type kind) (Some (Truth' b)) ≡ true → cells.Bool b ≡ cell (kind_type kind) (Truth' b)
    truth Sum b h = refl
    truth Min b h = refl
    truth Max b h = refl
    truth Any b h = refl
    truth All b h = refl
folded_cell kind (Enum i) h = name kind i h
  where
    name : (kind : Kind) (i : ℕ) → of_ty (kind_type kind) (Some (Enum i)) ≡ true → cells.Enum 0 i ≡ cell (kind_type kind) (Enum i)
    name Sum i h = no h
    name Min i h = no h
    name Max i h = no h
    name Any i h = no h
    name All i h = no h

-- no field is read in a column
in_column_not : (q : Query) (around : Around) (x : List ℕ) (t : CellType) → around ≡ InColumn → typed q around (Field x) ≡ Ok t → ⊥
in_column_not q around x t e h = true≢false (sym (ap is_fine (subst (λ r. typed q r (Field x) ≡ Ok t) e h)) ∙ not_in_column (is_among x (field_names q.fields)) (declared_ty (field_place q.fields x) (type_of x q.fields)))

pub has_value : (t : CellType) (o : Option Value) (v : Value) → of_ty t o ≡ true → o ≡ Some v → of_ty t (Some v) ≡ true
has_value t o v h e = ap (of_ty t) (sym e) ∙ h

jump_behind : (c : Setting) (s : State) (k t : ℕ) (stack : List Cell) (folds : List (Option Value)) (ty : CellType) (o : Option Value) → Gives c s (topped k stack folds ty o) → slice_get c.code k ≡ Some (instr.Jump t) → k < t → t < length c.code → Gives c s (topped t stack folds ty o)
jump_behind c s k t stack folds ty o h at l m = bind c s k stack folds ty (topped t stack folds ty) refl o h (λ v e. jump_goes c k t (cell ty v ∷ stack) folds at l m)

at_place : (c : Setting) (s : State) (j k : ℕ) (stack : List Cell) (folds : List (Option Value)) (t : CellType) (o : Option Value) → j ≡ k → Gives c s (topped j stack folds t o) → Gives c s (topped k stack folds t o)
at_place c s j k stack folds t o e h = subst (λ n. Gives c s (topped n stack folds t o)) e h

at_type : (c : Setting) (s : State) (k : ℕ) (stack : List Cell) (folds : List (Option Value)) (u t : CellType) (o : Option Value) → u ≡ t → Gives c s (topped k stack folds u o) → Gives c s (topped k stack folds t o)
at_type c s k stack folds u t o e h = subst (λ x. Gives c s (topped k stack folds x o)) e h

module _ (c : Setting) (q : Query) (around : Around) (s : Scene) (serves : Serves c q around s) where
  abbrev value : ℕ → Expr → Option Value
  value a e = bounded_from q s a e

  -- a test and the jump behind it, or the jump alone that makes the test, lead to the first part or to the second
  tested_runs : (k a : ℕ) (e : Expr) (w : Option FieldTest) → test_of q a e ≡ w → (i j end : ℕ) (t : CellType) (u v : Option Value) (stack : List Cell) (folds : List (Option Value)) → i ≡ k + unless_tested w (size q a e) →
      typed q around e ≡ Ok types.Bool → ((around ≡ InColumn → ⊥) → numbers_fit e ≡ true) → of_ty types.Bool (value a e) ≡ true → (test_of q a e ≡ None → Gives c (state k stack folds) (topped (k + size q a e) stack folds types.Bool (value a e))) →
      slice_get c.code i ≡ Some (jump_unless w j) → i < j → j < length c.code → Gives c (state (i + 1) stack folds) (topped end stack folds t u) → Gives c (state j stack folds) (topped end stack folds t v) →
      Gives c (state k stack folds) (topped end stack folds t (chosen (value a e) u v))
  tested_runs k a e None is i j end t u v stack folds place h fit has runs at l n gu gv =
      bind c (state k stack folds) i stack folds types.Bool (λ o. topped end stack folds t (chosen o u v)) refl (value a e)
      (at_place c (state k stack folds) (k + size q a e) i stack folds types.Bool (value a e) (sym place) (runs is))
      (λ z ez. choose c i j stack folds end t u v z (has_value types.Bool (value a e) z has ez) at l n gu gv)
  tested_runs k a e (Some x) is i j end t u v stack folds place h fit has runs at l n gu gv =
      let g = tested_int q around a e types.Bool x is h in
      let r = serves.field g.name types.Int g.type in
      let outside : around ≡ InColumn → ⊥ = λ z. in_column_not q around g.name types.Int z g.type in
      let here : i ≡ k = omega (arith, place) in
      of_number r.0 r.2 (ap s.field (sym g.place) ∙ r.1) (ap (slice_get c.inputs.values) (sym g.place) ∙ r.3) r.4 outside here
    where
      of_number : (y : Value) → of_ty types.Int (Some y) ≡ true → s.field x.field ≡ Some y → slice_get c.inputs.values x.field ≡ Some y → kept (Some y) ≡ Some y → (around ≡ InColumn → ⊥) → i ≡ k →
          Gives c (state k stack folds) (topped end stack folds t (chosen (value a e) u v))
      of_number (Truth' b) ty f g w outside here = no ty
      of_number (Enum b) ty f g w outside here = no ty
      of_number (Int m) ty f g w outside here =
          subst (λ o. Gives c (state k stack folds) (topped end stack folds t (chosen o u v))) (sym (tested_value q s a e x m is f (word_kept m w) (fit outside)))
          (subst (λ z. Gives c (state z stack folds) (topped end stack folds t (chosen (Some (Truth' (passes x m))) u v))) here
          (choose_test c x m i j stack folds end t u v (serves.fields_stand x.field outside) g at l n gu gv))

  pub code_runs : (k a : ℕ) (e : Expr) → CodeRuns c q around s k a e
  code_runs k a (Number n) m t h accs at inside stack folds room =
      at_type c (state k stack folds) (k + 1) stack folds types.Int t (value a (Number n)) (ok_is types.Int t h) (push_int c k stack folds (omega (arith, room)) n at.0)
  code_runs k a (Truth b) m t h accs at inside stack folds room =
      at_type c (state k stack folds) (k + 1) stack folds types.Bool t (value a (Truth b)) (ok_is types.Bool t h) (push_bool c k stack folds (omega (arith, room)) b at.0)
  code_runs k a (Field x) m t h accs at inside stack folds room =
      let f = field_place q.fields x in
      let v = serves.field x t h in
      let ty = field_is q around x t h in
      let of_declared : of_ty (declared_ty f (type_of x q.fields)) (Some v.0) ≡ true = ap (λ u. of_ty u (Some v.0)) ty ∙ v.2 in
      let is : cell_of (f + 1) v.0 ≡ cell t v.0 = field_cell f (type_of x q.fields) v.0 of_declared ∙ ap (λ u. cell u v.0) ty in
      subst (λ o. Gives c (state k stack folds) (topped (k + 1) stack folds t (kept o))) (sym v.1)
      (read_gives c k stack folds (omega (arith, room)) (instr.Field f) t v.0 (may_stand c.section (instr.Field f)) v.2 at.0 (serves.fields_stand f (λ e. in_column_not q around x t e h))
      (ap (λ o. reads (may_stand c.section (instr.Field f)) k stack folds (option_map (cell_of (f + 1)) o)) v.3 ∙ ap (λ y. reads (may_stand c.section (instr.Field f)) k stack folds (Some y)) is))
  code_runs k a (EnumName x y) m t h accs at inside stack folds room =
      at_type c (state k stack folds) (k + 1) stack folds (types.Enum _) t (value a (EnumName x y)) (ok_is _ t (cond_ok (is_among x (field_names q.fields) && is_among y (names_of (type_of x q.fields))) _ _ t h))
      (push_enum c k stack folds (omega (arith, room)) (suc (field_place q.fields x)) (name_place q.fields x y) at.0)
  code_runs k a Key m t h accs at inside stack folds room =
      at_type c (state k stack folds) (k + 1) stack folds (types.Enum 0) t (value a Key) (ok_is _ t h)
      (subst (λ n. Gives c (state k stack folds) (Some (state (k + 1) (cells.Enum 0 n ∷ stack) folds))) (sym serves.key) (push_key c k stack folds (omega (arith, room)) at.0))
  code_runs k a (KeyName x) m t h accs at inside stack folds room =
      at_type c (state k stack folds) (k + 1) stack folds (types.Enum 0) t (value a (KeyName x)) (ok_is _ t (cond_ok (is_among x q.keys) _ _ t h)) (push_enum c k stack folds (omega (arith, room)) 0 (place_of x q.keys) at.0)
  code_runs k a Count m t h accs at inside stack folds room =
      let e = entered_is around (Ok types.Int) t h in
      at_type c (state k stack folds) (k + 1) stack folds types.Int t (value a Count) (ok_is types.Int t e.1)
      (subst (λ o. Gives c (state k stack folds) (topped (k + 1) stack folds types.Int (kept o))) (sym (serves.count e.0))
      (read_gives c k stack folds (omega (arith, room)) instr.Count types.Int (Int c.inputs.count) (may_stand c.section instr.Count) refl at.0 (serves.count_stands e.0) refl))
  code_runs k a (Aggregate kind e) m t h accs at inside stack folds room =
      let i = entered_is around _ t h in
      let u = unary_is q InAggregate e (kind_type kind) t i.1 in
      let first : a + 0 ≡ a = omega arith in
      let g = accs i.0 0 (record { kind = kind; operand = e }) refl in
      let there : s.aggregate a kind e ≡ Some g.0 = ap (λ n. s.aggregate n kind e) (sym first) ∙ g.1 in
      let held : slice_get c.inputs.accs a ≡ Some g.0 = ap (λ n. slice_get c.inputs.accs n) (sym first) ∙ g.3 in
      at_type c (state k stack folds) (k + 1) stack folds (kind_type kind) t (value a (Aggregate kind e)) u.1
      (subst (λ o. Gives c (state k stack folds) (topped (k + 1) stack folds (kind_type kind) (kept o))) (sym there)
      (read_gives c k stack folds (omega (arith, room)) (instr.Acc a) (kind_type kind) g.0 (may_stand c.section (instr.Acc a)) g.2 at.0 (serves.accs_stand a i.0)
      (ap (λ o. reads (may_stand c.section (instr.Acc a)) k stack folds (option_map (cell_of 0) o)) held ∙ ap (λ y. reads (may_stand c.section (instr.Acc a)) k stack folds (Some y)) (folded_cell kind g.0 g.2))))
  code_runs k a (If b x y) m t h accs at inside stack folds room =
      let p = if_types q around b x y t h in
      let ax = a + aggregates b in
      let ay = a + (aggregates b + aggregates x) in
      let ub = unless_tested (test_of q a b) (size q a b) in
      let i = k + ub in
      let j = i + 1 + size q ax x + 1 in
      let end = j + size q ay y in
      let rest = serves_right c around s a b (accumulators_of x ++ accumulators_of y) accs in
      let place : ax + aggregates x ≡ ay = omega arith in
      let sb = serves_left c around s a (accumulators_of b) (accumulators_of x ++ accumulators_of y) accs in
      let sx = serves_left c around s ax (accumulators_of x) (accumulators_of y) rest in
      let sy = subst (λ n. ServesAccs c around s n (accumulators_of y)) place (serves_right c around s ax x (accumulators_of y) rest) in
      let cx = code q (i + 1) ax x in
      let cy = code q j ay y in
      let parts = split_test q c.code k a b (choice (jump_unless (test_of q a b)) (i + 1) cx (size q ax x) cy (size q ay y)) at in
      let second = split_code q c.code (i + 1) ax x (instr.Jump end ∷ cy) parts.1.1 in
      let mb : (around ≡ InColumn → ⊥) → numbers_fit b ≡ true = λ n. (and_parts (numbers_fit b) (numbers_fit x && numbers_fit y) (m n)).0 in
      let mx : (around ≡ InColumn → ⊥) → numbers_fit x ≡ true = λ n. (and_parts (numbers_fit x) (numbers_fit y) (and_parts (numbers_fit b) (numbers_fit x && numbers_fit y) (m n)).1).0 in
      let my : (around ≡ InColumn → ⊥) → numbers_fit y ≡ true = λ n. (and_parts (numbers_fit x) (numbers_fit y) (and_parts (numbers_fit b) (numbers_fit x && numbers_fit y) (m n)).1).1 in
      let over : end ≡ k + (ub + (size q ax x + size q ay y) + 2) = omega arith in
      at_place c (state k stack folds) end (k + (ub + (size q ax x + size q ay y) + 2)) stack folds t (chosen (value a b) (value ax x) (value ay y)) over
      (tested_runs k a b (test_of q a b) refl i j end t (value ax x) (value ay y) stack folds refl p.test_is mb (value_has c q around s serves a b types.Bool p.test_is sb)
      (λ none. code_runs k a b mb types.Bool p.test_is sb (parts.0 none) (omega (arith, inside, ap (λ v. unless_tested v (size q a b)) none)) stack folds (omega (arith, room, ap (λ v. unless_tested v (need q a b)) none)))
      parts.1.0 (omega arith) (omega (arith, inside, some_size q ay y))
      (jump_behind c (state (i + 1) stack folds) (i + 1 + size q ax x) end stack folds t (value ax x) (code_runs (i + 1) ax x mx t p.first_is sx second.0 (omega (arith, inside)) stack folds (omega (arith, room))) second.1.0 (omega (arith, some_size q ay y)) (omega (arith, inside)))
      (code_runs j ay y my t p.second_is sy second.1.1 (omega (arith, inside)) stack folds (omega (arith, room))))
  code_runs k a (Brackets e) m t h accs at inside stack folds room = code_runs k a e m t h accs at inside stack folds room
  code_runs k a (Minus e) m t h accs at inside stack folds room =
      let u = unary_is q around e types.Int t h in
      let i = k + size q a e in
      let parts = split_code q c.code k a e (instr.Neg ∷ []) at in
      let over : i + 1 ≡ k + (size q a e + 1) = omega arith in
      at_place c (state k stack folds) (i + 1) (k + (size q a e + 1)) stack folds t (kept (minus (value a e))) over
      (at_type c (state k stack folds) (i + 1) stack folds types.Int t (kept (minus (value a e))) u.1
      (bind c (state k stack folds) i stack folds types.Int (λ o. topped (i + 1) stack folds types.Int (kept (minus o))) refl (value a e) (code_runs k a e m types.Int u.0 accs parts.0 (omega (arith, inside)) stack folds room)
      (λ v ev. neg_gives c i stack folds (omega (arith, room, some_need q a e)) v (has_value types.Int (value a e) v (value_has c q around s serves a e types.Int u.0 accs) ev) parts.1.0)))
  code_runs k a (Not e) m t h accs at inside stack folds room =
      let u = unary_is q around e types.Bool t h in
      let i = k + size q a e in
      let parts = split_code q c.code k a e (instr.Not ∷ []) at in
      let over : i + 1 ≡ k + (size q a e + 1) = omega arith in
      at_place c (state k stack folds) (i + 1) (k + (size q a e + 1)) stack folds t (negated (value a e)) over
      (at_type c (state k stack folds) (i + 1) stack folds types.Bool t (negated (value a e)) u.1
      (bind c (state k stack folds) i stack folds types.Bool (λ o. topped (i + 1) stack folds types.Bool (negated o)) refl (value a e) (code_runs k a e m types.Bool u.0 accs parts.0 (omega (arith, inside)) stack folds room)
      (λ v ev. not_gives c i stack folds (omega (arith, room, some_need q a e)) v (has_value types.Bool (value a e) v (value_has c q around s serves a e types.Bool u.0 accs) ev) parts.1.0)))
  code_runs k a (Binary op x y) fit t h accs at inside stack folds room =
      let p = two_types q around x y (op_ty op) t h in
      let o = op_is op p.left p.right t p.both in
      let same = one_type op p.left p.right o.0 in
      let right_is = p.right_is ∙ ap Ok (sym same) in
      let typed' : op_typed op p.left p.left ≡ true = ap (op_typed op p.left) same ∙ o.0 in
      let b = a + aggregates x in
      let i = k + size q a x in
      let m = i + size q b y in
      let sx = serves_left c around s a (accumulators_of x) (accumulators_of y) accs in
      let sy = serves_right c around s a x (accumulators_of y) accs in
      let parts = split_code q c.code k a x (code q i b y ++ instruction op ∷ []) at in
      let second = split_code q c.code i b y (instruction op ∷ []) parts.1 in
      let bx = value a x in
      let by = value b y in
      let over : m + 1 ≡ k + (size q a x + size q b y + 1) = omega arith in
      at_place c (state k stack folds) (m + 1) (k + (size q a x + size q b y + 1)) stack folds t (kept (both (on_two op) bx by)) over
      (at_type c (state k stack folds) (m + 1) stack folds (result_of op) t (kept (both (on_two op) bx by)) o.1
      (bind c (state k stack folds) i stack folds p.left (λ w. topped (m + 1) stack folds (result_of op) (kept (both (on_two op) w by))) refl bx
      (code_runs k a x (λ n. (and_parts (numbers_fit x) (numbers_fit y) (fit n)).0) p.left p.left_is sx parts.0 (omega (arith, inside)) stack folds (omega (arith, room)))
      (λ v ev. bind c (state i (cell p.left v ∷ stack) folds) m (cell p.left v ∷ stack) folds p.left (λ w. topped (m + 1) stack folds (result_of op) (kept (both (on_two op) (Some v) w))) refl by
      (code_runs i b y (λ n. (and_parts (numbers_fit x) (numbers_fit y) (fit n)).1) p.left right_is sy second.0 (omega (arith, inside)) (cell p.left v ∷ stack) folds (omega (arith, room)))
      (λ w ew. op_gives c m stack folds (omega (arith, room)) op p.left v w typed' (has_value p.left bx v (value_has c q around s serves a x p.left p.left_is sx) ev) (has_value p.left by w (value_has c q around s serves b y p.left right_is sy) ew) second.1.0))))
  code_runs k a (And x y) m t h accs at inside stack folds room =
      let p = logic_types q around x y t h in
      let b = a + aggregates x in
      let ux = unless_tested (test_of q a x) (size q a x) in
      let i = k + ux in
      let j = i + 1 + size q b y + 1 in
      let sx = serves_left c around s a (accumulators_of x) (accumulators_of y) accs in
      let sy = serves_right c around s a x (accumulators_of y) accs in
      let cy = code q (i + 1) b y in
      let parts = split_test q c.code k a x (choice (jump_unless (test_of q a x)) (i + 1) cy (size q b y) (instr.PushBool false ∷ []) 1) at in
      let second = split_code q c.code (i + 1) b y (instr.Jump (j + 1) ∷ instr.PushBool false ∷ []) parts.1.1 in
      let mx : (around ≡ InColumn → ⊥) → numbers_fit x ≡ true = λ n. (and_parts (numbers_fit x) (numbers_fit y) (m n)).0 in
      let my : (around ≡ InColumn → ⊥) → numbers_fit y ≡ true = λ n. (and_parts (numbers_fit x) (numbers_fit y) (m n)).1 in
      let by = value b y in
      let no' = Some (Truth' false) in
      let over : j + 1 ≡ k + (ux + size q b y + 3) = omega arith in
      at_place c (state k stack folds) (j + 1) (k + (ux + size q b y + 3)) stack folds t (chosen (value a x) by no') over
      (at_type c (state k stack folds) (j + 1) stack folds types.Bool t (chosen (value a x) by no') p.is
      (tested_runs k a x (test_of q a x) refl i j (j + 1) types.Bool by no' stack folds refl p.left_is mx (value_has c q around s serves a x types.Bool p.left_is sx)
      (λ none. code_runs k a x mx types.Bool p.left_is sx (parts.0 none) (omega (arith, inside, ap (λ v. unless_tested v (size q a x)) none)) stack folds (omega (arith, room, ap (λ v. unless_tested v (need q a x)) none)))
      parts.1.0 (omega arith) (omega (arith, inside))
      (jump_behind c (state (i + 1) stack folds) (i + 1 + size q b y) (j + 1) stack folds types.Bool by (code_runs (i + 1) b y my types.Bool p.right_is sy second.0 (omega (arith, inside)) stack folds (omega (arith, room))) second.1.0 (omega arith) (omega (arith, inside)))
      (push_bool c j stack folds (omega (arith, room, some_need q b y)) false second.1.1.0)))
  code_runs k a (Or x y) m t h accs at inside stack folds room =
      let p = logic_types q around x y t h in
      let b = a + aggregates x in
      let ux = unless_tested (test_of q a x) (size q a x) in
      let i = k + ux in
      let j = i + 1 + 1 + 1 in
      let end = j + size q b y in
      let sx = serves_left c around s a (accumulators_of x) (accumulators_of y) accs in
      let sy = serves_right c around s a x (accumulators_of y) accs in
      let cy = code q j b y in
      let parts = split_test q c.code k a x (choice (jump_unless (test_of q a x)) (i + 1) (instr.PushBool true ∷ []) 1 cy (size q b y)) at in
      let mx : (around ≡ InColumn → ⊥) → numbers_fit x ≡ true = λ n. (and_parts (numbers_fit x) (numbers_fit y) (m n)).0 in
      let my : (around ≡ InColumn → ⊥) → numbers_fit y ≡ true = λ n. (and_parts (numbers_fit x) (numbers_fit y) (m n)).1 in
      let by = value b y in
      let yes' = Some (Truth' true) in
      let over : end ≡ k + (ux + size q b y + 3) = omega arith in
      at_place c (state k stack folds) end (k + (ux + size q b y + 3)) stack folds t (chosen (value a x) yes' by) over
      (at_type c (state k stack folds) end stack folds types.Bool t (chosen (value a x) yes' by) p.is
      (tested_runs k a x (test_of q a x) refl i j end types.Bool yes' by stack folds refl p.left_is mx (value_has c q around s serves a x types.Bool p.left_is sx)
      (λ none. code_runs k a x mx types.Bool p.left_is sx (parts.0 none) (omega (arith, inside, ap (λ v. unless_tested v (size q a x)) none)) stack folds (omega (arith, room, ap (λ v. unless_tested v (need q a x)) none)))
      parts.1.0 (omega arith) (omega (arith, inside, some_size q b y))
      (jump_behind c (state (i + 1) stack folds) (i + 1 + 1) end stack folds types.Bool yes' (push_bool c (i + 1) stack folds (omega (arith, room, some_need q b y)) true parts.1.1.0) parts.1.1.1.0 (omega (arith, some_size q b y)) (omega (arith, inside)))
      (code_runs j b y my types.Bool p.right_is sy parts.1.1.1.1 (omega (arith, inside)) stack folds (omega (arith, room)))))
