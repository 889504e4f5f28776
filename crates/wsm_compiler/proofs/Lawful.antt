-- What reading program bytes asks holds of the program of a checked query.
use Rattle.std.proofs.Common.{◌≡◌, ℕ, suc, ◌+◌, ◌≤◌, ◌<◌, true, ◌&&◌, not, List, [], ◌∷◌, ◌++◌, length, ℤ, Option, Some, None, refl, sym, ap, ◌∙◌, arith, length-append}
use Rattle.std.proofs.lemmas.List.Folds.{list_all-append}
use Rattle.std.specs.Prelude.{pos, negsuc, int_le, nat_le, nat_lt}
use Rattle.std.proofs.lemmas.List.{length-map}
use Rattle.std.specs.List.{list_all, flat_map}
use Rattle.std.proofs.lemmas.Bool.{and_from, ltb-true, and_parts, leb-true, le-leb}
use Rattle.wsm_record.specs.Name.{is_name, is_among, is_between}
use Rattle.wsm_program.specs.declared.instr.Instr.{Instr}
use Rattle.wsm_program.specs.declared.program.Costs.{Costs}
use Rattle.wsm_program.specs.Program.{Header, is_span, is_column, is_timely, is_limited, is_clock, is_firing, is_row, is_budget, is_header, is_instr, is_section, is_program}
use Rattle.wsm_record.specs.Schema.{FieldType, DeclaredField, is_field_type, is_field_after, are_fields_after, is_schema, is_spelt_type, is_spelt_field}
use Rattle.wsm_query.specs.Tree.{Name, Query, Expr, Aggregate, If, Brackets, Minus, Not, Binary, And, Or}
use Rattle.wsm_check.specs.declared.refusal.CheckFault.TheVariants.{Duplicate, Limit}
use Rattle.wsm_check.specs.declared.refusal.Part.{Part}
use Rattle.wsm_check.specs.declared.refusal.Part.TheVariants as part
use Rattle.wsm_check.specs.Types.{typed}
use Rattle.wsm_check.specs.declared.types.Around.TheVariants.{InWhere, InColumn}
use Rattle.wsm_check.specs.Aggregates.{Acc, accumulators, accumulators_of, in_option, fired}
use Rattle.wsm_check.specs.Checks.{unless, first, ty_refusal, field_refusal, fields_refusal, every_fits, typed_refusal, columns_refusal}
use Rattle.wsm_compiler.specs.Code.{where_section, update_section, fire_section}
use Rattle.wsm_check.specs.Spelt.{numbers_fit, IsSpelt}
use Rattle.wsm_compiler.specs.Lawful.{IsLawful}
use Rattle.wsm_check.specs.Parts.{aggregates_of, column_type, folding, schema_of}
use Rattle.wsm_compiler.specs.Program.{every, stated, needed_of, program_of}
use Rattle.wsm_machine.proofs.FittingStacks.{no}
use Rattle.wsm_compiler.proofs.QueryTerms.{kinds_are, ended_size}
use Rattle.wsm_compiler.proofs.Sizes.{sizes_are_lengths}
use Rattle.wsm_compiler.proofs.KnownFields.{in_column}
use Rattle.wsm_compiler.proofs.Passed.{Passed, passed, unless_none}
use Rattle.wsm_compiler.proofs.Checked.{Fine, fine}
use Rattle.wsm_compiler.proofs.DeclaredNames.{names_listed, sources_listed}
use Rattle.wsm_compiler.proofs.Operands.{condition_numbers, condition_aggregates, operands_fit, condition_fine, folds_fine, columns_fine, columns_named}
use Rattle.wsm_compiler.proofs.Costs.{budget_is}
use Rattle.wsm_check.proofs.ChecksInOrder.{passed_both}
use Rattle.wsm_check.proofs.DeclaredSchema.{schema_lawful}
use Rattle.wsm_check.proofs.PassedChecks.{length-accumulators_of}

-- ---- the schema

type_listed : (p : Part) (ty : FieldType) → ty_refusal p ty ≡ None → is_spelt_type ty ≡ true → is_field_type ty ≡ true
type_listed p ty h l = grind (arith, unless_none, names_listed)

record FieldPassed (names : List Name) (d : DeclaredField) (ds : List DeclaredField) : Type 0 where
  room : nat_lt (length names) 16 ≡ true
  apart : not (is_among d.name names) ≡ true
  ty : ty_refusal (part.Field (suc (length names))) d.type ≡ None
  rest : fields_refusal (names ++ d.name ∷ []) ds ≡ None

field_passed : (names : List Name) (d : DeclaredField) (ds : List DeclaredField) → fields_refusal names (d ∷ ds) ≡ None → FieldPassed names d ds
field_passed names d ds h =
    let p = part.Field (suc (length names)) in
    let r1 = unless (nat_lt (length names) 16) Limit p in
    let r2 = unless (not (is_among d.name names)) Duplicate p in
    let r3 = ty_refusal p d.type in
    let both = passed_both (field_refusal names d) (fields_refusal (names ++ d.name ∷ []) ds) h in
    let h1 = passed_both r1 (first (r2 ∷ r3 ∷ [])) both.0 in
    let h2 = passed_both r2 (first (r3 ∷ [])) h1.1 in
    let h3 = passed_both r3 None h2.1 in
    record { room = unless_none (nat_lt (length names) 16) Limit p h1.0; apart = unless_none (not (is_among d.name names)) Duplicate p h2.0; ty = h3.0; rest = both.1 }

fields_listed : (names : List Name) (ds : List DeclaredField) → fields_refusal names ds ≡ None → list_all is_spelt_field ds ≡ true → are_fields_after names ds ≡ true
fields_listed names [] h l = refl
fields_listed names (d ∷ ds) h l =
    let p = field_passed names d ds h in
    let s = and_parts (is_spelt_field d) (list_all is_spelt_field ds) l in
    let t = and_parts (is_name d.name) (is_spelt_type d.type) s.0 in
    and_from (is_field_after names d) (are_fields_after (names ++ d.name ∷ []) ds)
    (and_from (is_name d.name) (not (is_among d.name names) && is_field_type d.type) t.0
    (and_from (not (is_among d.name names)) (is_field_type d.type) p.apart (type_listed (part.Field (suc (length names))) d.type p.ty t.1)))
    (fields_listed (names ++ d.name ∷ []) ds p.rest s.1)

fields_few : (names : List Name) (ds : List DeclaredField) → fields_refusal names ds ≡ None → length names ≤ 16 → length names + length ds ≤ 16
fields_few names [] h l = omega (arith, l)
fields_few names (d ∷ ds) h l =
    let p = field_passed names d ds h in
    let room = ltb-true (length names) 16 p.room in
    let a = length-append names (d.name ∷ []) in
    let rest = fields_few (names ++ d.name ∷ []) ds p.rest (omega (arith, a, room)) in
    omega (arith, a, rest)

schema_is : (q : Query) → Passed q → IsSpelt q → is_schema (schema_of q) ≡ true
schema_is q p s = grind (arith, schema_lawful, names_listed, fields_few, fields_listed, sources_listed)

-- ---- when panes fire

every_is : (o : Option ℤ) → every_fits o ≡ true → is_span (every o) ≡ true
every_is None h = refl
every_is (Some (pos n)) h = let p = and_parts (int_le (pos 1) (pos n)) (int_le (pos n) (pos 1000000000000)) h in and_from (int_le (pos 0) (pos n)) (int_le (pos n) (pos 1000000000000)) (from n) p.1
  where
    from : (n : ℕ) → int_le (pos 0) (pos n) ≡ true
    from n = grind arith
every_is (Some (negsuc n)) h = no h

-- ---- columns and accumulators

columns_few : (q : Query) (i : ℕ) (es : List Expr) → columns_refusal q i es ≡ None → i ≤ 16 → (0 < i + length es) × (i + length es ≤ 16)
columns_few q i [] h l = let some = ltb-true 0 i (unless_none (nat_lt 0 i) Limit (part.Column 1) h) in (omega (arith, some), omega (arith, l))
columns_few q i (e ∷ es) h l =
    let p = part.Column (suc i) in
    let r1 = unless (nat_lt i 16) Limit p in
    let r2 = typed_refusal p (typed q InColumn e) in
    let r3 = columns_refusal q (suc i) es in
    let h1 = passed_both r1 (first (r2 ∷ r3 ∷ [])) h in
    let h2 = passed_both r2 (first (r3 ∷ [])) h1.1 in
    let h3 = passed_both r3 None h2.1 in
    let room = ltb-true i 16 (unless_none (nat_lt i 16) Limit p h1.0) in
    let rest = columns_few q (suc i) es h3.0 (omega (arith, room)) in
    (omega (arith, rest.0), omega (arith, rest.1))

operands_both : (xs ys : List Acc) → operands_fit xs ≡ true → operands_fit ys ≡ true → operands_fit (xs ++ ys) ≡ true
operands_both xs ys h l = list_all-append (λ acc. numbers_fit acc.operand) xs ys ∙ and_from (operands_fit xs) (operands_fit ys) h l

operands_of : (e : Expr) → numbers_fit e ≡ true → operands_fit (accumulators_of e) ≡ true
operands_of (Aggregate kind e) h = and_from (numbers_fit e) true h refl
operands_of (If c x y) h =
    let p = and_parts (numbers_fit c) (numbers_fit x && numbers_fit y) h in
    let r = and_parts (numbers_fit x) (numbers_fit y) p.1 in
    operands_both (accumulators_of c) (accumulators_of x ++ accumulators_of y) (operands_of c p.0) (operands_both (accumulators_of x) (accumulators_of y) (operands_of x r.0) (operands_of y r.1))
operands_of (Brackets e) h = operands_of e h
operands_of (Minus e) h = operands_of e h
operands_of (Not e) h = operands_of e h
operands_of (Binary op x y) h = let p = and_parts (numbers_fit x) (numbers_fit y) h in operands_both (accumulators_of x) (accumulators_of y) (operands_of x p.0) (operands_of y p.1)
operands_of (And x y) h = let p = and_parts (numbers_fit x) (numbers_fit y) h in operands_both (accumulators_of x) (accumulators_of y) (operands_of x p.0) (operands_of y p.1)
operands_of (Or x y) h = let p = and_parts (numbers_fit x) (numbers_fit y) h in operands_both (accumulators_of x) (accumulators_of y) (operands_of x p.0) (operands_of y p.1)
operands_of e h = refl

operands_of_all : (es : List Expr) → list_all numbers_fit es ≡ true → operands_fit (flat_map accumulators_of es) ≡ true
operands_of_all [] h = refl
operands_of_all (e ∷ es) h = let p = and_parts (numbers_fit e) (list_all numbers_fit es) h in operands_both (accumulators_of e) (flat_map accumulators_of es) (operands_of e p.0) (operands_of_all es p.1)

condition_numbers_is : (o : Option Expr) → list_all numbers_fit (in_option o) ≡ true → condition_numbers o ≡ true
condition_numbers_is o h = grind arith

aggregates_counted : (q : Query) (es : List Expr) → length (flat_map accumulators_of (es ++ in_option q.having)) ≡ aggregates_of es + condition_aggregates q.having
aggregates_counted q [] = of_having q.having
  where
    of_having : (o : Option Expr) → length (flat_map accumulators_of (in_option o)) ≡ 0 + condition_aggregates o
    of_having None = refl
    of_having (Some e) = let a = length-append (accumulators_of e) [] in let l = length-accumulators_of e in omega (arith, a, l)
aggregates_counted q (e ∷ es) =
    let a = length-append (accumulators_of e) (flat_map accumulators_of (es ++ in_option q.having)) in
    let l = length-accumulators_of e in
    let rest = aggregates_counted q es in
    omega (arith, a, l, rest)

-- the numbers of a condition, and of what is folded
expressions_fit : (q : Query) → IsSpelt q → (list_all numbers_fit (in_option q.condition) ≡ true) × (list_all numbers_fit (fired q) ≡ true)
expressions_fit q spelt = and_parts (list_all numbers_fit (in_option q.condition)) (list_all numbers_fit (fired q)) (sym (list_all-append numbers_fit (in_option q.condition) (fired q)) ∙ spelt.numbers)

pub condition_numbers_of : (q : Query) → IsSpelt q → condition_numbers q.condition ≡ true
condition_numbers_of q spelt = condition_numbers_is q.condition (expressions_fit q spelt).0

pub operands_numbers_of : (q : Query) → IsSpelt q → operands_fit (accumulators q) ≡ true
operands_numbers_of q spelt = operands_of_all (fired q) (expressions_fit q spelt).1

-- ---- the program

section_is : (h : Header) (code : List Instr) → length code ≤ 1000 → list_all (is_instr h) code ≡ true → is_section h code ≡ true
unfolding is_section
section_is h code l fine = and_from (nat_le (length code) 1000) (list_all (is_instr h) code) (le-leb (length code) 1000 l) fine

module _ (q : Query) (passes : Passed q) (spelt : IsSpelt q) (b : Costs) (f : Fine q b) where
  keys_there : 0 < length q.keys
  keys_there = grind (arith, passed_both, leb-true, unless_none)

  parts : (list_all numbers_fit (in_option q.condition) ≡ true) × (list_all numbers_fit (fired q) ≡ true)
  parts = expressions_fit q spelt

  columns_parts : (list_all numbers_fit q.columns ≡ true) × (list_all numbers_fit (in_option q.having) ≡ true)
  columns_parts = and_parts (list_all numbers_fit q.columns) (list_all numbers_fit (in_option q.having)) (sym (list_all-append numbers_fit q.columns (in_option q.having)) ∙ parts.1)

  abbrev head : Header
  head = record (program_of q).header { budget = b }

  kinds_counted : length head.kinds ≡ length (accumulators q)
  kinds_counted = ap length (kinds_are q (accumulators q)) ∙ length-map (accumulators q) (λ (acc : Acc). acc.kind)

  firing_is : is_firing head ≡ true
  firing_is = grind (arith, every_is)

  clock_is : is_clock head ≡ true
  clock_is = and_from (is_limited head.clock) (is_timely head.clock.from_window head.shape) passes.clock passes.lateness

  row_is : is_row head ≡ true
  row_is =
      let few = columns_few q 0 q.columns passes.columns (omega arith) in
      let l = length-map q.columns (column_type q) in
      let named = columns_named q b q.columns f.columns in
      and_from (nat_le (length head.kinds) 16) (is_between 1 16 (length head.columns) && list_all (is_column head.schema) head.columns) (le-leb (length head.kinds) 16 (omega (arith, kinds_counted, length-map (accumulators q) (folding q), passes.code.accs)))
      (and_from (is_between 1 16 (length head.columns)) (list_all (is_column head.schema) head.columns)
      (and_from (nat_le 1 (length head.columns)) (nat_le (length head.columns) 16) (le-leb 1 (length head.columns) (omega (arith, l, few.0))) (le-leb (length head.columns) 16 (omega (arith, l, few.1)))) named)

  header_is : is_budget b ≡ true → is_header head ≡ true
  unfolding is_header
  header_is budget = grind (arith, schema_is, clock_is, firing_is, row_is)

  where_is : is_section head (where_section q) ≡ true
  where_is =
      let l = (sizes_are_lengths q).0 in
      section_is head (where_section q) (omega (arith, l, passes.code.selection))
      (condition_fine q b InWhere 0 0 q.condition f.condition (condition_numbers_is q.condition parts.0) (λ e. no (ap in_column e)) (omega (arith, passes.code.selection, ended_size q 0 q.condition)))

  update_is : is_section head (update_section q) ≡ true
  update_is =
      let l = (sizes_are_lengths q).1 in
      section_is head (update_section q) (omega (arith, l, passes.code.update))
      (folds_fine q b 0 0 (accumulators q) f.accs (operands_of_all (fired q) parts.1) (omega (arith, kinds_counted)) (omega (arith, passes.code.update)))

  fire_is : is_section head (fire_section q) ≡ true
  fire_is =
      let l = (sizes_are_lengths q).2 in
      let n = aggregates_counted q q.columns in
      section_is head (fire_section q) (omega (arith, l, passes.code.fire))
      (columns_fine q b (aggregates_of q.columns) 0 0 q.columns f.columns f.having columns_parts.0 (condition_numbers_is q.having columns_parts.1) (omega arith) (omega (arith, kinds_counted, n)) (omega (arith, passes.code.fire)))

pub is_lawful : (q : Query) → IsLawful q
unfolding is_program
is_lawful q h s =
    let b = stated (needed_of q) q.budget in
    let p = passed q h in
    let f = fine q b h in
    let hd = (program_of q).header in
    and_from (is_header hd) (is_section hd (where_section q) && (is_section hd (update_section q) && is_section hd (fire_section q))) (header_is q p s b f (budget_is q p (keys_there q p s b f)))
    (and_from (is_section hd (where_section q)) (is_section hd (update_section q) && is_section hd (fire_section q)) (where_is q p s b f)
    (and_from (is_section hd (update_section q)) (is_section hd (fire_section q)) (update_is q p s b f) (fire_is q p s b f)))
