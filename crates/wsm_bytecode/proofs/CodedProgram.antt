-- Instructions, headers and programs, by what spells them.
use Rattle.std.proofs.Common.{lit<, leb, ◌≡◌, ℕ, zero, suc, ◌<◌, ◌≤◌, Bool, true, ltb, ◌&&◌, not, List, [], ◌∷◌, ◌++◌, ℤ, Option, None, Some, is_some, length, Ok, refl, sym, ap, subst, ◌∙◌, append_assoc, append-nil, arith}
use Rattle.std.specs.Prelude.{bytes_eq, slice_get, ok_or}
use Rattle.std.specs.List.{list_all}
use Rattle.std.specs.Int.{w8, w16}
use Rattle.std.proofs.lemmas.Bool.{true≢false, ltb-true, lt-ltb, leb-true, le-leb, and_parts, and_from}
use Rattle.std.proofs.lemmas.Slice.Eq.{bytes_eq-Decides}
use Rattle.wsm_record.specs.Name.{is_between}
use Rattle.wsm_record.specs.Schema.{FieldType, Enum, DeclaredField, Declared, is_name_list, are_names_after, is_field_after, are_fields_after, is_field_type, are_sources, names_of_type, names_of_field, enum_names, is_schema, is_i64}
use Rattle.wsm_record.specs.Name.{is_name, is_among}
use Rattle.wsm_program.specs.declared.refusal.DecodeRefusal.TheVariants.{BadMagic, Version as OtherVersion, UnknownOpcode}
use Rattle.wsm_program.specs.declared.instr.Instr.{Instr}
use Rattle.wsm_program.specs.declared.instr.Instr.TheVariants.{PushInt, PushBool, PushEnum, Field, Key, Acc, Count, Compute, Neg, Compare, Not, Jump, JumpIfFalse, Test, Fold, Return}
use Rattle.wsm_program.specs.declared.instr.FieldTest.{FieldTest}
use Rattle.wsm_program.specs.declared.instr.Opcode.{Opcode}
use Rattle.wsm_program.specs.declared.instr.Opcode.TheVariants as opcodes
use Rattle.wsm_program.specs.Instructions.{opcode, argument}
use Rattle.wsm_program.specs.Opcodes.{code as code_of, of_code}
use Rattle.wsm_program.specs.Comparisons.{comparison_number}
use Rattle.wsm_program.specs.Program.{Name, Header, Program, is_name_of, is_number_field, is_test, is_instr, is_section, is_header, is_program, is_column, is_budget}
use Rattle.wsm_program.proofs.Opcodes.{code_is_byte, of_code_again, of_code_has_code}
use Rattle.wsm_program.proofs.Comparisons as comparisons
use Rattle.wsm_program.proofs.Lawful.{HeaderParts, header_parts, few_fields}
use Rattle.wsm_program.proofs.Within.{at_most}
use Rattle.wsm_bytecode.specs.declared.version.Version.{Version}
use Rattle.wsm_bytecode.specs.declared.version.Version.TheVariants.{One, Two}
use Rattle.wsm_bytecode.specs.declared.reading.settings.Times.{Times}
use Rattle.wsm_bytecode.specs.Parts.{Settings, settings_in, byte, number, signed, argument as argument_bytes, instr, code, magic, names, fields, times, kinds, columns, budget}
use Rattle.wsm_bytecode.specs.Steps.{◌>>=◌, judged, number_at, names_at, fields_at, times_at}
use Rattle.wsm_bytecode.specs.Version1 as first
use Rattle.wsm_bytecode.specs.Versions.{version_number, version_of_number}
use Rattle.wsm_bytecode.specs.Spelling.{settings, header, spelling_in, has, spells, spelling, IsSpelling}
use Rattle.wsm_bytecode.specs.Reading.{push_int_at, push_bool_at, push_enum_at, index_at, target_at, comparison_at, number_field_at, field_test_at, test_at, test_by, instr_by, instr_at, code_at, after_magic, version_at, settings_at, schema_of, clock_of, back_at, header_at, sections_at, parts_at, program_at, all_read, decode}
use Rattle.wsm_bytecode.proofs.Coded.{respelled, IsBytes, bind_then, ok_is, test_ok, Any, Codes, in_words, good_so, refused, just, made, chain, settled, wrapped, wrapped_two, tested, bytes_codes, byte_codes, number_codes_16, signed_codes, truth_codes, number_between, IsTable, found, found_is, tagged_codes, InTurn, counted}
use Rattle.wsm_bytecode.proofs.CodedParts.{names_codes, fields_codes, times_codes, kinds_codes, enum_number_codes, columns_codes, budget_codes}
use Rattle.wsm_bytecode.proofs.Settings.{SettingsParts, schema_parts}
use Rattle.wsm_bytecode.proofs.Versions as versions
use Rattle.wsm_bytecode.proofs.Version1 as first_proofs
use Rattle.wsm_bytecode.proofs.Version2 as second_proofs

-- ---- instructions

-- an instruction of an opcode is that with an argument
abbrev IsInstr : Opcode → Instr → Type 0
IsInstr opcodes.PushInt i = (n : ℤ) × (i ≡ PushInt n)
IsInstr opcodes.PushBool i = (b : Bool) × (i ≡ PushBool b)
IsInstr opcodes.PushEnum i = (p : ℕ × ℕ) × (i ≡ PushEnum p.0 p.1)
IsInstr opcodes.Field i = (f : ℕ) × (i ≡ Field f)
IsInstr opcodes.Key i = i ≡ Key
IsInstr opcodes.Acc i = (a : ℕ) × (i ≡ Acc a)
IsInstr opcodes.Count i = i ≡ Count
IsInstr (opcodes.Compute a) i = i ≡ Compute a
IsInstr opcodes.Neg i = i ≡ Neg
IsInstr (opcodes.Compare c) i = i ≡ Compare c
IsInstr opcodes.Not i = i ≡ Not
IsInstr opcodes.Jump i = (t : ℕ) × (i ≡ Jump t)
IsInstr opcodes.JumpIfFalse i = (t : ℕ) × (i ≡ JumpIfFalse t)
IsInstr opcodes.Test i = (p : FieldTest × ℕ) × (i ≡ Test p.0 p.1)
IsInstr opcodes.Fold i = (a : ℕ) × (i ≡ Fold a)
IsInstr opcodes.Return i = i ≡ Return

is_itself : (i : Instr) → IsInstr (opcode i) i
is_itself (PushInt n) = (n, refl)
is_itself (PushBool b) = (b, refl)
is_itself (PushEnum e i) = ((e, i), refl)
is_itself (Field f) = (f, refl)
is_itself (Acc a) = (a, refl)
is_itself (Jump t) = (t, refl)
is_itself (JumpIfFalse t) = (t, refl)
is_itself (Test x t) = ((x, t), refl)
is_itself (Fold a) = (a, refl)
is_itself i = refl

abbrev HasOpcode : Opcode → Instr → Type 0
HasOpcode o i = Any i × (opcode i ≡ o)

of_opcode : (o : Opcode) (i : Instr) → HasOpcode o i → IsInstr o i
of_opcode o i k = subst (λ o. IsInstr o i) k.1 (is_itself i)

comparison_codes : Codes Any Any comparison_at (λ o. byte (comparison_number o))
unfolding comparison_at
comparison_codes = tagged_codes (record { small = comparisons.number_is_byte; again = comparisons.of_number_again; alone = comparisons.of_number_has_number })

number_within : (fs : List DeclaredField) (f : ℕ) → is_number_field (slice_get fs f) ≡ true → f < length fs
number_within [] f e = absurd (true≢false (sym e))
number_within (g ∷ fs) zero e = omega arith
number_within (g ∷ fs) (suc f) e = omega (arith, number_within fs f e)

-- a name's number is below 1,000, but that it fits two bytes is all that is asked
pub record FewParts (h : Header) : Type 0 where
  pub fields : leb (length h.schema.fields) 16 ≡ true
  pub others : HeaderParts h
  pub names : (e i : ℕ) → is_name_of (enum_names h.schema e) i ≡ true → i < 65536

few_below : (n i : ℕ) → leb n 16 ≡ true → i < n → i < 256
few_below n i h lt =
    let le : n ≤ 16 = leb-true n 16 h in
    omega arith

names_there : (o : Option (List Name)) (i : ℕ) → is_name_of o i ≡ true → is_some o ≡ true
names_there None i e = absurd (true≢false (sym e))
names_there (Some ns) i e = refl

-- a section of a program of the version
abbrev IsCode : Version → Header → List Instr → Type 0
IsCode v h is = (is_section h is ≡ true) × (list_all (has v) is ≡ true)

module _ (v : Version) (h : Header) (few : FewParts h) where
  -- an instruction of the program that the version has
  abbrev IsGood : Instr → Type 0
  IsGood i = (is_instr h i ≡ true) × (has v i ≡ true)

  field_test_codes : Codes Any (λ x. is_test h x ≡ true) (field_test_at h.schema.fields) (λ x. byte x.field ++ (byte (comparison_number x.comparison) ++ signed x.number))
  unfolding field_test_at number_field_at
  field_test_codes =
      let fields = h.schema.fields in
      let field = tested byte_codes (λ f. is_number_field (slice_get fields f)) (λ f g. few_below (length fields) f few.fields (number_within fields f g)) in
      let parts = chain (λ (x : FieldTest). x.field) field (λ f _. chain (λ x. x.comparison) comparison_codes (λ o _. chain (λ x. x.number) signed_codes (λ n _.
      made (record { field = f; comparison = o; number = n }) (((tt, refl), refl), refl) (λ x k i. record { field = k.0.0.1 i; comparison = k.0.1 i; number = k.1 i })))) in
      good_so parts (λ x. simp append-nil refl)
      (λ x _ g. (let p = and_parts (is_number_field (slice_get fields x.field)) (is_i64 x.number) g in (p.0, (tt, (p.1, tt))))) (λ x _ g. and_from _ _ g.0 g.1.1.0)

  known : (i : Instr) → first.has i ≡ true → has v i ≡ true
  known i there = elim v as (λ w. has w i ≡ true) [ One ↦ there | Two ↦ refl ]

  index : (count : ℕ) → leb count 16 ≡ true → Codes Any (λ i. ltb i count ≡ true) (λ bytes. judged (λ i. ltb i count) (number_at w8 bytes)) byte
  index count small = tested byte_codes (λ i. ltb i count) (λ i g. few_below count i small (ltb-true i count g))

  target_codes : Codes Any (λ t. ltb t 65536 ≡ true) (number_at w16) number
  target_codes = good_so number_codes_16 (λ t. refl) (λ t _ g. ltb-true t 65536 g) (λ t _ g. lt-ltb t 65536 g)

  test_codes : (w : Version) → w ≡ v → Codes (HasOpcode opcodes.Test) IsGood (test_by w h.schema.fields) (λ i. argument_bytes (argument i))
  unfolding test_at
  test_codes One is = refused UnknownOpcode (λ i k g. (
      let p = of_opcode opcodes.Test i k in
      let not_there : has One (Test p.0.0 p.0.1) ≡ true = subst (λ w. has w (Test p.0.0 p.0.1) ≡ true) (sym is) (subst (λ j. has v j ≡ true) p.1 g.1) in
      true≢false (sym not_there)
      ))
  test_codes Two is =
      wrapped_two (λ (p : FieldTest × ℕ). Test p.0 p.1) field_test_codes (λ x _. target_codes) (λ p. (tt, refl)) (of_opcode opcodes.Test) (λ p. simp append_assoc refl)
      (λ p g. (let q = and_parts (is_test h p.0) (ltb p.1 65536) g.0 in (q.0, q.1))) (λ p x t. (and_from _ _ x t, subst (λ w. has w (Test p.0 p.1) ≡ true) is refl))

  instr_by_codes : (o : Opcode) → Codes (HasOpcode o) IsGood (instr_by v h o) (λ i. argument_bytes (argument i))
  unfolding instr_by push_int_at push_bool_at push_enum_at index_at target_at
  instr_by_codes opcodes.PushInt = wrapped PushInt signed_codes (λ n _. (tt, refl)) (of_opcode opcodes.PushInt) (λ n. refl) (λ n _ g. g.0) (λ n g. (g, known (PushInt n) refl))
  instr_by_codes opcodes.PushBool = wrapped PushBool truth_codes (λ b _. (tt, refl)) (of_opcode opcodes.PushBool) (λ b. refl) (λ b _ _. tt) (λ b _. (refl, known (PushBool b) refl))
  instr_by_codes opcodes.PushEnum =
      wrapped_two (λ (p : ℕ × ℕ). PushEnum p.0 p.1) (enum_number_codes h.schema few.fields) (λ e _. tested number_codes_16 (is_name_of (enum_names h.schema e)) (few.names e)) (λ p. (tt, refl)) (of_opcode opcodes.PushEnum) (λ p. refl)
      (λ p g. (names_there (enum_names h.schema p.0) p.1 g.0, g.0)) (λ p _ g. (g, known (PushEnum p.0 p.1) refl))
  instr_by_codes opcodes.Field = wrapped Field (index (length h.schema.fields) few.fields) (λ f _. (tt, refl)) (of_opcode opcodes.Field) (λ f. refl) (λ f _ g. g.0) (λ f g. (g, known (Field f) refl))
  instr_by_codes opcodes.Key = just Key (tt, refl) (of_opcode opcodes.Key) refl (refl, known Key refl)
  instr_by_codes opcodes.Acc = wrapped Acc (index (length h.kinds) few.others.kinds) (λ a _. (tt, refl)) (of_opcode opcodes.Acc) (λ a. refl) (λ a _ g. g.0) (λ a g. (g, known (Acc a) refl))
  instr_by_codes opcodes.Count = just Count (tt, refl) (of_opcode opcodes.Count) refl (refl, known Count refl)
  instr_by_codes (opcodes.Compute a) = just (Compute a) (tt, refl) (of_opcode (opcodes.Compute a)) refl (refl, known (Compute a) refl)
  instr_by_codes opcodes.Neg = just Neg (tt, refl) (of_opcode opcodes.Neg) refl (refl, known Neg refl)
  instr_by_codes (opcodes.Compare c) = just (Compare c) (tt, refl) (of_opcode (opcodes.Compare c)) refl (refl, known (Compare c) refl)
  instr_by_codes opcodes.Not = just Not (tt, refl) (of_opcode opcodes.Not) refl (refl, known Not refl)
  instr_by_codes opcodes.Jump = wrapped Jump target_codes (λ t _. (tt, refl)) (of_opcode opcodes.Jump) (λ t. refl) (λ t _ g. g.0) (λ t g. (g, known (Jump t) refl))
  instr_by_codes opcodes.JumpIfFalse = wrapped JumpIfFalse target_codes (λ t _. (tt, refl)) (of_opcode opcodes.JumpIfFalse) (λ t. refl) (λ t _ g. g.0) (λ t g. (g, known (JumpIfFalse t) refl))
  instr_by_codes opcodes.Test = test_codes v refl
  instr_by_codes opcodes.Fold = wrapped Fold (index (length h.kinds) few.others.kinds) (λ a _. (tt, refl)) (of_opcode opcodes.Fold) (λ a. refl) (λ a _ g. g.0) (λ a g. (g, known (Fold a) refl))
  instr_by_codes opcodes.Return = just Return (tt, refl) (of_opcode opcodes.Return) refl (refl, known Return refl)

  opcode_table : IsTable code_of of_code
  opcode_table = record { small = code_is_byte; again = of_code_again; alone = of_code_has_code }

  instr_codes : Codes Any IsGood (instr_at v h) instr
  unfolding instr_at instr
  instr_codes =
      good_so
      (chain (λ i. code_of (opcode i)) byte_codes (λ c _. settled opcode (ok_or (of_code c) UnknownOpcode) (λ o. code_of o ≡ c) (found opcode_table UnknownOpcode c) (found_is opcode_table UnknownOpcode c) (λ o same.
      in_words (instr_by_codes o) (λ i _ _. refl) (λ i k g. ((tt, k.1), g)) (λ i k g. (((tt, ap code_of k.1 ∙ same), k.1), g)))))
      (λ i. refl) (λ i _ g. (code_is_byte (opcode i), (refl, g))) (λ i _ g. g.1.1)

  instrs_in_turn : InTurn {S = Unit {0}} (λ s x. s) (λ s. IsGood) (λ s is. (list_all (is_instr h) is ≡ true) × (list_all (has v) is ≡ true))
  instrs_in_turn = record {
    none = λ s. (refl, refl);
    more = λ s i is g later. (and_from _ _ g.0 later.0, and_from _ _ g.1 later.1);
    parts = λ s i is g. (
        let a = and_parts (is_instr h i) (list_all (is_instr h) is) g.0 in
        let b = and_parts (has v i) (list_all (has v) is) g.1 in
        ((a.0, b.0), (a.1, b.1))
        );
  }

  code_codes : Codes Any (IsCode v h) (code_at v h) code
  unfolding code_at is_section code
  code_codes =
      good_so (counted instrs_in_turn (λ _. instr_codes) (number_between 0 1000 (lit< tt)) tt) (λ is. refl)
      (λ is _ g. (let p = and_parts (leb (length is) 1000) (list_all (is_instr h) is) g.0 in (and_from (leb 0 (length is)) (leb (length is) 1000) (le-leb _ _ (omega arith)) p.0, (p.1, g.1))))
      (λ is _ g. (and_from _ _ (le-leb _ _ (at_most 0 1000 (length is) g.0)) g.1.0, g.1.1))

-- ---- the header

list_below : (ns : List Name) (i : ℕ) → is_name_list ns ≡ true → ltb i (length ns) ≡ true → i < 65536
list_below ns i h e =
    let le : length ns ≤ 1000 = at_most 1 1000 (length ns) (and_parts (is_between 1 1000 (length ns)) (are_names_after [] ns) h).0 in
    let lt : i < length ns = ltb-true i (length ns) e in
    omega arith

type_below : (t : FieldType) (i : ℕ) → is_field_type t ≡ true → is_name_of (names_of_type t) i ≡ true → i < 65536
type_below (Enum ns) i h e = list_below ns i h e
type_below t i h e = absurd (true≢false (sym e))

fields_below : (before : List Name) (fs : List DeclaredField) (f i : ℕ) → are_fields_after before fs ≡ true → is_name_of (names_of_field (slice_get fs f)) i ≡ true → i < 65536
fields_below before [] f i h e = absurd (true≢false (sym e))
fields_below before (g ∷ fs) zero i h e =
    let a = and_parts (is_field_after before g) (are_fields_after (before ++ g.name ∷ []) fs) h in
    let b = and_parts (is_name g.name) (not (is_among g.name before) && is_field_type g.type) a.0 in
    type_below g.type i (and_parts (not (is_among g.name before)) (is_field_type g.type) b.1).1 e
fields_below before (g ∷ fs) (suc f) i h e = fields_below (before ++ g.name ∷ []) fs f i (and_parts (is_field_after before g) (are_fields_after (before ++ g.name ∷ []) fs) h).1 e

names_below : (s : Declared) (e i : ℕ) → is_schema s ≡ true → is_name_of (enum_names s e) i ≡ true → i < 65536
names_below s zero i h good = list_below s.keys i (schema_parts s h).keys good
names_below s (suc f) i h good = fields_below [] s.fields f i (schema_parts s h).fields good

few_parts : (h : Header) → is_header h ≡ true → FewParts h
few_parts h good =
    let p = header_parts h good in
    record { fields = few_fields h.schema p.schema; others = p; names = λ e i. names_below h.schema e i p.schema }

settings_codes : (v : Version) → Codes Any SettingsParts (settings_at v) (settings v)
settings_codes One = first_proofs.settings_codes
settings_codes Two = second_proofs.settings_codes

abbrev pub times_in : Header → Times
times_in h = record { start = h.clock.start; skew = h.clock.skew; lateness = h.clock.lateness; records = h.clock.records }

schema_made : (keys : List Name) (fs : List DeclaredField) (s : Settings) → is_name_list keys ≡ true → (leb (length fs) 16 ≡ true) × (are_fields_after [] fs ≡ true) → are_sources s.sources ≡ true → is_schema (schema_of keys fs s) ≡ true
unfolding is_schema
schema_made keys fs s named fielded sourced = and_from _ _ named (and_from _ _ fielded.0 (and_from _ _ fielded.1 sourced))

back_codes : (s : Declared) → leb (length s.fields) 16 ≡ true → Codes Any (λ b. (leb (length b.0) 16 ≡ true) × (((is_between 1 16 (length b.1.0) ≡ true) × (list_all (is_column s) b.1.0 ≡ true)) × ((is_budget b.1.1 ≡ true) × Any b))) (back_at s) (λ b. kinds b.0 ++ (columns b.1.0 ++ budget b.1.1))
unfolding back_at
back_codes s few =
    let parts = chain (λ b. b.0) kinds_codes (λ ks _. chain (λ b. b.1.0) (columns_codes s few) (λ ts _. chain (λ b. b.1.1) budget_codes (λ g _.
    made (ks, (ts, g)) (((tt, refl), refl), refl) (λ b k i. (k.0.0.1 i, (k.0.1 i, k.1 i)))))) in
    respelled parts (λ b. ap (λ r. kinds b.0 ++ (columns b.1.0 ++ r)) (append-nil (budget b.1.1)))

regroup_7 : (a b c d e f g : List ℕ) → a ++ (b ++ (c ++ (d ++ ((e ++ (f ++ g)) ++ [])))) ≡ a ++ b ++ c ++ d ++ e ++ f ++ g
regroup_7 a b c d e f g = simp (append_assoc, append-nil) refl

pub header_codes : (v : Version) → Codes Any (λ h. is_header h ≡ true) (header_at v) (header v)
unfolding header_at header is_header
header_codes v =
    let parts = chain (λ (h : Header). h.schema.keys) names_codes (λ keys _. chain (λ h. h.schema.fields) fields_codes (λ fs few. chain times_in times_codes (λ t _. chain settings_in (settings_codes v) (λ s _.
    chain (λ h. (h.kinds, (h.columns, h.budget))) (back_codes (schema_of keys fs s) few.0) (λ b _.
    made
    (record { schema = schema_of keys fs s; clock = clock_of t s; shape = s.shape; mode = s.mode; early = s.early; late = s.late; form = s.form; kinds = b.0; columns = b.1.0; budget = b.1.1 })
    (((((tt, refl), refl), refl), refl), refl)
    (λ h k i. (
    let s = k.0.1 i in
    let b = k.1 i in
    record { schema = schema_of (k.0.0.0.0.1 i) (k.0.0.0.1 i) s; clock = clock_of (k.0.0.1 i) s; shape = s.shape; mode = s.mode; early = s.early; late = s.late; form = s.form; kinds = b.0; columns = b.1.0; budget = b.1.1 }
    ))))))) in
    good_so parts (λ h. regroup_7 (names h.schema.keys) (fields h.schema.fields) (times h.clock) (settings v (settings_in h)) (kinds h.kinds) (columns h.columns) (budget h.budget))
    (λ h _ good. (
    let p = header_parts h good in
    let d = schema_parts h.schema p.schema in
    (d.keys, ((d.few, d.fields), ((p.start, (p.skew, (p.lateness, (p.records, tt)))), (record { timely = p.timely; sources = d.sources; shape = p.shape; early = p.early; late = p.late; form = p.form }, ((p.kinds, ((p.count, p.columns), (p.budget, tt))), tt)))))
    ))
    (λ h _ g. (
    let t = g.1.1.0 in
    let s = g.1.1.1.0 in
    let row = g.1.1.1.1.0 in
    and_from _ _ (schema_made h.schema.keys h.schema.fields (settings_in h) g.0 g.1.0 s.sources)
    (and_from _ _ (and_from _ _ (and_from _ _ t.0 (and_from _ _ t.1.0 (and_from _ _ t.1.1.0 t.1.1.1.0))) s.timely)
    (and_from _ _ (and_from _ _ s.shape (and_from _ _ s.early (and_from _ _ s.late s.form)))
    (and_from _ _ (and_from _ _ row.0 (and_from _ _ row.1.0.0 row.1.0.1)) row.1.1.0)))
    ))

-- keys, fields and sources that were read make a schema
pub schema_taken : (v : Version) (bytes r1 r2 r3 rest : List ℕ) (keys : List Name) (fs : List DeclaredField) (t : Times) (s : Settings) → IsBytes bytes
    → names_at bytes ≡ Ok (keys, r1) → fields_at r1 ≡ Ok (fs, r2) → times_at r2 ≡ Ok (t, r3) → settings_at v r3 ≡ Ok (s, rest) → is_schema (schema_of keys fs s) ≡ true
schema_taken v bytes r1 r2 r3 rest keys fs t s fits e0 e1 e2 e3 =
    let t0 = names_codes.taken bytes (keys, r1) fits e0 in
    let t1 = fields_codes.taken r1 (fs, r2) t0.fits e1 in
    let t2 = times_codes.taken r2 (t, r3) t1.fits e2 in
    schema_made keys fs s t0.good t1.good ((settings_codes v).taken r3 (s, rest) t2.fits e3).good.sources

-- ---- the program

sections_codes : (v : Version) (h : Header) → FewParts h → Codes Any (λ s. IsCode v h s.0 × (IsCode v h s.1.0 × (IsCode v h s.1.1 × Any s))) (sections_at v h) (λ s. code s.0 ++ (code s.1.0 ++ code s.1.1))
unfolding sections_at
sections_codes v h few =
    let one = code_codes v h few in
    let parts = chain (λ s. s.0) one (λ w _. chain (λ s. s.1.0) one (λ u _. chain (λ s. s.1.1) one (λ f _. made (w, (u, f)) (((tt, refl), refl), refl) (λ s k i. (k.0.0.1 i, (k.0.1 i, k.1 i)))))) in
    respelled parts (λ s. ap (λ r. code s.0 ++ (code s.1.0 ++ r)) (append-nil (code s.1.1)))

pub parts_codes : (v : Version) → Codes Any (λ p. (is_program p ≡ true) × (spells v p ≡ true)) (parts_at v) (λ p. header v p.header ++ (code p.selection ++ (code p.update ++ code p.fire)))
unfolding parts_at is_program spells
parts_codes v =
    let parts = chain (λ (p : Program). p.header) (header_codes v) (λ h good. chain (λ p. (p.selection, (p.update, p.fire))) (sections_codes v h (few_parts h good)) (λ s _.
    made (record { header = h; selection = s.0; update = s.1.0; fire = s.1.1 }) ((tt, refl), refl) (λ p k i. (let s = k.1 i in record { header = k.0.1 i; selection = s.0; update = s.1.0; fire = s.1.1 })))) in
    good_so parts (λ p. ap (λ r. header v p.header ++ r) (append-nil (code p.selection ++ (code p.update ++ code p.fire))))
    (λ p _ g. (
    let a = and_parts (is_header p.header) (is_section p.header p.selection && (is_section p.header p.update && is_section p.header p.fire)) g.0 in
    let b = and_parts (is_section p.header p.selection) (is_section p.header p.update && is_section p.header p.fire) a.1 in
    let c = and_parts (is_section p.header p.update) (is_section p.header p.fire) b.1 in
    let k = and_parts (list_all (has v) p.selection) (list_all (has v) p.update && list_all (has v) p.fire) g.1 in
    let l = and_parts (list_all (has v) p.update) (list_all (has v) p.fire) k.1 in
    (a.0, (((b.0, k.0), ((c.0, l.0), ((c.1, l.1), tt))), tt))
    ))
    (λ p _ g. (
    let s = g.1.0 in
    (and_from _ _ g.0 (and_from _ _ s.0.0 (and_from _ _ s.1.0.0 s.1.1.0.0)), and_from _ _ s.0.1 (and_from _ _ s.1.0.1 s.1.1.0.1))
    ))

magic_again : (rest : List ℕ) → after_magic (magic ++ rest) ≡ Ok rest
unfolding after_magic
magic_again rest = rw ((bytes_codes 4).again magic rest (tt, refl) tt) refl

magic_taken : (bytes rest : List ℕ) → IsBytes bytes → after_magic bytes ≡ Ok rest → (bytes ≡ magic ++ rest) × IsBytes rest
unfolding after_magic
magic_taken bytes rest fits e =
    bind_then _ _ rest e (λ m e0 l0.
    let g = test_ok (bytes_eq m.0 magic) BadMagic m.1 rest l0 in
    let p = (bytes_codes 4).taken bytes m fits e0 in
    subst (λ y. (bytes ≡ magic ++ y) × IsBytes y) g.1 (p.parts ∙ ap (λ b. b ++ m.1) ((bytes_eq-Decides m.0 magic).0 g.0), p.fits))

version_table : IsTable version_number version_of_number
version_table = record { small = versions.number_is_byte; again = versions.of_number_again; alone = versions.of_number_has_number }

-- behind the magic bytes
numbered : Codes Any Any (λ bytes. number_at w8 bytes >>= λ n. ok_or (version_of_number n.0) OtherVersion >>= λ v. Ok (v, n.1)) (λ v. byte (version_number v))
numbered =
    good_so (chain version_number byte_codes (λ n _. settled (λ v. v) (ok_or (version_of_number n) OtherVersion) (λ v. version_number v ≡ n) (found version_table OtherVersion n) (found_is version_table OtherVersion n) (λ v same. made v ((tt, same), refl) (λ z k. k.1))))
    (λ v. refl) (λ v _ _. (version_table.small v, (refl, tt))) (λ v _ _. tt)

version_codes : Codes Any Any version_at (λ v. magic ++ byte (version_number v))
unfolding version_at
version_codes = record {
  again = λ v rest k g. rw (append_assoc magic (byte (version_number v)) rest, magic_again (byte (version_number v) ++ rest)) (numbered.again v rest tt tt);
  taken = λ bytes x fits e. bind_then _ _ x e (λ mid e0 l0.
      let t = magic_taken bytes mid fits e0 in
      let u = numbered.taken mid x t.1 l0 in
      record { parts = t.0 ∙ ap (λ b. magic ++ b) u.parts; fits = u.fits; among = tt; good = tt });
}

spelling_is : (v : Version) (p : Program) → spelling_in v p ≡ (magic ++ byte (version_number v)) ++ (header v p.header ++ (code p.selection ++ (code p.update ++ code p.fire)))
unfolding spelling_in
spelling_is v p = regroup_6 magic (byte (version_number v)) (header v p.header) (code p.selection) (code p.update) (code p.fire)
  where
    regroup_6 : (a b c d e f : List ℕ) → a ++ b ++ c ++ d ++ e ++ f ≡ (a ++ b) ++ (c ++ (d ++ (e ++ f)))
    regroup_6 a b c d e f = simp append_assoc refl

-- what is spelled is read
pub decode_again : (v : Version) (p : Program) → is_program p ≡ true → spells v p ≡ true → decode (spelling_in v p) ≡ Ok p
unfolding decode program_at
decode_again v p good known =
    let parts = header v p.header ++ (code p.selection ++ (code p.update ++ code p.fire)) in
    ap decode (spelling_is v p) ∙ rw (version_codes.again v parts tt tt, ← append-nil parts, (parts_codes v).again p [] tt (good, known)) refl

all_known : (is : List Instr) → list_all (has Two) is ≡ true
all_known [] = refl
all_known (i ∷ is) = all_known is

-- the bytes that are written are read as the program that they were written of: version 2 has each instruction
pub decode_written : (p : Program) → is_program p ≡ true → decode (spelling p) ≡ Ok p
unfolding spelling spells
decode_written p good = decode_again Two p good (and_from _ _ (all_known p.selection) (and_from _ _ (all_known p.update) (all_known p.fire)))

all_ok : (p q : Program) (rest : List ℕ) → all_read p rest ≡ Ok q → (p ≡ q) × (rest ≡ [])
all_ok p q [] e = (ok_is p q e, refl)
all_ok p q (b ∷ rest) e = absurd cc

-- what is read is spelled so
pub decode_is : (bytes : List ℕ) (p : Program) → IsBytes bytes → decode bytes ≡ Ok p → IsSpelling p bytes
unfolding decode program_at
decode_is bytes p fits e =
    bind_then _ _ p e (λ x e0 l0.
    bind_then _ _ x e0 (λ v e1 l1.
    let t = version_codes.taken bytes v fits e1 in
    let u = (parts_codes v.0).taken v.1 x t.fits l1 in
    let g = all_ok x.0 p x.1 l0 in
    subst (λ q. IsSpelling q bytes) g.0 (record {
      version = v.0;
      spells = u.good.1;
      spelled = t.parts ∙ ap (λ b. (magic ++ byte (version_number v.0)) ++ b) (u.parts ∙ ap (λ r. (header v.0 x.0.header ++ (code x.0.selection ++ (code x.0.update ++ code x.0.fire))) ++ r) g.1 ∙ append-nil _)
          ∙ sym (spelling_is v.0 x.0);
    })))
