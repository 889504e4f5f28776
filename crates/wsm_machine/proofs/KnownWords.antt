-- The intervals that the verifier knows in the section UPDATE of a lawful program have ends of 64 bits.
use Rattle.std.proofs.Common.{◌≡◌, ℕ, zero, suc, true, false, ◌&&◌, cond, List, [], ◌∷◌, ◌++◌, length, drop, reverse, Option, Some, None, sym, subst, arith}
use Rattle.std.specs.Prelude.{ℤ, pos, negsuc, ◌≤ℤ◌, IfSome, IsTrue, nat_eq, int_le, option_map, slice_index_or}
use Rattle.std.specs.List.{AllByRecursion, list_all}
use Rattle.std.proofs.lemmas.Int.{ints}
use Rattle.std.proofs.lemmas.List.{reverse-append}
use Rattle.std.proofs.lemmas.Bool.{and_parts}
use Rattle.wsm_interval.specs.declared.interval.Interval.{Interval}
use Rattle.wsm_interval.specs.declared.comparison.Comparison.{Comparison}
use Rattle.wsm_interval.specs.declared.comparison.Comparison.TheVariants.{Eq as EqTo}
use Rattle.wsm_interval.specs.Interval.{hull, computed, neg}
use Rattle.wsm_interval.specs.Narrowing.{narrow}
use Rattle.wsm_record.specs.Schema.{FieldType, Int as IntField, Truth as TruthField, Enum as EnumField, DeclaredField, is_i64, is_field_type, is_field_after, are_fields_after}
use Rattle.wsm_record.specs.Name.{is_name}
use Rattle.wsm_program.specs.declared.instr.FieldTest.{FieldTest}
use Rattle.wsm_program.specs.declared.instr.Instr.{Instr}
use Rattle.wsm_program.specs.declared.instr.Instr.TheVariants.{PushInt, Field, Acc, Count, Compute, Neg, Jump, JumpIfFalse, Test, Fold, Return}
use Rattle.wsm_program.specs.declared.instr.SectionId.TheVariants.{Update}
use Rattle.wsm_program.specs.Instructions.{opposite_test}
use Rattle.wsm_program.specs.Program.{Name, Header, Program, is_program, is_instr}
use Rattle.wsm_program.proofs.Lawful.{program_header}
use Rattle.wsm_rules.specs.declared.known.Known.{Known}
use Rattle.wsm_rules.specs.declared.known.Known.TheVariants.{Number, Truth, NameOf}
use Rattle.wsm_rules.specs.Labels.{State, Ranges, Label, Unreached, Differing, Reached, Visit, of_one, of_two, pushed, pops, folded_after, narrowed_known, narrowed, along, agree, hull_known, hull_lists, hull_states, label_with, leads, left_from, carried_to, gathered, label_of, visits_back}
use Rattle.wsm_rules.specs.Rules.{entry, known_field, known_fields, ranges_of_record, update_visits, last_number, hull_options, value_folded, values_folded}
use Rattle.wsm_rules.proofs.LabelPass.{with_edge, gathered_next}
use Rattle.wsm_rules.proofs.Lawful.{lawful}
use Rattle.wsm_semantics.proofs.Each.{all-append}
use Rattle.wsm_machine.proofs.Operands.{rest_holds, instructions_lawful, section_lawful}
use Rattle.wsm_machine.proofs.PushedValues.{Within, computed_within, neg_within}
use Rattle.wsm_machine.proofs.Ranged.{fields_lawful}
use Rattle.wsm_machine.proofs.Words.{word_is, all-drop, all-set}

-- the ends of an interval have 64 bits
abbrev pub HasWords : Interval → Type 0
HasWords x = (negsuc 9223372036854775807 ≤ℤ x.lo) × (x.hi ≤ℤ pos 9223372036854775807)

abbrev KnowsWords : Known → Type 0
KnowsWords (Number x) = HasWords x
KnowsWords Truth = Unit {0}
KnowsWords (NameOf e) = Unit {0}

-- those of a stack and of the fields
abbrev StateWords : State → Type 0
StateWords s = AllByRecursion KnowsWords s.stack × AllByRecursion KnowsWords s.fields

abbrev LabelWords : Label → Type 0
LabelWords Unreached = Unit {0}
LabelWords Differing = Unit {0}
LabelWords (Reached s) = StateWords s

abbrev VisitWords : Visit → Type 0
VisitWords v = LabelWords v.label × IfSome v.left StateWords

abbrev RangesWords : Ranges → Type 0
RangesWords r = HasWords r.count × AllByRecursion KnowsWords r.accumulators

-- a number that an instruction has as its argument
abbrev PushesWord : Instr → Type 0
PushesWord (PushInt n) = is_i64 n ≡ true
PushesWord _ = Unit {0}

-- ---- intervals

narrow_inside : (a b : ℤ) (o : Comparison) (c : ℤ) (x : Interval) → a ≤ℤ x.lo → x.hi ≤ℤ b → (a ≤ℤ (narrow o c x).lo) × ((narrow o c x).hi ≤ℤ b)
narrow_inside a b EqTo c x h k = grind (arith, ints)
narrow_inside a b o c x h k = grind (arith, ints)

hull_inside : (a b : ℤ) (x y : Interval) → a ≤ℤ x.lo → x.hi ≤ℤ b → a ≤ℤ y.lo → y.hi ≤ℤ b → (a ≤ℤ (hull x y).lo) × ((hull x y).hi ≤ℤ b)
hull_inside a b x y h k l m = (grind (arith, ints), grind (arith, ints))

hull_words : (x y : Interval) → HasWords x → HasWords y → HasWords (hull x y)
hull_words x y h k = hull_inside (negsuc 9223372036854775807) (pos 9223372036854775807) x y h.0 h.1 k.0 k.1

-- ---- what is known of values

hull_known_words : (k l : Known) → KnowsWords k → KnowsWords l → KnowsWords (hull_known k l)
hull_known_words (Number x) (Number y) h g = hull_words x y h g
hull_known_words k l h g = h

hull_lists_words : (ks ls : List Known) → AllByRecursion KnowsWords ks → AllByRecursion KnowsWords ls → AllByRecursion KnowsWords (hull_lists ks ls)
hull_lists_words [] ls h g = tt
hull_lists_words (k ∷ ks) [] h g = h
hull_lists_words (k ∷ ks) (l ∷ ls) h g = (hull_known_words k l h.0 g.0, hull_lists_words ks ls h.1 g.1)

index_words : (ks : List Known) (n : ℕ) → AllByRecursion KnowsWords ks → KnowsWords (slice_index_or ks n Truth)
index_words [] n h = tt
index_words (k ∷ ks) zero h = h.0
index_words (k ∷ ks) (suc n) h = index_words ks n h.1

-- ---- what an instruction pushes

answer_words : (o : Option Interval) → IfSome o Within → IfSome (option_map (λ z. Number z ∷ []) o) (AllByRecursion KnowsWords)
answer_words None h = tt
answer_words (Some z) h = (((word_is z.lo h.0).0, (word_is z.hi h.1).1), tt)

one_words : (f : Interval → Option Interval) → ((x : Interval) → IfSome (f x) Within) → (ks : List Known) → IfSome (of_one f ks) (AllByRecursion KnowsWords)
one_words f w (Number x ∷ ks) = answer_words (f x) (w x)
one_words f w ks = tt

two_words : (f : Interval → Interval → Option Interval) → ((x y : Interval) → IfSome (f x y) Within) → (ks : List Known) → IfSome (of_two f ks) (AllByRecursion KnowsWords)
two_words f w (Number y ∷ Number x ∷ ks) = answer_words (f x y) (w x y)
two_words f w ks = tt

pushed_words : (r : Ranges) (i : Instr) (s : State) → RangesWords r → PushesWord i → StateWords s → IfSome (pushed r i s) (AllByRecursion KnowsWords)
pushed_words r (PushInt n) s w g h = (word_is n g, tt)
pushed_words r (Field f) s w g h = (index_words s.fields f h.1, tt)
pushed_words r (Acc a) s w g h = (index_words r.accumulators a w.1, tt)
pushed_words r Count s w g h = (w.0, tt)
pushed_words r (Compute a) s w g h = two_words (computed a) (computed_within a) s.stack
pushed_words r Neg s w g h = one_words neg neg_within s.stack
pushed_words r (Jump t) s w g h = tt
pushed_words r (JumpIfFalse t) s w g h = tt
pushed_words r (Test x t) s w g h = tt
pushed_words r (Fold a) s w g h = tt
pushed_words r Return s w g h = tt
pushed_words r i s w g h = (tt, tt)

-- ---- what it leaves, and what its edges carry

left_on : (i : Instr) (s : State) (o : Option (List Known)) → StateWords s → IfSome o (AllByRecursion KnowsWords)
    → IfSome (option_map (λ vs. record s { stack = vs ++ drop (pops i) s.stack; folded = folded_after i s.folded }) o) StateWords
left_on i s None h g = tt
left_on i s (Some vs) h g = (all-append KnowsWords vs (drop (pops i) s.stack) g (all-drop KnowsWords (pops i) s.stack h.0), h.1)

left_words : (r : Ranges) (i : Instr) (l : Label) → RangesWords r → PushesWord i → LabelWords l → IfSome (left_from r i l) StateWords
left_words r i Unreached w g h = tt
left_words r i Differing w g h = tt
left_words r i (Reached s) w g h = left_on i s (pushed r i s) h (pushed_words r i s w g h)

narrowed_known_words : (x : FieldTest) (k : Known) → KnowsWords k → KnowsWords (narrowed_known x k)
narrowed_known_words x (Number y) h = narrow_inside (negsuc 9223372036854775807) (pos 9223372036854775807) x.comparison x.number y h.0 h.1
narrowed_known_words x k h = h

narrowed_words : (x : FieldTest) (s : State) → StateWords s → StateWords (narrowed x s)
narrowed_words x s h =
    let k = slice_index_or s.fields x.field Truth in
    (h.0, all-set KnowsWords s.fields x.field (narrowed_known x k) h.1 (narrowed_known_words x k (index_words s.fields x.field h.1)))

along_words : (i : Instr) (p q : ℕ) (s : State) → StateWords s → StateWords (along i p q s)
along_words (Test x t) p q s h =
    elim (nat_eq t (suc p)) as (λ b. StateWords (cond b s (cond (nat_eq q (suc p)) (narrowed x s) (narrowed (opposite_test x) s)))) [
      | true ↦ h
      | false ↦ elim (nat_eq q (suc p)) as (λ b. StateWords (cond b (narrowed x s) (narrowed (opposite_test x) s))) [
        | true ↦ narrowed_words x s h
        | false ↦ narrowed_words (opposite_test x) s h
      ]
    ]
along_words i p q s h = h

edge_words : (i : Instr) (p q : ℕ) (o : Option State) → IfSome o StateWords → IfSome (option_map (along i p q) o) StateWords
edge_words i p q None h = tt
edge_words i p q (Some s) h = along_words i p q s h

carried_words : (q : ℕ) (v : Visit) → IfSome v.left StateWords → IfSome (carried_to q v) StateWords
carried_words q v h =
    elim (leads v.instr v.place q) as (λ b. IfSome (cond b (option_map (along v.instr v.place q) v.left) None) StateWords) [
      | true ↦ edge_words v.instr v.place q v.left h
      | false ↦ tt
    ]

-- ---- labels

joined_words : (s : State) (l : Label) → StateWords s → LabelWords l → LabelWords (label_with s l)
joined_words s Unreached h g = h
joined_words s Differing h g = tt
joined_words s (Reached t) h g =
    elim (agree s t) as (λ b. LabelWords (cond b (Reached (hull_states s t)) Differing)) [
      | true ↦ (hull_lists_words s.stack t.stack h.0 g.0, hull_lists_words s.fields t.fields h.1 g.1)
      | false ↦ tt
    ]

with_edge_words : (o : Option State) (l : Label) → IfSome o StateWords → LabelWords l → LabelWords (with_edge o l)
with_edge_words None l h g = g
with_edge_words (Some s) l h g = joined_words s l h g

gathered_words : (q : ℕ) (vs : List Visit) → AllByRecursion VisitWords vs → LabelWords (gathered q vs)
gathered_words q [] h = tt
gathered_words q (v ∷ vs) h =
    subst LabelWords (sym (gathered_next q v vs)) (with_edge_words (carried_to q v) (gathered q vs) (carried_words q v h.0.1) (gathered_words q vs h.1))

label_words : (e : State) (q : ℕ) (vs : List Visit) → StateWords e → AllByRecursion VisitWords vs → LabelWords (label_of e q vs)
label_words e q [] h g = h
label_words e q (v ∷ vs) h g = gathered_words q (v ∷ vs) g

visits_words : (e : State) (r : Ranges) (is : List Instr) → StateWords e → RangesWords r → AllByRecursion PushesWord is → AllByRecursion VisitWords (visits_back e r is)
visits_words e r [] h w g = tt
visits_words e r (i ∷ is) h w g =
    let before = visits_back e r is in
    let seen = visits_words e r is h w g.1 in
    let known = label_words e (length before) before h seen in
    ((known, left_words r i (label_of e (length before) before) w g.0 known), seen)

-- ---- the section

field_words : (f : ℕ) (t : FieldType) → is_field_type t ≡ true → KnowsWords (known_field f t)
field_words f (IntField lo hi) e =
    let ends = and_parts (is_i64 lo) (is_i64 hi && int_le lo hi) e in
    ((word_is lo ends.0).0, (word_is hi (and_parts (is_i64 hi) (int_le lo hi) ends.1).0).1)
field_words f TruthField e = tt
field_words f (EnumField names) e = tt

fields_words : (before : List Name) (f : ℕ) (ts : List DeclaredField) → are_fields_after before ts ≡ true → AllByRecursion KnowsWords (known_fields f ts)
fields_words before f [] e = tt
fields_words before f (t ∷ ts) e =
    let first = and_parts (is_field_after before t) (are_fields_after (before ++ t.name ∷ []) ts) e in
    let type = rest_holds _ (is_field_type t.type) (rest_holds (is_name t.name) _ first.0) in
    (field_words f t.type type, fields_words (before ++ t.name ∷ []) (suc f) ts first.1)

instr_word : (h : Header) (i : Instr) → is_instr h i ≡ true → PushesWord i
instr_word h (PushInt n) e = e
instr_word h i e = tt

instrs_words : (h : Header) (is : List Instr) → list_all (is_instr h) is ≡ true → AllByRecursion PushesWord is
instrs_words h [] e = tt
instrs_words h (i ∷ is) e =
    let b = and_parts (is_instr h i) (list_all (is_instr h) is) e in
    (instr_word h i b.0, instrs_words h is b.1)

back : (is : List Instr) → AllByRecursion PushesWord is → AllByRecursion PushesWord (reverse is)
back [] h = tt
back (i ∷ is) h = subst (AllByRecursion PushesWord) (sym (reverse-append (i ∷ []) is)) (all-append PushesWord (reverse is) (i ∷ []) (back is h.1) (h.0, tt))

update_words : (p : Program) → IsTrue (is_program p) → AllByRecursion VisitWords (update_visits p)
update_words p e =
    let records = (lawful p e).records in
    visits_words (entry p) (ranges_of_record p) (reverse p.update)
    (tt, fields_words [] 0 p.header.schema.fields (fields_lawful p.header (program_header p e)))
    ((omega (arith, ints), omega (arith, ints, records.1)), tt)
    (back p.update (instrs_words p.header p.update (instructions_lawful p.header p.update (section_lawful p Update e))))

-- ---- what it folds

last_words : (ks : List Known) → AllByRecursion KnowsWords ks → IfSome (last_number ks) HasWords
last_words [] h = tt
last_words (Number x ∷ ks) h = h.0
last_words (_ ∷ ks) h = tt

value_words : (a : ℕ) (i : Instr) (l : Label) → LabelWords l → IfSome (value_folded a i l) HasWords
value_words a (Fold b) Unreached h = tt
value_words a (Fold b) Differing h = tt
value_words a (Fold b) (Reached s) h =
    elim (nat_eq a b) as (λ t. IfSome (cond t (last_number s.stack) None) HasWords) [
      | true ↦ last_words s.stack h.0
      | false ↦ tt
    ]
value_words a i l h = tt

hull_option_words : (x y : Option Interval) → IfSome x HasWords → IfSome y HasWords → IfSome (hull_options x y) HasWords
hull_option_words None y h g = g
hull_option_words (Some x) None h g = h
hull_option_words (Some x) (Some y) h g = hull_words x y h g

values_words : (a : ℕ) (vs : List Visit) → AllByRecursion VisitWords vs → IfSome (values_folded a vs) HasWords
values_words a [] h = tt
values_words a (v ∷ vs) h = hull_option_words (value_folded a v.instr v.label) (values_folded a vs) (value_words a v.instr v.label h.0.0) (values_words a vs h.1)

-- what UPDATE folds into an accumulator lies between numbers of 64 bits
pub folded_within_words : (p : Program) → IsTrue (is_program p) → (a : ℕ) → IfSome (values_folded a (update_visits p)) HasWords
folded_within_words p e a = values_words a (update_visits p) (update_words p e)
