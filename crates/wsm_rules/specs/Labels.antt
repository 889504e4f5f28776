-- What is known at each place of a section: the hull of all that its incoming edges carry.
use Rattle.std.specs.Prelude.{ℕ, suc, Bool, true, false, ◌&&◌, cond, List, [], ◌∷◌, ◌++◌, length, take, drop, reverse, nat_eq, nat_lt, Option, Some, None, option_map, slice_index_or, slice_set}
use Rattle.std.specs.List.{list_any, filter_map}
use Rattle.std.specs.Bool.{beq}
use Rattle.wsm_interval.specs.declared.Interval.{Interval}
use Rattle.wsm_program.specs.declared.FieldTest.{FieldTest}
use Rattle.wsm_program.specs.declared.Instr.{Instr}
use Rattle.wsm_program.specs.declared.Instr.TheVariants.{PushInt, PushBool, PushEnum, Field, Key, Acc, Count, Compute, Neg, Compare, Not, Jump, JumpIfFalse, Test, Fold, Return}
use Rattle.wsm_program.specs.Instructions as table
use Rattle.wsm_program.specs.declared.Edges.{Edges}
use Rattle.wsm_program.specs.declared.Edges.TheVariants.{Nowhere, Next, Target, Either, Tested}
use Rattle.wsm_program.specs.Instructions.{edges, next, opposite_test}
use Rattle.wsm_rules.specs.declared.known.Known.{Known}
use Rattle.wsm_rules.specs.declared.known.Known.TheVariants.{Number, Truth, NameOf}
use Rattle.wsm_interval.specs.Interval.{interval, computed, neg, hull}
use Rattle.wsm_interval.specs.Narrowing.{narrow}

-- what is known before an instruction
pub record State : Type 0 where
  pub stack : List Known  -- the last value first
  pub folded : List Bool  -- for each accumulator, whether it is folded already
  pub fields : List Known  -- what is known of the record's value of each field

-- what COUNT and ACC push
pub record Ranges : Type 0 where
  pub count : Interval
  pub accumulators : List Known

-- there is an edge from the instruction at p to place q; edges lead forward alone
abbrev pub leads : Instr → ℕ → ℕ → Bool
leads i p q = nat_lt p q && list_any (nat_eq q) (next i p)

-- how many values the instruction pops
abbrev pub pops : Instr → ℕ
pops i = table.how_many (table.pops [] i)

-- of one number, or of two: the right one is the last on the stack
abbrev pub of_one : (Interval → Option Interval) → List Known → Option (List Known)
of_one f (Number x ∷ s) = option_map (λ z. Number z ∷ []) (f x)
of_one f _ = None

abbrev pub of_two : (Interval → Interval → Option Interval) → List Known → Option (List Known)
of_two f (Number y ∷ Number x ∷ s) = option_map (λ z. Number z ∷ []) (f x y)
of_two f _ = None

-- what an instruction pushes; None where arithmetic has no interval
abbrev pub pushed : Ranges → Instr → State → Option (List Known)
pushed r (PushInt n) s = Some (Number (interval n n) ∷ [])
pushed r (PushBool b) s = Some (Truth ∷ [])
pushed r (PushEnum e i) s = Some (NameOf e ∷ [])
pushed r (Field f) s = Some (slice_index_or s.fields f Truth ∷ [])
pushed r Key s = Some (NameOf 0 ∷ [])
pushed r (Acc a) s = Some (slice_index_or r.accumulators a Truth ∷ [])
pushed r Count s = Some (Number r.count ∷ [])
pushed r (Compute a) s = of_two (computed a) s.stack
pushed r Neg s = of_one neg s.stack
pushed r (Compare c) s = Some (Truth ∷ [])
pushed r Not s = Some (Truth ∷ [])
pushed r (Jump t) s = Some []
pushed r (JumpIfFalse t) s = Some []
pushed r (Test test t) s = Some []
pushed r (Fold a) s = Some []
pushed r Return s = Some []

abbrev pub with_folded : Option ℕ → List Bool → List Bool
with_folded None fs = fs
with_folded (Some a) fs = slice_set fs a true

abbrev pub folded_after : Instr → List Bool → List Bool
folded_after i fs = with_folded (table.folds i) fs

-- What an instruction leaves; nothing where arithmetic has no interval.
-- (Where a rule holds of the instruction, it doesn't matter what is carried: edges lead forward, so the first fault is there or before.)
abbrev pub after : Ranges → Instr → State → Option State
after r i s = option_map (λ vs. record s { stack = vs ++ drop (pops i) s.stack; folded = folded_after i s.folded }) (pushed r i s)

abbrev pub narrowed_known : FieldTest → Known → Known
narrowed_known t (Number x) = Number (narrow t.comparison t.number x)
narrowed_known t k = k

-- what is known where a test is true
abbrev pub narrowed : FieldTest → State → State
narrowed t s = record s { fields = slice_set s.fields t.field (narrowed_known t (slice_index_or s.fields t.field Truth)) }

-- What edges from place p carry to place q, of the state that the instruction leaves: those of a test narrow it, to the target by the opposite test.
-- (Where both edges of a test lead to one place nothing is narrowed: the hull of what both leave is all.)
abbrev pub carried : Edges → ℕ → ℕ → State → State
carried Nowhere p q s = s
carried Next p q s = s
carried (Target t) p q s = s
carried (Either t) p q s = s
carried (Tested test t) p q s = cond (nat_eq t (suc p)) s (cond (nat_eq q (suc p)) (narrowed test s) (narrowed (opposite_test test) s))

abbrev pub along : Instr → ℕ → ℕ → State → State
along i p q s = carried (edges i) p q s

abbrev pub same_type : Known → Known → Bool
same_type (Number x) (Number y) = true
same_type Truth Truth = true
same_type (NameOf e) (NameOf f) = nat_eq e f
same_type _ _ = false

abbrev pub same_types : List Known → List Known → Bool
same_types [] [] = true
same_types (x ∷ xs) (y ∷ ys) = same_type x y && same_types xs ys
same_types _ _ = false

abbrev pub same_flags : List Bool → List Bool → Bool
same_flags [] [] = true
same_flags (f ∷ fs) (g ∷ gs) = beq f g && same_flags fs gs
same_flags _ _ = false

-- the same height, types and folded accumulators; a field's type is always the declared one
abbrev pub agree : State → State → Bool
agree s t = same_types s.stack t.stack && (same_flags s.folded t.folded && same_types s.fields t.fields)

abbrev pub hull_known : Known → Known → Known
hull_known (Number x) (Number y) = Number (hull x y)
hull_known x y = x

-- one by one
abbrev pub hull_lists : List Known → List Known → List Known
hull_lists (x ∷ xs) (y ∷ ys) = hull_known x y ∷ hull_lists xs ys
hull_lists xs _ = xs

abbrev pub hull_states : State → State → State
hull_states s t = record { stack = hull_lists s.stack t.stack; folded = s.folded; fields = hull_lists s.fields t.fields }

-- what a place is known to have
pub data Label : Type 0 where
  Unreached : Label  -- no edge leads there
  Differing : Label  -- its edges differ in height, types or folded accumulators
  Reached : (state : State) → Label

abbrev pub label_with : State → Label → Label
label_with s Unreached = Reached s
label_with s Differing = Differing
label_with s (Reached t) = cond (agree s t) (Reached (hull_states s t)) Differing

-- the hull of all states that are carried to a place
abbrev pub hull_all : List State → Label
hull_all [] = Unreached
hull_all (s ∷ ss) = label_with s (hull_all ss)

-- an instruction, its place, the label of this place and what it leaves
pub record Visit : Type 0 where
  pub place : ℕ
  pub instr : Instr
  pub label : Label
  pub left : Option State

abbrev pub left_from : Ranges → Instr → Label → Option State
left_from r i (Reached s) = after r i s
left_from r i _ = None

-- what an edge from an instruction to place q carries
abbrev pub carried_to : ℕ → Visit → Option State
carried_to q v = cond (leads v.instr v.place q) (option_map (along v.instr v.place q) v.left) None

-- the hull of all that edges from given places carry to place q
abbrev pub gathered : ℕ → List Visit → Label
gathered q vs = hull_all (filter_map (carried_to q) vs)

-- the label of place q, where all places before it are visited: the entry's at place 0, else the hull of all edges into it
abbrev pub label_of : State → ℕ → List Visit → Label
label_of entry q [] = Reached entry
label_of entry q before = gathered q before

abbrev pub visit : Ranges → ℕ → Instr → Label → Visit
visit r q i l = record { place = q; instr = i; label = l; left = left_from r i l }

-- the visit of the next place
abbrev pub visit_of : State → Ranges → Instr → List Visit → Visit
visit_of entry r i before = visit r (length before) i (label_of entry (length before) before)

abbrev pub visited_next : State → Ranges → Instr → List Visit → List Visit
visited_next entry r i before = visit_of entry r i before ∷ before

-- the places of a section, the last first, from its instructions, the last first
abbrev pub visits_back : State → Ranges → List Instr → List Visit
visits_back entry r [] = []
visits_back entry r (i ∷ before) = visited_next entry r i (visits_back entry r before)

-- the places of a section with their labels, the last first
abbrev pub visits : State → Ranges → List Instr → List Visit
visits entry r is = visits_back entry r (reverse is)

-- the label of place p
abbrev pub label_at : State → Ranges → List Instr → ℕ → Label
label_at entry r is p = label_of entry p (visits entry r (take p is))
