-- The rules of acceptance: at each place the first that holds, and what a program comes to.
use Rattle.std.specs.Prelude.{ℕ, suc, ◌+◌, ◌*ℤ◌, Bool, true, false, ◌&&◌, not, cond, List, [], ◌∷◌, ◌++◌, length, map, reverse, ℤ, pos, nat_eq, nat_lt, Option, Some, None, is_none, option_map, Result, Ok, Err, slice_index_or}
use Rattle.std.specs.Int.{int_min, int_max}
use Rattle.std.specs.List.{list_all}
use Rattle.wsm_interval.specs.declared.Interval.{Interval}
use Rattle.wsm_program.specs.declared.Instr.{Instr}
use Rattle.wsm_program.specs.declared.Operands.{Operands}
use Rattle.wsm_program.specs.declared.Operands.TheVariants as operands
use Rattle.wsm_program.specs.Instructions as table
use Rattle.wsm_program.specs.Instructions.{may_stand, goes_on, bad_jump, is_update, kind_of}
use Rattle.wsm_program.specs.declared.SectionId.{SectionId}
use Rattle.wsm_program.specs.declared.SectionId.TheVariants.{Where, Update, Fire}
use Rattle.wsm_record.specs.declared.Kind.{Kind}
use Rattle.wsm_record.specs.declared.limits.TheConstants.{MAX_STACK}
use Rattle.wsm_record.specs.declared.Kind.TheVariants.{Sum, Min, Max}
use Rattle.wsm_record.specs.Schema.{FieldType, Int, Truth as IsTruth, Enum, DeclaredField, is_i64}
use Rattle.wsm_program.specs.declared.program.Costs.{Costs}
use Rattle.wsm_record.specs.declared.words.CellType.{CellType}
use Rattle.wsm_record.specs.declared.words.CellType.TheVariants as column
use Rattle.wsm_rules.specs.declared.rejection.Rule.{Rule}
use Rattle.wsm_rules.specs.declared.rejection.Rule.TheVariants as rule
use Rattle.wsm_rules.specs.declared.rejection.Part.TheVariants.{Code, Budget}
use Rattle.wsm_rules.specs.declared.rejection.Rejection.{Rejection}
use Rattle.wsm_interval.specs.Interval.{interval, hull, holds}
use Rattle.wsm_program.specs.Program.{Program, section}
use Rattle.wsm_rules.specs.declared.known.Known.{Known}
use Rattle.wsm_rules.specs.declared.known.Known.TheVariants.{Number, Truth, NameOf}
use Rattle.wsm_rules.specs.Labels.{State, Ranges, pops, pushed, same_type, same_types, Label, Unreached, Differing, Reached, Visit, visits}
use Rattle.wsm_rules.specs.Costs.{needed}

-- the types that a section returns, the last first
abbrev pub column_known : CellType → Known
column_known column.Int = Number (interval (pos 0) (pos 0))
column_known column.Bool = Truth
column_known (column.Enum e) = NameOf e

abbrev pub results : Program → SectionId → List Known
results p Where = Truth ∷ []
results p Update = []
results p Fire = Truth ∷ reverse (map column_known p.header.columns)

abbrev pub is_number : Known → Bool
is_number (Number x) = true
is_number _ = false

abbrev pub is_truth : Known → Bool
is_truth Truth = true
is_truth _ = false

abbrev pub is_name_of : ℕ → Known → Bool
is_name_of e (NameOf f) = nat_eq e f
is_name_of e _ = false

abbrev pub has_type : CellType → Known → Bool
has_type column.Int x = is_number x
has_type column.Bool x = is_truth x
has_type (column.Enum e) x = is_name_of e x

abbrev pub last_is : (Known → Bool) → List Known → Bool
last_is f (x ∷ s) = f x
last_is f _ = false

abbrev pub last_two : (Known → Known → Bool) → List Known → Bool
last_two f (y ∷ x ∷ s) = f x y
last_two f _ = false

abbrev pub numbers : Known → Known → Bool
numbers x y = is_number x && is_number y

-- the last values have the types of such operands
abbrev pub operands_fit : Operands → List Known → Bool
operands_fit operands.Nothing s = true
operands_fit (operands.One t) s = last_is (has_type t) s
operands_fit operands.Numbers s = last_two numbers s
operands_fit operands.Alike s = last_two same_type s

-- the operands have the types that the instruction takes; where a section ends, its stack is exactly its result
abbrev pub types_fit : List Kind → List Known → Instr → List Known → Bool
types_fit kinds result i s = cond (table.ends i) (same_types s result) (operands_fit (table.pops kinds i) s)

abbrev pub is_folded : Option ℕ → List Bool → Bool
is_folded None folded = false
is_folded (Some a) folded = slice_index_or folded a false

abbrev pub folds_again : Instr → List Bool → Bool
folds_again i folded = is_folded (table.folds i) folded

abbrev pub has_zero : Known → Known → Bool
has_zero x (Number y) = holds y (pos 0)
has_zero x _ = false

-- the divisor's interval has 0 inside
abbrev pub may_divide_by_zero : Instr → List Known → Bool
may_divide_by_zero i s = table.divides i && last_two has_zero s

-- all records together could take a sum of such values out of 64 bits
abbrev pub sum_leaves : ℤ → Kind → Known → Bool
sum_leaves records Sum (Number x) = not (is_i64 (records *ℤ x.lo) && is_i64 (records *ℤ x.hi))
sum_leaves records _ x = false

abbrev pub fold_leaves : ℤ → List Kind → Option ℕ → List Known → Bool
fold_leaves records kinds None s = false
fold_leaves records kinds (Some a) s = last_is (sum_leaves records (kind_of kinds a)) s

abbrev pub accumulator_leaves : ℤ → List Kind → Instr → List Known → Bool
accumulator_leaves records kinds i s = fold_leaves records kinds (table.folds i) s

-- a value more than a stack can have
abbrev pub overflows : List Known → Option (List Known) → ℕ → Bool
overflows s None popped = false
overflows s (Some vs) popped = nat_lt (MAX_STACK + popped) (length s + length vs)

abbrev pub fold_missing : SectionId → Instr → List Bool → Bool
fold_missing section i folded = table.ends i && (is_update section && not (list_all (λ b. b) folded))

abbrev pub first_of : List (Rule × Bool) → Option Rule
first_of [] = None
first_of (t ∷ ts) = cond (t.1) (Some (t.0)) (first_of ts)

-- where rules are tried: in a section of n instructions
pub record Setting : Type 0 where
  pub section : SectionId
  pub kinds : List Kind
  pub records : ℤ
  pub ends : List Known  -- what its stack is at the end, the last first
  pub ranges : Ranges
  pub n : ℕ

-- the rules of an instruction's operands, before which s is known, each with whether it holds
abbrev pub operand_tests : Setting → Instr → State → List (Rule × Bool)
operand_tests c i s =
    (rule.NotHere, not (may_stand c.section i))
    ∷ (rule.StackUnderflow, nat_lt (length s.stack) (pops i))
    ∷ (rule.Type, not (types_fit c.kinds c.ends i s.stack))
    ∷ (rule.FoldTwice, folds_again i s.folded)
    ∷ (rule.MayDivideByZero, may_divide_by_zero i s.stack)
    ∷ []

-- those of what it makes of them, and of where it goes from place p
abbrev pub result_tests : Setting → ℕ → Instr → State → List (Rule × Bool)
result_tests c p i s =
    (rule.MayOverflow, is_none (pushed c.ranges i s))
    ∷ (rule.AccumulatorRange, accumulator_leaves c.records c.kinds i s.stack)
    ∷ (rule.StackOverflow, overflows s.stack (pushed c.ranges i s) (pops i))
    ∷ (rule.FoldMissing, fold_missing c.section i s.folded)
    ∷ (rule.BadJump, bad_jump c.n p i)
    ∷ (rule.NoReturn, goes_on i && nat_eq (suc p) c.n)
    ∷ []

-- the rules for an instruction at place p, in their order
abbrev pub tests : Setting → ℕ → Instr → State → List (Rule × Bool)
tests c p i s = operand_tests c i s ++ result_tests c p i s

-- the first rule that holds of the instruction at place p
abbrev pub fault_of : Setting → ℕ → Instr → Label → Option Rule
fault_of c p i Unreached = Some rule.Unreachable
fault_of c p i Differing = Some rule.Join
fault_of c p i (Reached s) = first_of (tests c p i s)

abbrev pub fault_at : Setting → Visit → Option Rejection
fault_at c v = option_map (λ r. record { part = Code c.section; place = v.place; rule = r }) (fault_of c v.place v.instr v.label)

-- the first of two rejections
abbrev pub or_then : Option Rejection → Option Rejection → Option Rejection
or_then None r = r
or_then (Some r) _ = Some r

-- the first fault of places that are given with the last first
abbrev pub first_fault : Setting → List Visit → Option Rejection
first_fault c [] = None
first_fault c (v ∷ before) = or_then (first_fault c before) (fault_at c v)

-- a section without instructions comes to its end at place 0
abbrev pub section_fault : Setting → List Visit → Option Rejection
section_fault c [] = Some (record { part = Code c.section; place = 0; rule = rule.NoReturn })
section_fault c vs = first_fault c vs

-- ENUM f + 1 is field f
abbrev pub known_field : ℕ → FieldType → Known
known_field f (Int lo hi) = Number (interval lo hi)
known_field f IsTruth = Truth
known_field f (Enum names) = NameOf (suc f)

abbrev pub known_fields : ℕ → List DeclaredField → List Known
known_fields f [] = []
known_fields f (t ∷ ts) = known_field f t.type ∷ known_fields (suc f) ts

-- at the entry nothing is on the stack, nothing is folded, and each field is as it is declared
abbrev pub entry : Program → State
entry p = record { stack = []; folded = map (λ k. false) p.header.kinds; fields = known_fields 0 p.header.schema.fields }

-- what instructions may push, where what ACC pushes is given
abbrev pub ranges_with : Program → List Known → Ranges
ranges_with p accumulators = record { count = interval (pos 1) p.header.clock.records; accumulators = accumulators }

-- in WHERE and UPDATE, where ACC may not stand
abbrev pub ranges_of_record : Program → Ranges
ranges_of_record p = ranges_with p []

abbrev pub hull_options : Option Interval → Option Interval → Option Interval
hull_options None y = y
hull_options (Some x) None = Some x
hull_options (Some x) (Some y) = Some (hull x y)

abbrev pub last_number : List Known → Option Interval
last_number (Number x ∷ s) = Some x
last_number _ = None

abbrev pub value_into : ℕ → Option ℕ → Label → Option Interval
value_into a None l = None
value_into a (Some b) Unreached = None
value_into a (Some b) Differing = None
value_into a (Some b) (Reached s) = cond (nat_eq a b) (last_number s.stack) None

-- the interval of the number that a place folds into accumulator a
abbrev pub value_folded : ℕ → Instr → Label → Option Interval
value_folded a i l = value_into a (table.folds i) l

-- the hull of the numbers folded into accumulator a at all its FOLDs
abbrev pub values_folded : ℕ → List Visit → Option Interval
values_folded a [] = None
values_folded a (v ∷ vs) = hull_options (value_folded a v.instr v.label) (values_folded a vs)

-- an accumulator's range over 1 to as many values as there are records, each in x
abbrev pub accumulated : ℤ → Kind → Interval → Option Interval
accumulated records Sum x = Some (interval (int_min x.lo (records *ℤ x.lo)) (int_max x.hi (records *ℤ x.hi)))
accumulated records Min x = Some x
accumulated records Max x = Some x
accumulated records _ x = None

abbrev pub and_then : {A B : Type 0} → (A → Option B) → Option A → Option B
and_then f None = None
and_then f (Some x) = f x

abbrev pub update_visits : Program → List Visit
update_visits p = visits (entry p) (ranges_of_record p) p.update

-- what is folded into each accumulator, from accumulator a on
abbrev pub folded_from : ℕ → List Kind → List Visit → List (Option Interval)
folded_from a [] vs = []
folded_from a (k ∷ ks) vs = values_folded a vs ∷ folded_from (suc a) ks vs

-- the range of each accumulator, where what is folded into each is given
abbrev pub accumulated_each : ℤ → List Kind → List (Option Interval) → List (Option Interval)
accumulated_each records (k ∷ ks) (x ∷ xs) = and_then (accumulated records k) x ∷ accumulated_each records ks xs
accumulated_each records _ _ = []

-- the range of each accumulator, from accumulator a on; None where it is no accumulator of numbers
abbrev pub ranges_from : ℤ → ℕ → List Kind → List Visit → List (Option Interval)
ranges_from records a ks vs = accumulated_each records ks (folded_from a ks vs)

-- those of a program
abbrev pub ranges_of : Program → List (Option Interval)
ranges_of p = ranges_from p.header.clock.records 0 p.header.kinds (update_visits p)

-- the range of accumulator a
abbrev pub range : Program → ℕ → Option Interval
range p a = slice_index_or (ranges_of p) a None

abbrev pub known_range : Option Interval → Known
known_range None = Truth
known_range (Some x) = Number x

abbrev pub known_accumulators : ℤ → ℕ → List Kind → List Visit → List Known
known_accumulators records a ks vs = map known_range (ranges_from records a ks vs)

-- in FIRE
abbrev pub ranges_of_pane : Program → List Visit → Ranges
ranges_of_pane p updated = ranges_with p (known_accumulators p.header.clock.records 0 p.header.kinds updated)

abbrev pub setting : Program → SectionId → Ranges → Setting
setting p c r = record { section = c; kinds = p.header.kinds; records = p.header.clock.records; ends = results p c; ranges = r; n = length (section p c) }

abbrev pub fault_in : Program → SectionId → Ranges → Option Rejection
fault_in p c r = section_fault (setting p c r) (visits (entry p) r (section p c))

abbrev pub code_fault : Program → Option Rejection
code_fault p = or_then (fault_in p Where (ranges_of_record p)) (or_then (fault_in p Update (ranges_of_record p)) (fault_in p Fire (ranges_of_pane p (update_visits p))))

abbrev pub first_stated : List (Rule × Bool) → Option Rejection
first_stated ts = option_map (λ r. record { part = Budget; place = 0; rule = r }) (first_of ts)

-- a stated number is below the needed one
abbrev pub budget_fault : Costs → Costs → Option Rejection
budget_fault stated need = first_stated (
    (rule.BudgetRecord, nat_lt stated.per_record need.per_record)
    ∷ (rule.BudgetPane, nat_lt stated.per_pane need.per_pane)
    ∷ (rule.BudgetHeld, nat_lt stated.held need.held)
    ∷ [])

-- the first fault of a program, or none
abbrev pub fault : Program → Option Rejection
fault p = or_then (code_fault p) (budget_fault p.header.budget (needed p))

abbrev pub unless : Costs → Option Rejection → Result Costs Rejection
unless need None = Ok need
unless need (Some r) = Err r

-- a program is accepted with the numbers that it needs, or refused for its first fault
abbrev pub judge : Program → Result Costs Rejection
judge p = unless (needed p) (fault p)
