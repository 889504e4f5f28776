-- Worked programs, computed by the definitions.
use Rattle.std.specs.Prelude.{◌≡◌, refl, ℕ, ℤ, List, map, Result, true, false, [], ◌∷◌, pos, negsuc, Ok, Err, None, Some}
use Rattle.wsm_program.specs.declared.Instr.TheVariants.{PushInt, PushBool, PushEnum, Field, Key, Acc, Count, Compute, Neg, Compare, Jump, JumpIfFalse, Fold, Return}
use Rattle.wsm_interval.specs.declared.Arithmetic.TheVariants.{Add, Sub, Div, Rem}
use Rattle.wsm_interval.specs.declared.Comparison.TheVariants.{Eq, Lt, Gt}
use Rattle.wsm_program.specs.declared.SectionId.TheVariants.{Where, Update, Fire}
use Rattle.wsm_record.specs.declared.Kind.TheVariants as kind
use Rattle.wsm_windows.specs.declared.Shape.{Shape}
use Rattle.wsm_windows.specs.declared.Shape.TheVariants.{Fixed, Sliding, Session}
use Rattle.wsm_record.specs.Schema.{FieldType, Int, Enum}
use Rattle.wsm_record.specs.declared.Kind.{Kind}
use Rattle.wsm_record.specs.declared.Mode.TheVariants.{Accumulating}
use Rattle.wsm_record.specs.declared.Form.TheVariants.{Panes}
use Rattle.wsm_record.specs.declared.words.CellType.{CellType}
use Rattle.wsm_record.specs.declared.words.CellType.TheVariants as column
use Rattle.wsm_program.specs.declared.Instr.{Instr}
use Rattle.wsm_rules.specs.declared.rejection.Rule.{Rule}
use Rattle.wsm_rules.specs.declared.rejection.Rule.TheVariants as rule
use Rattle.wsm_rules.specs.declared.rejection.Part.{Part}
use Rattle.wsm_rules.specs.declared.rejection.Part.TheVariants.{Code, Budget}
use Rattle.wsm_rules.specs.declared.rejection.Rejection.{Rejection}
use Rattle.wsm_program.specs.declared.program.Costs.{Costs}
use Rattle.wsm_program.specs.Program.{Program}
use Rattle.wsm_interval.specs.Interval.{interval}
use Rattle.wsm_rules.specs.Rules.{judge, range}

abbrev pub costs : ℕ → ℕ → ℕ → Costs
costs record_steps pane_steps held = record { per_record = record_steps; per_pane = pane_steps; held = held }

abbrev pub refused : Part → ℕ → Rule → Rejection
refused part place why = record { part = part; place = place; rule = why }

-- what a worked program says; its fields have no names
pub record Worked : Type 0 where
  pub fields : List FieldType
  pub lateness : ℤ
  pub records : ℤ
  pub shape : Shape
  pub kinds : List Kind
  pub columns : List CellType
  pub budget : Costs
  pub selection : List Instr
  pub update : List Instr
  pub fire : List Instr

abbrev pub program : Worked → Program
program w = record {
  header = record {
    schema = record { keys = (97 ∷ []) ∷ (98 ∷ []) ∷ []; fields = map (λ t. record { name = []; type = t }) w.fields; sources = [] };
    clock = record { start = pos 0; skew = pos 100; lateness = w.lateness; from_window = false; records = w.records };
    shape = w.shape;
    mode = Accumulating;
    early = pos 0;
    late = pos 0;
    form = Panes;
    kinds = w.kinds;
    columns = w.columns;
    budget = record { per_record = w.budget.per_record; per_pane = w.budget.per_pane; held = w.budget.held };
  };
  selection = w.selection;
  update = w.update;
  fire = w.fire;
}

abbrev pub judged : Worked → Result Costs Rejection
judged w = judge (program w)

abbrev pub base : Worked
base = record { fields = (Int (pos 0) (pos 100) ∷ []); lateness = (pos 10); records = (pos 1000); shape = Fixed (pos 60); kinds = (kind.Sum ∷ []); columns = (column.Int ∷ column.Int ∷ []); budget = costs 100 100 100; selection = (PushBool true ∷ Return ∷ []); update = (Field 0 ∷ Fold 0 ∷ Return ∷ []); fire = (Count ∷ Acc 0 ∷ PushBool true ∷ Return ∷ []) }

-- the base program, with its numbers stated exactly

base_exact : judged (record base { budget = costs 5 4 6 }) ≡ Ok (costs 5 4 6)
base_exact = refl

base_record : judged (record base { budget = costs 4 4 6 }) ≡ Err (refused Budget 0 rule.BudgetRecord)
base_record = refl

base_pane : judged (record base { budget = costs 5 3 6 }) ≡ Err (refused Budget 0 rule.BudgetPane)
base_pane = refl

base_held : judged (record base { budget = costs 5 4 5 }) ≡ Err (refused Budget 0 rule.BudgetHeld)
base_held = refl

-- the numbers of other shapes

sliding : judged (record base { shape = Sliding (pos 60) (pos 25) }) ≡ Ok (costs 11 4 14)
sliding = refl

session : judged (record base { shape = Session (pos 30); lateness = (pos 0) }) ≡ Ok (costs 6 4 10)
session = refl

-- a join's hull has 0 in the divisor, whichever branch pushes it; the longer branch decides the longest path

join_zero : judged (record base { columns = (column.Int ∷ []); fire = (PushInt (pos 100) ∷ Count ∷ PushInt (pos 5) ∷ Compare Gt ∷ JumpIfFalse 7 ∷ PushInt (pos 1) ∷ Jump 8 ∷ PushInt (pos 0) ∷ Compute Div ∷ PushBool true ∷ Return ∷ []) }) ≡ Err (refused (Code Fire) 8 rule.MayDivideByZero)
join_zero = refl

join_zero_first : judged (record base { columns = (column.Int ∷ []); fire = (PushInt (pos 100) ∷ Count ∷ PushInt (pos 5) ∷ Compare Gt ∷ JumpIfFalse 7 ∷ PushInt (pos 0) ∷ Jump 8 ∷ PushInt (pos 3) ∷ Compute Div ∷ PushBool true ∷ Return ∷ []) }) ≡ Err (refused (Code Fire) 8 rule.MayDivideByZero)
join_zero_first = refl

join_around_zero : judged (record base { columns = (column.Int ∷ []); fire = (PushInt (pos 100) ∷ Count ∷ PushInt (pos 5) ∷ Compare Gt ∷ JumpIfFalse 7 ∷ PushInt (pos 1) ∷ Jump 8 ∷ PushInt (negsuc 0) ∷ Compute Div ∷ PushBool true ∷ Return ∷ []) }) ≡ Err (refused (Code Fire) 8 rule.MayDivideByZero)
join_around_zero = refl

join_ten : judged (record base { columns = (column.Int ∷ []); fire = (PushInt (pos 100) ∷ Count ∷ PushInt (pos 5) ∷ Compare Gt ∷ JumpIfFalse 7 ∷ PushInt (pos 1) ∷ Jump 8 ∷ PushInt (pos 3) ∷ Compute Div ∷ PushBool true ∷ Return ∷ []); budget = costs 5 10 6 }) ≡ Ok (costs 5 10 6)
join_ten = refl

join_nine : judged (record base { columns = (column.Int ∷ []); fire = (PushInt (pos 100) ∷ Count ∷ PushInt (pos 5) ∷ Compare Gt ∷ JumpIfFalse 7 ∷ PushInt (pos 1) ∷ Jump 8 ∷ PushInt (pos 3) ∷ Compute Div ∷ PushBool true ∷ Return ∷ []); budget = costs 5 9 6 }) ≡ Err (refused Budget 0 rule.BudgetPane)
join_nine = refl

-- the least number by -1

least_div : judged (record base { columns = (column.Int ∷ []); fire = (PushInt (negsuc 9223372036854775807) ∷ PushInt (negsuc 0) ∷ Compute Div ∷ PushBool true ∷ Return ∷ []) }) ≡ Err (refused (Code Fire) 2 rule.MayOverflow)
least_div = refl

least_rem : judged (record base { columns = (column.Int ∷ []); fire = (PushInt (negsuc 9223372036854775807) ∷ PushInt (negsuc 0) ∷ Compute Rem ∷ PushBool true ∷ Return ∷ []); budget = costs 5 5 6 }) ≡ Ok (costs 5 5 6)
least_rem = refl

least_rem_four : judged (record base { columns = (column.Int ∷ []); fire = (PushInt (negsuc 9223372036854775807) ∷ PushInt (negsuc 0) ∷ Compute Rem ∷ PushBool true ∷ Return ∷ []); budget = costs 5 4 6 }) ≡ Err (refused Budget 0 rule.BudgetPane)
least_rem_four = refl

-- an average is accepted, a quotient by a sum from 0 isn't

average : judged (record base { columns = (column.Int ∷ []); fire = (Acc 0 ∷ Count ∷ Compute Div ∷ PushBool true ∷ Return ∷ []) }) ≡ Ok (costs 5 5 6)
average = refl

by_sum : judged (record base { columns = (column.Int ∷ []); fire = (PushInt (pos 100) ∷ Acc 0 ∷ Compute Div ∷ PushBool true ∷ Return ∷ []) }) ≡ Err (refused (Code Fire) 2 rule.MayDivideByZero)
by_sum = refl

by_sum_from_one : judged (record base { columns = (column.Int ∷ []); fire = (PushInt (pos 100) ∷ Acc 0 ∷ Compute Div ∷ PushBool true ∷ Return ∷ []); fields = (Int (pos 1) (pos 100) ∷ []) }) ≡ Ok (costs 5 5 6)
by_sum_from_one = refl

-- a sum over all records leaves 64 bits

sum_wide : judged (record base { fields = (Int (pos 0) (pos 1000000000000) ∷ []); records = (pos 1000000000000) }) ≡ Err (refused (Code Update) 1 rule.AccumulatorRange)
sum_wide = refl

sum_most : judged (record base { fields = (Int (pos 0) (pos 9223372) ∷ []); records = (pos 1000000000000) }) ≡ Ok (costs 5 4 6)
sum_most = refl

sum_one_more : judged (record base { fields = (Int (pos 0) (pos 9223373) ∷ []); records = (pos 1000000000000) }) ≡ Err (refused (Code Update) 1 rule.AccumulatorRange)
sum_one_more = refl

sum_low : judged (record base { fields = (Int (negsuc 9223372) (pos 0) ∷ []); records = (pos 1000000000000) }) ≡ Err (refused (Code Update) 1 rule.AccumulatorRange)
sum_low = refl

sum_lowest : judged (record base { fields = (Int (negsuc 9223371) (pos 0) ∷ []); records = (pos 1000000000000) }) ≡ Ok (costs 5 4 6)
sum_lowest = refl

max_wide : judged (record base { fields = (Int (pos 0) (pos 1000000000000) ∷ []); records = (pos 1000000000000); kinds = (kind.Max ∷ []) }) ≡ Ok (costs 5 4 6)
max_wide = refl

-- jumps that lead back, to their own place, or past the end

jump_back : judged (record base { selection = (PushBool true ∷ Jump 0 ∷ Return ∷ []) }) ≡ Err (refused (Code Where) 1 rule.BadJump)
jump_back = refl

jump_self : judged (record base { selection = (PushBool true ∷ Jump 1 ∷ Return ∷ []) }) ≡ Err (refused (Code Where) 1 rule.BadJump)
jump_self = refl

jump_end : judged (record base { selection = (PushBool true ∷ PushBool true ∷ JumpIfFalse 4 ∷ Return ∷ []) }) ≡ Err (refused (Code Where) 2 rule.BadJump)
jump_end = refl

jump_last : judged (record base { selection = (PushBool true ∷ Jump 2 ∷ []) }) ≡ Err (refused (Code Where) 1 rule.BadJump)
jump_last = refl

jump_if_last : judged (record base { selection = (PushBool true ∷ PushBool true ∷ JumpIfFalse 3 ∷ []) }) ≡ Err (refused (Code Where) 2 rule.BadJump)
jump_if_last = refl

jump_on : judged (record base { selection = (PushBool true ∷ Jump 2 ∷ Return ∷ []) }) ≡ Ok (costs 6 4 6)
jump_on = refl

jump_twice_there : judged (record base { selection = (PushBool true ∷ PushBool true ∷ JumpIfFalse 3 ∷ Return ∷ []) }) ≡ Ok (costs 7 4 6)
jump_twice_there = refl

-- folds

fold_missing : judged (record base { update = (Return ∷ []) }) ≡ Err (refused (Code Update) 0 rule.FoldMissing)
fold_missing = refl

fold_once : judged (record base { update = (PushInt (pos 1) ∷ Fold 0 ∷ Return ∷ []) }) ≡ Ok (costs 5 4 6)
fold_once = refl

fold_twice : judged (record base { update = (Field 0 ∷ Fold 0 ∷ Field 0 ∷ Fold 0 ∷ Return ∷ []) }) ≡ Err (refused (Code Update) 3 rule.FoldTwice)
fold_twice = refl

fold_other : judged (record base { update = (Field 0 ∷ Fold 0 ∷ Field 0 ∷ Fold 1 ∷ Return ∷ []); kinds = (kind.Sum ∷ kind.Min ∷ []) }) ≡ Ok (costs 7 4 6)
fold_other = refl

fold_one_side : judged (record base { update = (Field 0 ∷ PushInt (pos 5) ∷ Compare Lt ∷ JumpIfFalse 6 ∷ Field 0 ∷ Fold 0 ∷ Return ∷ []) }) ≡ Err (refused (Code Update) 6 rule.Join)
fold_one_side = refl

fold_both_sides : judged (record base { update = (Field 0 ∷ PushInt (pos 5) ∷ Compare Lt ∷ JumpIfFalse 7 ∷ PushInt (pos 1) ∷ Fold 0 ∷ Return ∷ PushInt (pos 2) ∷ Fold 0 ∷ Return ∷ []) }) ≡ Ok (costs 9 4 6)
fold_both_sides = refl

-- an accumulator's range is the hull of what all its FOLDs fold

all_folds : judged (record base { update = (Field 0 ∷ PushInt (pos 5) ∷ Compare Lt ∷ JumpIfFalse 7 ∷ PushInt (pos 1) ∷ Fold 0 ∷ Return ∷ PushInt (pos 0) ∷ Fold 0 ∷ Return ∷ []); kinds = (kind.Min ∷ []); columns = (column.Int ∷ []); fire = (PushInt (pos 1) ∷ Acc 0 ∷ Compute Div ∷ PushBool true ∷ Return ∷ []) }) ≡ Err (refused (Code Fire) 2 rule.MayDivideByZero)
all_folds = refl

all_folds_first : judged (record base { update = (Field 0 ∷ PushInt (pos 5) ∷ Compare Lt ∷ JumpIfFalse 7 ∷ PushInt (pos 0) ∷ Fold 0 ∷ Return ∷ PushInt (pos 1) ∷ Fold 0 ∷ Return ∷ []); kinds = (kind.Min ∷ []); columns = (column.Int ∷ []); fire = (PushInt (pos 1) ∷ Acc 0 ∷ Compute Div ∷ PushBool true ∷ Return ∷ []) }) ≡ Err (refused (Code Fire) 2 rule.MayDivideByZero)
all_folds_first = refl

sum_of_one : judged (record base { fields = (Int (pos 5) (pos 9) ∷ []); columns = (column.Int ∷ []); fire = (PushInt (pos 1) ∷ Acc 0 ∷ PushInt (pos 5) ∷ Compute Sub ∷ Compute Div ∷ PushBool true ∷ Return ∷ []) }) ≡ Err (refused (Code Fire) 4 rule.MayDivideByZero)
sum_of_one = refl

sum_above : judged (record base { fields = (Int (pos 5) (pos 9) ∷ []); columns = (column.Int ∷ []); fire = (PushInt (pos 1) ∷ Acc 0 ∷ PushInt (pos 4) ∷ Compute Sub ∷ Compute Div ∷ PushBool true ∷ Return ∷ []) }) ≡ Ok (costs 5 7 6)
sum_above = refl

all_folds_not_zero : judged (record base { update = (Field 0 ∷ PushInt (pos 5) ∷ Compare Lt ∷ JumpIfFalse 7 ∷ PushInt (pos 1) ∷ Fold 0 ∷ Return ∷ PushInt (pos 2) ∷ Fold 0 ∷ Return ∷ []); kinds = (kind.Min ∷ []); columns = (column.Int ∷ []); fire = (PushInt (pos 1) ∷ Acc 0 ∷ Compute Div ∷ PushBool true ∷ Return ∷ []) }) ≡ Ok (costs 9 5 6)
all_folds_not_zero = refl

-- the stack: too few operands, a 33rd value

too_few : judged (record base { fire = (Neg ∷ Acc 0 ∷ PushBool true ∷ Return ∷ []) }) ≡ Err (refused (Code Fire) 0 rule.StackUnderflow)
too_few = refl

enough : judged (record base { fire = (Count ∷ Neg ∷ Acc 0 ∷ PushBool true ∷ Return ∷ []) }) ≡ Ok (costs 5 5 6)
enough = refl

too_few_first : judged (record base { fire = (PushBool true ∷ Compute Add ∷ Acc 0 ∷ PushBool true ∷ Return ∷ []) }) ≡ Err (refused (Code Fire) 1 rule.StackUnderflow)
too_few_first = refl

thirty_three : judged (record base { selection = (PushBool true ∷ PushBool true ∷ PushBool true ∷ PushBool true ∷ PushBool true ∷ PushBool true ∷ PushBool true ∷ PushBool true ∷ PushBool true ∷ PushBool true ∷ PushBool true ∷ PushBool true ∷ PushBool true ∷ PushBool true ∷ PushBool true ∷ PushBool true ∷ PushBool true ∷ PushBool true ∷ PushBool true ∷ PushBool true ∷ PushBool true ∷ PushBool true ∷ PushBool true ∷ PushBool true ∷ PushBool true ∷ PushBool true ∷ PushBool true ∷ PushBool true ∷ PushBool true ∷ PushBool true ∷ PushBool true ∷ PushBool true ∷ PushBool true ∷ Compare Eq ∷ Compare Eq ∷ Compare Eq ∷ Compare Eq ∷ Compare Eq ∷ Compare Eq ∷ Compare Eq ∷ Compare Eq ∷ Compare Eq ∷ Compare Eq ∷ Compare Eq ∷ Compare Eq ∷ Compare Eq ∷ Compare Eq ∷ Compare Eq ∷ Compare Eq ∷ Compare Eq ∷ Compare Eq ∷ Compare Eq ∷ Compare Eq ∷ Compare Eq ∷ Compare Eq ∷ Compare Eq ∷ Compare Eq ∷ Compare Eq ∷ Compare Eq ∷ Compare Eq ∷ Compare Eq ∷ Compare Eq ∷ Compare Eq ∷ Compare Eq ∷ Compare Eq ∷ Return ∷ []) }) ≡ Err (refused (Code Where) 32 rule.StackOverflow)
thirty_three = refl

thirty_two : judged (record base { selection = (PushBool true ∷ PushBool true ∷ PushBool true ∷ PushBool true ∷ PushBool true ∷ PushBool true ∷ PushBool true ∷ PushBool true ∷ PushBool true ∷ PushBool true ∷ PushBool true ∷ PushBool true ∷ PushBool true ∷ PushBool true ∷ PushBool true ∷ PushBool true ∷ PushBool true ∷ PushBool true ∷ PushBool true ∷ PushBool true ∷ PushBool true ∷ PushBool true ∷ PushBool true ∷ PushBool true ∷ PushBool true ∷ PushBool true ∷ PushBool true ∷ PushBool true ∷ PushBool true ∷ PushBool true ∷ PushBool true ∷ PushBool true ∷ Compare Eq ∷ Compare Eq ∷ Compare Eq ∷ Compare Eq ∷ Compare Eq ∷ Compare Eq ∷ Compare Eq ∷ Compare Eq ∷ Compare Eq ∷ Compare Eq ∷ Compare Eq ∷ Compare Eq ∷ Compare Eq ∷ Compare Eq ∷ Compare Eq ∷ Compare Eq ∷ Compare Eq ∷ Compare Eq ∷ Compare Eq ∷ Compare Eq ∷ Compare Eq ∷ Compare Eq ∷ Compare Eq ∷ Compare Eq ∷ Compare Eq ∷ Compare Eq ∷ Compare Eq ∷ Compare Eq ∷ Compare Eq ∷ Compare Eq ∷ Compare Eq ∷ Return ∷ []) }) ≡ Ok (costs 67 4 6)
thirty_two = refl

-- types

result_type : judged (record base { selection = (PushInt (pos 1) ∷ Return ∷ []) }) ≡ Err (refused (Code Where) 1 rule.Type)
result_type = refl

result_height : judged (record base { selection = (PushBool true ∷ PushBool true ∷ Return ∷ []) }) ≡ Err (refused (Code Where) 2 rule.Type)
result_height = refl

result_none : judged (record base { selection = (Return ∷ []) }) ≡ Err (refused (Code Where) 0 rule.Type)
result_none = refl

result_left : judged (record base { update = (Field 0 ∷ Fold 0 ∷ Key ∷ Return ∷ []) }) ≡ Err (refused (Code Update) 3 rule.Type)
result_left = refl

two_types : judged (record base { selection = (PushInt (pos 1) ∷ PushBool true ∷ Compare Eq ∷ Return ∷ []) }) ≡ Err (refused (Code Where) 2 rule.Type)
two_types = refl

one_type : judged (record base { selection = (PushInt (pos 1) ∷ PushInt (pos 1) ∷ Compare Eq ∷ Return ∷ []) }) ≡ Ok (costs 7 4 6)
one_type = refl

two_names : judged (record base { selection = (Key ∷ Field 0 ∷ Compare Eq ∷ Return ∷ []); fields = (Enum ((110 ∷ []) ∷ []) ∷ []); update = (PushInt (pos 1) ∷ Fold 0 ∷ Return ∷ []) }) ≡ Err (refused (Code Where) 2 rule.Type)
two_names = refl

one_name : judged (record base { selection = (Key ∷ PushEnum 0 1 ∷ Compare Eq ∷ Return ∷ []) }) ≡ Ok (costs 7 4 6)
one_name = refl

columns_in_order : judged (record base { columns = (column.Int ∷ column.Enum 0 ∷ []); fire = (Count ∷ Key ∷ PushBool true ∷ Return ∷ []) }) ≡ Ok (costs 5 4 6)
columns_in_order = refl

columns_turned : judged (record base { columns = (column.Enum 0 ∷ column.Int ∷ []); fire = (Count ∷ Key ∷ PushBool true ∷ Return ∷ []) }) ≡ Err (refused (Code Fire) 3 rule.Type)
columns_turned = refl

count_in_fire : judged (record base { columns = (column.Int ∷ []); fire = (Count ∷ PushBool true ∷ Return ∷ []) }) ≡ Ok (costs 5 3 6)
count_in_fire = refl

-- edges that disagree, a place that no edge leads to

heights : judged (record base { selection = (PushBool true ∷ JumpIfFalse 3 ∷ PushBool true ∷ PushBool false ∷ Return ∷ []) }) ≡ Err (refused (Code Where) 3 rule.Join)
heights = refl

sides : judged (record base { selection = (PushBool true ∷ JumpIfFalse 4 ∷ PushBool true ∷ Jump 5 ∷ PushBool false ∷ Return ∷ []) }) ≡ Ok (costs 8 4 6)
sides = refl

side_types : judged (record base { selection = (PushBool true ∷ JumpIfFalse 4 ∷ PushInt (pos 1) ∷ Jump 5 ∷ PushBool false ∷ Return ∷ []) }) ≡ Err (refused (Code Where) 5 rule.Join)
side_types = refl

unreached : judged (record base { selection = (PushBool true ∷ Jump 3 ∷ PushBool false ∷ Return ∷ []) }) ≡ Err (refused (Code Where) 2 rule.Unreachable)
unreached = refl

after_return : judged (record base { selection = (PushBool true ∷ Return ∷ Return ∷ []) }) ≡ Err (refused (Code Where) 2 rule.Unreachable)
after_return = refl

-- the end of a section

no_return : judged (record base { fire = (Count ∷ Acc 0 ∷ PushBool true ∷ []) }) ≡ Err (refused (Code Fire) 2 rule.NoReturn)
no_return = refl

no_code : judged (record base { selection = ([]) }) ≡ Err (refused (Code Where) 0 rule.NoReturn)
no_code = refl

no_code_later : judged (record base { update = ([]) }) ≡ Err (refused (Code Update) 0 rule.NoReturn)
no_code_later = refl

-- instructions that may not stand there; rules in their order

count_in_where : judged (record base { selection = (Count ∷ Return ∷ []) }) ≡ Err (refused (Code Where) 0 rule.NotHere)
count_in_where = refl

field_in_fire : judged (record base { fire = (Field 0 ∷ Acc 0 ∷ PushBool true ∷ Return ∷ []) }) ≡ Err (refused (Code Fire) 0 rule.NotHere)
field_in_fire = refl

fold_in_fire : judged (record base { fire = (Fold 0 ∷ Return ∷ []) }) ≡ Err (refused (Code Fire) 0 rule.NotHere)
fold_in_fire = refl

acc_in_update : judged (record base { update = (Acc 0 ∷ Fold 0 ∷ Return ∷ []) }) ≡ Err (refused (Code Update) 0 rule.NotHere)
acc_in_update = refl

sum_past : judged (record base { columns = (column.Int ∷ []); fire = (PushInt (pos 9223372036854774808) ∷ Count ∷ Compute Add ∷ PushBool true ∷ Return ∷ []) }) ≡ Err (refused (Code Fire) 2 rule.MayOverflow)
sum_past = refl

sum_just : judged (record base { columns = (column.Int ∷ []); fire = (PushInt (pos 9223372036854774807) ∷ Count ∷ Compute Add ∷ PushBool true ∷ Return ∷ []) }) ≡ Ok (costs 5 5 6)
sum_just = refl

where_before_update : judged (record base { selection = (Return ∷ []); update = (Return ∷ []) }) ≡ Err (refused (Code Where) 0 rule.Type)
where_before_update = refl

code_before_budget : judged (record base { fire = (Return ∷ []); budget = costs 1 1 1 }) ≡ Err (refused (Code Fire) 0 rule.Type)
code_before_budget = refl

-- ranges of accumulators, over 1 to 1,000 records of -5 to 9

abbrev three_kinds : Worked
three_kinds = record base { fields = (Int (negsuc 4) (pos 9) ∷ []); kinds = (kind.Sum ∷ kind.Max ∷ kind.Any ∷ []); update = (Field 0 ∷ Fold 0 ∷ Field 0 ∷ Fold 1 ∷ PushBool true ∷ Fold 2 ∷ Return ∷ []) }

range_of_sum : range (program three_kinds) 0 ≡ Some (interval (negsuc 4999) (pos 9000))
range_of_sum = refl

range_of_max : range (program three_kinds) 1 ≡ Some (interval (negsuc 4) (pos 9))
range_of_max = refl

range_of_any : range (program three_kinds) 2 ≡ None
range_of_any = refl

range_of_none : range (program three_kinds) 3 ≡ None
range_of_none = refl
