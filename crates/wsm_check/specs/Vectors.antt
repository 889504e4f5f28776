-- Queries with their first refusals, computed by the definitions.
use Rattle.std.specs.Prelude.{◌≡◌, refl, ℕ, zero, suc, true, false, List, [], ◌∷◌, ◌++◌, replicate, pos, negsuc, Option, Some, None, codes}
use Rattle.wsm_record.specs.declared.words.Kind.TheVariants.{Sum, Any}
use Rattle.wsm_record.specs.declared.words.Mode.TheVariants.{Discarding, Accumulating, Retracting}
use Rattle.wsm_record.specs.declared.words.Form.TheVariants.{Panes, Istream, Dstream}
use Rattle.wsm_windows.specs.declared.window.Shape.TheVariants.{Fixed, Sliding, Session}
use Rattle.wsm_interval.specs.declared.Arithmetic.TheVariants.{Add}
use Rattle.wsm_interval.specs.declared.Comparison.TheVariants.{Eq, Gt}
use Rattle.wsm_query.specs.declared.expr.Op.TheVariants.{Compute, Compare}
use Rattle.wsm_record.specs.Schema.{FieldType, DeclaredField}
use Rattle.wsm_record.specs.Schema as field_types
use Rattle.wsm_query.specs.Tree.{Query, Expr, Number, Truth, Field, EnumName, Key, KeyName, Count, Aggregate, If, Binary}
use Rattle.wsm_check.specs.declared.refusal.CheckFault.{CheckFault}
use Rattle.wsm_check.specs.declared.refusal.CheckFault.TheVariants.{UnknownName, Duplicate, FieldOutsideAggregate, AggregateNested, AggregateInWhere, Limit, Exceeds, StreamNeedsAccumulating, SessionLateness}
use Rattle.wsm_check.specs.declared.refusal.CheckFault.TheVariants as fault
use Rattle.wsm_check.specs.declared.refusal.CodeLimit.TheVariants.{Accumulators, Stack}
use Rattle.wsm_check.specs.declared.refusal.CodeLimit.TheVariants as limit
use Rattle.wsm_check.specs.declared.refusal.Part.{Part}
use Rattle.wsm_check.specs.declared.refusal.Part.TheVariants as part
use Rattle.wsm_check.specs.declared.refusal.CheckRefusal.{CheckRefusal}
use Rattle.wsm_check.specs.declared.refusal.CheckRefusal.TheVariants.{Fault}
use Rattle.wsm_check.specs.Checks.{refusal}

abbrev n : Expr
n = Field (codes "n")

abbrev m : Expr
m = Field (codes "m")

abbrev one : Expr
one = Number (pos 1)

abbrev field : List ℕ → FieldType → DeclaredField
field name ty = record { name = name; type = ty }

-- `SELECT COUNT(*), SUM(n)` in fixed windows of 60
abbrev base : Query
base = record {
  keys = codes "a" ∷ codes "b" ∷ [];
  fields = field (codes "n") (field_types.Int (pos 0) (pos 100)) ∷ [];
  sources = [];
  clock = record { start = pos 0; skew = pos 100; lateness = pos 10; from_window = false; records = pos 1000 };
  budget = None;
  columns = Count ∷ Aggregate Sum n ∷ [];
  condition = None;
  having = None;
  output = record { shape = Fixed (pos 60); mode = Accumulating; early = None; late = None; form = Panes };
}

abbrev selecting : List Expr → Option CheckRefusal
selecting columns = refusal (record base { columns = columns })

abbrev having : Expr → Option CheckRefusal
having e = refusal (record base { having = Some e })

abbrev filtered : Expr → Option CheckRefusal
filtered e = refusal (record base { condition = Some e })

abbrev declaring : List DeclaredField → Option CheckRefusal
declaring fields = refusal (record base { fields = fields; columns = Count ∷ [] })

abbrev refused : CheckFault → Part → Option CheckRefusal
refused f p = Some (Fault f p)

base_is_checked : refusal base ≡ None
base_is_checked = refl

-- names and types in expressions

field_in_a_column : selecting (n ∷ []) ≡ refused FieldOutsideAggregate (part.Column 1)
field_in_a_column = refl

unknown_field : selecting (m ∷ []) ≡ refused UnknownName (part.Column 1)
unknown_field = refl

aggregate_in_an_aggregate : selecting (Aggregate Sum Count ∷ []) ≡ refused AggregateNested (part.Column 1)
aggregate_in_an_aggregate = refl

number_and_truth : selecting (Binary (Compare Eq) (Aggregate Sum n) (Truth true) ∷ []) ≡ refused fault.Type (part.Column 1)
number_and_truth = refl

aggregate_in_where : filtered (Binary (Compare Gt) (Aggregate Sum n) one) ≡ refused AggregateInWhere part.Where
aggregate_in_where = refl

-- at the outer one, on the way down
nested_in_where : filtered (Aggregate Any (Binary (Compare Gt) (Aggregate Sum n) one)) ≡ refused AggregateInWhere part.Where
nested_in_where = refl

-- parts before the whole
name_before_type : selecting (Binary (Compute Add) (Truth true) m ∷ []) ≡ refused UnknownName (part.Column 1)
name_before_type = refl

unknown_key : selecting (Count ∷ Binary (Compare Eq) Key (KeyName (codes "c")) ∷ []) ≡ refused UnknownName (part.Column 2)
unknown_key = refl

key_in_a_column : selecting (Key ∷ []) ≡ None
key_in_a_column = refl

known_key : having (Binary (Compare Eq) Key (KeyName (codes "b"))) ≡ None
known_key = refl

having_a_number : having one ≡ refused fault.Type part.Having
having_a_number = refl

where_before_columns : refusal (record base { condition = Some one; columns = m ∷ [] }) ≡ refused fault.Type part.Where
where_before_columns = refl

abbrev two_colors : List DeclaredField
two_colors = field (codes "f") (field_types.Enum (codes "x" ∷ [])) ∷ field (codes "g") (field_types.Enum (codes "x" ∷ [])) ∷ []

-- two fields' names are two types, also where they are the same
names_of_two_fields : refusal (record base { fields = two_colors; columns = Count ∷ []; condition = Some (Binary (Compare Eq) (Field (codes "f")) (EnumName (codes "g") (codes "x"))) }) ≡ refused fault.Type part.Where
names_of_two_fields = refl

names_of_one_field : refusal (record base { fields = two_colors; columns = Count ∷ []; condition = Some (Binary (Compare Eq) (Field (codes "g")) (EnumName (codes "g") (codes "x"))) }) ≡ None
names_of_one_field = refl

unknown_name_of_a_field : refusal (record base { fields = two_colors; columns = Count ∷ []; condition = Some (Binary (Compare Eq) (Field (codes "f")) (EnumName (codes "f") (codes "y"))) }) ≡ refused UnknownName part.Where
unknown_name_of_a_field = refl

-- a name of a field is no field
name_in_a_column : refusal (record base { fields = two_colors; columns = EnumName (codes "g") (codes "x") ∷ [] }) ≡ None
name_in_a_column = refl

branches_differ : having (If (Truth true) one (Truth true)) ≡ refused fault.Type part.Having
branches_differ = refl

-- declarations

key_twice : refusal (record base { keys = codes "a" ∷ codes "a" ∷ [] }) ≡ refused Duplicate part.Keys
key_twice = refl

no_keys : refusal (record base { keys = [] }) ≡ refused Limit part.Keys
no_keys = refl

field_twice : declaring (field (codes "n") field_types.Truth ∷ field (codes "n") (field_types.Int (pos 2) (pos 1)) ∷ []) ≡ refused Duplicate (part.Field 2)
field_twice = refl

empty_range : declaring (field (codes "n") (field_types.Int (pos 2) (pos 1)) ∷ []) ≡ refused Limit (part.Field 1)
empty_range = refl

least_range : declaring (field (codes "n") (field_types.Int (negsuc 1) (negsuc 1)) ∷ []) ≡ None
least_range = refl

name_twice : declaring (field (codes "n") (field_types.Enum (codes "x" ∷ codes "y" ∷ codes "x" ∷ [])) ∷ []) ≡ refused Duplicate (part.Field 1)
name_twice = refl

-- sources

abbrev from : List (List ℕ) → Option CheckRefusal
from sources = refusal (record base { sources = sources })

abbrev sources_13 : List (List ℕ)
sources_13 = codes "a" ∷ codes "b" ∷ codes "c" ∷ codes "d" ∷ codes "e" ∷ codes "f" ∷ codes "g" ∷ codes "h" ∷ codes "i" ∷ codes "j" ∷ codes "k" ∷ codes "l" ∷ codes "m" ∷ []

abbrev sources_15 : List (List ℕ)
sources_15 = codes "n" ∷ codes "o" ∷ sources_13

one_source : from (codes "x" ∷ []) ≡ refused Limit part.Sources
one_source = refl

two_sources : from (codes "x" ∷ codes "y" ∷ []) ≡ None
two_sources = refl

fifteen_sources : from sources_15 ≡ None
fifteen_sources = refl

sixteen_sources : from (codes "x" ∷ sources_15) ≡ None
sixteen_sources = refl

seventeen_sources : from (codes "x" ∷ codes "y" ∷ sources_15) ≡ refused Limit part.Sources
seventeen_sources = refl

source_twice : from (codes "x" ∷ codes "y" ∷ codes "x" ∷ []) ≡ refused Duplicate part.Sources
source_twice = refl

-- a source may have the name of a key or of a field
source_named_as_a_field : from (codes "a" ∷ codes "n" ∷ []) ≡ None
source_named_as_a_field = refl

-- the number of sources before their names, and both before the clock
sources_before_the_clock : refusal (record base { sources = replicate 17 (codes "x"); clock = record base.clock { records = pos 0 } }) ≡ refused Limit part.Sources
sources_before_the_clock = refl

fields_before_sources : refusal (record base { fields = field (codes "n") (field_types.Int (pos 2) (pos 1)) ∷ []; sources = codes "x" ∷ [] }) ≡ refused Limit (part.Field 1)
fields_before_sources = refl

-- numbers

no_records : refusal (record base { clock = record base.clock { records = pos 0 } }) ≡ refused Limit part.Clock
no_records = refl

no_steps : refusal (record base { budget = Some (record { per_record = pos 0; per_pane = pos 1; held = pos 1 }) }) ≡ refused Limit part.Budget
no_steps = refl

period_past_size : refusal (record base { output = record base.output { shape = Sliding (pos 2) (pos 3) } }) ≡ refused Limit part.Window
period_past_size = refl

period_of_size : refusal (record base { output = record base.output { shape = Sliding (pos 60) (pos 60) } }) ≡ None
period_of_size = refl

-- lateness from the end of a window that stands still, or that moves
fixed_from_window : refusal (record base { clock = record base.clock { from_window = true } }) ≡ None
fixed_from_window = refl

sliding_from_window : refusal (record base { clock = record base.clock { from_window = true }; output = record base.output { shape = Sliding (pos 60) (pos 25) } }) ≡ None
sliding_from_window = refl

sessions_from_window : refusal (record base { clock = record base.clock { from_window = true }; output = record base.output { shape = Session (pos 60) } }) ≡ refused SessionLateness part.Window
sessions_from_window = refl

sessions_from_event : refusal (record base { output = record base.output { shape = Session (pos 60) } }) ≡ None
sessions_from_event = refl

gap_before_lateness : refusal (record base { clock = record base.clock { from_window = true }; output = record base.output { shape = Session (pos 0) } }) ≡ refused Limit part.Window
gap_before_lateness = refl

lateness_before_trigger : refusal (record base { clock = record base.clock { from_window = true }; output = record base.output { shape = Session (pos 60); early = Some (pos 0) } }) ≡ refused SessionLateness part.Window
lateness_before_trigger = refl

no_count : refusal (record base { output = record base.output { early = Some (pos 0) } }) ≡ refused Limit part.Trigger
no_count = refl

stream_of_discarding : refusal (record base { output = record base.output { mode = Discarding; form = Istream } }) ≡ refused StreamNeedsAccumulating part.Emit
stream_of_discarding = refl

stream_of_discarding_sessions : refusal (record base { output = record base.output { shape = Session (pos 60); mode = Discarding; form = Dstream } }) ≡ refused StreamNeedsAccumulating part.Emit
stream_of_discarding_sessions = refl

stream_of_retracting : refusal (record base { output = record base.output { mode = Retracting; form = Istream } }) ≡ refused StreamNeedsAccumulating part.Emit
stream_of_retracting = refl

panes_of_retracting : refusal (record base { output = record base.output { mode = Retracting } }) ≡ None
panes_of_retracting = refl

panes_of_discarding : refusal (record base { output = record base.output { mode = Discarding } }) ≡ None
panes_of_discarding = refl

stream_of_sessions : refusal (record base { output = record base.output { shape = Session (pos 60); form = Dstream } }) ≡ None
stream_of_sessions = refl

no_column : selecting [] ≡ refused Limit (part.Column 1)
no_column = refl

-- the columns before the 17th are walked first
columns_17 : selecting (one ∷ replicate 16 n) ≡ refused FieldOutsideAggregate (part.Column 2)
columns_17 = refl

column_17 : selecting (replicate 16 one ++ m ∷ []) ≡ refused Limit (part.Column 17)
column_17 = refl

columns_16 : selecting (replicate 16 one) ≡ None
columns_16 = refl

-- n sums of equal operands, which aren't shared
abbrev sums : ℕ → Expr
sums zero = Aggregate Sum n
sums (suc k) = Binary (Compute Add) (sums k) (Aggregate Sum n)

accumulators_16 : selecting (sums 15 ∷ []) ≡ None
accumulators_16 = refl

accumulators_17 : selecting (sums 16 ∷ []) ≡ refused (Exceeds Accumulators 17 16) part.Code
accumulators_17 = refl

-- operators in their right operands, so many deep
abbrev deep : ℕ → Expr
deep zero = one
deep (suc k) = Binary (Compute Add) one (deep k)

stack_of_32 : selecting (deep 31 ∷ []) ≡ None
stack_of_32 = refl

stack_of_33 : selecting (deep 32 ∷ []) ≡ refused (Exceeds Stack 33 32) part.Code
stack_of_33 = refl

-- behind a column it needs one place more
stack_behind_a_column : selecting (one ∷ deep 31 ∷ []) ≡ refused (Exceeds Stack 33 32) part.Code
stack_behind_a_column = refl

-- two keys with 1,000,110 live windows each
too_many_panes : refusal (record base { output = record base.output { shape = Sliding (pos 1000000) (pos 1) } }) ≡ refused (Exceeds limit.Panes 2000220 100000) part.Code
too_many_panes = refl
