-- Worked queries, computed by the definitions: their code, their bytes, their acceptance and their runs.
use Rattle.std.specs.Prelude.{◌≡◌, refl, ℕ, true, false, [], ◌∷◌, ◌++◌, take, drop, ℤ, pos, negsuc, Option, Some, None, Result, Ok, Err, codes}
use Rattle.wsm_record.specs.declared.event.Value.{Value}
use Rattle.wsm_record.specs.declared.event.Value.TheVariants as value
use Rattle.wsm_record.specs.declared.words.Kind.TheVariants.{Sum, Min, Max}
use Rattle.wsm_record.specs.declared.words.Mode.TheVariants.{Accumulating, Retracting}
use Rattle.wsm_record.specs.declared.words.Form.TheVariants.{Panes}
use Rattle.wsm_windows.specs.declared.window.Shape.TheVariants.{Fixed, Sliding}
use Rattle.wsm_interval.specs.declared.Arithmetic.TheVariants.{Add, Sub, Div, Rem}
use Rattle.wsm_interval.specs.declared.Comparison.TheVariants.{Ne, Gt, Lt}
use Rattle.wsm_query.specs.declared.expr.Op.TheVariants.{Compute, Compare}
use Rattle.wsm_interval.specs.declared.Comparison.TheVariants as compare
use Rattle.wsm_record.specs.Schema as field_types
use Rattle.wsm_query.specs.Tree.{Query, Expr, Number, Truth, Field, Count, Aggregate, If, Minus, Binary, And}
use Rattle.wsm_program.specs.declared.instr.Instr.TheVariants as instr
use Rattle.wsm_interval.specs.declared.arithmetic.Arithmetic.TheVariants as arithmetics
use Rattle.wsm_program.specs.declared.instr.SectionId.TheVariants.{Where, Update, Fire}
use Rattle.wsm_program.specs.Program.{is_header, is_section, is_program}
use Rattle.wsm_record.specs.Schema.{is_schema}
use Rattle.wsm_record.specs.Name.{is_reserved}
use Rattle.wsm_bytecode.specs.Parts.{code, instr as spelled_instr, long, signed}
use Rattle.wsm_bytecode.specs.Spelling.{spelling, spelling_in, header}
use Rattle.wsm_bytecode.specs.Vectors.{base_bytes}
use Rattle.wsm_program.specs.declared.program.Costs.{Costs}
use Rattle.wsm_rules.specs.declared.rejection.Rejection.{Rejection}
use Rattle.wsm_rules.specs.declared.rejection.Rule.TheVariants.{MayDivideByZero, AccumulatorRange}
use Rattle.wsm_rules.specs.declared.rejection.Part.TheVariants.{Code}
use Rattle.wsm_rules.specs.Rules.{judge}
use Rattle.wsm_record.specs.declared.cell.Cell.TheVariants as cells
use Rattle.wsm_machine.specs.declared.outcome.Outcome.TheVariants.{Done}
use Rattle.wsm_machine.specs.Run.{run}
use Rattle.wsm_compiler.specs.Meaning.{on_record, meaning, meets_i64, selects, row}
use Rattle.wsm_compiler.specs.Code.{where_section, fire_section}
use Rattle.wsm_compiler.specs.Ranges.{ranges_fit}
use Rattle.wsm_compiler.specs.Program.{program_of}
use Rattle.wsm_compiler.specs.SameMeaning.{IsAccepted}

abbrev pub n : Expr
n = Field (codes "n")

-- `SELECT COUNT(*), SUM(n)` in fixed windows of 60
abbrev pub base : Query
base = record {
  keys = codes "a" ∷ codes "b" ∷ [];
  fields = record { name = codes "n"; type = field_types.Int (pos 0) (pos 100) } ∷ [];
  sources = [];
  clock = record { start = pos 0; skew = pos 100; lateness = pos 10; from_window = false; records = pos 1000 };
  budget = None;
  columns = Count ∷ Aggregate Sum n ∷ [];
  condition = None;
  having = None;
  output = record { shape = Fixed (pos 60); mode = Accumulating; early = None; late = None; form = Panes };
}

-- ---- programs and what they come to

base_spelled : spelling (program_of base) ≡ base_bytes
unfolding spelling spelling_in header code spelled_instr long signed
base_spelled = refl

base_lawful : is_program (program_of base) ≡ true
unfolding is_program is_header is_section is_schema is_reserved
base_lawful = refl

-- lateness from a record's own time
base_clock : (program_of base).header.clock ≡ record { start = pos 0; skew = pos 100; lateness = pos 10; from_window = false; records = pos 1000 }
base_clock = refl

-- `SOURCES x, y; .. LATENESS 10 FROM WINDOW; .. FIXED 60 RETRACTING`
abbrev of_two_sources : Query
of_two_sources = record base { sources = codes "x" ∷ codes "y" ∷ []; clock = record base.clock { from_window = true }; output = record base.output { mode = Retracting } }

two_sources_clock : (program_of of_two_sources).header.clock ≡ record { start = pos 0; skew = pos 100; lateness = pos 10; from_window = true; records = pos 1000 }
two_sources_clock = refl

two_sources_lawful : is_program (program_of of_two_sources) ≡ true
unfolding is_program is_header is_section is_schema is_reserved
two_sources_lawful = refl

abbrev pub costs : ℕ → ℕ → ℕ → Result Costs Rejection
costs per_record per_pane held = Ok (record { per_record = per_record; per_pane = per_pane; held = held })

-- as the base program: byte 63 is where lateness is counted from, byte 64 the number of sources, and the mode stands behind the shape
two_sources_spelled : spelling (program_of of_two_sources) ≡ take 63 base_bytes ++ (1 ∷ 2 ∷ 1 ∷ 120 ∷ 1 ∷ 121 ∷ (take 9 (drop 65 base_bytes) ++ (2 ∷ drop 75 base_bytes)))
unfolding spelling spelling_in header code spelled_instr long signed
two_sources_spelled = refl

-- they don't change what is needed
two_sources_accepted : judge (program_of of_two_sources) ≡ costs 5 4 6
two_sources_accepted = refl

-- what the laws of accepted queries ask holds of it
base_is_accepted : IsAccepted base
unfolding is_reserved
base_is_accepted = record { checked = refl; spelt = record { keys = refl; fields = refl; sources = refl; numbers = refl }; accepted = refl }

-- a number without 64 bits is no operand
abbrev past_a_word : Query
past_a_word = record base { condition = Some (Binary (Compare Gt) n (Number (pos 9223372036854775808))) }

past_a_word_unlawful : is_program (program_of past_a_word) ≡ false
unfolding is_program is_header is_section is_schema is_reserved
past_a_word_unlawful = refl

base_accepted : judge (program_of base) ≡ costs 5 4 6
base_accepted = refl

sliding : judge (program_of (record base { output = record base.output { shape = Sliding (pos 60) (pos 25) } })) ≡ costs 11 4 14
sliding = refl

average : judge (program_of (record base { columns = Binary (Compute Div) (Aggregate Sum n) Count ∷ [] })) ≡ costs 5 5 6
average = refl

abbrev by_sum : Query
by_sum = record base { columns = Binary (Compute Div) (Number (pos 100)) (Aggregate Sum n) ∷ [] }

by_sum_rejected : judge (program_of by_sum) ≡ Err (record { part = Code Fire; place = 2; rule = MayDivideByZero })
by_sum_rejected = refl

by_sum_unfit : ranges_fit by_sum ≡ false
by_sum_unfit = refl

abbrev wide : Query
wide = record base { fields = record { name = codes "n"; type = field_types.Int (pos 0) (pos 1000000000000) } ∷ []; clock = record base.clock { records = pos 1000000000000 } }

wide_rejected : judge (program_of wide) ≡ Err (record { part = Code Update; place = 1; rule = AccumulatorRange })
wide_rejected = refl

wide_unfit : ranges_fit wide ≡ false
wide_unfit = refl

base_fits : ranges_fit base ≡ true
base_fits = refl

-- `n <> 0 AND 10 / n > 1`
abbrev guarded : Query
guarded = record base { condition = Some (And (Binary (Compare Ne) n (Number (pos 0))) (Binary (Compare Gt) (Binary (Compute Div) (Number (pos 10)) n) (Number (pos 1)))) }

guarded_where : where_section guarded ≡ instr.Test (record { field = 0; comparison = compare.Ne; number = pos 0 }) 7 ∷ instr.PushInt (pos 10) ∷ instr.Field 0 ∷ instr.Compute arithmetics.Div ∷ instr.PushInt (pos 1) ∷ instr.Compare compare.Gt ∷ instr.Jump 8 ∷ instr.PushBool false ∷ instr.Return ∷ []
guarded_where = refl

-- where it is divided by n, n is known not to be 0
guarded_accepted : judge (program_of guarded) ≡ costs 11 4 6
guarded_accepted = refl

guarded_fits : ranges_fit guarded ≡ true
guarded_fits = refl

-- the division isn't evaluated at 0
guarded_run : run (program_of guarded) Where (record { key = 0; values = value.Int (pos 0) ∷ []; count = pos 0; accs = [] }) ≡ record { outcome = Done; steps = 3; stack = cells.Bool false ∷ []; folds = None ∷ [] }
guarded_run = refl

-- a condition with two accumulators, numbered from the left behind those of the columns
two_accumulators : fire_section (record base { having = Some (Binary (Compare Lt) (Aggregate Min n) (Aggregate Max n)) }) ≡ instr.Count ∷ instr.Acc 0 ∷ instr.Acc 1 ∷ instr.Acc 2 ∷ instr.Compare compare.Lt ∷ instr.Return ∷ []
two_accumulators = refl

-- ---- meanings

-- a count and a sum of two records
base_row : row base 0 ((value.Int (pos 7) ∷ []) ∷ (value.Int (pos 3) ∷ []) ∷ []) ≡ Some (cells.Int (pos 2) ∷ cells.Int (pos 10) ∷ [])
base_row = refl

-- no row where HAVING is false
having_row : row (record base { having = Some (Binary (Compare Gt) (Aggregate Sum n) (Number (pos 5))) }) 0 ((value.Int (pos 5) ∷ []) ∷ []) ≡ None
having_row = refl

guarded_at_0 : selects guarded 0 (value.Int (pos 0) ∷ []) ≡ false
guarded_at_0 = refl

guarded_at_3 : selects guarded 0 (value.Int (pos 3) ∷ []) ≡ true
guarded_at_3 = refl

-- the meaning of an expression on a record with n
abbrev at : ℤ → Expr → Option Value
at n e = meaning base (on_record 0 (value.Int n ∷ [])) e

no_value_at_0 : at (pos 0) (Binary (Compute Div) (Number (pos 10)) n) ≡ None
no_value_at_0 = refl

toward_zero : at (negsuc 6) (Binary (Compute Div) n (Number (pos 2))) ≡ Some (value.Int (negsuc 2))
toward_zero = refl

sign_of_dividend : at (negsuc 6) (Binary (Compute Rem) n (Number (pos 2))) ≡ Some (value.Int (negsuc 0))
sign_of_dividend = refl

least_by_minus_one : at (negsuc 9223372036854775807) (Binary (Compute Rem) n (Minus (Number (pos 1)))) ≡ Some (value.Int (pos 0))
least_by_minus_one = refl

abbrev greatest : ℤ
greatest = pos 9223372036854775807

-- a value in 64 bits, though a number on the way isn't
past_i64 : at greatest (Binary (Compute Sub) (Binary (Compute Add) n (Number (pos 1))) (Number (pos 1))) ≡ Some (value.Int greatest)
past_i64 = refl

past_i64_is_met : meets_i64 base (on_record 0 (value.Int greatest ∷ [])) 0 (Binary (Compute Sub) (Binary (Compute Add) n (Number (pos 1))) (Number (pos 1))) ≡ false
past_i64_is_met = refl

-- the branch that isn't taken meets nothing
untaken_branch : meets_i64 base (on_record 0 (value.Int greatest ∷ [])) 0 (If (Truth false) (Binary (Compute Add) n (Number (pos 1))) (Number (pos 1))) ≡ true
untaken_branch = refl
