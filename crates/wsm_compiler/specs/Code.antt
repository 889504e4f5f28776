-- The code of a query: that of its terms.
use Rattle.std.specs.Prelude.{ℕ, List, map, Option, option_map}
use Rattle.wsm_program.specs.declared.instr.FieldTest.{FieldTest}
use Rattle.wsm_program.specs.declared.instr.Instr.{Instr}
use Rattle.wsm_query.specs.Tree.{Query, Expr}
use Rattle.wsm_check.specs.Tested.{term_test}
use Rattle.wsm_check.specs.Sizes.{term_size, term_need}
use Rattle.wsm_check.specs.Aggregates.{Acc, accumulators}
use Rattle.wsm_check.specs.Terms.{resolved}
use Rattle.wsm_check.specs.Parts.{aggregates_of, folding, columns_from}
use Rattle.wsm_compiler.specs.TermCode as terms

-- the code of an expression that begins at place k, and whose first aggregate is the a-th of the query
abbrev pub code : Query → ℕ → ℕ → Expr → List Instr
code q k a e = terms.term_code k (resolved q a e)

-- how many instructions it has, how many places it needs on the stack, and the test of a field that stands for it, if one does
abbrev pub size : Query → ℕ → Expr → ℕ
size q a e = term_size (resolved q a e)

abbrev pub need : Query → ℕ → Expr → ℕ
need q a e = term_need (resolved q a e)

abbrev pub test_of : Query → ℕ → Expr → Option FieldTest
test_of q a e = term_test (resolved q a e)

-- a condition's code; one that isn't there is true
abbrev pub condition_code : Query → ℕ → ℕ → Option Expr → List Instr
condition_code q k a o = terms.condition_code k (option_map (resolved q a) o)

abbrev pub where_section : Query → List Instr
where_section q = terms.ending_code 0 (option_map (resolved q 0) q.condition)

-- the operands of the accumulators from the a-th on, each folded
abbrev pub folds : Query → ℕ → ℕ → List Acc → List Instr
folds q k a accs = terms.foldings_code k a (map (folding q) accs)

abbrev pub update_section : Query → List Instr
update_section q = folds q 0 0 (accumulators q)

-- columns, then HAVING, whose first aggregate is the h-th
abbrev pub columns_code : Query → ℕ → ℕ → ℕ → List Expr → List Instr
columns_code q h k a es = terms.firing_code k (option_map (resolved q h) q.having) (columns_from q a es)

abbrev pub fire_section : Query → List Instr
fire_section q = columns_code q (aggregates_of q.columns) 0 0 q.columns
