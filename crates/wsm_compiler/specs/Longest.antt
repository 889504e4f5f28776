-- The longest paths of generated code, by the structure of the query's terms.
use Rattle.std.specs.Prelude.{◌≡◌, ℕ, ◌+◌, ◌*◌, ◌≤◌, max, List, [], ◌∷◌, length, Option, Some, None}
use Rattle.wsm_windows.specs.Life.{live_bound}
use Rattle.wsm_program.specs.declared.program.Costs.{Costs}
use Rattle.wsm_rules.specs.Costs.{needed, windows_of_a_record, join_steps}
use Rattle.wsm_query.specs.Tree.{Query}
use Rattle.wsm_check.specs.Tested.{unless_tested}
use Rattle.wsm_check.specs.Terms.{Term, If, Minus, Not, Binary, And, Or}
use Rattle.wsm_check.specs.Parts.{Folding, Parts, parts_of}
use Rattle.wsm_compiler.specs.TermCode.{term_test}
use Rattle.wsm_compiler.specs.Program.{program_of}

-- the most instructions of a term that are executed: a test and its jump, or a jump that makes the test, then the longer part, of which the first has a jump behind it
abbrev pub longest : Term → ℕ
longest (If c x y) = unless_tested (term_test c) (longest c) + (1 + max (longest x + 1) (longest y))
longest (Minus x) = longest x + 1
longest (Not x) = longest x + 1
longest (Binary op x y) = longest x + (longest y + 1)
longest (And x y) = unless_tested (term_test x) (longest x) + (1 + max (longest y + 1) 1)
longest (Or x y) = unless_tested (term_test x) (longest x) + (1 + max (1 + 1) (longest y))
longest _ = 1

-- of sections, with their returns
abbrev pub longest_ending : Option Term → ℕ
longest_ending None = 2
longest_ending (Some t) = longest t + 1

abbrev pub longest_foldings : List Folding → ℕ
longest_foldings [] = 1
longest_foldings (f ∷ fs) = longest f.operand + (1 + longest_foldings fs)

abbrev pub longest_firing : Option Term → List Term → ℕ
longest_firing having [] = longest_ending having
longest_firing having (t ∷ ts) = longest t + longest_firing having ts

abbrev pub needed_by_structure : Parts → Costs
needed_by_structure p = record {
  per_record = longest_ending p.condition + windows_of_a_record p.output.shape * longest_foldings p.foldings + join_steps p.output.shape (length p.foldings);
  per_pane = longest_firing p.having p.columns;
  held = length p.schema.keys * live_bound p.output.shape p.clock.skew p.clock.lateness;
}

-- what a program needs is found by the structure of its query
abbrev pub NeededByStructure : Query → Type 0
NeededByStructure q = needed (program_of q) ≡ needed_by_structure (parts_of q)

-- ---- where no jump makes a test

-- the same of code in which each test stands in front of its jump
abbrev pub untested_longest : Term → ℕ
untested_longest (If c x y) = untested_longest c + (1 + max (untested_longest x + 1) (untested_longest y))
untested_longest (Minus x) = untested_longest x + 1
untested_longest (Not x) = untested_longest x + 1
untested_longest (Binary op x y) = untested_longest x + (untested_longest y + 1)
untested_longest (And x y) = untested_longest x + (1 + max (untested_longest y + 1) 1)
untested_longest (Or x y) = untested_longest x + (1 + max (1 + 1) (untested_longest y))
untested_longest _ = 1

-- no longest path is longer for its tests
abbrev pub NotLonger : Term → Type 0
NotLonger t = longest t ≤ untested_longest t
