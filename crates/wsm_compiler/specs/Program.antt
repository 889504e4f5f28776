-- The program of a query: that of what a checked query has.
use Rattle.std.specs.Prelude.{map, ℤ, pos, unsigned_abs, Option, Some, None}
use Rattle.wsm_program.specs.declared.program.Costs.{Costs}
use Rattle.wsm_program.specs.Program.{Header, Program}
use Rattle.wsm_rules.specs.Costs.{needed}
use Rattle.wsm_query.specs.declared.query.Budget.{Budget}
use Rattle.wsm_query.specs.Tree.{Query}
use Rattle.wsm_check.specs.Parts.{Parts, parts_of}
use Rattle.wsm_compiler.specs.TermCode.{ending_code, foldings_code, firing_code}

-- 0 where there is no count
abbrev pub every : Option ℤ → ℤ
every None = pos 0
every (Some n) = n

abbrev pub header_stating : Parts → Costs → Header
header_stating p stated = record {
  schema = p.schema;
  clock = p.clock;
  shape = p.output.shape;
  mode = p.output.mode;
  early = every p.output.early;
  late = every p.output.late;
  form = p.output.form;
  kinds = map (λ f. f.kind) p.foldings;
  columns = p.types;
  budget = stated;
}

-- the program of what a checked query has, which states given numbers
abbrev pub assembled : Parts → Costs → Program
assembled p stated = record {
  header = header_stating p stated;
  selection = ending_code 0 p.condition;
  update = foldings_code 0 0 p.foldings;
  fire = firing_code 0 p.having p.columns;
}

abbrev pub program_stating : Query → Costs → Program
program_stating q stated = assembled (parts_of q) stated

-- what the program needs, whatever it states
abbrev pub needed_of : Query → Costs
needed_of q = needed (program_stating q (record { per_record = 0; per_pane = 0; held = 0 }))

-- a query without BUDGET states what it needs
abbrev pub stated : Costs → Option Budget → Costs
stated need None = need
stated need (Some b) = record { per_record = unsigned_abs b.per_record; per_pane = unsigned_abs b.per_pane; held = unsigned_abs b.held }

abbrev pub program_of : Query → Program
program_of q = program_stating q (stated (needed_of q) q.budget)
