-- When the program of a checked query is accepted.
use Rattle.std.specs.Prelude.{◌≡◌, Bool, ◌&&◌, nat_le, None, is_none, is_ok}
use Rattle.wsm_program.specs.Program.{Program}
use Rattle.wsm_rules.specs.Costs.{needed}
use Rattle.wsm_rules.specs.Rules.{code_fault, judge}
use Rattle.wsm_query.specs.Tree.{Query}
use Rattle.wsm_check.specs.Checks.{IsChecked}
use Rattle.wsm_compiler.specs.Ranges.{ranges_fit}
use Rattle.wsm_compiler.specs.Program.{program_of}

-- the numbers that a program states are at least those that it needs
abbrev pub states_enough : Program → Bool
states_enough p =
    let need = needed p in
    nat_le need.per_record p.header.budget.per_record && (nat_le need.per_pane p.header.budget.per_pane && nat_le need.held p.header.budget.held)

-- its sections have no fault exactly where its ranges fit
abbrev pub FaultlessExactly : Query → Type 0
FaultlessExactly q = IsChecked q → is_none (code_fault (program_of q)) ≡ ranges_fit q

-- the program of a query is accepted
abbrev pub is_accepted : Query → Bool
is_accepted q = is_ok (judge (program_of q))

-- it is accepted exactly where they fit and it states enough
abbrev pub AcceptedExactly : Query → Type 0
AcceptedExactly q = IsChecked q → is_accepted q ≡ (ranges_fit q && states_enough (program_of q))

-- one without BUDGET states what it needs
abbrev pub AcceptedWithoutBudget : Query → Type 0
AcceptedWithoutBudget q = IsChecked q → q.budget ≡ None → is_accepted q ≡ ranges_fit q
