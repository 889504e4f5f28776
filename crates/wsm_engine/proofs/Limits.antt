-- What a program's own laws say of its clock, and of how many panes it holds.
use Rattle.std.proofs.Common.{◌≡◌, ℕ, ◌*◌, ◌≤◌, true, length, sym, subst, ◌∙◌, pos, Ok, IsTrue, arith}
use Rattle.std.proofs.lemmas.Bool.{and_parts}
use Rattle.std.proofs.lemmas.Int.{ints}
use Rattle.wsm_windows.specs.Life.{live_bound}
use Rattle.wsm_admission.specs.Clock.{IsTimely, IsWithinLimits}
use Rattle.wsm_semantics.specs.HeldBounds.{most_panes}
use Rattle.wsm_record.specs.declared.limits.TheConstants.{LATEST_TIME}
use Rattle.wsm_program.specs.Program.{Header, Program, is_budget, is_program, is_stated}
use Rattle.wsm_program.proofs.Lawful.{header_parts, program_header}
use Rattle.wsm_program.proofs.Within.{at_most}
use Rattle.wsm_program.specs.declared.program.Costs.{Costs}
use Rattle.wsm_rules.specs.Costs.{needed}
use Rattle.wsm_rules.specs.Rules.{judge}
use Rattle.wsm_rules.proofs.Lawful.{IsLawful, lawful as program_lawful, within}
use Rattle.wsm_machine.specs.Meaning.{query_of}
use Rattle.wsm_machine.proofs.TurnCosts.{stated}

budget_lawful : (p : Program) → IsTrue (is_program p) → is_budget p.header.budget ≡ true
budget_lawful p whole = (header_parts p.header (program_header p whole)).budget

-- ---- the clock

-- the clock of a program is within the limits of clocks
pub clock_within : (p : Program) → IsTrue (is_program p) → IsWithinLimits p.header.clock
clock_within p whole =
    let parts = header_parts p.header (program_header p whole) in
    let start = within (pos 0) LATEST_TIME p.header.clock.start parts.start in
    let is : IsLawful p.header = program_lawful p whole in
    record {
      start_from = start.0;
      start_to = start.1;
      skew_from = is.skew.low;
      skew_to = is.skew.high;
      lateness_from = is.lateness.low;
      lateness_to = is.lateness.high;
      records_from = omega (arith, ints, is.records.0);
      records_to = omega (arith, ints, is.records.0, is.records.1);
    }

-- and lateness may be counted from its windows, where it is
pub clock_timely : (p : Program) → IsTrue (is_program p) → IsTimely p.header.clock.from_window p.header.shape
clock_timely p whole = record { windows = (program_lawful p whole).shape; stays = (header_parts p.header (program_header p whole)).timely }

-- there are numbers of 64 bits in plenty for what is stated of a record
pub record_stated : (p : Program) → IsTrue (is_program p) → p.header.budget.per_record ≤ 1000000000000000000
record_stated p whole = at_most 1 1000000000000000000 p.header.budget.per_record (and_parts (is_stated p.header.budget.per_record) _ (budget_lawful p whole)).0

module _ (p : Program) (costs : Costs) (judged : judge p ≡ Ok costs) where
  -- no more panes are held than is stated
  pub panes_stated : most_panes (query_of p) ≤ p.header.budget.held
  panes_stated = (stated p costs judged).held

  pub panes_few : IsTrue (is_program p) → most_panes (query_of p) ≤ 100000
  panes_few whole =
      let most : p.header.budget.held ≤ 100000 =
      at_most 1 100000 p.header.budget.held
      (and_parts (is_stated p.header.budget.per_pane) _ (and_parts (is_stated p.header.budget.per_record) _ (budget_lawful p whole)).1).1 in
      omega (arith, most, panes_stated)

-- there are no more places for panes than that
pub room_few : (p : Program) → judge p ≡ Ok (needed p) → IsTrue (is_program p) → (h : Header) → h ≡ p.header → (keys live : ℕ) → keys ≡ length h.schema.keys → live ≡ live_bound h.shape h.clock.skew h.clock.lateness → keys * live ≤ 100000
room_few p judged whole h is keys live k l =
    subst (λ n. n ≤ 100000) (sym ((λ i. k i * l i) ∙ (λ i. length (is i).schema.keys * live_bound (is i).shape (is i).clock.skew (is i).clock.lateness))) (panes_few p (needed p) judged whole)
