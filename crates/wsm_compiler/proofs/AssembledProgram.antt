-- What the checks say of what a checked query has: its sections fit, and what is put together of them is a program.
use Rattle.std.proofs.Common.{◌≡◌, ◌≤◌, true, List, length, refl}
use Rattle.std.proofs.Math.Logic.{∥∥₁_elim}
use Rattle.std.proofs.Math.Bridge.{le_prop}
use Rattle.std.proofs.Math.Bool.{Bool-set}
use Rattle.std.specs.Prelude.{◌&&◌}
use Rattle.std.proofs.lemmas.Bool.{and_parts}
use Rattle.wsm_record.specs.Schema.{is_schema}
use Rattle.wsm_program.specs.declared.instr.Instr.{Instr}
use Rattle.wsm_program.specs.declared.program.Costs.{Costs}
use Rattle.wsm_program.specs.Program.{Header, Program, is_clock, is_firing, is_row, is_budget, is_header, is_program}
use Rattle.wsm_program.proofs.StatedBudget.{lawful_stating}
use Rattle.wsm_rules.specs.Costs.{needed}
use Rattle.wsm_query.specs.Tree.{Query}
use Rattle.wsm_check.specs.Parts.{Parts, parts_of}
use Rattle.wsm_check.specs.Checks.{ArePartsOfChecked}
use Rattle.wsm_compiler.specs.TermCode.{ending_code, ending_size, foldings_code, foldings_size, firing_code, firing_size}
use Rattle.wsm_compiler.specs.Program.{header_stating, assembled, stated, program_of}
use Rattle.wsm_compiler.proofs.Passed.{passed}
use Rattle.wsm_compiler.proofs.Lawful.{is_lawful}
use Rattle.wsm_program.proofs.Lawful.{program_header}

budget_of : (p : Program) → is_program p ≡ true → is_budget p.header.budget ≡ true
unfolding is_header
budget_of p h =
    let g = p.header in
    let a = and_parts (is_schema g.schema) (is_clock g && (is_firing g && (is_row g && is_budget g.budget))) (program_header p h) in
    let b = and_parts (is_clock g) (is_firing g && (is_row g && is_budget g.budget)) a.1 in
    let d = and_parts (is_firing g) (is_row g && is_budget g.budget) b.1 in
    (and_parts (is_row g) (is_budget g.budget) d.1).1

-- a header and sections that are those of the parts
pub put_together : (p : Parts) (b : Costs) (header : Header) (selection update fire : List Instr) → header ≡ header_stating p b →
    selection ≡ ending_code 0 p.condition → update ≡ foldings_code 0 0 p.foldings → fire ≡ firing_code 0 p.having p.columns →
    assembled p b ≡ record { header = header; selection = selection; update = update; fire = fire }
put_together p b header selection update fire h s u f = rw (h, s, u, f) refl

module _ (p : Parts) (h : ∥ ArePartsOfChecked p ∥₁) where
  pub selection_fits : ending_size p.condition ≤ 1000
  selection_fits = ∥∥₁_elim h le_prop (λ w. rw w.is (passed w.query w.checked).code.selection)

  pub update_fits : foldings_size p.foldings ≤ 1000
  update_fits = ∥∥₁_elim h le_prop (λ w. rw w.is (passed w.query w.checked).code.update)

  pub few_foldings : length p.foldings ≤ 16
  few_foldings = ∥∥₁_elim h le_prop (λ w. rw w.is (passed w.query w.checked).code.accs)

  pub fire_fits : firing_size p.having p.columns ≤ 1000
  fire_fits = ∥∥₁_elim h le_prop (λ w. rw w.is (passed w.query w.checked).code.fire)

  pub is_program_of : (b : Costs) → is_budget b ≡ true → is_program (assembled p b) ≡ true
  is_program_of b l =
      ∥∥₁_elim h (Bool-set _ _) (λ w. rw w.is (lawful_stating (program_of w.query) b (is_lawful w.query w.checked w.spelt) l))

  -- what BUDGET states, or what the program needs, may be stated
  pub is_budget_of : (b : Costs) → is_budget (stated (needed (assembled p b)) p.budget) ≡ true
  is_budget_of b =
      ∥∥₁_elim h (Bool-set _ _) (λ w. rw w.is (budget_of (program_of w.query) (is_lawful w.query w.checked w.spelt)))

-- whatever a program states, it has the same need
pub compiled : (p : Parts) (b : Costs) (q : Query) → p ≡ parts_of q → assembled p (stated (needed (assembled p b)) p.budget) ≡ program_of q
compiled p b q e = rw e refl
