-- When a run begins: its input is judged, and the program that it says is accepted.
use Rattle.std.specs.Prelude.{◌≡◌, ℕ, true, List, Ok, is_ok}
use Rattle.wsm_program.specs.Program.{Program}
use Rattle.wsm_rules.specs.Rules.{judge}
use Rattle.wsm_query.specs.Tree.{Query}
use Rattle.wsm_compiler.specs.Accepted.{is_accepted}
use Rattle.wsm_inputs.specs.Judged.{bytes_judged, text_judged}

-- the bytes spell the program, and it is accepted
pub record IsAcceptedProgram (bytes : List ℕ) (p : Program) : Type 0 where
  pub spelled : bytes_judged bytes ≡ Ok p
  pub accepted : is_ok (judge p) ≡ true

-- the text says the query, no check refuses it, and its program is accepted
pub record IsAcceptedQuery (text : List ℕ) (q : Query) : Type 0 where
  pub judged : text_judged text ≡ Ok q
  pub accepted : is_accepted q ≡ true
