-- Worked runs with tests of the field, which is given, on the key 1, 3 records and the sum 12.
use Rattle.std.specs.Prelude.{◌≡◌, refl, ℕ, ℤ, true, false, List, [], ◌∷◌, pos, negsuc}
use Rattle.wsm_interval.specs.declared.Comparison.{Comparison}
use Rattle.wsm_interval.specs.declared.Comparison.TheVariants as compare
use Rattle.wsm_record.specs.declared.event.Value.TheVariants as values
use Rattle.wsm_record.specs.declared.words.Kind.TheVariants.{Sum}
use Rattle.wsm_record.specs.declared.words.CellType.TheVariants as types
use Rattle.wsm_program.specs.declared.instr.Instr.{Instr}
use Rattle.wsm_program.specs.declared.instr.Instr.TheVariants.{PushInt, PushBool, Field, Compute, Jump, Test, Fold, Return}
use Rattle.wsm_interval.specs.declared.arithmetic.Arithmetic.TheVariants.{Div}
use Rattle.wsm_program.specs.declared.instr.SectionId.{SectionId}
use Rattle.wsm_program.specs.declared.instr.SectionId.TheVariants.{Where, Update, Fire}
use Rattle.wsm_record.specs.declared.cell.Cell.TheVariants as cells
use Rattle.wsm_machine.specs.declared.outcome.Outcome.TheVariants.{Done, Trap as Trapped}
use Rattle.wsm_machine.specs.declared.outcome.Trap.TheVariants.{BadJump, WrongSection}
use Rattle.wsm_machine.specs.declared.run.Ran.{Ran}
use Rattle.wsm_machine.specs.Run.{run_in}
use Rattle.wsm_machine.specs.Vectors.{folded, unfolded}

abbrev test : ℕ → Comparison → ℤ → ℕ → Instr
test field comparison number target = Test (record { field = field; comparison = comparison; number = number }) target

abbrev run_at : ℤ → SectionId → List Instr → Ran
run_at n s code = run_in (record {
  section = s;
  code = code;
  kinds = Sum ∷ [];
  columns = types.Int ∷ types.Int ∷ [];
  inputs = record { key = 1; values = values.Int n ∷ []; count = pos 3; accs = values.Int (pos 12) ∷ [] };
})

shares : run_at (pos 3) Update (test 0 compare.Ne (pos 0) 5 ∷ PushInt (pos 100) ∷ Field 0 ∷ Compute Div ∷ Jump 6 ∷ PushInt (pos 0) ∷ Fold 0 ∷ Return ∷ []) ≡ folded Done 7 ([]) (values.Int (pos 33))
shares = refl

shares_none : run_at (pos 0) Update (test 0 compare.Ne (pos 0) 5 ∷ PushInt (pos 100) ∷ Field 0 ∷ Compute Div ∷ Jump 6 ∷ PushInt (pos 0) ∷ Fold 0 ∷ Return ∷ []) ≡ folded Done 4 ([]) (values.Int (pos 0))
shares_none = refl

equal_below : run_at (pos 4) Where (test 0 compare.Eq (pos 5) 3 ∷ PushBool true ∷ Jump 4 ∷ PushBool false ∷ Return ∷ []) ≡ unfolded Done 3 (cells.Bool false ∷ [])
equal_below = refl

equal_at : run_at (pos 5) Where (test 0 compare.Eq (pos 5) 3 ∷ PushBool true ∷ Jump 4 ∷ PushBool false ∷ Return ∷ []) ≡ unfolded Done 4 (cells.Bool true ∷ [])
equal_at = refl

equal_above : run_at (pos 6) Where (test 0 compare.Eq (pos 5) 3 ∷ PushBool true ∷ Jump 4 ∷ PushBool false ∷ Return ∷ []) ≡ unfolded Done 3 (cells.Bool false ∷ [])
equal_above = refl

different_below : run_at (pos 4) Where (test 0 compare.Ne (pos 5) 3 ∷ PushBool true ∷ Jump 4 ∷ PushBool false ∷ Return ∷ []) ≡ unfolded Done 4 (cells.Bool true ∷ [])
different_below = refl

different_at : run_at (pos 5) Where (test 0 compare.Ne (pos 5) 3 ∷ PushBool true ∷ Jump 4 ∷ PushBool false ∷ Return ∷ []) ≡ unfolded Done 3 (cells.Bool false ∷ [])
different_at = refl

different_above : run_at (pos 6) Where (test 0 compare.Ne (pos 5) 3 ∷ PushBool true ∷ Jump 4 ∷ PushBool false ∷ Return ∷ []) ≡ unfolded Done 4 (cells.Bool true ∷ [])
different_above = refl

less_below : run_at (pos 4) Where (test 0 compare.Lt (pos 5) 3 ∷ PushBool true ∷ Jump 4 ∷ PushBool false ∷ Return ∷ []) ≡ unfolded Done 4 (cells.Bool true ∷ [])
less_below = refl

less_at : run_at (pos 5) Where (test 0 compare.Lt (pos 5) 3 ∷ PushBool true ∷ Jump 4 ∷ PushBool false ∷ Return ∷ []) ≡ unfolded Done 3 (cells.Bool false ∷ [])
less_at = refl

less_above : run_at (pos 6) Where (test 0 compare.Lt (pos 5) 3 ∷ PushBool true ∷ Jump 4 ∷ PushBool false ∷ Return ∷ []) ≡ unfolded Done 3 (cells.Bool false ∷ [])
less_above = refl

at_most_below : run_at (pos 4) Where (test 0 compare.Le (pos 5) 3 ∷ PushBool true ∷ Jump 4 ∷ PushBool false ∷ Return ∷ []) ≡ unfolded Done 4 (cells.Bool true ∷ [])
at_most_below = refl

at_most_at : run_at (pos 5) Where (test 0 compare.Le (pos 5) 3 ∷ PushBool true ∷ Jump 4 ∷ PushBool false ∷ Return ∷ []) ≡ unfolded Done 4 (cells.Bool true ∷ [])
at_most_at = refl

at_most_above : run_at (pos 6) Where (test 0 compare.Le (pos 5) 3 ∷ PushBool true ∷ Jump 4 ∷ PushBool false ∷ Return ∷ []) ≡ unfolded Done 3 (cells.Bool false ∷ [])
at_most_above = refl

greater_below : run_at (pos 4) Where (test 0 compare.Gt (pos 5) 3 ∷ PushBool true ∷ Jump 4 ∷ PushBool false ∷ Return ∷ []) ≡ unfolded Done 3 (cells.Bool false ∷ [])
greater_below = refl

greater_at : run_at (pos 5) Where (test 0 compare.Gt (pos 5) 3 ∷ PushBool true ∷ Jump 4 ∷ PushBool false ∷ Return ∷ []) ≡ unfolded Done 3 (cells.Bool false ∷ [])
greater_at = refl

greater_above : run_at (pos 6) Where (test 0 compare.Gt (pos 5) 3 ∷ PushBool true ∷ Jump 4 ∷ PushBool false ∷ Return ∷ []) ≡ unfolded Done 4 (cells.Bool true ∷ [])
greater_above = refl

at_least_below : run_at (pos 4) Where (test 0 compare.Ge (pos 5) 3 ∷ PushBool true ∷ Jump 4 ∷ PushBool false ∷ Return ∷ []) ≡ unfolded Done 3 (cells.Bool false ∷ [])
at_least_below = refl

at_least_at : run_at (pos 5) Where (test 0 compare.Ge (pos 5) 3 ∷ PushBool true ∷ Jump 4 ∷ PushBool false ∷ Return ∷ []) ≡ unfolded Done 4 (cells.Bool true ∷ [])
at_least_at = refl

at_least_above : run_at (pos 6) Where (test 0 compare.Ge (pos 5) 3 ∷ PushBool true ∷ Jump 4 ∷ PushBool false ∷ Return ∷ []) ≡ unfolded Done 4 (cells.Bool true ∷ [])
at_least_above = refl

least_at_least : run_at (negsuc 9223372036854775807) Where (test 0 compare.Ge (negsuc 9223372036854775807) 3 ∷ PushBool true ∷ Jump 4 ∷ PushBool false ∷ Return ∷ []) ≡ unfolded Done 4 (cells.Bool true ∷ [])
least_at_least = refl

-- traps; a jump that isn't taken may lead anywhere

test_in_fire : run_at (pos 0) Fire (test 0 compare.Eq (pos 0) 1 ∷ Return ∷ []) ≡ unfolded (Trapped WrongSection) 1 ([])
test_in_fire = refl

test_back : run_at (pos 0) Where (PushBool true ∷ test 0 compare.Ne (pos 0) 1 ∷ Return ∷ []) ≡ unfolded (Trapped BadJump) 2 (cells.Bool true ∷ [])
test_back = refl

test_past : run_at (pos 0) Where (PushBool true ∷ test 0 compare.Ne (pos 0) 3 ∷ Return ∷ []) ≡ unfolded (Trapped BadJump) 2 (cells.Bool true ∷ [])
test_past = refl

test_not_taken : run_at (pos 7) Where (PushBool true ∷ test 0 compare.Ne (pos 0) 0 ∷ Return ∷ []) ≡ unfolded Done 3 (cells.Bool true ∷ [])
test_not_taken = refl

both_to_one_place : run_at (pos 0) Where (test 0 compare.Ne (pos 0) 1 ∷ PushBool true ∷ Return ∷ []) ≡ unfolded Done 3 (cells.Bool true ∷ [])
both_to_one_place = refl
