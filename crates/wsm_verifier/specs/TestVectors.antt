-- Worked programs with tests, computed by the definitions.
use Rattle.std.specs.Prelude.{◌≡◌, refl, ℕ, ℤ, true, false, [], ◌∷◌, pos, negsuc, Ok, Err}
use Rattle.wsm_interval.specs.declared.Comparison.{Comparison}
use Rattle.wsm_interval.specs.declared.Comparison.TheVariants as compare
use Rattle.wsm_program.specs.declared.Instr.{Instr}
use Rattle.wsm_program.specs.declared.Instr.TheVariants.{PushInt, PushBool, Field, Acc, Count, Compute, Compare, Jump, Test, Fold, Return}
use Rattle.wsm_interval.specs.declared.Arithmetic.TheVariants.{Div}
use Rattle.wsm_program.specs.declared.SectionId.TheVariants.{Where, Update, Fire}
use Rattle.wsm_record.specs.Schema.{Int}
use Rattle.wsm_rules.specs.declared.rejection.Rule.TheVariants as rule
use Rattle.wsm_rules.specs.declared.rejection.Part.TheVariants.{Code}
use Rattle.wsm_verifier.specs.Vectors.{base, costs, judged, refused}

abbrev pub test : ℕ → Comparison → ℤ → ℕ → Instr
test field comparison number target = Test (record { field = field; comparison = comparison; number = number }) target

-- a field that was tested may divide where the test is true, and after both ways it is as it was

divided_by_tested : judged (record base { update = (test 0 compare.Ne (pos 0) 5 ∷ PushInt (pos 100) ∷ Field 0 ∷ Compute Div ∷ Jump 6 ∷ PushInt (pos 0) ∷ Fold 0 ∷ Return ∷ []) }) ≡ Ok (costs 9 4 6)
divided_by_tested = refl

divided_where_false : judged (record base { update = (test 0 compare.Eq (pos 0) 5 ∷ PushInt (pos 100) ∷ Field 0 ∷ Compute Div ∷ Jump 6 ∷ PushInt (pos 0) ∷ Fold 0 ∷ Return ∷ []) }) ≡ Err (refused (Code Update) 3 rule.MayDivideByZero)
divided_where_false = refl

divided_on_the_other_side : judged (record base { update = (test 0 compare.Eq (pos 0) 3 ∷ PushInt (pos 0) ∷ Jump 6 ∷ PushInt (pos 100) ∷ Field 0 ∷ Compute Div ∷ Fold 0 ∷ Return ∷ []) }) ≡ Ok (costs 8 4 6)
divided_on_the_other_side = refl

divided_behind_the_join : judged (record base { update = (test 0 compare.Ne (pos 0) 3 ∷ PushInt (pos 1) ∷ Jump 4 ∷ PushInt (pos 2) ∷ Field 0 ∷ Compute Div ∷ Fold 0 ∷ Return ∷ []) }) ≡ Err (refused (Code Update) 5 rule.MayDivideByZero)
divided_behind_the_join = refl

and_of_a_test : judged (record base { selection = (test 0 compare.Ne (pos 0) 7 ∷ PushInt (pos 10) ∷ Field 0 ∷ Compute Div ∷ PushInt (pos 1) ∷ Compare compare.Gt ∷ Jump 8 ∷ PushBool false ∷ Return ∷ []) }) ≡ Ok (costs 11 4 6)
and_of_a_test = refl

nothing_narrowed_inside : judged (record base { fields = (Int (negsuc 4) (pos 5) ∷ []); selection = (test 0 compare.Ne (pos 0) 7 ∷ PushInt (pos 10) ∷ Field 0 ∷ Compute Div ∷ PushInt (pos 1) ∷ Compare compare.Gt ∷ Jump 8 ∷ PushBool false ∷ Return ∷ []) }) ≡ Err (refused (Code Where) 3 rule.MayDivideByZero)
nothing_narrowed_inside = refl

at_least_one : judged (record base { fields = (Int (negsuc 4) (pos 5) ∷ []); selection = (test 0 compare.Ge (pos 1) 7 ∷ PushInt (pos 10) ∷ Field 0 ∷ Compute Div ∷ PushInt (pos 1) ∷ Compare compare.Gt ∷ Jump 8 ∷ PushBool false ∷ Return ∷ []) }) ≡ Ok (costs 11 4 6)
at_least_one = refl

less_than_none : judged (record base { fields = (Int (negsuc 4) (pos 5) ∷ []); selection = (test 0 compare.Lt (pos 0) 7 ∷ PushInt (pos 10) ∷ Field 0 ∷ Compute Div ∷ PushInt (pos 1) ∷ Compare compare.Gt ∷ Jump 8 ∷ PushBool false ∷ Return ∷ []) }) ≡ Ok (costs 11 4 6)
less_than_none = refl

nothing_left : judged (record base { selection = (test 0 compare.Lt (pos 0) 7 ∷ PushInt (pos 10) ∷ Field 0 ∷ Compute Div ∷ PushInt (pos 1) ∷ Compare compare.Gt ∷ Jump 8 ∷ PushBool false ∷ Return ∷ []) }) ≡ Err (refused (Code Where) 3 rule.MayDivideByZero)
nothing_left = refl

-- tests one in the other, and of the same field

tested_twice : judged (record base { fields = (Int (negsuc 4) (pos 5) ∷ []); selection = (test 0 compare.Ge (pos 0) 9 ∷ test 0 compare.Ne (pos 0) 9 ∷ PushInt (pos 10) ∷ Field 0 ∷ Compute Div ∷ PushInt (pos 1) ∷ Compare compare.Gt ∷ Jump 10 ∷ PushBool false ∷ PushBool false ∷ Return ∷ []) }) ≡ Err (refused (Code Where) 8 rule.Unreachable)
tested_twice = refl

tested_twice_joined : judged (record base { fields = (Int (negsuc 4) (pos 5) ∷ []); selection = (test 0 compare.Ge (pos 0) 8 ∷ test 0 compare.Ne (pos 0) 8 ∷ PushInt (pos 10) ∷ Field 0 ∷ Compute Div ∷ PushInt (pos 1) ∷ Compare compare.Gt ∷ Jump 9 ∷ PushBool false ∷ Return ∷ []) }) ≡ Ok (costs 12 4 6)
tested_twice_joined = refl

-- a sum of what is left stays in 64 bits

sum_of_small : judged (record base { fields = (Int (pos 0) (pos 1000000000000000000) ∷ []); update = (test 0 compare.Le (pos 1000) 3 ∷ Field 0 ∷ Jump 4 ∷ PushInt (pos 0) ∷ Fold 0 ∷ Return ∷ []) }) ≡ Ok (costs 7 4 6)
sum_of_small = refl

sum_of_great : judged (record base { fields = (Int (pos 0) (pos 1000000000000000000) ∷ []); update = (test 0 compare.Gt (pos 1000) 3 ∷ Field 0 ∷ Jump 4 ∷ PushInt (pos 0) ∷ Fold 0 ∷ Return ∷ []) }) ≡ Err (refused (Code Update) 4 rule.AccumulatorRange)
sum_of_great = refl

-- rules of the instruction

test_in_fire : judged (record base { fire = (test 0 compare.Ne (pos 0) 1 ∷ Count ∷ Acc 0 ∷ PushBool true ∷ Return ∷ []) }) ≡ Err (refused (Code Fire) 0 rule.NotHere)
test_in_fire = refl

both_edges_to_one_place : judged (record base { selection = (test 0 compare.Ne (pos 0) 1 ∷ PushInt (pos 1) ∷ Field 0 ∷ Compute Div ∷ PushInt (pos 1) ∷ Compare compare.Gt ∷ Return ∷ []) }) ≡ Err (refused (Code Where) 3 rule.MayDivideByZero)
both_edges_to_one_place = refl

both_edges : judged (record base { selection = (test 0 compare.Ne (pos 0) 1 ∷ PushBool true ∷ Return ∷ []) }) ≡ Ok (costs 6 4 6)
both_edges = refl

target_here : judged (record base { selection = (test 0 compare.Ne (pos 0) 0 ∷ PushBool true ∷ Return ∷ []) }) ≡ Err (refused (Code Where) 0 rule.BadJump)
target_here = refl

target_past : judged (record base { selection = (test 0 compare.Ne (pos 0) 3 ∷ PushBool true ∷ Return ∷ []) }) ≡ Err (refused (Code Where) 0 rule.BadJump)
target_past = refl

test_at_the_end : judged (record base { selection = (PushBool true ∷ test 0 compare.Ne (pos 0) 1 ∷ []) }) ≡ Err (refused (Code Where) 1 rule.BadJump)
test_at_the_end = refl
