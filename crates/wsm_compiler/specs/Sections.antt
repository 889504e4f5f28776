-- What a run of each section of a checked query comes to: it ends by its return with the meanings of the section's expressions, exactly
-- where each has one and every number that it meets has 64 bits; else it traps at such a number or at a zero divisor.
use Rattle.std.specs.Prelude.{◌≡◌, ◌⊎◌, ℕ, ◌+◌, Bool, true, ◌&&◌, cond, List, [], ◌∷◌, map, Option, Some, None}
use Rattle.std.specs.List.{list_all}
use Rattle.wsm_record.specs.declared.event.Value.{Value}
use Rattle.wsm_record.specs.declared.event.Value.TheVariants.{Bool as Truth'}
use Rattle.wsm_program.specs.declared.instr.SectionId.TheVariants.{Where, Update, Fire}
use Rattle.wsm_record.specs.declared.cell.Cell.{Cell}
use Rattle.wsm_machine.specs.declared.outcome.Outcome.TheVariants.{Done, Trap as Trapped}
use Rattle.wsm_machine.specs.declared.outcome.Trap.TheVariants.{IntOverflow, ZeroDivisor}
use Rattle.wsm_machine.specs.declared.run.Ran.{Ran}
use Rattle.wsm_fold.specs.Fold.{are_of_kinds}
use Rattle.wsm_machine.specs.Inputs.{Inputs, are_of_fields}
use Rattle.wsm_machine.specs.InRange.{is_word}
use Rattle.wsm_machine.specs.Run.{run}
use Rattle.wsm_query.specs.Tree.{Query, Expr}
use Rattle.wsm_check.specs.Checks.{IsChecked}
use Rattle.wsm_check.specs.Spelt.{IsSpelt}
use Rattle.wsm_record.specs.declared.words.CellType.TheVariants as types
use Rattle.wsm_check.specs.Types.{typed}
use Rattle.wsm_check.specs.declared.types.Around.TheVariants.{InColumn}
use Rattle.wsm_check.specs.Aggregates.{Acc, accumulators, aggregates}
use Rattle.wsm_compiler.specs.Meaning.{Scene, meaning_from, meets_i64, all_of, on_record, on_accumulators}
use Rattle.wsm_check.specs.Parts.{type_or_int, schema_of}
use Rattle.wsm_compiler.specs.Program.{program_of}
use Rattle.wsm_compiler.specs.Runs.{cell}

-- what WHERE and UPDATE read has the fields' types and numbers of 64 bits, and what FIRE reads the accumulators' types; intervals aren't asked
abbrev pub record_fits : Query → Inputs → Bool
record_fits q d = are_of_fields (schema_of q).fields d.values && list_all is_word d.values

abbrev pub pane_fits : Query → Inputs → Bool
pane_fits q d = are_of_kinds (map (λ acc. acc.kind) (accumulators q)) d.accs

-- the meaning, where every number met has 64 bits
abbrev pub in_bounds : Query → Scene → ℕ → Expr → Option Value
in_bounds q s a e = cond (meets_i64 q s a e) (meaning_from q s a e) None

-- a condition that isn't there is true
abbrev pub condition_value : Query → Scene → ℕ → Option Expr → Option Value
condition_value q s a None = Some (Truth' true)
condition_value q s a (Some e) = in_bounds q s a e

abbrev pub Traps : Ran → Type 0
Traps r = (r.outcome ≡ Trapped IntOverflow) ⊎ (r.outcome ≡ Trapped ZeroDivisor)

-- it ends by its return with the stack, if there is one
abbrev pub Leaves : Ran → Option (List Cell) → Type 0
Leaves r None = Traps r
Leaves r (Some stack) = (r.outcome ≡ Done) × (r.stack ≡ stack)

abbrev pub on_stack : List Cell → Option Value → Option (List Cell)
on_stack stack None = None
on_stack stack (Some v) = Some (cell types.Bool v ∷ stack)

-- the values of columns and of HAVING, the last on top, where there are all
abbrev pub fired_stack : Query → Scene → ℕ → List Expr → List Cell → Option (List Cell)
fired_stack q s a [] stack = on_stack stack (condition_value q s a q.having)
fired_stack q s a (e ∷ es) stack =
    elim (in_bounds q s a e) [ None ↦ None | Some v ↦ fired_stack q s (a + aggregates e) es (cell (type_or_int (typed q InColumn e)) v ∷ stack) ]

-- on a record: WHERE
abbrev pub WhereRuns : Query → Type 0
WhereRuns q = IsChecked q → IsSpelt q → (d : Inputs) → record_fits q d ≡ true →
    Leaves (run (program_of q) Where d) (on_stack [] (condition_value q (on_record d.key d.values) 0 q.condition))

-- on a key, a count and the values of the accumulators: FIRE
abbrev pub FireRuns : Query → Type 0
FireRuns q = IsChecked q → (d : Inputs) → pane_fits q d ≡ true →
    Leaves (run (program_of q) Fire d) (fired_stack q (on_accumulators d.key d.count d.accs) 0 q.columns [])

-- the values of the aggregates' operands, where there are all
abbrev pub folded_values : Query → Scene → List Acc → Option (List Value)
folded_values q s accs = all_of (map (λ acc. in_bounds q s 0 acc.operand) accs)

-- it ends by its return with an empty stack and with these values folded, one into each accumulator
abbrev pub Folds : Ran → Option (List Value) → Type 0
Folds r None = Traps r
Folds r (Some vs) = (r.outcome ≡ Done) × (r.stack ≡ []) × (r.folds ≡ map Some vs)

-- on a record: UPDATE
abbrev pub UpdateRuns : Query → Type 0
UpdateRuns q = IsChecked q → IsSpelt q → (d : Inputs) → record_fits q d ≡ true →
    Folds (run (program_of q) Update d) (folded_values q (on_record d.key d.values) (accumulators q))
