-- What FIRE's expressions mean where each accumulator holds its aggregate's meaning.
use Rattle.std.specs.Prelude.{◌≡◌, ℕ, ◌+◌, true, List, [], ◌∷◌, length, map, pos, Some, slice_get}
use Rattle.wsm_record.specs.declared.event.Value.{Value}
use Rattle.wsm_program.specs.declared.instr.SectionId.TheVariants.{Fire}
use Rattle.wsm_fold.specs.Fold.{folds_of}
use Rattle.wsm_machine.specs.Inputs.{Inputs}
use Rattle.wsm_machine.specs.Run.{run}
use Rattle.wsm_query.specs.Tree.{Query, Expr}
use Rattle.wsm_check.specs.Checks.{IsChecked}
use Rattle.wsm_check.specs.Aggregates.{Acc, accumulators, accumulators_of}
use Rattle.wsm_compiler.specs.Meaning.{meaning, meaning_from, met_from, on_record, on_records, on_accumulators, all_of, fold_where_all}
use Rattle.wsm_compiler.specs.Program.{program_of}
use Rattle.wsm_compiler.specs.Sections.{pane_fits, folded_values, Leaves, fired_stack}

-- accumulators from the a-th on hold the folds of their operands' meanings on the records
abbrev pub Hold : Query → ℕ → List (List Value) → List Value → ℕ → List Acc → Type 0
Hold q key records accs a held = (j : ℕ) (acc : Acc) → slice_get held j ≡ Some acc →
    slice_get accs (a + j) ≡ fold_where_all acc.kind (all_of (map (λ vs. meaning q (on_record key vs) acc.operand) records))

-- UPDATE's values on records: a row for each, with the meaning of each accumulator's operand
abbrev pub AreUpdates : Query → ℕ → List Acc → List (List Value) → List (List Value) → Type 0
AreUpdates q key accs [] [] = Unit {0}
AreUpdates q key accs (vs ∷ records) (row ∷ rows) = (folded_values q (on_record key vs) accs ≡ Some row) × AreUpdates q key accs records rows
AreUpdates q key accs _ _ = ⊥

-- the folds of these rows are what accumulators hold of the records
abbrev pub FoldsHold : Query → Type 0
FoldsHold q = (key : ℕ) (records rows : List (List Value)) (held : List Value) → AreUpdates q key (accumulators q) records rows →
    folds_of (map (λ acc. acc.kind) (accumulators q)) rows ≡ Some held → Hold q key records held 0 (accumulators q)

-- an expression means the same on them as on the key and its records, and meets the same numbers
abbrev pub MeansTheSame : Query → ℕ → List (List Value) → List Value → ℕ → Expr → Type 0
MeansTheSame q key records accs a e = Hold q key records accs a (accumulators_of e) →
    (meaning_from q (on_accumulators key (pos (length records)) accs) a e ≡ meaning q (on_records q key records) e)
    × (met_from q (on_accumulators key (pos (length records)) accs) a e ≡ met_from q (on_records q key records) 0 e)

-- so a run of FIRE ends with the meanings of the columns and of HAVING on the key and its records
abbrev pub FireMeans : Query → Type 0
FireMeans q = IsChecked q → (d : Inputs) → pane_fits q d ≡ true →
    (records : List (List Value)) → d.count ≡ pos (length records) → Hold q d.key records d.accs 0 (accumulators q) →
    Leaves (run (program_of q) Fire d) (fired_stack q (on_records q d.key records) 0 q.columns [])
