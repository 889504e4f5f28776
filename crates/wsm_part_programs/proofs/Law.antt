-- The law of parts, of every accepted program.
use Rattle.std.proofs.Common.{◌≡◌, ℕ, List, refl, IsTrue, arith}
use Rattle.std.specs.Option.{option_and_then}
use Rattle.wsm_record.proofs.Schemas.{has_keys}
use Rattle.wsm_record.specs.declared.words.Form.TheVariants.{Panes}
use Rattle.wsm_fold.specs.Fold.{folds_of, joins}
use Rattle.wsm_fold.proofs.Bags.{fold_by-permuted}
use Rattle.wsm_fold.proofs.Rows.{joins_assoc, joins_comm}
use Rattle.wsm_semantics.specs.ByKey.{IgnoresTurns}
use Rattle.wsm_semantics.proofs.BagRows.{ignores_order}
use Rattle.wsm_semantics.proofs.KeyLaw.{ignores_turns}
use Rattle.wsm_program.specs.Program.{Program, is_program}
use Rattle.wsm_program.proofs.Lawful.{header_schema, program_header}
use Rattle.wsm_rules.proofs.Lawful.{lawful}
use Rattle.wsm_machine.specs.Meaning.{query_of, row, updated}
use Rattle.wsm_machine.proofs.CountedSessions.{sessions_by_event}
use Rattle.wsm_key_parts.proofs.MergedParts.{one_query}
use Rattle.wsm_key_parts.proofs.Together.{writes_together}
use Rattle.wsm_part_programs.specs.Keyless.{IsKeyless}
use Rattle.wsm_part_programs.specs.Names.{of_names, RunsPart, WritesNames}
use Rattle.wsm_part_programs.proofs.KeylessRuns.{ignores_keys}

-- FIRE reads what records are folded to, in any order
pub turns_ignored : (p : Program) → IgnoresTurns (query_of p)
turns_ignored p =
    ignores_turns (query_of p)
    (ignores_order (folds_of p.header.kinds) (fold_by-permuted (joins p.header.kinds) (joins_assoc p.header.kinds) (joins_comm p.header.kinds))
    (λ said. updated p said.0 said.2) (query_of p) (λ key count held. option_and_then (row p key count) held) (λ key ds. refl))

pub together : (p : Program) → IsTrue (is_program p) → p.header.form ≡ Panes → (names : List (List ℕ)) → WritesNames p names
together p whole form names =
    writes_together p.header.schema.keys p.header.clock.records (of_names p names) (lawful p whole).shape (sessions_by_event p whole) (lawful p whole).lateness.low form (turns_ignored p)
    (has_keys p.header.schema (header_schema p.header (program_header p whole))) (omega arith)

pub one_program : (p : Program) → IsKeyless p → (names : List (List ℕ)) (part : ℕ) → RunsPart p names part
one_program p keyless names part =
    let ignores = ignores_keys p keyless in
    one_query p.header.schema.keys p.header.clock.records (of_names p names) (record { selects = ignores.selects; row = ignores.row }) part
