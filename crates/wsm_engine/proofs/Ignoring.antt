-- The rows of a program ignore the order of records, and so their turns.
use Rattle.std.proofs.Common.{refl}
use Rattle.std.specs.Option.{option_and_then}
use Rattle.wsm_fold.specs.Fold.{folds_of, joins}
use Rattle.wsm_fold.proofs.Bags.{fold_by-permuted}
use Rattle.wsm_fold.proofs.Rows.{joins_assoc, joins_comm}
use Rattle.wsm_semantics.specs.Order.{IgnoresOrder}
use Rattle.wsm_semantics.specs.ByKey.{IgnoresTurns}
use Rattle.wsm_semantics.proofs.BagRows.{ignores_order}
use Rattle.wsm_semantics.proofs.KeyLaw.{ignores_turns}
use Rattle.wsm_program.specs.Program.{Program}
use Rattle.wsm_machine.specs.Meaning.{query_of, row, updated}

-- FIRE reads the key, the number of records and what they are folded to, in any order.
pub rows_ignore : (p : Program) → IgnoresOrder (query_of p)
rows_ignore p =
    ignores_order (folds_of p.header.kinds)
    (fold_by-permuted (joins p.header.kinds) (joins_assoc p.header.kinds) (joins_comm p.header.kinds))
    (λ said. updated p said.0 said.2)
    (query_of p)
    (λ key count held. option_and_then (row p key count) held)
    (λ key ds. refl)

pub turns_ignored : (p : Program) → IgnoresTurns (query_of p)
turns_ignored p = ignores_turns (query_of p) (rows_ignore p)
