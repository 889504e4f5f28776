-- The rows of a turn.
use Rattle.std.specs.Prelude.{ℕ, List}
use Rattle.wsm_semantics.specs.declared.out_row.OutRow.{OutRow}

-- those that were written so far, and for how many there is room
pub record Rows : Type 0 where
  pub written : List OutRow
  pub room : ℕ
