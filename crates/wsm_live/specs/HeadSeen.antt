-- What the row of a head stands for.
use Rattle.std.specs.Prelude.{ℕ, List}
use Rattle.wsm_live.specs.declared.head.HeadRow.{HeadRow}

abbrev pub row_in : HeadRow → List ℕ
row_in h = h.bytes.items
