-- What a reader of lines by names stands for.
use Rattle.std.specs.Prelude.{ℕ}
use Rattle.wsm_lines.specs.declared.reader.LineReader.{LineReader}

-- the most names that there may be, and what was read of the last line
pub record Reading : Type 0 where
  pub most : ℕ
  pub reader : LineReader
