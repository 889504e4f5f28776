-- A file of names, as far as it was read.
use Rattle.std.specs.Prelude.{ℕ, List}
use Rattle.wsm_lines.specs.declared.table.Entry.{Entry}
use Rattle.wsm_source.specs.declared.names_part.Within.{Within}

pub record NamesRead : Type 0 where
  pub entries : List Entry  -- of the lines before
  pub line : ℕ  -- the number of the line that it is in
  pub text : List ℕ
  pub key : List ℕ
  pub within : Within
