-- What a numbering has come to.
use Rattle.std.specs.Prelude.{ℕ}
use Rattle.wsm_numbered.specs.declared.numbering.Numbering.{Numbering}

abbrev pub count_of : Numbering → ℕ
count_of n = n.count

abbrev pub sum_in : Numbering → ℕ
sum_in n = n.sum
