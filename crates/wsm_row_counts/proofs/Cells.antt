-- A row without a comma.
use Rattle.std.proofs.Common.{◌≡◌, ◌∙◌, ◌+◌, List, [], ℕ, ap, take, length, arith}
use Rattle.std.specs.List.{before_first, after_first, position_or_len}
use Rattle.std.proofs.lemmas.List.{take_all, drop_all}
use Rattle.wsm_row_counts.specs.Counted.{is_comma}

pub before_none : (row : List ℕ) → position_or_len is_comma row ≡ length row → before_first is_comma row ≡ row
before_none row none = ap (λ n. take n row) none ∙ take_all (length row) row (omega arith)

pub after_none : (row : List ℕ) → position_or_len is_comma row ≡ length row → after_first is_comma row ≡ []
after_none row none = drop_all (position_or_len is_comma row + 1) row (omega arith)
