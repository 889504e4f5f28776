-- How many parts there are.
use Rattle.std.specs.Prelude.{◌≡◌, ℕ, length, refl}
use Rattle.std.specs.Int.{div_ceil}
use Rattle.wsm_deal.specs.Deal.{Sharing, letters}

-- as many as have a key
abbrev pub part_count : Sharing → ℕ
part_count s = div_ceil (length s.names) s.block

two_of_four : part_count letters ≡ 2
two_of_four = refl
