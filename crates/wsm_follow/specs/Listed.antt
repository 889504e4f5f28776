-- What the code's list of files stands for.
use Rattle.std.specs.Prelude.{ℕ, zero, suc, List, [], ◌∷◌, Bool, if◌then◌else◌}
use Rattle.wsm_follow.specs.Names.{Listing, is_before}
use Rattle.wsm_follow.specs.declared.order.Listed.{Listed}

abbrev pub listing : Listed → Listing
listing l = record { name = l.name.items; is_log = l.is_log; number = l.number; is_packed = l.is_packed; file = l.file; size = l.size; changed = l.changed }

-- how many of the files are not newer than this one
abbrev pub place_in_order : Bool → Listing → List Listing → ℕ
place_in_order by_number file [] = zero
place_in_order by_number file (f ∷ fs) = if is_before by_number file f then zero else suc (place_in_order by_number file fs)
