-- The clock that a line names: who told the time of its record.
use Rattle.std.specs.Prelude.{ℕ, List, Option, Some, None, if◌then◌else◌}
use Rattle.wsm_lines.specs.declared.source.Place.{Place}
use Rattle.wsm_lines.specs.Identifier.{is_identifier}
use Rattle.wsm_lines.specs.Scalar.{Scalar, Taken, absent, odd, text, number, scalar_at}

-- a clock has a name that may be an identifier; another text names none
abbrev pub clock_text : List ℕ → Option (List ℕ)
clock_text s = if is_identifier s then Some s else None

abbrev pub clock_in : Scalar → Option (List ℕ)
clock_in absent = None
clock_in odd = None
clock_in (text s) = clock_text s
clock_in (number s) = clock_text s

-- the clock of a line that was taken apart; where the source has no place for it there is none
abbrev pub clock_at : Option Place → Taken → Option (List ℕ)
clock_at None taken = None
clock_at (Some place) taken = clock_in (scalar_at taken place)
