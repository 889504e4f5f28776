-- The identifier of a line: what tells a record from any other.
use Rattle.std.specs.Prelude.{ℕ, ◌==◌, ◌&&◌, List, [], ◌∷◌, length, Bool, not, nat_le, if◌then◌else◌, Option, Some, None, Result, Ok, Err}
use Rattle.wsm_lines.specs.declared.fault.LineFault.{LineFault}
use Rattle.wsm_lines.specs.declared.fault.LineFault.TheVariants.{BadIdentifier}
use Rattle.wsm_lines.specs.declared.source.Place.{Place}
use Rattle.wsm_lines.specs.Scalar.{Scalar, Taken, absent, odd, text, number, scalar_at}

-- an identifier has 1 to 255 bytes
abbrev pub is_identifier : List ℕ → Bool
is_identifier s = not (length s == 0) && nat_le (length s) 255

abbrev pub identifier_text : List ℕ → Result (Option (List ℕ)) LineFault
identifier_text s = if is_identifier s then Ok (Some s) else Err BadIdentifier

-- the identifier of what stands at its place: where nothing stands there is none
abbrev pub identifier_in : Scalar → Result (Option (List ℕ)) LineFault
identifier_in absent = Ok None
identifier_in odd = Err BadIdentifier
identifier_in (text s) = identifier_text s
identifier_in (number s) = identifier_text s

-- the identifier of a line that was taken apart; where the source has no place for it there is none
abbrev pub identifier_at : Option Place → Taken → Result (Option (List ℕ)) LineFault
identifier_at None taken = Ok None
identifier_at (Some place) taken = identifier_in (scalar_at taken place)

-- the identifier that these bytes keep, or the name of a clock, which is never empty: no byte keeps none
abbrev pub identifier_held : List ℕ → Option (List ℕ)
identifier_held [] = None
identifier_held (byte ∷ bytes) = Some (byte ∷ bytes)
