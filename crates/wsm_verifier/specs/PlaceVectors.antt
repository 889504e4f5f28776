-- What is known of the numbers of worked programs, computed by the definitions.
use Rattle.std.specs.Prelude.{◌≡◌, refl, ℤ, true, false, [], ◌∷◌, pos, Option, Some, None}
use Rattle.wsm_interval.specs.declared.Interval.{Interval}
use Rattle.wsm_interval.specs.declared.Arithmetic.TheVariants.{Div}
use Rattle.wsm_interval.specs.declared.Comparison.TheVariants as compare
use Rattle.wsm_interval.specs.Interval.{interval}
use Rattle.wsm_program.specs.declared.Instr.{Instr}
use Rattle.wsm_program.specs.declared.Instr.TheVariants.{PushInt, PushBool, Field, Key, Acc, Count, Compute, Compare, Jump, JumpIfFalse, Fold, Return}
use Rattle.wsm_program.specs.declared.SectionId.TheVariants.{Update, Fire}
use Rattle.wsm_record.specs.declared.words.CellType.TheVariants as column
use Rattle.wsm_verifier.specs.declared.places.Place.{Place}
use Rattle.wsm_verifier.specs.Places.{column_ranges, places_in}
use Rattle.wsm_verifier.specs.TestVectors.{test}
use Rattle.wsm_verifier.specs.Vectors.{base, program}

abbrev place : Instr → Option Interval → Place
place instr number = record { instr = instr; number = number }

abbrev number : ℤ → ℤ → Option Interval
number low high = Some (interval low high)

-- the base program counts 1 to 1,000 records and sums numbers of 0 to 100

pushed : places_in (program base) Fire ≡ place Count (number (pos 1) (pos 1000)) ∷ place (Acc 0) (number (pos 0) (pos 100000)) ∷ place (PushBool true) None ∷ place Return None ∷ []
pushed = refl

handed_on : column_ranges (program base) ≡ number (pos 1) (pos 1000) ∷ number (pos 0) (pos 100000) ∷ []
handed_on = refl

-- where a field was tested its interval is narrower

narrowed : places_in (program (record base { update = (test 0 compare.Ne (pos 0) 5 ∷ PushInt (pos 100) ∷ Field 0 ∷ Compute Div ∷ Jump 6 ∷ PushInt (pos 0) ∷ Fold 0 ∷ Return ∷ []) })) Update
    ≡ place (test 0 compare.Ne (pos 0) 5) None ∷ place (PushInt (pos 100)) (number (pos 100) (pos 100)) ∷ place (Field 0) (number (pos 1) (pos 100)) ∷ place (Compute Div) (number (pos 1) (pos 100))
    ∷ place (Jump 6) None ∷ place (PushInt (pos 0)) (number (pos 0) (pos 0)) ∷ place (Fold 0) None ∷ place Return None ∷ []
narrowed = refl

-- a firing that ends at two places hands on numbers of both, and of a column of names none

ends_twice : column_ranges (program (record base { columns = (column.Int ∷ column.Enum 0 ∷ []); fire = (Count ∷ PushInt (pos 5) ∷ Compare compare.Gt ∷ JumpIfFalse 8 ∷ PushInt (pos 7) ∷ Key ∷ PushBool true ∷ Return ∷ PushInt (pos 3) ∷ Key ∷ PushBool false ∷ Return ∷ []) }))
    ≡ number (pos 3) (pos 7) ∷ None ∷ []
ends_twice = refl
