-- How many bytes an identifier has.
use Rattle.std.proofs.Common.{◌≡◌, ℕ, ◌≤◌, List, [], ◌∷◌, length, refl, Bool, true, false, arith, if◌then◌else◌}
use Rattle.std.proofs.lemmas.Bool.{leb-true}
use Rattle.std.specs.Prelude.{◌==◌, ◌&&◌, not, nat_le, IfSome, Option, Some, None, Result, Ok, Err}
use Rattle.wsm_lines.specs.Fault.{or_none}
use Rattle.wsm_lines.specs.Identifier.{identifier_at, identifier_in, identifier_text, is_identifier}
use Rattle.wsm_lines.specs.Said.{identifier_by, identifier_of, taken_of}
use Rattle.wsm_lines.specs.Scalar.{Scalar, Taken, absent, odd, text, number, scalar_at}
use Rattle.wsm_lines.specs.declared.fault.LineFault.{LineFault}
use Rattle.wsm_lines.specs.declared.fault.LineFault.TheVariants.{BadIdentifier}
use Rattle.wsm_lines.specs.declared.source.Place.{Place}
use Rattle.wsm_lines.specs.declared.source.Source.{Source}

some_bytes : (s : List ℕ) → is_identifier s ≡ true → 1 ≤ length s
some_bytes [] is = cc
some_bytes (byte ∷ bytes) is = omega arith

second : (a b : Bool) → a && b ≡ true → b ≡ true
second true b e = e
second false b e = cc

few_bytes : (s : List ℕ) → is_identifier s ≡ true → length s ≤ 255
few_bytes s is = leb-true (length s) 255 (second (not (length s == 0)) (nat_le (length s) 255) is)

-- what holds of each text that may be an identifier holds of each identifier
module _ (P : List ℕ → Type 0) (holds : (s : List ℕ) → is_identifier s ≡ true → P s) where
  by_test : (b : Bool) (s : List ℕ) → (b ≡ true → P s) → IfSome (or_none (if b then Ok (Some s) else Err BadIdentifier)) P
  by_test true s is = is refl
  by_test false s is = tt

  of_text : (s : List ℕ) → IfSome (or_none (identifier_text s)) P
  of_text s = by_test (is_identifier s) s (holds s)

  of_scalar : (s : Scalar) → IfSome (or_none (identifier_in s)) P
  of_scalar absent = tt
  of_scalar odd = tt
  of_scalar (text s) = of_text s
  of_scalar (number s) = of_text s

  of_place : (place : Option Place) (taken : Taken) → IfSome (or_none (identifier_at place taken)) P
  of_place None taken = tt
  of_place (Some place) taken = of_scalar (scalar_at taken place)

  of_taken : (s : Source) (taken : Result Taken LineFault) → IfSome (or_none (identifier_by s taken)) P
  of_taken s (Ok taken) = of_place s.identifier taken
  of_taken s (Err why) = tt

pub identifier_of-some : (s : Source) (before : List (List ℕ)) (line : List ℕ) → IfSome (identifier_of s before line) (λ i. 1 ≤ length i)
identifier_of-some s before line = of_taken (λ i. 1 ≤ length i) some_bytes s (taken_of s before line)

pub identifier_of-few : (s : Source) (before : List (List ℕ)) (line : List ℕ) → IfSome (identifier_of s before line) (λ i. length i ≤ 255)
identifier_of-few s before line = of_taken (λ i. length i ≤ 255) few_bytes s (taken_of s before line)
