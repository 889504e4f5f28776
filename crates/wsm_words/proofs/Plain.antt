-- What the tests of a plain command say.
use Rattle.std.proofs.Common.{◌≡◌, ◌&&◌, Bool, true, false, not, refl}

-- the third of the tests that a plain command passes
pub third_fails : (a b c d : Bool) → (a && (not b && (not c && d))) ≡ true → c ≡ false
third_fails true false false d e = refl
third_fails true false true d e = cc
third_fails true true c d e = cc
third_fails false b c d e = cc
