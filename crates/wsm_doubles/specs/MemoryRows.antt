-- Worked rows of the memory: LATENESS 10, and windows of 60.
use Rattle.std.specs.Prelude.{◌≡◌, refl, true, false, [], ◌∷◌, pos, codes}
use Rattle.wsm_windows.specs.declared.window.Shape.{Shape}
use Rattle.wsm_windows.specs.declared.window.Shape.TheVariants.{Fixed}
use Rattle.wsm_admission.specs.declared.clock.Clock.{Clock}
use Rattle.wsm_doubles.specs.Memory.{Memory, knows, live, remembered}

abbrev clock : Clock
clock = record { start = pos 0; skew = pos 100; lateness = pos 10; from_window = false; records = pos 1000 }

-- the same, counted from windows
abbrev by_window : Clock
by_window = record clock { from_window = true }

abbrev shape : Shape
shape = Fixed (pos 60)

-- a at 5 and b at 49 passed at 0
abbrev both : Memory
both = remembered clock shape (pos 0) (codes "b") (pos 49) (remembered clock shape (pos 0) (codes "a") (pos 5) [])

they_are_remembered : both ≡ (codes "b", pos 49) ∷ (codes "a", pos 5) ∷ []
they_are_remembered = refl

-- at 15 a record at 5 isn't late
a_is_known : knows (codes "a") (live clock shape (pos 15) both) ≡ true
a_is_known = refl

-- at 16 it is
a_is_forgotten : live clock shape (pos 16) both ≡ (codes "b", pos 49) ∷ []
a_is_forgotten = refl

-- counted from windows it is late once the watermark is 10 past the end of its window
a_waits_for_its_window : knows (codes "a") (live by_window shape (pos 69) both) ≡ true
a_waits_for_its_window = refl

both_are_forgotten : live by_window shape (pos 70) both ≡ []
both_are_forgotten = refl

-- a record that is late as it passes isn't remembered
late_is_not_remembered : remembered clock shape (pos 60) (codes "c") (pos 49) both ≡ []
late_is_not_remembered = refl
