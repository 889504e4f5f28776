-- Worked rows: rows that wait. They are written oldest first, each with the watermark that clocks agree on after its stamp.
use Rattle.std.specs.Prelude.{◌≡◌, refl, ℕ, List, [], ◌∷◌, reverse}
use Rattle.wsm_watermarks.specs.declared.held.Timed.{Timed}
use Rattle.wsm_watermarks.specs.declared.rule.Rule.{Rule}
use Rattle.wsm_watermarks.specs.Held.{Coming, Item, Mark, Passed, Went, went}

abbrev rule : Rule
rule = record { agree = 2; forget = 1000; bound = 20; step = 10; start = 0 }

-- a row, by its number
abbrev row : ℕ → ℕ → Timed ℕ
row number time = record { time = time; row = number }

abbrev passed : ℕ → ℕ → Item ℕ
passed number time = Passed (row number time)

-- with 50 ahead and room for so many
abbrev went_by : ℕ → List (Coming ℕ) → Went ℕ
went_by room rows = went rule 50 room (reverse rows)

-- one clock tells 100, 110 and 500, and a second one 480: the first two waited, and go in front of 460 behind watermarks of their own; 500 is near enough
abbrev waiting : List (Coming ℕ)
waiting = (row 1 100, 0) ∷ (row 2 110, 0) ∷ (row 3 500, 0) ∷ (row 4 480, 460) ∷ []

three_wait : (went_by 9 waiting).out ≡ Mark 80 ∷ passed 1 100 ∷ Mark 90 ∷ passed 2 110 ∷ Mark 460 ∷ passed 3 500 ∷ passed 4 480 ∷ []
three_wait = refl

-- a row of a wrong clock waits in vain; where there is room for one, it goes on as a right one comes that has to wait
abbrev wrong : List (Coming ℕ)
wrong = (row 1 90, 70) ∷ (row 2 31536095, 70) ∷ (row 3 130, 70) ∷ (row 4 131, 110) ∷ []

it_waits : went_by 9 wrong ≡ record { out = Mark 70 ∷ passed 1 90 ∷ Mark 110 ∷ passed 3 130 ∷ passed 4 131 ∷ []; mark = 110; held = row 2 31536095 ∷ [] }
it_waits = refl

it_makes_room : went_by 1 wrong
    ≡ record { out = Mark 70 ∷ passed 1 90 ∷ passed 2 31536095 ∷ Mark 110 ∷ passed 3 130 ∷ passed 4 131 ∷ []; mark = 110; held = [] }
it_makes_room = refl
