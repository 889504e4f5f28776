-- Worked rows: a wrong clock, with one clock that is enough and with two that have to agree. Rows are written oldest first.
use Rattle.std.specs.Prelude.{◌≡◌, refl, ℕ, false, List, [], ◌∷◌, reverse, pos, codes, Option, Some, None}
use Rattle.wsm_record.specs.Event.{Record, Watermark}
use Rattle.wsm_record.specs.Schema.{Declared}
use Rattle.wsm_windows.specs.declared.window.Shape.TheVariants.{Fixed}
use Rattle.wsm_admission.specs.declared.clock.Clock.{Clock}
use Rattle.wsm_admission.specs.declared.verdict.Refusal.{Refusal}
use Rattle.wsm_admission.specs.declared.verdict.Refusal.TheVariants.{Late}
use Rattle.wsm_admission.specs.Clock.{verdict}
use Rattle.wsm_watermarks.specs.declared.rule.Rule.{Rule}
use Rattle.wsm_watermarks.specs.Served.{Row, in_front, record_of, served}

-- KEYS a, b, c; START 0; SKEW 100; LATENESS 10; RECORDS 1000;
abbrev clock : Clock
clock = record { start = pos 0; skew = pos 100; lateness = pos 10; from_window = false; records = pos 1000 }

abbrev declared : Declared
declared = record { keys = codes "a" ∷ codes "b" ∷ codes "c" ∷ []; fields = []; sources = [] }

-- a row of a key, stamped by a clock of its own
abbrev r : ℕ → ℕ → Row
r key time = record { clock = key; wrong = false; key = Some key; time = time; values = [] }

-- c is a year ahead, at two rows right behind one another
abbrev rows : List Row
rows = r 0 100 ∷ r 1 90 ∷ r 2 31536095 ∷ r 2 31536096 ∷ r 0 130 ∷ []

abbrev by : ℕ → Rule
by agree = record { agree = agree; forget = 1000; bound = 20; step = 10; start = 0 }

-- what a query decides on a row behind others
abbrev decided_behind : ℕ → List Row → Row → Option Refusal
decided_behind agree rows row = verdict clock (Fixed (pos 60)) declared (in_front (by agree) (reverse rows) row) (record_of row)

abbrev decided : ℕ → Row → Option Refusal
decided agree row = decided_behind agree rows row

lost_by_one : decided 1 (r 1 125) ≡ Some Late
lost_by_one = refl

taken_by_two : decided 2 (r 1 125) ≡ None
taken_by_two = refl

-- two clocks that are wrong at a time are too many for two
lost_by_two_wrong : decided_behind 2 (r 1 31536095 ∷ r 2 31536095 ∷ []) (r 0 100) ≡ Some Late
lost_by_two_wrong = refl

-- two that are wrong one behind the other aren't
taken_in_turn : decided_behind 2 (r 0 100 ∷ r 1 90 ∷ r 0 31536100 ∷ r 0 110 ∷ r 1 31536120 ∷ r 1 125 ∷ []) (r 2 118) ≡ None
taken_in_turn = refl

-- what the query reads: with two, the wrong rows raise nothing
read_by_two : reverse (served (by 2) (reverse rows))
    ≡ Record (Some 0) (pos 100) [] ∷ Watermark (Some 0) (pos 70) ∷ Record (Some 1) (pos 90) [] ∷ Watermark (Some 0) (pos 80)
    ∷ Record (Some 2) (pos 31536095) [] ∷ Record (Some 2) (pos 31536096) []
    ∷ Watermark (Some 0) (pos 110) ∷ Record (Some 0) (pos 130) [] ∷ []
read_by_two = refl
