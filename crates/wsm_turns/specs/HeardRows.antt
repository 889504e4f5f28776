-- Worked rows: what clocks come to, how many records are left out, and how many have no voice. Lines are written oldest first.
use Rattle.std.specs.Prelude.{◌≡◌, refl, List, [], ◌∷◌, reverse, Option, Some, None}
use Rattle.wsm_turns.specs.declared.clocks.Clocks.{Clocks}
use Rattle.wsm_turns.specs.declared.heard.Heard.{Heard}
use Rattle.wsm_turns.specs.declared.voice.Voice.TheVariants.{Named, Silent}
use Rattle.wsm_turns.specs.TurnRows.{Said, clocks, i, r, setting, v}
use Rattle.wsm_turns.specs.Heard.{heard, left_count, silent_count}
use Rattle.wsm_turns.specs.Turns.{kept}

abbrev after : Option Clocks → List Said → Option Heard
after cs lines = heard cs (kept (setting cs) (reverse lines))

-- three records of two clocks, of which two have to agree; one is far ahead and waits
two_speak : after (Some (clocks 9)) (r 0 100 ∷ r 1 90 ∷ r 1 86500 ∷ []) ≡ Some (record { agree = 2; voices = 2; stamps = 3; waiting = 1 })
two_speak = refl

-- one alone speaks, however often
one_speaks : after (Some (clocks 9)) (r 0 10 ∷ r 0 20 ∷ r 0 30 ∷ []) ≡ Some (record { agree = 2; voices = 1; stamps = 3; waiting = 0 })
one_speaks = refl

-- a key that isn't declared tells no time
none_speaks : after (Some (clocks 9)) (r 7 10 ∷ []) ≡ Some (record { agree = 2; voices = 0; stamps = 0; waiting = 0 })
none_speaks = refl

-- a clock that was silent for as many records as are forgotten has no voice
abbrev forgetful : Option Clocks
forgetful = Some (record (clocks 9) { rule = record { agree = 2; forget = 2; bound = 20; step = 10; start = 0 } })

it_is_forgotten : after forgetful (r 0 10 ∷ r 1 20 ∷ r 1 30 ∷ []) ≡ Some (record { agree = 2; voices = 1; stamps = 3; waiting = 0 })
it_is_forgotten = refl

without_clocks : after None (r 0 10 ∷ []) ≡ None
without_clocks = refl

-- two of four are doubles; the last has none of the keys, so it is judged by the query
abbrev twice : List Said
twice = i 1 0 100 ∷ i 1 0 100 ∷ r 0 90 ∷ i 1 1 90 ∷ i 1 7 90 ∷ []

two_are_left_out : left_count (setting None) (reverse twice) ≡ 2
two_are_left_out = refl

-- of two that a line names one is silent
one_speaks_of_two : after (Some (clocks 9)) (v (Named 0) 10 ∷ v Silent 20 ∷ []) ≡ Some (record { agree = 2; voices = 1; stamps = 1; waiting = 0 })
one_speaks_of_two = refl

one_is_silent : silent_count (v (Named 0) 10 ∷ v Silent 20 ∷ r 0 30 ∷ []) ≡ 1
one_is_silent = refl
