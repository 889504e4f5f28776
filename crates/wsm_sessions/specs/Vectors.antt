-- Worked rows.
use Rattle.std.specs.Prelude.{◌≡◌, refl, [], ◌∷◌, pos, true, false}
use Rattle.wsm_windows.specs.Windows.{window}
use Rattle.wsm_semantics.specs.Sessions.{sessions}
use Rattle.wsm_sessions.specs.declared.placed.Placed.TheVariants.{New, Extends, Joins}
use Rattle.wsm_sessions.specs.Live.{times_left}
use Rattle.wsm_sessions.specs.Placing.{placed, admits}

apart_by_the_gap : sessions (pos 10) (pos 15 ∷ pos 5 ∷ []) ≡ window (pos 5) (pos 15) ∷ window (pos 15) (pos 25) ∷ []
apart_by_the_gap = refl

joined_between : sessions (pos 10) (pos 14 ∷ pos 15 ∷ pos 5 ∷ []) ≡ window (pos 5) (pos 25) ∷ []
joined_between = refl

begins_at_the_gap : placed (pos 10) (pos 15) (window (pos 5) (pos 15) ∷ []) ≡ New 1
begins_at_the_gap = refl

extends_within_the_gap : placed (pos 10) (pos 14) (window (pos 5) (pos 15) ∷ []) ≡ Extends 0
extends_within_the_gap = refl

joins_two : placed (pos 10) (pos 14) (window (pos 5) (pos 15) ∷ window (pos 15) (pos 25) ∷ []) ≡ Joins 0
joins_two = refl

no_room_for_a_new_one : admits (record { gap = pos 10; room = 1; windows = window (pos 5) (pos 15) ∷ [] }) (pos 15) ≡ false
no_room_for_a_new_one = refl

room_for_a_linked_one : admits (record { gap = pos 10; room = 1; windows = window (pos 5) (pos 15) ∷ [] }) (pos 14) ≡ true
room_for_a_linked_one = refl

left_after_a_limit : times_left (pos 10) (pos 15) (pos 15 ∷ pos 5 ∷ []) ≡ pos 15 ∷ []
left_after_a_limit = refl
