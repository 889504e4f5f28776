-- What a time does to sessions.
use Rattle.std.specs.Prelude.{ℕ, zero, suc, Bool, true, false, ◌||◌, List, [], ◌∷◌, length, filter, ℤ, int_lt, nat_lt}
use Rattle.std.specs.List.{list_any}
use Rattle.wsm_windows.specs.declared.window.Window.{Window}
use Rattle.wsm_windows.specs.Windows.{window}
use Rattle.wsm_semantics.specs.Sessions.{ends_by, links}
use Rattle.wsm_sessions.specs.declared.placed.Placed.{Placed}
use Rattle.wsm_sessions.specs.declared.placed.Placed.TheVariants.{New, Extends, Joins}
use Rattle.wsm_sessions.specs.declared.placed.Linked.{Linked}
use Rattle.wsm_sessions.specs.declared.placed.Linked.TheVariants as linked
use Rattle.wsm_sessions.specs.Live.{Live}

-- by the sessions that the time is linked to
abbrev pub placed_at : ℕ → List Window → Placed
placed_at i [] = New i
placed_at i (w ∷ []) = Extends i
placed_at i (w ∷ v ∷ ws) = Joins i

-- it is placed behind the sessions that ended by it
abbrev pub placed : ℤ → ℤ → List Window → Placed
placed gap t ws = placed_at (length (filter (ends_by t) ws)) (filter (links gap t) ws)

abbrev pub place_of : Placed → ℕ
place_of (New i) = i
place_of (Extends i) = i
place_of (Joins i) = i

abbrev pub those_linked : Linked → List Window
those_linked linked.None = []
those_linked (linked.One w) = w ∷ []
those_linked (linked.Two w v) = w ∷ v ∷ []

abbrev pub is_any_linked : ℤ → ℤ → List Window → Bool
is_any_linked gap t ws = list_any (links gap t) ws

abbrev pub is_linked : Live → ℤ → Bool
is_linked s t = is_any_linked s.gap t s.windows

-- room is left, or the time is linked to a session
abbrev pub admits : Live → ℤ → Bool
admits s t = nat_lt (length s.windows) s.room || is_linked s t

-- there is a window at a place, and it starts before a time
abbrev pub starts_before : ℤ → List Window → ℕ → Bool
starts_before t [] i = false
starts_before t (w ∷ ws) zero = int_lt w.start t
starts_before t (w ∷ ws) (suc i) = starts_before t ws i

-- there is a window, and the first ends by a time
abbrev pub first_ends_by : ℤ → List Window → Bool
first_ends_by t [] = false
first_ends_by t (w ∷ ws) = ends_by t w

-- the window in front of a place, if there is one, ends by a time
abbrev pub is_ended_at : ℤ → List Window → ℕ → Bool
is_ended_at t ws zero = true
is_ended_at t [] (suc i) = true
is_ended_at t (w ∷ ws) (suc zero) = ends_by t w
is_ended_at t (w ∷ ws) (suc (suc i)) = is_ended_at t ws (suc i)

-- the windows at a place and at the next put together
abbrev pub joined_at : List Window → ℕ → List Window
joined_at [] i = []
joined_at (w ∷ []) i = w ∷ []
joined_at (w ∷ v ∷ ws) zero = window w.start v.end ∷ ws
joined_at (w ∷ v ∷ ws) (suc i) = w ∷ joined_at (v ∷ ws) i
