-- The sessions of one key's times (Akidau et al. 2015, window merging): times less than a gap apart
-- are linked, and a session is a class of the chains of links.
use Rattle.std.specs.Prelude.{Bool, ◌&&◌, List, [], ◌∷◌, ◌++◌, filter, ℤ, ◌+ℤ◌, int_lt, int_le, if◌then◌else◌}
use Rattle.std.specs.Int.{int_max, int_min}
use Rattle.wsm_windows.specs.declared.window.Window.{Window}
use Rattle.wsm_windows.specs.Windows.{window}

-- a time put into rising times
abbrev pub with_time : ℤ → List ℤ → List ℤ
with_time t [] = t ∷ []
with_time t (u ∷ us) = if int_lt t u then t ∷ u ∷ us else u ∷ with_time t us

abbrev pub rising : List ℤ → List ℤ
rising [] = []
rising (t ∷ ts) = with_time t (rising ts)

-- the sessions with one time more, which is at most all of theirs
abbrev pub with_earlier : ℤ → ℤ → List Window → List Window
with_earlier gap t [] = window t (t +ℤ gap) ∷ []
with_earlier gap t (w ∷ ws) = if int_lt w.start (t +ℤ gap) then window t w.end ∷ ws else window t (t +ℤ gap) ∷ w ∷ ws

abbrev pub sessions_of_rising : ℤ → List ℤ → List Window
sessions_of_rising gap [] = []
sessions_of_rising gap (t ∷ ts) = with_earlier gap t (sessions_of_rising gap ts)

-- the sessions of some times, by rising start: from the least time to a gap after the greatest
abbrev pub sessions : ℤ → List ℤ → List Window
sessions gap times = sessions_of_rising gap (rising times)

-- ---- one time more

abbrev pub ends_by : ℤ → Window → Bool
ends_by t w = int_le w.end t

abbrev pub ends_after : ℤ → Window → Bool
ends_after t w = int_lt t w.end

abbrev pub starts_from : ℤ → Window → Bool
starts_from t w = int_le t w.start

-- the session has a time less than a gap from t
abbrev pub links : ℤ → ℤ → Window → Bool
links gap t w = int_lt w.start (t +ℤ gap) && int_lt t w.end

-- the session of a time and of the sessions that it is linked to
abbrev pub session_of : ℤ → ℤ → List Window → Window
session_of gap t [] = window t (t +ℤ gap)
session_of gap t (w ∷ ws) = let v = session_of gap t ws in window (int_min w.start v.start) (int_max w.end v.end)

-- the sessions with one time more, in the place of those that it is linked to
abbrev pub with_session : ℤ → ℤ → List Window → List Window
with_session gap t ws =
    filter (ends_by t) ws ++ session_of gap t (filter (links gap t) ws) ∷ filter (starts_from (t +ℤ gap)) ws
