-- Worked rows.
use Rattle.std.specs.Prelude.{◌≡◌, refl, [], ◌∷◌, pos, negsuc, true, false}
use Rattle.wsm_windows.specs.declared.window.Shape.TheVariants.{Fixed, Sliding, Session}
use Rattle.wsm_windows.specs.Windows.{window, windows_of_shape}
use Rattle.wsm_windows.specs.Life.{is_live, is_due, live_bound, live_windows_of}

negative_starts : windows_of_shape (Sliding (pos 60) (pos 25)) (pos 5) ≡ window (negsuc 49) (pos 10) ∷ window (negsuc 24) (pos 35) ∷ window (pos 0) (pos 60) ∷ []
negative_starts = refl

two_windows : windows_of_shape (Sliding (pos 60) (pos 25)) (pos 70) ≡ window (pos 25) (pos 85) ∷ window (pos 50) (pos 110) ∷ []
two_windows = refl

at_a_start : windows_of_shape (Sliding (pos 60) (pos 25)) (pos 75) ≡ window (pos 25) (pos 85) ∷ window (pos 50) (pos 110) ∷ window (pos 75) (pos 135) ∷ []
at_a_start = refl

fixed_at_an_end : windows_of_shape (Fixed (pos 60)) (pos 60) ≡ window (pos 60) (pos 120) ∷ []
fixed_at_an_end = refl

session_alone : windows_of_shape (Session (pos 10)) (pos 7) ≡ window (pos 7) (pos 17) ∷ []
session_alone = refl

one_of_two_is_live : live_windows_of (Sliding (pos 60) (pos 25)) (pos 5) (pos 10) (pos 45) ≡ window (pos 0) (pos 60) ∷ []
one_of_two_is_live = refl

all_are_live_at_first : live_windows_of (Sliding (pos 60) (pos 25)) (pos 5) (pos 10) (pos 19) ≡ windows_of_shape (Sliding (pos 60) (pos 25)) (pos 5)
all_are_live_at_first = refl

none_is_live_at_last : live_windows_of (Sliding (pos 60) (pos 25)) (pos 5) (pos 10) (pos 70) ≡ []
none_is_live_at_last = refl

bound_of_fixed : live_bound (Fixed (pos 60)) (pos 30) (pos 60) ≡ 3
bound_of_fixed = refl

bound_of_sliding : live_bound (Sliding (pos 60) (pos 25)) (pos 0) (pos 0) ≡ 3
bound_of_sliding = refl

bound_of_session : live_bound (Session (pos 10)) (pos 0) (pos 15) ≡ 3
bound_of_session = refl

last_live_mark : is_live (window (pos 0) (pos 60)) (pos 10) (pos 69) ≡ true
last_live_mark = refl

first_dropped_mark : is_live (window (pos 0) (pos 60)) (pos 10) (pos 70) ≡ false
first_dropped_mark = refl

due_at_its_end : is_due (window (pos 0) (pos 60)) (pos 59) (pos 60) ≡ true
due_at_its_end = refl

due_once : is_due (window (pos 0) (pos 60)) (pos 60) (pos 61) ≡ false
due_once = refl
