-- What is told of a record that was put in, and of the pane that it went to.
use Rattle.std.specs.Prelude.{◌≡◌, ℕ, ℤ, List, [], ◌∷◌, Option, Some, None, option_map}
use Rattle.std.specs.FinMap.Entries.{find}
use Rattle.wsm_record.specs.declared.event.Value.{Value}
use Rattle.wsm_windows.specs.declared.window.Shape.{Shape}
use Rattle.wsm_windows.specs.declared.window.Window.{Window}
use Rattle.wsm_windows.specs.declared.place.Place.{Place}
use Rattle.wsm_windows.specs.Life.{live_windows_of}
use Rattle.wsm_windows.specs.Places.{place_cmp}
use Rattle.wsm_semantics.specs.Summaries.{Pane}

-- the windows that a record is put into at a mark: one that is told, or those of its time that are live
abbrev pub windows_of_record : Shape → ℤ → ℤ → ℤ → Option Window → List Window
windows_of_record shape lateness mark time (Some window) = window ∷ []
windows_of_record shape lateness mark time None = live_windows_of shape time lateness mark

-- one is told alone only where the record is put into no other, and always where it has a session
pub record IsToldAlone (shape : Shape) (time lateness mark : ℤ) (session alone : Option Window) : Type 0 where
  pub windows : windows_of_record shape lateness mark time alone ≡ windows_of_record shape lateness mark time session
  pub sessions : alone ≡ None → session ≡ None

-- how many records of the pane at a place no firing showed yet, if one is there
abbrev pub unshown_at : Place → List (Place × Pane (List Value)) → Option ℕ
unshown_at place es = option_map (λ h. h.unshown) (find place_cmp place es)
