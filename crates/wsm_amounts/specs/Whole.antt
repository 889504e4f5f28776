-- By the time a window is dropped, the firing that stands for it has all of its records. Which firing stands, and when a window is
-- dropped, are this project's own rules.
use Rattle.std.specs.Prelude.{◌≡◌, true, List, ◌+ℤ◌, ◌≤ℤ◌, Some}
use Rattle.std.specs.List.{list_any}
use Rattle.std.specs.Ordering.{eq_by_cmp}
use Rattle.wsm_record.specs.Event.{Event}
use Rattle.wsm_windows.specs.declared.place.Place.{Place}
use Rattle.wsm_windows.specs.Places.{place_cmp}
use Rattle.wsm_semantics.specs.Query.{Query, mark}
use Rattle.wsm_semantics.specs.Panes.{places, contents}
use Rattle.wsm_semantics.specs.Firings.{Firing, firings_so_far}
use Rattle.wsm_semantics.specs.StandingFirings.{standing}

-- a place where records stand
abbrev pub IsPlaced : Query → List Event → Place → Type 0
IsPlaced q past p = list_any (eq_by_cmp place_cmp p) (places q past) ≡ true

-- the firing that stands for a place has all of its records
pub record StandsWhole (q : Query) (past : List Event) (p : Place) : Type 0 where
  pub firing : Firing
  pub stands : standing q (firings_so_far q past) p (contents q past p) ≡ Some firing
  pub whole : firing.contents ≡ contents q past p

-- and so it is once the watermark came to its end and the lateness
abbrev pub StandWhole : Query → Type 0
StandWhole q = (past : List Event) (p : Place) → IsPlaced q past p → (p.end +ℤ q.clock.lateness) ≤ℤ mark q past → StandsWhole q past p
