-- The events that a query needs of a history, and how it goes on from them.
use Rattle.std.specs.Prelude.{◌≡◌, ℕ, ◌-◌, List, [], ◌∷◌, ◌++◌, reverse, unsigned_abs}
use Rattle.wsm_record.specs.Event.{Event}
use Rattle.wsm_semantics.specs.Query.{Query}
use Rattle.wsm_semantics.specs.Needed.{needed}
use Rattle.wsm_head.specs.StandsFor.{taken}
use Rattle.wsm_saved.specs.Events.{EventFits, event_text}
use Rattle.wsm_saved.specs.Lists.{ListFits, list_text}

-- the events that a query needs of a history, the oldest first
abbrev pub needed_in_order : Query → List Event → List Event
needed_in_order q past = reverse (needed q past)

-- the list of the needed events of a history stands behind a text, the oldest first, and comes back
pub record IsListed (q : Query) (past : List Event) (old new : List ℕ) : Type 0 where
  pub text : new ≡ old ++ list_text event_text (reverse (needed q past))
  pub fits : ListFits EventFits (reverse (needed q past))

-- how many RECORDS are left behind a history
abbrev pub left_behind : Query → List Event → ℕ
left_behind q past = unsigned_abs q.clock.records - taken q past

-- a history with further events, the oldest of these first
abbrev pub fed_all : List Event → List Event → List Event
fed_all past [] = past
fed_all past (e ∷ es) = fed_all (e ∷ past) es
