-- What is refused changes counters alone: behind the events that were taken each event has the verdict, and writes the rows, that it
-- has and writes behind all. So a front that decides need not hand on what it refuses.
use Rattle.std.specs.Prelude.{◌≡◌, ◌≤◌, ℤ, List, [], ◌∷◌, unsigned_abs, if◌then◌else◌}
use Rattle.wsm_record.specs.Event.{Event}
use Rattle.wsm_semantics.specs.Query.{Query, is_taken, verdict_on}
use Rattle.wsm_semantics.specs.Relation.{turn_rows}
use Rattle.wsm_semantics.specs.ByKey.{HasRoom, with_records}

-- the events of a history that were taken
abbrev pub taken : Query → List Event → List Event
taken q [] = []
taken q (e ∷ past) = if is_taken q past e then e ∷ taken q past else taken q past

-- with as many RECORDS or more none of them is refused for that
pub record TakenAlone (q : Query) : Type 0 where
  pub room : (records : ℤ) → unsigned_abs q.clock.records ≤ unsigned_abs records → (past : List Event) → HasRoom (with_records records q) (taken q past)
  pub verdict : (past : List Event) (e : Event) → verdict_on q (taken q past) e ≡ verdict_on q past e
  pub rows : (past : List Event) (e : Event) → turn_rows q (taken q past) e ≡ turn_rows q past e
