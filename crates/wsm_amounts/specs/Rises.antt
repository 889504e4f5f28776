-- A rise of the watermark in one step writes as many rows of panes as in two, where no record comes between them. Which kind a firing
-- has, and when a window is dropped, are this project's own rules.
use Rattle.std.specs.Prelude.{◌≡◌, ℕ, ◌+◌, List, ◌∷◌, length, ℤ, Option}
use Rattle.wsm_record.specs.Event.{Event, Watermark}
use Rattle.wsm_semantics.specs.Query.{Query, mark}
use Rattle.wsm_semantics.specs.Relation.{turn_rows}

-- how many rows the turn of an event writes
abbrev pub rows_written : Query → List Event → Event → ℕ
rows_written q past e = length (turn_rows q past e)

-- of a watermark and another right behind it, that raises that of the query as far without it
abbrev pub RisesAlike : Query → Type 0
RisesAlike q = (past : List Event) (o r : Option ℕ) (t u : ℤ) → mark q (Watermark r u ∷ Watermark o t ∷ past) ≡ mark q (Watermark r u ∷ past) →
    rows_written q past (Watermark o t) + rows_written q (Watermark o t ∷ past) (Watermark r u) ≡ rows_written q past (Watermark r u)
