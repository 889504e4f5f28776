-- A part none of whose records came so far may be opened late, behind watermarks that bring it to the marks of the sources as they
-- are: what it takes and writes from then on is the same.
use Rattle.std.specs.Prelude.{◌≡◌, ℕ, ◌+◌, ℤ, true, List, [], ◌∷◌, ◌++◌, int_lt, Some, None, if◌then◌else◌}
use Rattle.std.specs.List.{AllByRecursion}
use Rattle.wsm_record.specs.Event.{Event, Record, Watermark}
use Rattle.wsm_admission.specs.Clock.{marks_of}
use Rattle.wsm_semantics.specs.Query.{Query, verdict_on}
use Rattle.wsm_semantics.specs.Relation.{turn_rows}
use Rattle.wsm_semantics.specs.ByKey.{Keys, is_of, of_keys}

-- watermarks that bring the sources from a start to their marks, from a source on
abbrev pub openers : ℤ → ℕ → List ℤ → List Event
openers start source [] = []
openers start source (m ∷ ms) = let others = openers start (source + 1) ms in if int_lt start m then Watermark (Some source) m ∷ others else others

-- watermarks, and records of no declared key
abbrev pub IsQuiet : Event → Type 0
IsQuiet (Record None time values) = Unit {0}
IsQuiet (Record (Some key) time values) = ⊥
IsQuiet (Watermark source time) = Unit {0}

abbrev pub AreQuiet : List Event → Type 0
AreQuiet past = AllByRecursion IsQuiet past

-- events that are taken behind a history, each behind those before it
abbrev pub AreTaken : Query → List Event → List Event → Type 0
AreTaken q past [] = Unit {0}
AreTaken q past (e ∷ events) = (verdict_on q (events ++ past) e ≡ None) × AreTaken q past events

-- what a part was fed that is opened behind a history, as some events came since
abbrev pub fed_since : Query → Keys → List Event → List Event → List Event
fed_since q keys past events = of_keys keys events ++ openers q.clock.start 0 (marks_of q.clock q.declared past)

-- the watermarks are taken; and each event of the part that is taken is taken there, and writes what it writes behind the whole part
pub record OpensLate (q : Query) (keys : Keys) : Type 0 where
  pub opened : (past : List Event) → AreTaken q [] (openers q.clock.start 0 (marks_of q.clock q.declared past))
  pub verdict : (past events : List Event) (e : Event) → AreQuiet (of_keys keys past) → AreTaken q past (e ∷ events) → is_of keys e ≡ true →
      verdict_on q (fed_since q keys past events) e ≡ None
  pub rows : (past events : List Event) (e : Event) → AreQuiet (of_keys keys past) → AreTaken q past (e ∷ events) → is_of keys e ≡ true →
      turn_rows q (fed_since q keys past events) e ≡ turn_rows q (of_keys keys (events ++ past)) e
